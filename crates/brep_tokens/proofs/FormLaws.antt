-- What spells a number, a power or a use sign is read as it, and nothing else is.
use Rattle.std.proofs.Common.{◌≡◌, ℕ, ℤ, pos, negsuc, suc, ◌-◌, ◌^◌, ◌<◌, inl, inr, Bool, true, false, ◌==◌}
use Rattle.std.proofs.Common.{if◌then◌else◌, List, [], ◌∷◌, length, Option, Some, None, unsigned_abs, refl, sym, ap}
use Rattle.std.proofs.Common.{subst, ◌∙◌, arith}
use Rattle.std.specs.Fmt.{decimal, signed_decimal}
use Rattle.std.proofs.lemmas.Fmt.{decimal_is_IsNumeral}
use Rattle.std.proofs.lemmas.Bool.Decides.{nat_tests, eqb_tells}
use Rattle.std.specs.Str.Parse.{digits_value}
use Rattle.std.specs.Prelude.{◌↔◌, slice_get}
use Rattle.std.proofs.Math.Nat.{pos_of_ne-zero}
use Rattle.std.proofs.lemmas.Bool.{eqb-true}
use Rattle.brep_tokens.specs.Laws.{FormsAreExact}
use Rattle.brep_tokens.proofs.DecimalGrammar.{decimal_parts, decimal_passes}
use Rattle.brep_tokens.proofs.PlainWords.{word_of}
use Rattle.brep_tokens.specs.Bytes.{is_sign}
use Rattle.brep_tokens.specs.Forms.{IsNumber, IsPower, IsUseSign, as_power, continuity_of, continuity_place}
use Rattle.brep_tokens.specs.Forms.{continuity_words, flag_of, flag_text, is_numeral, negated, number_of, power_of}
use Rattle.brep_tokens.specs.Forms.{signed, use_sign_of}
use Rattle.brep_tokens.proofs.NumberForms.{IsNumber_of, is_numeral_of}

pub number_back : (n : ℕ) → n < 10 ^ 18 → number_of (decimal n) ≡ Some n
number_back n small =
    let is = is_numeral_of (decimal n) n (record { small = small; spelled = refl }) in
    let value = (decimal_is_IsNumeral n (omega arith)).1 in
    rw (is, value) refl

-- no number begins with `-`
minus_is_none : (bs : List ℕ) → number_of (45 ∷ bs) ≡ None
minus_is_none bs = grind (arith, nat_tests)

pub power_unsigned : (text : List ℕ) (n : ℕ) → number_of text ≡ Some n → power_of text ≡ Some (pos n)
power_unsigned [] n e = absurd cc
power_unsigned (b ∷ bs) n e =
    elim (eqb_tells b 45) [
      | inl is ↦ (let none : number_of (b ∷ bs) ≡ None = subst (λ (c : ℕ). number_of (c ∷ bs) ≡ None) (sym is.1)
          (minus_is_none bs) in
          let clash : Some n ≡ None = sym e ∙ none in
          absurd cc)
      | inr other ↦ rw (other.0, e) refl
    ]

pub power_back : (p : ℤ) → unsigned_abs p < 10 ^ 18 → power_of (signed_decimal p) ≡ Some p
power_back (pos n) small = power_unsigned (decimal n) n (number_back n small)
power_back (negsuc n) small =
    rw (number_back (suc n) small) (grind (arith, nat_tests))

none_some : {A : Type 0} (o : Option A) (x : A) → o ≡ None → o ≡ Some x → ⊥
none_some (Some y) x e f = cc
none_some None x e f = cc

pub power_none : (text : List ℕ) → power_of text ≡ None → (p : ℤ) → IsPower text p → ⊥
power_none text none p is =
    none_some (power_of text) p none (ap power_of is.spelled ∙ power_back p is.small)

pub use_sign_back : (s n : ℕ) → is_sign s ≡ true → n < 10 ^ 18 → use_sign_of (s ∷ decimal n) ≡ Some (s, n)
use_sign_back s n sign small = rw (sign, number_back n small) refl

-- ---- both ways

some_is : {A : Type 0} (x y : A) → Some x ≡ Some y → x ≡ y
some_is x y e = cc

number_some : (b : Bool) (v n : ℕ) → (if b then Some v else None) ≡ Some n → (b ≡ true) × (v ≡ n)
number_some true v n e = (refl, some_is v n e)
number_some false v n e = absurd cc

number_there : (text : List ℕ) (n : ℕ) → number_of text ≡ Some n → IsNumber text n
number_there text n e =
    let g = number_some (is_numeral text) (digits_value 10 text) n e in
    subst (IsNumber text) g.1 (IsNumber_of text g.0)

number_exact : (text : List ℕ) (n : ℕ) → (number_of text ≡ Some n) ↔ IsNumber text n
number_exact text n = (number_there text n, λ is. ap number_of is.spelled ∙ number_back n is.small)

negated_some : (o : Option ℕ) (p : ℤ) → negated o ≡ Some p → (n : ℕ) × (o ≡ Some n) × (0 < n) × (p ≡ negsuc (n - 1))
negated_some None p e = absurd cc
negated_some (Some n) p e =
    elim (eqb_tells n 0) [
      | inl zero ↦ absurd (none_some None p refl (rw zero.0 at e))
      | inr other ↦ (n, refl, pos_of_ne-zero other.1, sym (some_is _ p (rw other.0 at e)))
    ]

as_power_some : (o : Option ℕ) (p : ℤ) → as_power o ≡ Some p → (n : ℕ) × (o ≡ Some n) × (p ≡ pos n)
as_power_some None p e = absurd cc
as_power_some (Some n) p e = (n, refl, sym (some_is (pos n) p e))

minus_there : (text : List ℕ) (n : ℕ) → 0 < n → IsNumber text n → IsPower (45 ∷ text) (negsuc (n - 1))
minus_there text n some is =
    let e : suc (n - 1) ≡ n = omega (arith, some) in
    record { small = omega (arith, is.small, some); spelled = rw e (ap (λ z. 45 ∷ z) is.spelled) }

power_if : (x : Bool) (b : ℕ) (bs : List ℕ) (p : ℤ) → (b == 45) ≡ x
    → (if x then negated (number_of bs) else as_power (number_of (b ∷ bs))) ≡ Some p → IsPower (b ∷ bs) p
power_if true b bs p is e =
    let s = negated_some (number_of bs) p e in
    subst (λ c. IsPower (c ∷ bs) p) (sym (eqb-true b 45 is))
    (subst (IsPower (45 ∷ bs)) (sym s.3) (minus_there bs s.0 s.2 (number_there bs s.0 s.1)))
power_if false b bs p is e =
    let s = as_power_some (number_of (b ∷ bs)) p e in
    let has = number_there (b ∷ bs) s.0 s.1 in
    subst (IsPower (b ∷ bs)) (sym s.2) (record { small = has.small; spelled = has.spelled })

power_there : (text : List ℕ) (p : ℤ) → power_of text ≡ Some p → IsPower text p
power_there [] p e = absurd cc
power_there (b ∷ bs) p e = power_if (b == 45) b bs p refl e

power_exact : (text : List ℕ) (p : ℤ) → (power_of text ≡ Some p) ↔ IsPower text p
power_exact text p = (power_there text p, λ is. ap power_of is.spelled ∙ power_back p is.small)

flag_byte : (c : ℕ) (b : Bool) → (if c == 48 then Some false else (if c == 49 then Some true else None)) ≡ Some b
    → c ∷ [] ≡ flag_text b
flag_byte c true e = grind (arith, nat_tests)
flag_byte c false e = grind (arith, nat_tests)

flag_there : (text : List ℕ) (b : Bool) → flag_of text ≡ Some b → text ≡ flag_text b
flag_there [] b e = absurd cc
flag_there (c ∷ []) b e = flag_byte c b e
flag_there (c ∷ d ∷ cs) true e = absurd (grind (arith, nat_tests))
flag_there (c ∷ d ∷ cs) false e = absurd (grind (arith, nat_tests))

flag_back : (b : Bool) → flag_of (flag_text b) ≡ Some b
flag_back true = refl
flag_back false = refl

flag_exact : (text : List ℕ) (b : Bool) → (flag_of text ≡ Some b) ↔ (text ≡ flag_text b)
flag_exact text b = (flag_there text b, λ is. ap flag_of is ∙ flag_back b)

signed_some : (b s n : ℕ) (o : Option ℕ) → signed b o ≡ Some (s, n) → (b ≡ s) × (o ≡ Some n)
signed_some b s n None e = absurd (none_some None (s, n) refl e)
signed_some b s n (Some m) e =
    let p = some_is (b, m) (s, n) e in
    (ap (λ (q : ℕ × ℕ). q.0) p, ap (λ (q : ℕ × ℕ). Some q.1) p)

use_sign_if : (x : Bool) (b s n : ℕ) (bs : List ℕ) → is_sign b ≡ x
    → (if x then signed b (number_of bs) else None) ≡ Some (s, n) → IsUseSign (b ∷ bs) s n
use_sign_if true b s n bs is e =
    let p = signed_some b s n (number_of bs) e in
    let has = number_there bs n p.1 in
    record {
      sign = ap is_sign (sym p.0) ∙ is;
      small = has.small;
      spelled = ap (λ z. z ∷ bs) p.0
          ∙ ap (λ z. s ∷ z) has.spelled;
    }
use_sign_if false b s n bs is e = absurd (none_some None (s, n) refl e)

use_sign_there : (text : List ℕ) (s n : ℕ) → use_sign_of text ≡ Some (s, n) → IsUseSign text s n
use_sign_there [] s n e = absurd (none_some None (s, n) refl e)
use_sign_there (b ∷ bs) s n e = use_sign_if (is_sign b) b s n bs refl e

use_sign_exact : (text : List ℕ) (s n : ℕ) → (use_sign_of text ≡ Some (s, n)) ↔ IsUseSign text s n
use_sign_exact text s n =
    (use_sign_there text s n, λ is. ap use_sign_of is.spelled ∙ use_sign_back s n is.sign is.small)

place_there : (a b k : ℕ) → continuity_place a b ≡ Some k → slice_get continuity_words k ≡ Some (a ∷ b ∷ [])
place_there a b k e = grind (arith, nat_tests)

continuity_if : (x : Bool) (a b k : ℕ) (rest : List ℕ) → (length rest == 0) ≡ x
    → (if x then continuity_place a b else None) ≡ Some k → slice_get continuity_words k ≡ Some (a ∷ b ∷ rest)
continuity_if true a b k [] is e = place_there a b k e
continuity_if true a b k (c ∷ rest) is e = absurd (grind (arith, nat_tests))
continuity_if false a b k rest is e = absurd cc

continuity_there : (text : List ℕ) (k : ℕ) → continuity_of text ≡ Some k → slice_get continuity_words k ≡ Some text
continuity_there [] k e = absurd cc
continuity_there (a ∷ []) k e = absurd cc
continuity_there (a ∷ b ∷ rest) k e = continuity_if (length rest == 0) a b k rest refl e

continuity_exact : (text : List ℕ) (k : ℕ) → (continuity_of text ≡ Some k) ↔ (slice_get continuity_words k ≡ Some text)
continuity_exact text k =
    (continuity_there text k, λ e. (let is = word_of k text e in ap continuity_of is.spelled ∙ is.placed))

pub forms_are_exact : FormsAreExact
forms_are_exact = record {
  numbers = number_exact;
  powers = power_exact;
  flags = flag_exact;
  use_signs = use_sign_exact;
  continuities = continuity_exact;
  decimals = λ text. (decimal_parts text, decimal_passes text);
}
