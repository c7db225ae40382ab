-- A text is cut at the first byte of a kind.
use Rattle.std.proofs.Common.{◌≡◌, ℕ, zero, suc, ◌+◌, ◌-◌, ◌^◌, ◌<◌, inl, inr, true, false, ◌==◌, List, [], ◌∷◌, ◌++◌, length, get_or, take, drop, Option, Some, None, refl, ap, ◌∙◌, arith}
use Rattle.std.specs.List.{list_all}
use Rattle.std.specs.Prelude.{not, slice_get}
use Rattle.std.specs.Option.{option_map}
use Rattle.std.specs.Fmt.{decimal}
use Rattle.std.specs.Str.Parse.{AllDigits}
use Rattle.std.proofs.lemmas.Bool.{eq-eqb}
use Rattle.std.proofs.lemmas.Bool.Decides.{nat_tests, eqb_tells}
use Rattle.std.proofs.lemmas.Fmt.{decimal_is_IsNumeral}
use Rattle.std.proofs.lemmas.List.{length-append}
use Rattle.std.proofs.lemmas.Str.Parse.{digit_from_value}
use Rattle.history_text.specs.LineForms.{cut_at, last_of}

-- none of its bytes is this one
abbrev pub Lacks : ℕ → List ℕ → Type 0
Lacks c [] = Unit {0}
Lacks c (b ∷ bs) = ((b == c) ≡ false) × Lacks c bs

-- told by a test
pub lacks_test : (c : ℕ) (text : List ℕ) → list_all (λ b. not (b == c)) text ≡ true → Lacks c text
lacks_test c [] is = tt
lacks_test c (b ∷ bs) is =
    elim (eqb_tells b c) [
      | inl same ↦ (let f = rw same.0 at is in absurd cc)
      | inr other ↦ (let f = rw other.0 at is in (other.0, lacks_test c bs f))
    ]

pub Lacks-append : (c : ℕ) (a b : List ℕ) → Lacks c a → Lacks c b → Lacks c (a ++ b)
Lacks-append c [] b l m = m
Lacks-append c (x ∷ a) b l m = (l.0, Lacks-append c a b l.1 m)

other_byte : (b c : ℕ) → c < b → (b == c) ≡ false
other_byte b c lt = grind (arith, nat_tests)

digits_lack : (c : ℕ) → c < 48 → (ds : List ℕ) → AllDigits 10 ds → Lacks c ds
digits_lack c low [] all = tt
digits_lack c low (d ∷ ds) all = let at = digit_from_value d all.0 in (other_byte d c (omega (arith, at.0, low)), digits_lack c low ds all.1)

pub decimal_lacks : (c n : ℕ) → c < 48 → n < 10 ^ 18 → Lacks c (decimal n)
decimal_lacks c n low small = digits_lack c low (decimal n) (decimal_is_IsNumeral n (omega arith)).0.1

pub cut_again : (c : ℕ) (a b : List ℕ) → Lacks c a → cut_at c (a ++ c ∷ b) ≡ Some (a, b)
cut_again c [] b l = let same : (c == c) ≡ true = eq-eqb c c refl in rw same refl
cut_again c (x ∷ a) b l = rw (l.0, cut_again c a b l.1) refl

some_is : {A : Type 0} (x y : A) → Some x ≡ Some y → x ≡ y
some_is x y e = cc

pub map_some : {A B : Type 0} (f : A → B) (o : Option A) (y : B) → option_map f o ≡ Some y → (x : A) × (o ≡ Some x) × (f x ≡ y)
map_some f None y e = absurd cc
map_some f (Some x) y e = (x, refl, cc)

pub cut_joins : (c : ℕ) (bytes a b : List ℕ) → cut_at c bytes ≡ Some (a, b) → bytes ≡ a ++ c ∷ b
cut_joins c [] a b e = absurd cc
cut_joins c (x ∷ xs) a b e =
    elim (eqb_tells x c) [
      | inl is ↦ (let f = rw is.0 at e in
          let same = some_is {A = List ℕ × List ℕ} ([], xs) (a, b) f in
          ap (λ k. k ∷ xs) is.1 ∙ ap (λ z. c ∷ z) (ap (λ (cut : List ℕ × List ℕ). cut.1) same) ∙ ap (λ z. z ++ c ∷ b) (ap (λ (cut : List ℕ × List ℕ). cut.0) same))
      | inr other ↦ (let f = rw other.0 at e in
          let m = map_some (λ (cut : List ℕ × List ℕ). (x ∷ cut.0, cut.1)) (cut_at c xs) (a, b) f in
          let front : x ∷ m.0.0 ≡ a = ap (λ (cut : List ℕ × List ℕ). cut.0) m.2 in
          let back : m.0.1 ≡ b = ap (λ (cut : List ℕ × List ℕ). cut.1) m.2 in
          ap (λ z. x ∷ z) (cut_joins c xs m.0.0 m.0.1 m.1) ∙ ap (λ z. x ∷ (m.0.0 ++ c ∷ z)) back ∙ ap (λ z. z ++ c ∷ b) front)
    ]

-- what follows the byte is shorter than all
pub cut_shorter : (c : ℕ) (bytes a b : List ℕ) → cut_at c bytes ≡ Some (a, b) → length b < length bytes
cut_shorter c bytes a b e = omega (arith, ap (λ (z : List ℕ). length z) (cut_joins c bytes a b e), length-append a (c ∷ b))

pub cut_found : (c : ℕ) (bytes : List ℕ) (i : ℕ) → i < length bytes → ((k : ℕ) → k < i → (get_or bytes k 0 == c) ≡ false) → (get_or bytes i 0 == c) ≡ true
    → cut_at c bytes ≡ Some (take i bytes, drop (i + 1) bytes)
cut_found c [] i lt others stop = absurd (omega arith)
cut_found c (b ∷ bs) zero lt others stop = rw stop refl
cut_found c (b ∷ bs) (suc i) lt others stop =
    let first : (b == c) ≡ false = others zero (omega arith) in
    let rest = cut_found c bs i (omega (arith, lt)) (λ k below. others (suc k) (omega (arith, below))) stop in
    let e : suc i + 1 ≡ suc (i + 1) = omega arith in
    rw (first, rest, e) refl

pub cut_missing : (c : ℕ) (bytes : List ℕ) → ((k : ℕ) → k < length bytes → (get_or bytes k 0 == c) ≡ false) → cut_at c bytes ≡ None
cut_missing c [] others = refl
cut_missing c (b ∷ bs) others =
    let first : (b == c) ≡ false = others zero (omega arith) in
    rw (first, cut_missing c bs (λ k below. others (suc k) (omega (arith, below)))) refl

-- the last one stands before the length
pub last_is : {A : Type 0} (xs : List A) → last_of xs ≡ slice_get xs (length xs - 1)
last_is [] = refl
last_is (x ∷ []) = refl
last_is (x ∷ y ∷ ys) =
    let e : length (x ∷ y ∷ ys) - 1 ≡ suc (length (y ∷ ys) - 1) = omega arith in
    rw e (last_is (y ∷ ys))

pub last_push : {A : Type 0} (xs : List A) (x : A) → last_of (xs ++ x ∷ []) ≡ Some x
last_push [] x = refl
last_push (y ∷ []) x = refl
last_push (y ∷ z ∷ zs) x = last_push (z ∷ zs) x
