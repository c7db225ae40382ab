-- What a line says, it spells; and what it spells, it says.
use Rattle.std.proofs.Common.{◌≡◌, ℕ, Bool, true, false, ◌&&◌, ◌==◌, if◌then◌else◌, List, [], ◌∷◌, ◌++◌, Option, Some, None, refl, sym, ap, ◌∙◌, arith}
use Rattle.std.specs.Prelude.{nat_eq}
use Rattle.std.specs.Option.{option_and_then}
use Rattle.std.specs.Fmt.{decimal}
use Rattle.std.proofs.lemmas.Bool.{eqb-true, eq-eqb}
use Rattle.brep_tokens.specs.Forms.{IsNumber, number_of}
use Rattle.brep_tokens.specs.Laws.{FormsAreExact}
use Rattle.history_text.specs.HistoryText.{IsShort}
use Rattle.history_text.specs.LineForms.{both, count_of_line, cut_at, is_same, pair_of_line, passing, text_of_line}
use Rattle.history_text.proofs.LineCuts.{Lacks, cut_again, cut_joins, decimal_lacks}

pub and_left : (a b : Bool) → (a && b) ≡ true → a ≡ true
and_left true b h = refl
and_left false b h = absurd cc

pub and_right : (a b : Bool) → (a && b) ≡ true → b ≡ true
and_right true b h = h
and_right false b h = absurd cc

pub same_is : (a b : List ℕ) → is_same a b ≡ true → a ≡ b
same_is [] [] h = refl
same_is [] (y ∷ ys) h = absurd cc
same_is (x ∷ xs) [] h = absurd cc
same_is (x ∷ xs) (y ∷ ys) h =
    let one : x ≡ y = eqb-true x y (and_left (nat_eq x y) (is_same xs ys) h) in
    let rest : xs ≡ ys = same_is xs ys (and_right (nat_eq x y) (is_same xs ys) h) in
    rw (one, rest) refl

pub same_self : (a : List ℕ) → is_same a a ≡ true
same_self [] = refl
same_self (x ∷ xs) = let one : (x == x) ≡ true = eq-eqb x x refl in rw (one, same_self xs) refl

pub if_some : {A : Type 0} (b : Bool) (o : Option A) (y : A) → (if b then o else None) ≡ Some y → (b ≡ true) × (o ≡ Some y)
if_some true o y e = (refl, e)
if_some false o y e = absurd cc

then_some : {A B : Type 0} (f : A → Option B) (o : Option A) (y : B) → option_and_then f o ≡ Some y → (x : A) × (o ≡ Some x) × (f x ≡ Some y)
then_some f None y e = absurd cc
then_some f (Some x) y e = (x, refl, e)

pub passing_some : {A : Type 0} (test : A → Bool) (o : Option A) (y : A) → passing test o ≡ Some y → (o ≡ Some y) × (test y ≡ true)
passing_some test None y e = absurd cc
passing_some test (Some x) y e =
    let s = if_some (test x) (Some x) y e in
    let same : x ≡ y = cc in
    (s.1, ap test (sym same) ∙ s.0)

pub passing_again : {A : Type 0} (test : A → Bool) (y : A) → test y ≡ true → passing test (Some y) ≡ Some y
passing_again test y is = rw is refl

both_some : (a b : Option ℕ) (p : ℕ × ℕ) → both a b ≡ Some p → (a ≡ Some p.0) × (b ≡ Some p.1)
both_some None b p e = absurd cc
both_some (Some x) None p e = absurd cc
both_some (Some x) (Some y) p e = let same : (x, y) ≡ p = cc in (ap (λ (q : ℕ × ℕ). Some q.0) same, ap (λ (q : ℕ × ℕ). Some q.1) same)

-- ---- lines of one text

pub text_there : (text line : List ℕ) (u : Unit {0}) → text_of_line text line ≡ Some u → line ≡ text
text_there text line u e = same_is line text (if_some (is_same line text) (Some tt) u e).0

pub text_again : (text : List ℕ) → text_of_line text text ≡ Some tt
text_again text = rw (same_self text) refl

module _ (forms : FormsAreExact) where
  pub number_again : (n : ℕ) → IsShort n → number_of (decimal n) ≡ Some n
  number_again n small = (forms.numbers (decimal n) n).1 (record { small = small; spelled = refl })

  pub number_there : (text : List ℕ) (n : ℕ) → number_of text ≡ Some n → IsNumber text n
  number_there text n e = (forms.numbers text n).0 e

  -- ---- lines of two numbers

  pub pair_there : (line : List ℕ) (p : ℕ × ℕ) → pair_of_line line ≡ Some p → (IsShort p.0 × IsShort p.1) × (line ≡ decimal p.0 ++ 32 ∷ decimal p.1)
  pair_there line p e =
      let s = then_some (λ (cut : List ℕ × List ℕ). both (number_of cut.0) (number_of cut.1)) (cut_at 32 line) p e in
      let b = both_some (number_of s.0.0) (number_of s.0.1) p s.2 in
      let one = number_there s.0.0 p.0 b.0 in
      let two = number_there s.0.1 p.1 b.1 in (
        (one.small, two.small),
        cut_joins 32 line s.0.0 s.0.1 s.1 ∙ ap (λ z. z ++ 32 ∷ s.0.1) one.spelled ∙ ap (λ z. decimal p.0 ++ 32 ∷ z) two.spelled,
      )

  pub pair_again : (a b : ℕ) → IsShort a → IsShort b → pair_of_line (decimal a ++ 32 ∷ decimal b) ≡ Some (a, b)
  pair_again a b one two =
      let cut = cut_again 32 (decimal a) (decimal b) (decimal_lacks 32 a (omega arith) one) in
      rw (cut, number_again a one, number_again b two) refl

  -- ---- lines of a word and a count

  pub count_there : (word line : List ℕ) (n : ℕ) → count_of_line word line ≡ Some n → IsShort n × (line ≡ word ++ 32 ∷ decimal n)
  count_there word line n e =
      let s = then_some (λ (cut : List ℕ × List ℕ). if is_same cut.0 word then number_of cut.1 else None) (cut_at 32 line) n e in
      let t = if_some (is_same s.0.0 word) (number_of s.0.1) n s.2 in
      let count = number_there s.0.1 n t.1 in
      (count.small, cut_joins 32 line s.0.0 s.0.1 s.1 ∙ ap (λ z. z ++ 32 ∷ s.0.1) (same_is s.0.0 word t.0) ∙ ap (λ z. word ++ 32 ∷ z) count.spelled)

  pub count_again : (word : List ℕ) (n : ℕ) → Lacks 32 word → IsShort n → count_of_line word (word ++ 32 ∷ decimal n) ≡ Some n
  count_again word n lacks small =
      let cut = cut_again 32 word (decimal n) lacks in
      rw (cut, same_self word, number_again n small) refl
