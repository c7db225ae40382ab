-- The texts of numbers and flags have the form of a decimal; facts about each text of a list.
use Rattle.std.proofs.Common.{◌≡◌, ℕ, ◌<◌, inl, Bool, true, false, List, [], ◌∷◌, ◌++◌, refl, sym, append-nil, arith}
use Rattle.std.specs.List.{AllByRecursion, list_all}
use Rattle.std.specs.Char.{digit_value}
use Rattle.std.specs.Fmt.{decimal}
use Rattle.std.specs.Str.Parse.{AllDigits}
use Rattle.std.proofs.lemmas.Bool.Decides.{nat_tests}
use Rattle.std.proofs.lemmas.Fmt.{decimal_is_IsNumeral}
use Rattle.brep_tokens.specs.Bytes.{is_digit}
use Rattle.brep_tokens.specs.Forms.{flag_text}
use Rattle.brep_tokens.specs.Grammar.{AreDigits}
use Rattle.brep_tokens.specs.Laws.{FormsAreExact}
use Rattle.entry_readers.specs.Begins.{IsDecimal, IsSmall, spell_numbers}

-- ---- lists

pub all_map : {A : Type 0} (P Q : A → Type 0) → ((x : A) → P x → Q x) → (xs : List A) → AllByRecursion P xs
    → AllByRecursion Q xs
all_map P Q f [] all = tt
all_map P Q f (x ∷ xs) all = (f x all.0, all_map P Q f xs all.1)

pub all_append : {A : Type 0} (P : A → Type 0) (xs ys : List A) → AllByRecursion P xs → AllByRecursion P ys
    → AllByRecursion P (xs ++ ys)
all_append P [] ys a b = b
all_append P (x ∷ xs) ys a b = (a.0, all_append P xs ys a.1 b)

-- ---- forms

digit_test : (b : ℕ) → digit_value b < 10 → is_digit b ≡ true
digit_test b h = grind (arith, nat_tests)

digits_test : (text : List ℕ) → AllDigits 10 text → list_all is_digit text ≡ true
digits_test [] all = refl
digits_test (b ∷ bs) all = rw (digit_test b all.0, digits_test bs all.1) refl

module _ (forms : FormsAreExact) where
  digits_form : (text : List ℕ) → AreDigits text → IsDecimal text
  digits_form text are = (forms.decimals text).1 (record {
    minus = [];
    mantissa = text;
    exponent = [];
    is_minus = inl refl;
    is_mantissa = inl are;
    is_exponent = inl refl;
    spelled = sym (append-nil text);
  })

  pub number_form : (n : ℕ) → IsSmall n → IsDecimal (decimal n)
  number_form n small =
      let numeral = (decimal_is_IsNumeral n (omega (arith, small))).0 in
      digits_form (decimal n) (numeral.0, digits_test (decimal n) numeral.1)

  pub flag_form : (b : Bool) → IsDecimal (flag_text b)
  flag_form true = digits_form (49 ∷ []) (omega arith, refl)
  flag_form false = digits_form (48 ∷ []) (omega arith, refl)

  pub numbers_form : (ns : List ℕ) → AllByRecursion IsSmall ns → AllByRecursion IsDecimal (spell_numbers ns)
  numbers_form [] all = tt
  numbers_form (n ∷ ns) all = (number_form n all.0, numbers_form ns all.1)
