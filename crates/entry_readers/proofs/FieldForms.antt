-- A number is one digit or more, and so a decimal.
use Rattle.std.proofs.Common.{◌≡◌, ◌&&◌, inl, inr, ℕ, Bool, true, false, if◌then◌else◌, nat_le, List, [], ◌∷◌, length}
use Rattle.std.proofs.Common.{Some, None, refl, sym, append-nil, arith}
use Rattle.std.proofs.lemmas.Bool.{eqb-true}
use Rattle.std.proofs.lemmas.Bool.Decides.{eqb_tells}
use Rattle.std.proofs.lemmas.List.{nil_from_length}
use Rattle.std.specs.List.{list_all}
use Rattle.std.specs.Fmt.{decimal}
use Rattle.std.specs.Str.Parse.{digits_value}
use Rattle.brep_tokens.specs.Bytes.{is_digit}
use Rattle.brep_tokens.specs.Forms.{flag_text, is_numeral, number_of}
use Rattle.brep_tokens.specs.Grammar.{AreDigits}
use Rattle.brep_tokens.specs.Laws.{FormsAreExact}
use Rattle.entry_readers.specs.Begins.{IsDecimal}
use Rattle.entry_readers.specs.FieldForms.{FieldsAreDecimals}

later_true : (a b : Bool) → (a && b) ≡ true → b ≡ true
later_true true b e = e
later_true false b e = absurd cc

numeral_digits : (text : List ℕ) → is_numeral text ≡ true → AreDigits text
numeral_digits [] is = absurd cc
numeral_digits (b ∷ bs) is =
    elim (eqb_tells b 48) [
      | inl e ↦ (let none : bs ≡ [] = nil_from_length bs (eqb-true _ _ (rw e.0 at is)) in
          rw (e.1, none) (omega arith, refl))
      | inr n ↦ (omega arith, later_true (nat_le (length bs) 17) (list_all is_digit (b ∷ bs)) (rw n.0 at is))
    ]

some_chosen : (b : Bool) (x y : ℕ) → (if b then Some x else None) ≡ Some y → b ≡ true
some_chosen true x y e = refl
some_chosen false x y e = absurd cc

module _ (forms : FormsAreExact) where
  of_digits : (text : List ℕ) → AreDigits text → IsDecimal text
  of_digits text are = (forms.decimals text).1 (record {
    minus = [];
    mantissa = text;
    exponent = [];
    is_minus = inl refl;
    is_mantissa = inl are;
    is_exponent = inl refl;
    spelled = sym (append-nil text);
  })

  flag_decimal : (b : Bool) → IsDecimal (flag_text b)
  flag_decimal true = of_digits (flag_text true) (omega arith, refl)
  flag_decimal false = of_digits (flag_text false) (omega arith, refl)

  pub fields_are_decimals : FieldsAreDecimals
  fields_are_decimals = record {
    number = λ n small. (
        let read : number_of (decimal n) ≡ Some n =
        (forms.numbers (decimal n) n).1 (record { small = small; spelled = refl }) in
        of_digits (decimal n) (numeral_digits (decimal n)
        (some_chosen (is_numeral (decimal n)) (digits_value 10 (decimal n)) n read)));
    flag = flag_decimal;
  }
