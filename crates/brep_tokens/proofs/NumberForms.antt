-- A text of the form of a number is the numeral of its worth, and no other text is one.
use Rattle.std.proofs.Common.{◌≡◌, ℕ, ◌+◌, ◌*◌, ◌-◌, ◌^◌, ◌<◌, ◌≤◌, inl, inr, Bool, true, false, ◌&&◌, leb, List, []}
use Rattle.std.proofs.Common.{◌∷◌, length, get_or, take, refl, sym, subst, arith}
use Rattle.std.specs.Fmt.{decimal}
use Rattle.std.specs.Char.{digit_value}
use Rattle.std.specs.Str.Parse.{digits_value, AllDigits}
use Rattle.std.proofs.lemmas.Bool.{cases_lt, eqb-true, eq-eqb, leb-true, le-leb}
use Rattle.std.proofs.lemmas.List.{nil_from_length}
use Rattle.std.proofs.lemmas.Bool.Decides.{nat_tests, eqb_tells}
use Rattle.std.proofs.lemmas.Str.Parse.{IsNumeralModel, numerals_by_value, tells_digits, digits_value_short, digit_at}
use Rattle.std.proofs.lemmas.Int.Digits.{digits_value_more}
use Rattle.std.proofs.lemmas.Fmt.{decimal-digits_value, decimal_is_IsNumeral, length-decimal-le, first_decimal}
use Rattle.std.proofs.lemmas.Fmt.{decimal_digit}
use Rattle.brep_tokens.specs.Bytes.{is_digit}
use Rattle.brep_tokens.specs.Forms.{IsNumber, is_numeral}
use Rattle.std.specs.List.{list_all}

-- the same as facts
pub record IsNumeralText (text : List ℕ) : Type 0 where
  pub digits : AllDigits 10 text
  pub some : 0 < length text
  pub short : length text ≤ 18
  pub first : get_or text 0 0 ≡ 48 → length text ≡ 1

pub own : IsNumeralModel (AllDigits 10) (digits_value 10)
own = numerals_by_value (AllDigits 10) tells_digits

digit_below : (b : ℕ) → is_digit b ≡ true → digit_value b < 10
digit_below b h = grind (arith, nat_tests)

below_digit : (b : ℕ) → digit_value b < 10 → is_digit b ≡ true
below_digit b h = grind (arith, nat_tests)

pub and_left : (a b : Bool) → (a && b) ≡ true → a ≡ true
and_left true b h = refl
and_left false b h = absurd cc

pub and_right : (a b : Bool) → (a && b) ≡ true → b ≡ true
and_right true b h = h
and_right false b h = absurd cc

all_from_test : (text : List ℕ) → list_all is_digit text ≡ true → AllDigits 10 text
all_from_test [] h = tt
all_from_test (b ∷ bs) h = (
  digit_below b (and_left (is_digit b) (list_all is_digit bs) h),
  all_from_test bs (and_right (is_digit b) (list_all is_digit bs) h),
)

test_from_all : (text : List ℕ) → AllDigits 10 text → list_all is_digit text ≡ true
test_from_all [] h = refl
test_from_all (b ∷ bs) h = rw (below_digit b h.0, test_from_all bs h.1) refl

pub numeral_facts : (text : List ℕ) → is_numeral text ≡ true → IsNumeralText text
numeral_facts [] h = absurd cc
numeral_facts (b ∷ bs) h =
    elim (eqb_tells b 48) [
      | inl e ↦ (let g = rw e.0 at h in
          let none : bs ≡ [] = nil_from_length bs (eqb-true _ _ g) in
          rw (e.1, none) (record {
            digits = (omega arith, tt);
            some = omega arith;
            short = omega arith;
            first = λ _. refl;
          }))
      | inr n ↦ (let g = rw n.0 at h in
          record {
            digits = all_from_test (b ∷ bs) (and_right (leb (length bs) 17) (list_all is_digit (b ∷ bs)) g);
            some = omega arith;
            short = (let fits = leb-true (length bs) 17
                (and_left (leb (length bs) 17) (list_all is_digit (b ∷ bs)) g) in omega arith);
            first = λ zero. absurd (n.1 zero);
          })
    ]

pub facts_numeral : (text : List ℕ) → IsNumeralText text → is_numeral text ≡ true
facts_numeral [] is = absurd (omega (arith, is.some))
facts_numeral (b ∷ bs) is =
    elim (eqb_tells b 48) [
      | inl e ↦ rw e.0 (eq-eqb (length bs) 0 (omega (arith, is.first e.1)))
      | inr n ↦ rw (n.0, le-leb (length bs) 17 (omega (arith, is.short)), test_from_all (b ∷ bs) is.digits) refl
    ]

pub worth_below : (text : List ℕ) → is_numeral text ≡ true → digits_value 10 text < 10 ^ 18
worth_below text is = digits_value_short own text 18 (numeral_facts text is).digits (numeral_facts text is).short

pub IsNumber_of : (text : List ℕ) → is_numeral text ≡ true → IsNumber text (digits_value 10 text)
IsNumber_of text is =
    let facts = numeral_facts text is in
    record {
      small = worth_below text is;
      spelled = sym (decimal-digits_value own text facts.digits facts.some facts.first
          (omega (arith, worth_below text is)));
    }

first_alone : (n : ℕ) → n < 2 ^ 64 → get_or (decimal n) 0 0 ≡ 48 → length (decimal n) ≡ 1
first_alone n fits zero_first =
    elim (cases_lt 0 n) [
      | inl lt ↦ absurd (omega (arith, first_decimal n lt fits, zero_first))
      | inr le ↦ (let zero : n ≡ 0 = omega arith in rw (zero, decimal_digit 0 (omega arith)) refl)
    ]

numeral_text : (n : ℕ) → n < 10 ^ 18 → IsNumeralText (decimal n)
numeral_text n small =
    let is = decimal_is_IsNumeral n (omega arith) in
    record {
      digits = is.0.1;
      some = is.0.0;
      short = length-decimal-le 18 n (omega arith) small (omega arith);
      first = first_alone n (omega arith);
    }

pub is_numeral_of : (text : List ℕ) (n : ℕ) → IsNumber text n → is_numeral text ≡ true
is_numeral_of text n is = facts_numeral text (subst IsNumeralText (sym is.spelled) (numeral_text n is.small))

digit_worth : (c : ℕ) → 48 ≤ c → c ≤ 57 → digit_value c ≡ c - 48
digit_worth c low high = grind (arith, nat_tests)

pub worth_more : (text : List ℕ) (i value : ℕ) → is_numeral text ≡ true → i < length text
    → value ≡ digits_value 10 (take i text) → value * 10 + (get_or text i 0 - 48) ≡ digits_value 10 (take (i + 1) text)
worth_more text i value is lt so_far =
    let at = digit_at text i (numeral_facts text is).digits lt in
    let one : digit_value (get_or text i 0) ≡ get_or text i 0 - 48 = digit_worth (get_or text i 0) at.0 at.1 in
    rw (digits_value_more 10 text i lt, one, so_far) refl
