-- The test of a decimal tells whether the text is one by the grammar.
use Rattle.std.proofs.Common.{◌≡◌, ℕ, ◌<◌, ◌⊎◌, inl, inr, Bool, true, false, ◌==◌, ◌&&◌, ◌||◌, if◌then◌else◌, List, []}
use Rattle.std.proofs.Common.{◌∷◌, ◌++◌, length, refl, sym, ap, subst, ◌∙◌, append_assoc, append-nil, arith}
use Rattle.std.specs.Prelude.{◌↔◌, IsTrue}
use Rattle.std.specs.List.{list_all}
use Rattle.std.proofs.lemmas.Bool.{cases_Bool, or_cases, eqb-true}
use Rattle.std.proofs.lemmas.Bool.Decides.{nat_tests}
use Rattle.brep_tokens.specs.Bytes.{is_digit}
use Rattle.brep_tokens.specs.Forms.{after_digits, is_decimal, is_digits, is_exponent, is_fraction, is_unsigned}
use Rattle.brep_tokens.specs.Forms.{starts_digit}
use Rattle.brep_tokens.specs.Grammar.{AreDigits, IsDecimalByGrammar, IsMantissa, IsMark, MayBeDigits, MayBeExponent}
use Rattle.brep_tokens.specs.Grammar.{MayBeMinus, MayBeSign}
use Rattle.brep_tokens.proofs.NumberForms.{and_left, and_right}

-- ---- what passes the test has the parts

-- the digits at the front of a text
record HasDigits (text : List ℕ) : Type 0 where
  front : List ℕ
  digits : MayBeDigits front
  split : text ≡ front ++ after_digits text
  some : starts_digit text ≡ true → 0 < length front

front_of : (text : List ℕ) → HasDigits text
front_of [] = record { front = []; digits = refl; split = refl; some = λ h. absurd cc }
front_of (b ∷ bs) =
    elim (cases_Bool (is_digit b)) [
      | inl is ↦ (let more = front_of bs in
          let all : list_all is_digit (b ∷ more.front) ≡ true = rw (is, more.digits) refl in
          record {
            front = b ∷ more.front;
            digits = all;
            split = rw is (ap (λ z. b ∷ z) more.split);
            some = λ h. omega arith;
          })
      | inr other ↦ record { front = []; digits = refl; split = rw other refl; some = λ h. absurd (cc (other, h)) }
    ]

nothing_left : (text : List ℕ) → (length text == 0) ≡ true → text ≡ []
nothing_left [] h = refl
nothing_left (b ∷ text) h = absurd (grind (arith, nat_tests))

digits_are : (text : List ℕ) → is_digits text ≡ true → AreDigits text
digits_are text is =
    let has = front_of text in
    let empty : after_digits text ≡ [] =
    nothing_left (after_digits text) (and_right (starts_digit text) (length (after_digits text) == 0) is) in
    let whole : has.front ≡ text = sym (has.split ∙ rw (empty, append-nil has.front) refl) in
    subst AreDigits whole (has.some (and_left (starts_digit text) (length (after_digits text) == 0) is), has.digits)

mark_is : (e : ℕ) → ((e == 101) || (e == 69)) ≡ true → IsMark (e ∷ [])
mark_is e h =
    elim (or_cases (e == 101) (e == 69) h) [
      | inl is ↦ inl (ap (λ z. z ∷ []) (eqb-true e 101 is))
      | inr is ↦ inr (ap (λ z. z ∷ []) (eqb-true e 69 is))
    ]

sign_is : (s : ℕ) → ((s == 43) || (s == 45)) ≡ true → MayBeSign (s ∷ [])
sign_is s h =
    elim (or_cases (s == 43) (s == 45) h) [
      | inl is ↦ inl (ap (λ z. z ∷ []) (eqb-true s 43 is))
      | inr is ↦ inr (inr (ap (λ z. z ∷ []) (eqb-true s 45 is)))
    ]

exponent_if : (x : Bool) (e s : ℕ) (rest : List ℕ) → IsMark (e ∷ []) → ((s == 43) || (s == 45)) ≡ x
    → (if x then is_digits rest else is_digits (s ∷ rest)) ≡ true → MayBeExponent (e ∷ s ∷ rest)
exponent_if true e s rest mark is all = inr (e ∷ [], s ∷ [], rest, mark, sign_is s is, digits_are rest all, refl)
exponent_if false e s rest mark is all = inr (
  e ∷ [],
  [],
  s ∷ rest,
  mark,
  inr (inl refl),
  digits_are (s ∷ rest) all,
  refl,
)

exponent_is : (text : List ℕ) → is_exponent text ≡ true → MayBeExponent text
exponent_is [] is = inl refl
exponent_is (e ∷ []) is = absurd cc
exponent_is (e ∷ s ∷ rest) is =
    exponent_if ((s == 43) || (s == 45)) e s rest (mark_is e (and_left ((e == 101) || (e == 69)) _ is)) refl
    (and_right ((e == 101) || (e == 69)) _ is)

-- after the digits at the front: perhaps `.` and perhaps digits, and an exponent
record HasFraction (text : List ℕ) : Type 0 where
  point : List ℕ
  exponent : List ℕ
  is_point : (point ≡ []) ⊎ ((after : List ℕ) × MayBeDigits after × (point ≡ 46 ∷ after))
  is_exponent : MayBeExponent exponent
  split : text ≡ point ++ exponent

fraction_if : (x : Bool) (b : ℕ) (bs : List ℕ) → (b == 46) ≡ x
    → (if x then is_exponent (after_digits bs) else is_exponent (b ∷ bs)) ≡ true → HasFraction (b ∷ bs)
fraction_if true b bs e is =
    let has = front_of bs in
    record {
      point = 46 ∷ has.front;
      exponent = after_digits bs;
      is_point = inr (has.front, has.digits, refl);
      is_exponent = exponent_is (after_digits bs) is;
      split = ap (λ z. z ∷ bs) (eqb-true b 46 e) ∙ ap (λ z. 46 ∷ z) has.split;
    }
fraction_if false b bs e is = record {
  point = [];
  exponent = b ∷ bs;
  is_point = inl refl;
  is_exponent = exponent_is (b ∷ bs) is;
  split = refl;
}

fraction_is : (text : List ℕ) → is_fraction text ≡ true → HasFraction text
fraction_is [] is = record { point = []; exponent = []; is_point = inl refl; is_exponent = inl refl; split = refl }
fraction_is (b ∷ bs) is = fraction_if (b == 46) b bs refl is

record IsUnsigned (text : List ℕ) : Type 0 where
  mantissa : List ℕ
  exponent : List ℕ
  is_mantissa : IsMantissa mantissa
  is_exponent : MayBeExponent exponent
  split : text ≡ mantissa ++ exponent

mantissa_is : (front point : List ℕ) → AreDigits front
    → (point ≡ []) ⊎ ((after : List ℕ) × MayBeDigits after × (point ≡ 46 ∷ after)) → IsMantissa (front ++ point)
mantissa_is front point digits (inl none) =
    inl (subst AreDigits (sym (ap (λ z. front ++ z) none ∙ append-nil front)) digits)
mantissa_is front point digits (inr some) = inr (inl (front, some.0, digits, some.1, ap (λ z. front ++ z) some.2))

unsigned_if : (x : Bool) (b : ℕ) (bs : List ℕ) → (b == 46) ≡ x
    → (if x then starts_digit bs && is_exponent (after_digits bs) else (is_digit b && is_fraction (after_digits bs)))
    ≡ true → IsUnsigned (b ∷ bs)
unsigned_if true b bs e is =
    let has = front_of bs in
    record {
      mantissa = 46 ∷ has.front;
      exponent = after_digits bs;
      is_mantissa = inr (inr (
        has.front,
        (
          has.some (and_left (starts_digit bs) (is_exponent (after_digits bs)) is),
          has.digits,
        ),
        refl,
      ));
      is_exponent = exponent_is (after_digits bs) (and_right (starts_digit bs) (is_exponent (after_digits bs)) is);
      split = ap (λ z. z ∷ bs) (eqb-true b 46 e) ∙ ap (λ z. 46 ∷ z) has.split;
    }
unsigned_if false b bs e is =
    let has = front_of bs in
    let more = fraction_is (after_digits bs) (and_right (is_digit b) (is_fraction (after_digits bs)) is) in
    let all : list_all is_digit (b ∷ has.front) ≡ true = rw (
      and_left (is_digit b) (is_fraction (after_digits bs)) is,
      has.digits,
    ) refl in
    record {
      mantissa = (b ∷ has.front) ++ more.point;
      exponent = more.exponent;
      is_mantissa = mantissa_is (b ∷ has.front) more.point (omega arith, all) more.is_point;
      is_exponent = more.is_exponent;
      split = ap (λ z. b ∷ z) (has.split ∙ ap (λ z. has.front ++ z) more.split)
          ∙ sym (append_assoc (b ∷ has.front) more.point more.exponent);
    }

unsigned_is : (text : List ℕ) → is_unsigned text ≡ true → IsUnsigned text
unsigned_is [] is = absurd cc
unsigned_is (b ∷ bs) is = unsigned_if (b == 46) b bs refl is

decimal_if : (x : Bool) (b : ℕ) (bs : List ℕ) → (b == 45) ≡ x
    → (if x then is_unsigned bs else is_unsigned (b ∷ bs)) ≡ true → IsDecimalByGrammar (b ∷ bs)
decimal_if true b bs e is =
    let has = unsigned_is bs is in
    record {
      minus = 45 ∷ [];
      mantissa = has.mantissa;
      exponent = has.exponent;
      is_minus = inr refl;
      is_mantissa = has.is_mantissa;
      is_exponent = has.is_exponent;
      spelled = ap (λ z. z ∷ bs) (eqb-true b 45 e) ∙ ap (λ z. 45 ∷ z) has.split;
    }
decimal_if false b bs e is =
    let has = unsigned_is (b ∷ bs) is in
    record {
      minus = [];
      mantissa = has.mantissa;
      exponent = has.exponent;
      is_minus = inl refl;
      is_mantissa = has.is_mantissa;
      is_exponent = has.is_exponent;
      spelled = has.split;
    }

pub decimal_parts : (text : List ℕ) → is_decimal text ≡ true → IsDecimalByGrammar text
unfolding is_decimal
decimal_parts [] is = absurd cc
decimal_parts (b ∷ bs) is = decimal_if (b == 45) b bs refl is

-- ---- what has the parts passes the test

after_skip : (ds rest : List ℕ) → MayBeDigits ds → after_digits (ds ++ rest) ≡ after_digits rest
after_skip [] rest all = refl
after_skip (b ∷ ds) rest all =
    rw (
      and_left (is_digit b) (list_all is_digit ds) all,
      after_skip ds rest (and_right (is_digit b) (list_all is_digit ds) all),
    ) refl

digits_test : (ds : List ℕ) → AreDigits ds → is_digits ds ≡ true
digits_test [] are = absurd (omega (arith, are.0))
digits_test (b ∷ ds) are =
    let rest : after_digits (b ∷ ds) ≡ [] = ap after_digits (sym (append-nil (b ∷ ds)))
    ∙ after_skip (b ∷ ds) [] are.1 in
    rw (rest, and_left (is_digit b) (list_all is_digit ds) are.1) refl

no_sign : (b : ℕ) → is_digit b ≡ true → ((b == 43) || (b == 45)) ≡ false
no_sign b h = grind (arith, nat_tests)

no_point : (b : ℕ) → is_digit b ≡ true → (b == 46) ≡ false
no_point b h = grind (arith, nat_tests)

-- a byte that begins an exponent, the sign and the digits
marked : (e : ℕ) (sign digits : List ℕ) → ((e == 101) || (e == 69)) ≡ true → MayBeSign sign → AreDigits digits
    → is_exponent (e ∷ sign ++ digits) ≡ true
marked e sign digits mark (inl plus) are = subst (λ s. is_exponent (e ∷ s ++ digits) ≡ true) (sym plus)
    (rw (mark, digits_test digits are) refl)
marked e sign digits mark (inr (inr minus)) are = subst (λ s. is_exponent (e ∷ s ++ digits) ≡ true) (sym minus)
    (rw (mark, digits_test digits are) refl)
marked e sign [] mark (inr (inl none)) are = absurd (omega (arith, are.0))
marked e sign (b ∷ digits) mark (inr (inl none)) are =
    subst (λ s. is_exponent (e ∷ s ++ b ∷ digits) ≡ true) (sym none)
    (rw (mark, no_sign b (and_left (is_digit b) (list_all is_digit digits) are.1), digits_test (b ∷ digits) are)
    refl)

-- an exponent passes the tests, and begins with no digit
record Passes (text : List ℕ) : Type 0 where
  exponent : is_exponent text ≡ true
  fraction : is_fraction text ≡ true
  after : after_digits text ≡ text

passes_mark : (mark sign digits : List ℕ) → IsMark mark → MayBeSign sign → AreDigits digits
    → Passes (mark ++ (sign ++ digits))
passes_mark mark sign digits (inl is) has are =
    let one = marked 101 sign digits refl has are in
    subst (λ m. Passes (m ++ (sign ++ digits))) (sym is) (record { exponent = one; fraction = one; after = refl })
passes_mark mark sign digits (inr is) has are =
    let one = marked 69 sign digits refl has are in
    subst (λ m. Passes (m ++ (sign ++ digits))) (sym is) (record { exponent = one; fraction = one; after = refl })

passes : (text : List ℕ) → MayBeExponent text → Passes text
passes text (inl none) = subst Passes (sym none) (record { exponent = refl; fraction = refl; after = refl })
passes text (inr (mark, sign, digits, is, has, are, spelled)) =
    subst Passes (sym spelled) (passes_mark mark sign digits is has are)

-- digits, and then what passes as a fraction
begun : (ds rest : List ℕ) → AreDigits ds → is_fraction (after_digits rest) ≡ true → is_unsigned (ds ++ rest) ≡ true
begun [] rest are is = absurd (omega (arith, are.0))
begun (b ∷ ds) rest are is =
    let first : is_digit b ≡ true = and_left (is_digit b) (list_all is_digit ds) are.1 in
    rw (no_point b first, first, after_skip ds rest (and_right (is_digit b) (list_all is_digit ds) are.1), is) refl

starts_some : (ds rest : List ℕ) → AreDigits ds → starts_digit (ds ++ rest) ≡ true
starts_some [] rest are = absurd (omega (arith, are.0))
starts_some (b ∷ ds) rest are = and_left (is_digit b) (list_all is_digit ds) are.1

unsigned_passes : (mantissa exponent : List ℕ) → IsMantissa mantissa → MayBeExponent exponent
    → is_unsigned (mantissa ++ exponent) ≡ true
unsigned_passes mantissa exponent (inl digits) is =
    let tests = passes exponent is in
    begun mantissa exponent digits (ap is_fraction tests.after ∙ tests.fraction)
unsigned_passes mantissa exponent (inr (inl (before, after, digits, more, spelled))) is =
    let tests = passes exponent is in
    let point : is_fraction (46 ∷ after ++ exponent) ≡ true =
    ap is_exponent (after_skip after exponent more ∙ tests.after) ∙ tests.exponent in
    let whole : mantissa ++ exponent ≡ before ++ (46 ∷ after ++ exponent) = ap (λ z. z ++ exponent) spelled
    ∙ append_assoc before (46 ∷ after) exponent in
    subst (λ z. is_unsigned z ≡ true) (sym whole) (begun before (46 ∷ after ++ exponent) digits point)
unsigned_passes mantissa exponent (inr (inr (after, digits, spelled))) is =
    let tests = passes exponent is in
    let point : is_exponent (after_digits (after ++ exponent)) ≡ true =
    ap is_exponent (after_skip after exponent digits.1 ∙ tests.after) ∙ tests.exponent in
    subst (λ z. is_unsigned (z ++ exponent) ≡ true) (sym spelled) (rw (starts_some after exponent digits, point) refl)

minus_unsigned : (bs : List ℕ) → is_unsigned (45 ∷ bs) ≡ false
minus_unsigned bs = refl

pub unsigned_decimal : (text : List ℕ) → is_unsigned text ≡ true → is_decimal text ≡ true
unfolding is_decimal
unsigned_decimal [] is = absurd cc
unsigned_decimal (b ∷ bs) is =
    elim (cases_Bool (b == 45)) [
      | inl minus ↦ (let clash : is_unsigned (b ∷ bs) ≡ false = subst (λ (c : ℕ). is_unsigned (c ∷ bs) ≡ false)
          (sym (eqb-true b 45 minus)) refl in
          absurd (cc (clash, is)))
      | inr other ↦ rw other is
    ]

minus_decimal : (text : List ℕ) → is_unsigned text ≡ true → is_decimal (45 ∷ text) ≡ true
unfolding is_decimal
minus_decimal text is = is

decimal_made : (minus rest : List ℕ) → MayBeMinus minus → is_unsigned rest ≡ true → is_decimal (minus ++ rest) ≡ true
decimal_made minus rest (inl none) is = subst (λ z. is_decimal (z ++ rest) ≡ true) (sym none) (unsigned_decimal rest is)
decimal_made minus rest (inr one) is = subst (λ z. is_decimal (z ++ rest) ≡ true) (sym one) (minus_decimal rest is)

pub decimal_passes : (text : List ℕ) → IsDecimalByGrammar text → is_decimal text ≡ true
decimal_passes text is = subst (λ z. is_decimal z ≡ true) (sym is.spelled)
    (decimal_made is.minus (is.mantissa ++ is.exponent) is.is_minus
    (unsigned_passes is.mantissa is.exponent is.is_mantissa is.is_exponent))

pub decimal_tells : (text : List ℕ) (b : Bool) → b ≡ is_decimal text → IsTrue b ↔ IsDecimalByGrammar text
decimal_tells text b e = (λ h. decimal_parts text (sym e ∙ h), λ h. e ∙ decimal_passes text h)
