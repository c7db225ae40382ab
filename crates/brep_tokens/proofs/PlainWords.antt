-- Numbers, powers, signed uses, decimals, flags and continuity words are plain words.
use Rattle.std.proofs.Common.{◌≡◌, ℕ, ℤ, pos, negsuc, zero, suc, ◌+◌, ◌-◌, ◌/◌, ◌%◌, ◌<◌, inl, inr, Bool, true, false}
use Rattle.std.proofs.Common.{not, ◌==◌, ◌&&◌, ◌||◌, leb, if◌then◌else◌, List, [], ◌∷◌, ◌++◌, get_or, length, take}
use Rattle.std.proofs.Common.{drop, Some, None, refl, sym, subst, arith}
use Rattle.std.specs.Prelude.{slice_get}
use Rattle.std.specs.Fmt.{decimal, digits, digits_onto, digit_glyph, signed_decimal}
use Rattle.std.specs.List.{list_all}
use Rattle.std.proofs.Math.Seq.{take-append_seam}
use Rattle.std.proofs.lemmas.Bool.{cases_lt, cases_Bool, le-leb, lt-leb, lt-ltb}
use Rattle.std.proofs.lemmas.Bool.Decides.{nat_tests}
use Rattle.std.proofs.lemmas.List.{drop_at, get_or-append-add, length-append}
use Rattle.brep_tokens.specs.Bytes.{is_dark, is_digit, is_flag, is_sign}
use Rattle.brep_tokens.specs.Forms.{after_digits, continuity_place, continuity_words, is_decimal, is_digits}
use Rattle.brep_tokens.specs.Forms.{is_exponent, is_fraction, is_unsigned, starts_digit}
use Rattle.brep_tokens.specs.Tokens.{is_joined}
use Rattle.brep_tokens.specs.Written.{IsDarkWord, IsPlain, split_word}
use Rattle.brep_tokens.proofs.NumberForms.{and_left, and_right}

-- a dark byte that begins no continuity word
abbrev is_quiet : ℕ → Bool
is_quiet b = is_dark b && not ((b == 67) || (b == 71))

all_are : (p q : ℕ → Bool) → ((b : ℕ) → p b ≡ true → q b ≡ true) → (text : List ℕ) → list_all p text ≡ true
    → list_all q text ≡ true
all_are p q are [] all = refl
all_are p q are (b ∷ text) all =
    rw (are b (and_left (p b) (list_all p text) all), all_are p q are text (and_right (p b) (list_all p text) all)) refl

one_is : (p : ℕ → Bool) (text : List ℕ) (i : ℕ) → list_all p text ≡ true → i < length text → p (get_or text i 0) ≡ true
one_is p [] i all lt = absurd (omega (arith, lt))
one_is p (b ∷ text) zero all lt = and_left (p b) (list_all p text) all
one_is p (b ∷ text) (suc i) all lt = one_is p text i (and_right (p b) (list_all p text) all) (omega (arith, lt))

quiet_dark : (b : ℕ) → is_quiet b ≡ true → is_dark b ≡ true
quiet_dark b h = and_left (is_dark b) _ h

quiet_place : (a b : ℕ) → is_quiet a ≡ true → continuity_place a b ≡ None
quiet_place a b h = grind (arith, nat_tests)

quiet_unjoined : (text : List ℕ) → list_all is_quiet text ≡ true → is_joined text ≡ false
quiet_unjoined text all =
    elim (cases_lt (length text) 3) [
      | inl short ↦ rw (lt-leb 3 (length text) short) refl
      | inr long ↦ (let none = quiet_place (get_or text (length text - 2) 0) (get_or text (length text - 1) 0)
          (one_is is_quiet text (length text - 2) all (omega arith)) in
          rw (le-leb 3 (length text) long, none) refl)
    ]

dark_made : (text : List ℕ) → 0 < length text → list_all is_dark text ≡ true → IsDarkWord text
dark_made text some all = rw (lt-ltb 0 (length text) some, all) refl

quiet_plain : (text : List ℕ) → 0 < length text → list_all is_quiet text ≡ true → IsPlain text
quiet_plain text some all = rw (
  dark_made text some (all_are is_quiet is_dark quiet_dark text all),
  quiet_unjoined text all,
) refl

digit_quiet : (b : ℕ) → is_digit b ≡ true → is_quiet b ≡ true
digit_quiet b h = grind (arith, nat_tests)

-- ---- numbers

glyph_digit : (d : ℕ) → d < 10 → is_digit (digit_glyph false d) ≡ true
glyph_digit d lt = grind (arith, nat_tests)

if_all : (b : Bool) (x y : List ℕ) → list_all is_digit x ≡ true → list_all is_digit y ≡ true
    → list_all is_digit (if b then x else y) ≡ true
if_all true x y h k = h
if_all false x y h k = k

onto_digits : (k n : ℕ) (acc : List ℕ) → list_all is_digit acc ≡ true
    → list_all is_digit (digits_onto k 10 false n acc) ≡ true
onto_digits zero n acc all = all
onto_digits (suc k) n acc all =
    let more : list_all is_digit (digit_glyph false (n % 10) ∷ acc) ≡ true =
    rw (glyph_digit (n % 10) (omega arith), all) refl in
    if_all (n / 10 == 0) (digit_glyph false (n % 10) ∷ acc)
    (digits_onto k 10 false (n / 10) (digit_glyph false (n % 10) ∷ acc)) more
    (onto_digits k (n / 10) (digit_glyph false (n % 10) ∷ acc) more)

if_some : (b : Bool) (x y : List ℕ) → 0 < length x → 0 < length y → 0 < length (if b then x else y)
if_some true x y h k = h
if_some false x y h k = k

onto_some : (k n : ℕ) (acc : List ℕ) → 0 < k + length acc → 0 < length (digits_onto k 10 false n acc)
onto_some zero n acc some = omega (arith, some)
onto_some (suc k) n acc some = if_some (n / 10 == 0) (digit_glyph false (n % 10) ∷ acc) _ (omega arith)
    (onto_some k (n / 10) (digit_glyph false (n % 10) ∷ acc) (omega arith))

decimal_digits : (n : ℕ) → list_all is_digit (decimal n) ≡ true
unfolding digits
decimal_digits n = onto_digits 64 n [] refl

decimal_some : (n : ℕ) → 0 < length (decimal n)
unfolding digits
decimal_some n = onto_some 64 n [] (omega arith)

decimal_quiet : (n : ℕ) → list_all is_quiet (decimal n) ≡ true
decimal_quiet n = all_are is_digit is_quiet digit_quiet (decimal n) (decimal_digits n)

pub numbers : (n : ℕ) → IsPlain (decimal n)
numbers n = quiet_plain (decimal n) (decimal_some n) (decimal_quiet n)

after_sign : (s n : ℕ) → is_quiet s ≡ true → IsPlain (s ∷ decimal n)
after_sign s n quiet =
    let all : list_all is_quiet (s ∷ decimal n) ≡ true = rw (quiet, decimal_quiet n) refl in
    quiet_plain (s ∷ decimal n) (omega arith) all

pub powers : (p : ℤ) → IsPlain (signed_decimal p)
powers (pos n) = numbers n
powers (negsuc n) = after_sign 45 (suc n) refl

sign_quiet : (s : ℕ) → is_sign s ≡ true → is_quiet s ≡ true
sign_quiet s h = grind (arith, nat_tests)

pub use_signs : (s n : ℕ) → is_sign s ≡ true → IsPlain (s ∷ decimal n)
use_signs s n sign = after_sign s n (sign_quiet s sign)

flag_quiet : (b : ℕ) → is_flag b ≡ true → is_quiet b ≡ true
flag_quiet b h = grind (arith, nat_tests)

pub flags : (text : List ℕ) → 0 < length text → list_all is_flag text ≡ true → IsPlain text
flags text some all = quiet_plain text some (all_are is_flag is_quiet flag_quiet text all)

-- ---- continuity words

-- a word of two dark letters that has this place
pub record IsWord (word : List ℕ) (place : ℕ) : Type 0 where
  pub first : ℕ
  pub second : ℕ
  pub spelled : word ≡ first ∷ second ∷ []
  pub placed : continuity_place first second ≡ Some place
  pub dark : list_all is_dark (first ∷ second ∷ []) ≡ true

some_is : (x y : List ℕ) → Some x ≡ Some y → y ≡ x
some_is x y e = cc

pub word_of : (place : ℕ) (word : List ℕ) → slice_get continuity_words place ≡ Some word → IsWord word place
word_of zero word e = record { first = 67; second = 48; spelled = some_is _ word e; placed = refl; dark = refl }
word_of (suc zero) word e = record { first = 67; second = 49; spelled = some_is _ word e; placed = refl; dark = refl }
word_of (suc (suc zero)) word e = record {
  first = 67;
  second = 50;
  spelled = some_is _ word e;
  placed = refl;
  dark = refl;
}
word_of (suc (suc (suc zero))) word e = record {
  first = 67;
  second = 51;
  spelled = some_is _ word e;
  placed = refl;
  dark = refl;
}
word_of (suc (suc (suc (suc zero)))) word e = record {
  first = 67;
  second = 78;
  spelled = some_is _ word e;
  placed = refl;
  dark = refl;
}
word_of (suc (suc (suc (suc (suc zero))))) word e = record {
  first = 71;
  second = 49;
  spelled = some_is _ word e;
  placed = refl;
  dark = refl;
}
word_of (suc (suc (suc (suc (suc (suc zero)))))) word e = record {
  first = 71;
  second = 50;
  spelled = some_is _ word e;
  placed = refl;
  dark = refl;
}
word_of (suc (suc (suc (suc (suc (suc (suc place))))))) word e = absurd cc

dark_plain : (a b : ℕ) → list_all is_dark (a ∷ b ∷ []) ≡ true → IsPlain (a ∷ b ∷ [])
dark_plain a b dark = rw dark refl

pub continuities : (place : ℕ) (word : List ℕ) → slice_get continuity_words place ≡ Some word → IsPlain word
continuities place word e =
    let is = word_of place word e in
    subst IsPlain (sym is.spelled) (dark_plain is.first is.second is.dark)

list_all-joined : (p : ℕ → Bool) (xs ys : List ℕ) → list_all p xs ≡ true → list_all p ys ≡ true
    → list_all p (xs ++ ys) ≡ true
list_all-joined p [] ys all more = more
list_all-joined p (x ∷ xs) ys all more =
    rw (and_left (p x) (list_all p xs) all, list_all-joined p xs ys (and_right (p x) (list_all p xs) all) more) refl

digit_dark : (b : ℕ) → is_digit b ≡ true → is_dark b ≡ true
digit_dark b h = grind (arith, nat_tests)

joined_dark : (n a b : ℕ) → list_all is_dark (a ∷ b ∷ []) ≡ true → IsDarkWord (decimal n ++ a ∷ b ∷ [])
joined_dark n a b dark =
    let some : 0 < length (decimal n ++ a ∷ b ∷ []) = omega (arith, length-append (decimal n) (a ∷ b ∷ [])) in
    dark_made (decimal n ++ a ∷ b ∷ []) some
    (list_all-joined is_dark (decimal n) (a ∷ b ∷ [])
    (all_are is_digit is_dark digit_dark (decimal n) (decimal_digits n)) dark)

joined_made : (ds : List ℕ) (a b place : ℕ) → 0 < length ds → list_all is_digit ds ≡ true
    → continuity_place a b ≡ Some place → split_word (ds ++ a ∷ b ∷ []) ≡ ds ∷ (a ∷ b ∷ []) ∷ []
joined_made ds a b place some all placed =
    let size : length (ds ++ a ∷ b ∷ []) ≡ length ds + 2 = length-append ds (a ∷ b ∷ []) in
    let front : length ds + 2 - 2 ≡ length ds + 0 = omega arith in
    let last : length ds + 2 - 1 ≡ length ds + 1 = omega arith in
    let long : leb 3 (length ds + 2) ≡ true = le-leb 3 (length ds + 2) (omega arith) in
    let first_is : get_or (ds ++ a ∷ b ∷ []) (length ds + 0) 0 ≡ a = get_or-append-add ds (a ∷ b ∷ []) 0 0 in
    let second_is : get_or (ds ++ a ∷ b ∷ []) (length ds + 1) 0 ≡ b = get_or-append-add ds (a ∷ b ∷ []) 1 0 in
    let seam : length ds + 0 ≡ length ds = omega arith in
    let taken : take (length ds + 0) (ds ++ a ∷ b ∷ []) ≡ ds = rw seam (take-append_seam ds (a ∷ b ∷ [])) in
    let dropped : drop (length ds + 0) (ds ++ a ∷ b ∷ []) ≡ a ∷ b ∷ [] = drop_at ds (a ∷ b ∷ []) (length ds + 0)
    (sym seam) in
    rw (size, front, last, long, first_is, second_is, placed, taken, all, dropped) refl

pub joined : (n place : ℕ) (word : List ℕ) → slice_get continuity_words place ≡ Some word
    → IsDarkWord (decimal n ++ word) × (split_word (decimal n ++ word) ≡ decimal n ∷ word ∷ [])
joined n place word e =
    let is = word_of place word e in
    let made = joined_made (decimal n) is.first is.second place (decimal_some n) (decimal_digits n) is.placed in
    subst (λ w. IsDarkWord (decimal n ++ w) × (split_word (decimal n ++ w) ≡ decimal n ∷ w ∷ [])) (sym is.spelled)
    (joined_dark n is.first is.second is.dark, made)

-- ---- decimals

quiet_on : (b : ℕ) (bs : List ℕ) → is_quiet b ≡ true → list_all is_quiet bs ≡ true → list_all is_quiet (b ∷ bs) ≡ true
quiet_on b bs quiet all = rw (quiet, all) refl

after_quiet : (text : List ℕ) → list_all is_quiet (after_digits text) ≡ true → list_all is_quiet text ≡ true
after_quiet [] all = refl
after_quiet (b ∷ bs) all =
    elim (cases_Bool (is_digit b)) [
      | inl is ↦ (let rest : list_all is_quiet (after_digits bs) ≡ true = rw is at all in
          quiet_on b bs (digit_quiet b is) (after_quiet bs rest))
      | inr other ↦ rw other at all
    ]

empty_quiet : (text : List ℕ) → (length text == 0) ≡ true → list_all is_quiet text ≡ true
empty_quiet [] e = refl
empty_quiet (b ∷ text) e = absurd (grind (arith, nat_tests))

digits_quiet : (text : List ℕ) → is_digits text ≡ true → list_all is_quiet text ≡ true
digits_quiet text is = after_quiet text
    (empty_quiet (after_digits text) (and_right (starts_digit text) (length (after_digits text) == 0) is))

mark_quiet : (e : ℕ) → ((e == 101) || (e == 69)) ≡ true → is_quiet e ≡ true
mark_quiet e h = grind (arith, nat_tests)

plus_quiet : (s : ℕ) → ((s == 43) || (s == 45)) ≡ true → is_quiet s ≡ true
plus_quiet s h = grind (arith, nat_tests)

power_quiet : (x : Bool) (s : ℕ) (rest : List ℕ) → ((s == 43) || (s == 45)) ≡ x
    → (if x then is_digits rest else is_digits (s ∷ rest)) ≡ true → list_all is_quiet (s ∷ rest) ≡ true
power_quiet true s rest is all = quiet_on s rest (plus_quiet s is) (digits_quiet rest all)
power_quiet false s rest is all = digits_quiet (s ∷ rest) all

exponent_quiet : (text : List ℕ) → is_exponent text ≡ true → list_all is_quiet text ≡ true
exponent_quiet [] is = refl
exponent_quiet (e ∷ []) is = absurd cc
exponent_quiet (e ∷ s ∷ rest) is =
    quiet_on e (s ∷ rest) (mark_quiet e (and_left ((e == 101) || (e == 69)) _ is))
    (power_quiet ((s == 43) || (s == 45)) s rest refl (and_right ((e == 101) || (e == 69)) _ is))

dot_quiet : (b : ℕ) → (b == 46) ≡ true → is_quiet b ≡ true
dot_quiet b h = grind (arith, nat_tests)

fraction_if : (x : Bool) (b : ℕ) (bs : List ℕ) → (b == 46) ≡ x
    → (if x then is_exponent (after_digits bs) else is_exponent (b ∷ bs)) ≡ true → list_all is_quiet (b ∷ bs) ≡ true
fraction_if true b bs e is = quiet_on b bs (dot_quiet b e) (after_quiet bs (exponent_quiet (after_digits bs) is))
fraction_if false b bs e is = exponent_quiet (b ∷ bs) is

fraction_quiet : (text : List ℕ) → is_fraction text ≡ true → list_all is_quiet text ≡ true
fraction_quiet [] is = refl
fraction_quiet (b ∷ bs) is = fraction_if (b == 46) b bs refl is

unsigned_if : (x : Bool) (b : ℕ) (bs : List ℕ) → (b == 46) ≡ x
    → (if x then starts_digit bs && is_exponent (after_digits bs) else (is_digit b && is_fraction (after_digits bs)))
    ≡ true → list_all is_quiet (b ∷ bs) ≡ true
unsigned_if true b bs e is =
    quiet_on b bs (dot_quiet b e)
    (after_quiet bs (exponent_quiet (after_digits bs) (and_right (starts_digit bs) (is_exponent (after_digits bs)) is)))
unsigned_if false b bs e is = quiet_on b bs (digit_quiet b (and_left (is_digit b) (is_fraction (after_digits bs)) is))
    (after_quiet bs (fraction_quiet (after_digits bs) (and_right (is_digit b) (is_fraction (after_digits bs)) is)))

unsigned_quiet : (text : List ℕ) → is_unsigned text ≡ true → list_all is_quiet text ≡ true
unsigned_quiet [] is = absurd cc
unsigned_quiet (b ∷ bs) is = unsigned_if (b == 46) b bs refl is

minus_quiet : (b : ℕ) → (b == 45) ≡ true → is_quiet b ≡ true
minus_quiet b h = grind (arith, nat_tests)

decimal_if : (x : Bool) (b : ℕ) (bs : List ℕ) → (b == 45) ≡ x
    → (if x then is_unsigned bs else is_unsigned (b ∷ bs)) ≡ true → list_all is_quiet (b ∷ bs) ≡ true
decimal_if true b bs e is = quiet_on b bs (minus_quiet b e) (unsigned_quiet bs is)
decimal_if false b bs e is = unsigned_quiet (b ∷ bs) is

pub decimals : (text : List ℕ) → is_decimal text ≡ true → IsPlain text
unfolding is_decimal
decimals [] is = absurd cc
decimals (b ∷ bs) is = quiet_plain (b ∷ bs) (omega arith) (decimal_if (b == 45) b bs refl is)
