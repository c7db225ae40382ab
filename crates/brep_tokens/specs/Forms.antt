-- The forms of tokens that stand for a number, a flag, a signed use or a continuity word.
use Rattle.std.specs.Prelude.{◌≡◌, ℕ, ℤ, pos, negsuc, unsigned_abs, ◌^◌, ◌<◌, ◌-◌, ◌==◌, ◌&&◌, ◌||◌, nat_le, Bool, true}
use Rattle.std.specs.Prelude.{false, if◌then◌else◌, List, [], ◌∷◌, length, codes, Option, Some, None}
use Rattle.std.specs.List.{list_all}
use Rattle.std.specs.Str.Parse.{digits_value}
use Rattle.std.specs.Fmt.{decimal, signed_decimal}
use Rattle.brep_tokens.specs.Bytes.{is_digit, is_sign}

-- ---- numbers

-- a number of at most 18 digits, without a needless zero in front
pub record IsNumber (text : List ℕ) (n : ℕ) : Type 0 where
  pub small : n < 10 ^ 18
  pub spelled : text ≡ decimal n

-- one to eighteen digits, the first of them 0 only where it is alone
abbrev pub is_numeral : List ℕ → Bool
is_numeral [] = false
is_numeral (b ∷ bs) = if b == 48 then length bs == 0 else (nat_le (length bs) 17 && list_all is_digit (b ∷ bs))

-- the number that a text spells, if it is one
abbrev pub number_of : List ℕ → Option ℕ
number_of text = if is_numeral text then Some (digits_value 10 text) else None

-- ---- powers: a number, or `-` and a number that isn't 0

pub record IsPower (text : List ℕ) (p : ℤ) : Type 0 where
  pub small : unsigned_abs p < 10 ^ 18
  pub spelled : text ≡ signed_decimal p

abbrev pub negated : Option ℕ → Option ℤ
negated None = None
negated (Some n) = if n == 0 then None else Some (negsuc (n - 1))

abbrev pub as_power : Option ℕ → Option ℤ
as_power None = None
as_power (Some n) = Some (pos n)

-- the power that a text spells, if it is one
abbrev pub power_of : List ℕ → Option ℤ
power_of [] = None
power_of (b ∷ bs) = if b == 45 then negated (number_of bs) else as_power (number_of (b ∷ bs))

-- ---- flags

abbrev pub flag_text : Bool → List ℕ
flag_text b = if b then 49 ∷ [] else 48 ∷ []

-- the flag that a text spells, if it is one
abbrev pub flag_of : List ℕ → Option Bool
flag_of [] = None
flag_of (b ∷ bs) = if length bs == 0 then (if b == 48 then Some false else (if b == 49 then Some true else None)) else
    None

-- ---- use signs: `+`, `-`, `i` or `e`, joined to a number

pub record IsUseSign (text : List ℕ) (s n : ℕ) : Type 0 where
  pub sign : is_sign s ≡ true
  pub small : n < 10 ^ 18
  pub spelled : text ≡ s ∷ decimal n

abbrev pub signed : ℕ → Option ℕ → Option (ℕ × ℕ)
signed s None = None
signed s (Some n) = Some (s, n)

-- the sign and the number that a text spells, if it is a use sign with a number
abbrev pub use_sign_of : List ℕ → Option (ℕ × ℕ)
use_sign_of [] = None
use_sign_of (b ∷ bs) = if is_sign b then signed b (number_of bs) else None

-- ---- continuity words

abbrev pub continuity_words : List (List ℕ)
continuity_words = codes "C0" ∷ codes "C1" ∷ codes "C2" ∷ codes "C3" ∷ codes "CN" ∷ codes "G1" ∷ codes "G2" ∷ []

-- the place of a word of two letters in that list
abbrev pub continuity_place : ℕ → ℕ → Option ℕ
continuity_place a b =
    if a == 67 then (if nat_le 48 b && nat_le b 51 then Some (b - 48) else (if b == 78 then Some 4 else None))
    else (if a == 71 then (if b == 49 then Some 5 else (if b == 50 then Some 6 else None)) else None)

abbrev pub continuity_of : List ℕ → Option ℕ
continuity_of [] = None
continuity_of (a ∷ []) = None
continuity_of (a ∷ b ∷ rest) = if length rest == 0 then continuity_place a b else None

-- ---- decimals: perhaps `-`; digits, or digits `.` and perhaps digits, or `.` and digits; perhaps an exponent

-- what stands after the digits at the front
abbrev pub after_digits : List ℕ → List ℕ
after_digits [] = []
after_digits (b ∷ bs) = if is_digit b then after_digits bs else b ∷ bs

abbrev pub starts_digit : List ℕ → Bool
starts_digit [] = false
starts_digit (b ∷ bs) = is_digit b

-- digits, and nothing after them
abbrev pub is_digits : List ℕ → Bool
is_digits text = starts_digit text && length (after_digits text) == 0

-- nothing, or `e` or `E`, perhaps `+` or `-`, and digits
abbrev pub is_exponent : List ℕ → Bool
is_exponent [] = true
is_exponent (e ∷ []) = false
is_exponent (e ∷ s ∷ rest) = ((e == 101) || (e == 69))
    && (if (s == 43) || (s == 45) then is_digits rest else is_digits (s ∷ rest))

-- after the digits at the front: perhaps `.` and perhaps digits, and an exponent
abbrev pub is_fraction : List ℕ → Bool
is_fraction [] = true
is_fraction (b ∷ bs) = if b == 46 then is_exponent (after_digits bs) else is_exponent (b ∷ bs)

abbrev pub is_unsigned : List ℕ → Bool
is_unsigned [] = false
is_unsigned (b ∷ bs) = if b == 46 then starts_digit bs && is_exponent (after_digits bs) else
    (is_digit b && is_fraction (after_digits bs))

unfoldable pub is_decimal : List ℕ → Bool
is_decimal [] = false
is_decimal (b ∷ bs) = if b == 45 then is_unsigned bs else is_unsigned (b ∷ bs)
