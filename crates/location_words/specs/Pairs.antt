-- Words: reduced lists of powers of datums, innermost factor first.
use Rattle.std.specs.Prelude.{◌≡◌, ◌≤◌, ◌^◌, length, All, nat_abs, ℕ, zero, suc, ◌==◌, ℤ, pos, negsuc, ◌+ℤ◌, neg_ℤ}
use Rattle.std.specs.Prelude.{Bool, true, false, nat_eq, if◌then◌else◌, List, [], ◌∷◌, ◌++◌, map, reverse, fold}
use Rattle.std.specs.Ordering.{eq_of_both, on, int_eq}
use Rattle.std.specs.Cmp.Lexicographic.{pointwise}
use Rattle.location_words.specs.declared.pair.Pair.{Pair}

-- whether a power is none
abbrev pub is_zero : ℤ → Bool
is_zero (pos zero) = true
is_zero (pos (suc n)) = false
is_zero (negsuc n) = false

-- a power of a datum
abbrev pub pair : ℕ → ℤ → Pair
pair d p = record { datum = d; power = p }

-- the result with one more pair taken onto its end. The result is given from its last pair to its first, so its end is
-- the head here: a pair of power 0 adds nothing, a pair of the last pair's datum adds its power there, a sum of 0 drops
-- that pair, and any other pair is appended
abbrev pub taken_onto : List Pair → Pair → List Pair
taken_onto [] p = if is_zero p.power then [] else p ∷ []
taken_onto (last ∷ earlier) p =
    if is_zero p.power
    then last ∷ earlier
    else (if last.datum == p.datum
    then (if is_zero (last.power +ℤ p.power) then earlier else pair last.datum (last.power +ℤ p.power) ∷ earlier)
    else p ∷ last ∷ earlier)

-- the list of pairs taken, from first to last, onto a result that is empty at first
abbrev pub norm : List Pair → List Pair
norm l = reverse (fold taken_onto [] l)

-- a word is a list that norm leaves as it is
abbrev pub IsWord : List Pair → Type 0
IsWord l = norm l ≡ l

-- the product of an outer and an inner word
abbrev pub mul : List Pair → List Pair → List Pair
mul outer inner = norm (inner ++ outer)

-- the pair with its power negated
abbrev pub opposite : Pair → Pair
opposite p = pair p.datum (neg_ℤ p.power)

-- the word turned round, with its powers negated
abbrev pub inverse : List Pair → List Pair
inverse w = map opposite (reverse w)

-- the product of n factors w
abbrev pub times : List Pair → ℕ → List Pair
times w zero = []
times w (suc n) = mul (times w n) w

-- the factor of a power: the word, or its inverse for a negative power
abbrev pub factor : List Pair → ℤ → List Pair
factor w (pos n) = w
factor w (negsuc n) = inverse w

-- the product of p factors w, or of -p inverses
abbrev pub power : List Pair → ℤ → List Pair
power w p = times (factor w p) (nat_abs p)

-- whether two pairs are one
abbrev pub pair_eq : Pair → Pair → Bool
pair_eq = eq_of_both (on (λ p. p.datum) nat_eq) (on (λ p. p.power) int_eq)

-- whether two lists of pairs are one
abbrev pub pairs_eq : List Pair → List Pair → Bool
pairs_eq = pointwise pair_eq

-- the greatest number of pairs of a word, and the greatest size of a power
abbrev pub most_pairs : ℕ
most_pairs = 4096

abbrev pub most_power : ℕ
most_power = 2 ^ 40

-- each power is within the limit
abbrev pub AllSmall : List Pair → Type 0
AllSmall l = All (λ p. nat_abs p.power ≤ most_power) l

-- a word within the limits
pub record IsHeldWord (l : List Pair) : Type 0 where
  pub is_word : norm l ≡ l
  pub few : length l ≤ most_pairs
  pub small : AllSmall l
