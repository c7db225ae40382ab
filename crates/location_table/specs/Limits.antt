-- The limits of a location record: they are tested at each power.
use Rattle.std.specs.Prelude.{◌≡◌, ◌≤◌, ◌⊎◌, ◌&&◌, nat_lt, nat_abs, ℕ, ℤ, Bool, if◌then◌else◌, List, [], ◌∷◌, length}
use Rattle.std.specs.Prelude.{Option, Some, None}
use Rattle.std.specs.Option.{option_map, option_or}
use Rattle.location_words.specs.declared.pair.Pair.{Pair}
use Rattle.location_words.specs.declared.fault.WordFault.{WordFault}
use Rattle.location_words.specs.declared.fault.WordFault.TheVariants.{Pairs, Power, NoMemory}
use Rattle.location_words.specs.Pairs.{mul, power, most_pairs, most_power}
use Rattle.location_words.specs.Faults.{fault_of, fault_of_power}
use Rattle.location_table.specs.declared.entry.Factor.{Factor}
use Rattle.location_table.specs.Words.{at_place, with_factor}

-- how many factors a power of a word of more than one pair has at most
abbrev pub most_factors : ℕ
most_factors = 1024

-- a number of pairs or factors, or the size of a power, and the limit that it passes
pub record Passed : Type 0 where
  pub value : ℕ
  pub limit : ℕ

-- the limit that a faulty list of pairs passes; want of memory is no such fault
abbrev pub limit_of : WordFault → Passed
limit_of (Pairs n) = record { value = n; limit = most_pairs }
limit_of (Power n) = record { value = n; limit = most_power }
limit_of NoMemory = record { value = 0; limit = 0 }

-- whether a word of more than one pair has too many factors
abbrev pub has_many_factors : List Pair → ℤ → Bool
has_many_factors v p = nat_lt 1 (length v) && nat_lt most_factors (nat_abs p)

-- the fault of the word `w` so far with the factor `v` to the power `p`: that of the power, and then that of the longer
-- word
abbrev pub factor_fault : List Pair → List Pair → ℤ → Option WordFault
factor_fault w v p = option_or (fault_of_power v p) (fault_of (mul (power v p) w))

-- The limit that is passed first where the word `w` so far gets the factor `v` to the power `p`: the number of factors
-- of a word of
-- more than one pair; then the power, for such a word each product of its first factors; then the word so far with the
-- factor.
abbrev pub passed : List Pair → List Pair → ℤ → Option Passed
passed w v p =
    if has_many_factors v p
    then Some (record { value = nat_abs p; limit = most_factors })
    else option_map limit_of (factor_fault w v p)

-- a factor of an earlier place that passes no limit after the word `w`, where so many entries stand before, with these
-- words
pub record IsWithin (count : ℕ) (words : List (List Pair)) (w : List Pair) (f : Factor) : Type 0 where
  pub from : 1 ≤ f.place
  pub earlier : f.place ≤ count
  pub factors : (length (at_place words f.place) ≤ 1) ⊎ (nat_abs f.power ≤ most_factors)
  pub power : fault_of_power (at_place words f.place) f.power ≡ None
  pub word : fault_of (with_factor words w f) ≡ None

-- the same of each factor in turn
abbrev pub AreWithin : ℕ → List (List Pair) → List Pair → List Factor → Type 0
AreWithin count words w [] = Unit {0}
AreWithin count words w (f ∷ fs) = IsWithin count words w f × AreWithin count words (with_factor words w f) fs
