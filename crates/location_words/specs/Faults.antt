-- Why a word is refused.
use Rattle.std.specs.Prelude.{◌≡◌, ℕ, zero, suc, ℤ, nat_abs, nat_lt, nat_le, List}
use Rattle.std.specs.Prelude.{[], ◌∷◌, length, Option, Some, None, if◌then◌else◌}
use Rattle.std.specs.Option.{option_map, option_or}
use Rattle.location_words.specs.declared.pair.Pair.{Pair}
use Rattle.location_words.specs.declared.fault.WordFault.{WordFault}
use Rattle.location_words.specs.declared.fault.WordFault.TheVariants.{Pairs, Power, NoMemory}
use Rattle.location_words.specs.Pairs.{most_pairs, most_power, times, factor, power}

-- the size of the innermost power past the limit
abbrev pub large_power : List Pair → Option ℕ
large_power [] = None
large_power (p ∷ l) = if nat_lt most_power (nat_abs p.power) then Some (nat_abs p.power) else large_power l

-- why a reduced list is no word: its pairs are too many, or else a power is too large
abbrev pub fault_of : List Pair → Option WordFault
fault_of l = if nat_lt most_pairs (length l) then Some (Pairs (length l)) else option_map Power (large_power l)

-- the fault of the first of the products of one, two, .. and n factors w that is no word
abbrev pub fault_of_times : List Pair → ℕ → Option WordFault
fault_of_times w zero = None
fault_of_times w (suc n) = option_or (fault_of_times w n) (fault_of (times w (suc n)))

-- why a power is refused: where the word has at most one pair the power alone is tested, and else the products of its
-- first factors
abbrev pub fault_of_power : List Pair → ℤ → Option WordFault
fault_of_power w p = if nat_le (length w) 1 then fault_of (power w p) else fault_of_times (factor w p) (nat_abs p)

-- a fault that is answered is the one that is due, unless it is want of memory
abbrev pub IsDueFault : Option WordFault → WordFault → Type 0
IsDueFault due (Pairs n) = due ≡ Some (Pairs n)
IsDueFault due (Power n) = due ≡ Some (Power n)
IsDueFault due NoMemory = Unit {0}
