-- The limit that a power passes.
use Rattle.std.proofs.Common.{◌≡◌, ℕ, ℤ, true, false, List, Option, Some, refl, ap, arith}
use Rattle.std.specs.Prelude.{min, ◌<◌, ◌^◌, ◌-◌, nat_abs}
use Rattle.std.specs.Option.{option_map, option_or}
use Rattle.brep_tokens.specs.declared.text.Token.{Token}
use Rattle.location_words.specs.declared.pair.Pair.{Pair}
use Rattle.location_words.specs.declared.fault.WordFault.{WordFault}
use Rattle.location_words.specs.declared.fault.WordFault.TheVariants.{Pairs, Power, NoMemory}
use Rattle.location_words.specs.Pairs.{mul, power}
use Rattle.location_words.specs.Faults.{fault_of, fault_of_power, IsDueFault}
use Rattle.location_table.specs.Limits.{limit_of, has_many_factors, most_factors, passed}
use Rattle.brep_tokens.specs.declared.fault.ReadCode.TheVariants as codes
use Rattle.entry_readers.specs.Reading.{at_token}
use Rattle.location_table.specs.Locations.{limit_fault}
use Rattle.location_table.specs.Stops.{stop_of, IsDueStop}

pub many : (w v : List Pair) (p : ℤ) → has_many_factors v p ≡ true
    → passed w v p ≡ Some (record { value = nat_abs p; limit = most_factors })
many w v p e = rw e refl

pub few : (w v : List Pair) (p : ℤ) → has_many_factors v p ≡ false
    → passed w v p ≡ option_map limit_of (option_or (fault_of_power v p) (fault_of (mul (power v p) w)))
few w v p e = rw e refl

pub stops : (t : Token) (due : Option WordFault) (fault : WordFault) → IsDueFault due fault
    → IsDueStop t (option_map limit_of due) (stop_of t fault)
stops t due (Pairs n) e = (limit_of (Pairs n), ap (option_map limit_of) e, refl)
stops t due (Power n) e = (limit_of (Power n), ap (option_map limit_of) e, refl)
stops t due NoMemory e = tt

pub limit_small : (t : Token) (n limit : ℕ) → n < 2 ^ 64
    → at_token codes.WordLimit n limit t ≡ limit_fault t (record { value = n; limit = limit })
limit_small t n limit lt =
    let e : n ≡ min n (2 ^ 64 - 1) = omega (arith, lt) in
    ap (λ m. at_token codes.WordLimit m limit t) e
