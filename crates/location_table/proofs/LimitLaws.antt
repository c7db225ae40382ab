-- What it says that no limit is passed.
use Rattle.std.proofs.Common.{◌≡◌, ◌≤◌, ◌&&◌, ◌⊎◌, inl, inr, ℕ, ℤ, Bool, true, false, if◌then◌else◌, List, length}
use Rattle.std.proofs.Common.{Option, Some, None, refl}
use Rattle.std.specs.Prelude.{nat_lt, nat_abs}
use Rattle.std.specs.Option.{option_map, option_or}
use Rattle.std.proofs.lemmas.Bool.{le-ltb, ltb-false}
use Rattle.location_words.specs.declared.pair.Pair.{Pair}
use Rattle.location_words.specs.declared.fault.WordFault.{WordFault}
use Rattle.location_words.specs.Pairs.{mul, power, most_pairs, AllSmall}
use Rattle.location_words.specs.Faults.{fault_of, fault_of_power, large_power}
use Rattle.location_words.specs.declared.fault.WordFault.TheVariants.{Pairs, Power}
use Rattle.location_table.specs.Limits.{Passed, has_many_factors, limit_of, most_factors, passed}

-- the tests of a power, one by one
pub record PassesNone (w v : List Pair) (p : ℤ) : Type 0 where
  pub factors : (length v ≤ 1) ⊎ (nat_abs p ≤ most_factors)
  pub power_is : fault_of_power v p ≡ None
  pub product : fault_of (mul (power v p) w) ≡ None

chosen_none : (b : Bool) (x : Passed) (o : Option WordFault) → (if b then Some x else option_map limit_of o) ≡ None
    → (b ≡ false) × (o ≡ None)
chosen_none true x o e = absurd cc
chosen_none false x (Some f) e = absurd cc
chosen_none false x None e = (refl, refl)

either_none : (a b : Option WordFault) → option_or a b ≡ None → (a ≡ None) × (b ≡ None)
either_none (Some f) b e = absurd cc
either_none None b e = (refl, e)

one_false : (a b : Bool) → (a && b) ≡ false → (a ≡ false) ⊎ (b ≡ false)
one_false true b e = inr e
one_false false b e = inl refl

pub none_passed : (w v : List Pair) (p : ℤ) → passed w v p ≡ None → PassesNone w v p
none_passed w v p e =
    let c = chosen_none (has_many_factors v p) (record { value = nat_abs p; limit = most_factors })
    (option_or (fault_of_power v p) (fault_of (mul (power v p) w))) e in
    let both = either_none (fault_of_power v p) (fault_of (mul (power v p) w)) c.1 in
    record {
      factors = elim (one_false (nat_lt 1 (length v)) (nat_lt most_factors (nat_abs p)) c.0) [
        | inl h ↦
            inl (ltb-false 1 (length v) h)
        | inr h ↦ inr (ltb-false most_factors (nat_abs p) h)
      ];
      power_is = both.0;
      product = both.1;
    }

false_left : (a b : Bool) → a ≡ false → (a && b) ≡ false
false_left true b e = absurd cc
false_left false b e = refl

false_right : (a b : Bool) → b ≡ false → (a && b) ≡ false
false_right true b e = e
false_right false b e = refl

few_factors : (v : List Pair) (p : ℤ) → (length v ≤ 1) ⊎ (nat_abs p ≤ most_factors) → has_many_factors v p ≡ false
few_factors v p (inl h) = false_left (nat_lt 1 (length v)) (nat_lt most_factors (nat_abs p)) (le-ltb 1 (length v) h)
few_factors v p (inr h) = false_right (nat_lt 1 (length v)) (nat_lt most_factors (nat_abs p))
    (le-ltb most_factors (nat_abs p) h)

pub passed_none : (w v : List Pair) (p : ℤ) → PassesNone w v p → passed w v p ≡ None
passed_none w v p is = rw (few_factors v p is.factors, is.power_is, is.product) refl
