-- What the readers of repeated fields have still to read.
use Rattle.std.specs.Prelude.{ℕ, zero, suc, if◌then◌else◌, List, [], ◌∷◌, ◌++◌}
use Rattle.brep_tokens.specs.declared.text.Token.{Token}
use Rattle.lists.specs.Results.{◌>>=◌}
use Rattle.entry_readers.specs.Reading.{Read, Knots, decimals_from, knots_from, number_at, numbers_from}
use Rattle.entry_readers.specs.declared.decimals_due.DecimalsDue.{DecimalsDue}
use Rattle.entry_readers.specs.declared.knots_due.KnotsDue.{KnotsDue}
use Rattle.entry_readers.specs.declared.numbers_due.NumbersDue.{NumbersDue}

abbrev pub decimals_left : DecimalsDue → List Token → Read (List (List ℕ))
decimals_left r ts = decimals_from r.texts r.due ts

abbrev pub numbers_left : NumbersDue → List Token → Read (List ℕ)
numbers_left r ts = numbers_from r.low r.high r.numbers r.due ts

-- the knots that were taken
abbrev pub knots_of : KnotsDue → Knots
knots_of r = record { texts = r.texts; counts = r.counts }

-- a number, where its decimal was taken
abbrev pub half_knot : KnotsDue → ℕ → List Token → Read Knots
half_knot r zero ts = knots_from (knots_of r) zero ts
half_knot r (suc n) ts = number_at ts
    >>= λ c. knots_from (record { texts = r.texts; counts = r.counts ++ c.0 ∷ [] }) n c.1

abbrev pub knots_left : KnotsDue → List Token → Read Knots
knots_left r ts = if r.half then half_knot r r.due ts else knots_from (knots_of r) r.due ts
