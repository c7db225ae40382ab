-- What the reader of a location has still to read.
use Rattle.std.specs.Prelude.{◌≡◌, ◌≤◌, ◌<◌, List, [], length, Ok, Result}
use Rattle.brep_tokens.specs.declared.text.Token.{Token}
use Rattle.brep_tokens.specs.declared.fault.Progress.{Progress}
use Rattle.brep_tokens.specs.declared.fault.ReadStop.{ReadStop}
use Rattle.lists.specs.Results.{◌>>=◌}
use Rattle.entry_readers.specs.Reading.{Read}
use Rattle.entry_readers.specs.Left.{decimals_left}
use Rattle.entry_readers.specs.Takes.{Takes}
use Rattle.location_table.specs.declared.entry.LocationEntry.{LocationEntry}
use Rattle.location_table.specs.declared.entry.LocationEntry.TheVariants.{Datum, Product}
use Rattle.location_table.specs.declared.reader.Stage.{Stage}
use Rattle.location_table.specs.declared.reader.Stage.TheVariants as stages
use Rattle.location_table.specs.declared.reader.LocationReader.{LocationReader}
use Rattle.location_table.specs.Words.{words_of, word_of_factors}
use Rattle.location_table.specs.Limits.{AreWithin}
use Rattle.location_table.specs.Locations.{location_at, factors_from, power_from}

abbrev pub at_stage : Stage → List LocationEntry → LocationReader → List Token → Read LocationEntry
at_stage stages.Code before r ts = location_at before ts
at_stage stages.Decimals before r ts = decimals_left r.texts ts >>= λ d. Ok (Datum d.0, d.1)
at_stage stages.Place before r ts = factors_from (length before) (words_of before) r.factors ts
    >>= λ f. Ok (Product f.0, f.1)
at_stage (stages.Power place) before r ts = power_from (length before) (words_of before) r.factors place ts
    >>= λ f. Ok (Product f.0, f.1)
at_stage stages.WholeDatum before r ts = Ok (Datum r.texts.texts, ts)
at_stage stages.WholeProduct before r ts = Ok (Product r.factors, ts)

-- What is left to read, after these entries.
abbrev pub location_left : List LocationEntry → LocationReader → List Token → Read LocationEntry
location_left before r ts = at_stage r.stage before r ts

-- the factors that were taken are within the limits, and their word is multiplied out
pub record HoldsFactors (before : List LocationEntry) (r : LocationReader) : Type 0 where
  pub word : r.word ≡ word_of_factors (words_of before) r.factors
  pub within : AreWithin (length before) (words_of before) [] r.factors

abbrev pub IsFresh : LocationReader → Type 0
IsFresh r = (r.texts.texts ≡ []) × (r.texts.due ≡ 12) × (r.factors ≡ []) × (r.word ≡ [])

abbrev pub waits_at : Stage → List LocationEntry → LocationReader → Type 0
waits_at stages.Code before r = IsFresh r
waits_at stages.Decimals before r = 0 < r.texts.due
waits_at stages.Place before r = HoldsFactors before r
waits_at (stages.Power place) before r = HoldsFactors before r × (1 ≤ place) × (place ≤ length before)
waits_at stages.WholeDatum before r = ⊥
waits_at stages.WholeProduct before r = ⊥

-- a token is due, after these entries
abbrev pub IsWaiting : List LocationEntry → LocationReader → Type 0
IsWaiting before r = waits_at r.stage before r

abbrev pub done_at : Stage → List LocationEntry → LocationReader → Type 0
done_at stages.Code before r = ⊥
done_at stages.Decimals before r = ⊥
done_at stages.Place before r = ⊥
done_at (stages.Power place) before r = ⊥
done_at stages.WholeDatum before r = Unit {0}
done_at stages.WholeProduct before r = HoldsFactors before r

-- the entry is whole, and it was read after these entries
abbrev pub IsDone : List LocationEntry → LocationReader → Type 0
IsDone before r = done_at r.stage before r

-- A reader of an entry, at a stage, took a token after these entries: it waits for more, or the entry is whole.
abbrev pub TakesAt : Stage → List LocationEntry → LocationReader → Token → LocationReader
    → Result Progress ReadStop → Type 0
TakesAt stage before old t new result =
    Takes (at_stage stage before old) t (location_left before new) (IsWaiting before new) (IsDone before new) result

-- the same at the stage where it is
abbrev pub TakesEntry : List LocationEntry → LocationReader → Token → LocationReader → Result Progress ReadStop → Type 0
TakesEntry before old t new result = TakesAt old.stage before old t new result

abbrev pub whole_at : Stage → Type 0
whole_at stages.Code = ⊥
whole_at stages.Decimals = ⊥
whole_at stages.Place = ⊥
whole_at (stages.Power place) = ⊥
whole_at stages.WholeDatum = Unit {0}
whole_at stages.WholeProduct = Unit {0}

-- the entry is whole
abbrev pub IsWhole : LocationReader → Type 0
IsWhole r = whole_at r.stage

abbrev pub entry_at : Stage → LocationReader → LocationEntry
entry_at stages.WholeDatum r = Datum r.texts.texts
entry_at stages.Code r = Product r.factors
entry_at stages.Decimals r = Product r.factors
entry_at stages.Place r = Product r.factors
entry_at (stages.Power place) r = Product r.factors
entry_at stages.WholeProduct r = Product r.factors

-- the entry that a reader holds, where it is whole
abbrev pub entry_of : LocationReader → LocationEntry
entry_of r = entry_at r.stage r
