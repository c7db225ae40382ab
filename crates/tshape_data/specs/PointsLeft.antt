-- What the reader of a vertex's representations has still to read.
use Rattle.std.specs.Prelude.{◌≡◌, ◌<◌, ◌-◌, ℕ, List, [], ◌∷◌, ◌++◌, Result, Ok}
use Rattle.std.specs.Option.{option_map}
use Rattle.brep_tokens.specs.declared.fault.Progress.{Progress}
use Rattle.brep_tokens.specs.declared.fault.ReadStop.{ReadStop}
use Rattle.brep_tokens.specs.declared.text.Token.{Token}
use Rattle.entry_readers.specs.Left.{decimals_left}
use Rattle.lists.specs.Results.{◌>>=◌}
use Rattle.entry_readers.specs.Reading.{Read}
use Rattle.entry_readers.specs.Takes.{StepsOn, Takes}
use Rattle.tshape_data.specs.Columns.{point_columns}
use Rattle.tshape_data.specs.ColumnsLeft.{HasSomeNumbers, IsNumberDue, columns_left}
use Rattle.tshape_data.specs.RepReading.{columns_at, param_at, point_form_at, point_rep_at, reps_from}
use Rattle.tshape_data.specs.Reps.{point_rep}
use Rattle.tshape_data.specs.RepsLeft.{Settles, then_reps}
use Rattle.tshape_data.specs.declared.forms.PointForm.{PointForm}
use Rattle.tshape_data.specs.declared.point_reps_reader.PointRepsReader.{PointRepsReader}
use Rattle.tshape_data.specs.declared.point_reps_reader.PointStage.{PointStage}
use Rattle.tshape_data.specs.declared.point_reps_reader.PointStage.TheVariants as stages
use Rattle.tshape_data.specs.declared.reps.PointRep.{PointRep}

-- the representations after these
abbrev pub points_after : PointRepsReader → List PointRep → List Token → Read (List PointRep)
points_after r reps ts = reps_from param_at (point_rep_at r.bounds) r.room reps ts

-- one more, and those after it
abbrev pub then_points : PointRepsReader → Read PointRep → Read (List PointRep)
then_points r read = read >>= λ rep. points_after r (r.reps ++ rep.0 ∷ []) rep.1

-- one of this form after its first parameter, and those after it
abbrev pub point_then : PointRepsReader → PointForm → List Token → Read (List PointRep)
point_then r form ts = point_rep_at r.bounds (r.param, form) ts >>= λ rep. reps_from param_at (point_rep_at r.bounds)
    (r.room - 1) (r.reps ++ rep.0 ∷ []) rep.1

-- the numbers of one whose parameters were read
abbrev pub numbers_then : PointForm → List (List ℕ) → Read (List ℕ) → Read PointRep
numbers_then form texts read = read >>= λ numbers. Ok (point_rep form numbers.0 texts, numbers.1)

abbrev pub at_stage : PointStage → PointRepsReader → List Token → Read (List PointRep)
at_stage stages.Param r ts = points_after r r.reps ts
at_stage stages.Form r ts =
    (point_form_at r.param r.room ts >>= λ form. Ok (option_map (λ f. (r.param, f)) form.0, form.1))
    >>= then_reps param_at (point_rep_at r.bounds) r.room r.reps
at_stage (stages.Texts form) r ts =
    then_points r (decimals_left r.texts ts >>= λ texts. numbers_then form texts.0
    (columns_at r.bounds (point_columns form) texts.1))
at_stage (stages.Numbers form) r ts =
    then_points r (numbers_then form r.texts.texts (columns_left r.bounds (point_columns form) r.columns ts))
at_stage stages.Whole r ts = Ok (r.reps, ts)

-- What is left to read.
abbrev pub points_left : PointRepsReader → List Token → Read (List PointRep)
points_left r ts = at_stage r.stage r ts

abbrev pub IsDue : PointStage → PointRepsReader → Type 0
IsDue stages.Param r = Unit {0}
IsDue stages.Form r = Unit {0}
IsDue (stages.Texts form) r = 0 < r.texts.due
IsDue (stages.Numbers form) r = IsNumberDue (point_columns form) r.columns
IsDue stages.Whole r = ⊥

-- A token is due.
abbrev pub IsWaiting : PointRepsReader → Type 0
IsWaiting r = IsDue r.stage r

-- The end was read.
abbrev pub IsDone : PointRepsReader → Type 0
IsDone r = r.stage ≡ stages.Whole

-- a token was taken, and the next field may be none
abbrev pub IsStepped : PointStage → PointRepsReader → Type 0
IsStepped stages.Param r = Unit {0}
IsStepped stages.Form r = Unit {0}
IsStepped (stages.Texts form) r = Unit {0}
IsStepped (stages.Numbers form) r = HasSomeNumbers (point_columns form) r.columns
IsStepped stages.Whole r = Unit {0}

-- a token was taken at this stage, and what is left is left at the same stage
abbrev pub StepsAt : PointStage → PointRepsReader → Token → PointRepsReader → Result (Unit {0}) ReadStop → Type 0
StepsAt stage old t new result = StepsOn (at_stage stage old) t (at_stage stage new) result

-- what was left at this stage is left, and a token is due, or the end was read
abbrev pub SettlesFrom : PointStage → PointRepsReader → PointRepsReader → Progress → Type 0
SettlesFrom stage old new progress = Settles (at_stage stage old) (points_left new) (IsWaiting new)
    (IsDone new) progress

-- A token was taken.
abbrev pub TakesPoints : PointRepsReader → Token → PointRepsReader → Result Progress ReadStop → Type 0
TakesPoints old t new result = Takes (points_left old) t (points_left new) (IsWaiting new) (IsDone new) result
