-- What the reader of an edge's representations has still to read.
use Rattle.std.specs.Prelude.{◌≡◌, ◌<◌, ◌-◌, ℕ, List, [], ◌∷◌, ◌++◌, Result, Ok}
use Rattle.brep_tokens.specs.declared.fault.Progress.{Progress}
use Rattle.brep_tokens.specs.declared.fault.ReadStop.{ReadStop}
use Rattle.brep_tokens.specs.declared.text.Token.{Token}
use Rattle.entry_readers.specs.Left.{decimals_left}
use Rattle.lists.specs.Results.{◌>>=◌}
use Rattle.entry_readers.specs.Reading.{Read, decimals_at}
use Rattle.entry_readers.specs.Takes.{StepsOn, Takes}
use Rattle.tshape_data.specs.Columns.{edge_columns, edge_texts}
use Rattle.tshape_data.specs.ColumnsLeft.{HasNumbers, HasSomeNumbers, IsNumberDue, columns_left, numbers_of}
use Rattle.tshape_data.specs.RepReading.{edge_form_at, edge_rep_at, reps_from}
use Rattle.tshape_data.specs.Reps.{edge_rep}
use Rattle.tshape_data.specs.RepsLeft.{Settles}
use Rattle.tshape_data.specs.declared.edge_reps_reader.EdgeRepsReader.{EdgeRepsReader}
use Rattle.tshape_data.specs.declared.edge_reps_reader.EdgeStage.{EdgeStage}
use Rattle.tshape_data.specs.declared.edge_reps_reader.EdgeStage.TheVariants as stages
use Rattle.tshape_data.specs.declared.forms.EdgeForm.{EdgeForm}
use Rattle.tshape_data.specs.declared.reps.EdgeRep.{EdgeRep}

-- the representations after these
abbrev pub edges_after : EdgeRepsReader → List EdgeRep → List Token → Read (List EdgeRep)
edges_after r reps ts = reps_from edge_form_at (edge_rep_at r.bounds r.version) r.room reps ts

-- one more, and those after it
abbrev pub then_edges : EdgeRepsReader → Read EdgeRep → Read (List EdgeRep)
then_edges r read = read >>= λ rep. edges_after r (r.reps ++ rep.0 ∷ []) rep.1

-- one of this form, and those after it
abbrev pub edge_then : EdgeRepsReader → EdgeForm → List Token → Read (List EdgeRep)
edge_then r form ts = edge_rep_at r.bounds r.version form ts >>= λ rep. reps_from edge_form_at
    (edge_rep_at r.bounds r.version) (r.room - 1) (r.reps ++ rep.0 ∷ []) rep.1

-- the decimals of one whose numbers were read
abbrev pub texts_then : EdgeForm → List ℕ → Read (List (List ℕ)) → Read EdgeRep
texts_then form numbers read = read >>= λ texts. Ok (edge_rep form numbers texts.0, texts.1)

abbrev pub at_stage : EdgeStage → EdgeRepsReader → List Token → Read (List EdgeRep)
at_stage stages.Form r ts = edges_after r r.reps ts
at_stage (stages.Numbers form) r ts = then_edges r (columns_left r.bounds (edge_columns form) r.columns ts
    >>= λ numbers. texts_then form numbers.0 (decimals_at (edge_texts r.version form) numbers.1))
at_stage (stages.Texts form) r ts = then_edges r (texts_then form (numbers_of r.columns) (decimals_left r.texts ts))
at_stage stages.Whole r ts = Ok (r.reps, ts)

-- What is left to read.
abbrev pub edges_left : EdgeRepsReader → List Token → Read (List EdgeRep)
edges_left r ts = at_stage r.stage r ts

abbrev pub IsDue : EdgeStage → EdgeRepsReader → Type 0
IsDue stages.Form r = Unit {0}
IsDue (stages.Numbers form) r = IsNumberDue (edge_columns form) r.columns
IsDue (stages.Texts form) r = HasNumbers (edge_columns form) r.columns × (0 < r.texts.due)
IsDue stages.Whole r = ⊥

-- A token is due.
abbrev pub IsWaiting : EdgeRepsReader → Type 0
IsWaiting r = IsDue r.stage r

-- The end was read.
abbrev pub IsDone : EdgeRepsReader → Type 0
IsDone r = r.stage ≡ stages.Whole

-- a token was taken, and the next field may be none
abbrev pub IsStepped : EdgeStage → EdgeRepsReader → Type 0
IsStepped stages.Form r = Unit {0}
IsStepped (stages.Numbers form) r = HasSomeNumbers (edge_columns form) r.columns
IsStepped (stages.Texts form) r = HasNumbers (edge_columns form) r.columns
IsStepped stages.Whole r = Unit {0}

-- a token was taken at this stage, and what is left is left at the same stage
abbrev pub StepsAt : EdgeStage → EdgeRepsReader → Token → EdgeRepsReader → Result (Unit {0}) ReadStop → Type 0
StepsAt stage old t new result = StepsOn (at_stage stage old) t (at_stage stage new) result

-- what was left at this stage is left, and a token is due, or the end was read
abbrev pub SettlesFrom : EdgeStage → EdgeRepsReader → EdgeRepsReader → Progress → Type 0
SettlesFrom stage old new progress = Settles (at_stage stage old) (edges_left new) (IsWaiting new) (IsDone new) progress

-- A token was taken.
abbrev pub TakesEdges : EdgeRepsReader → Token → EdgeRepsReader → Result Progress ReadStop → Type 0
TakesEdges old t new result = Takes (edges_left old) t (edges_left new) (IsWaiting new) (IsDone new) result
