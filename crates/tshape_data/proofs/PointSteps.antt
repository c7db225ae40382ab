-- Steps of the reader of a vertex's representations.
use Rattle.std.proofs.Common.{◌≡◌, ◌≤◌, ◌<◌, List, [], length, Ok, Some, refl, sym, subst, arith}
use Rattle.brep_tokens.specs.declared.text.Token.{Token}
use Rattle.tshape_data.proofs.RepLoops.{then_one}
use Rattle.tshape_data.specs.Columns.{point_columns}
use Rattle.tshape_data.specs.ColumnsLeft.{FitColumns, IsNumberDue, columns_left, numbers_of}
use Rattle.tshape_data.specs.PointsLeft.{at_stage, numbers_then, point_then, then_points}
use Rattle.tshape_data.specs.RepReading.{columns_at, param_at, point_form_at, point_rep_at}
use Rattle.tshape_data.specs.declared.head_bounds.HeadBounds.{HeadBounds}
use Rattle.tshape_data.specs.declared.columns.Column.{Column}
use Rattle.tshape_data.specs.declared.columns_due.ColumnsDue.{ColumnsDue}
use Rattle.tshape_data.specs.declared.forms.PointForm.{PointForm}
use Rattle.tshape_data.specs.declared.forms.PointForm.TheVariants as points
use Rattle.tshape_data.specs.declared.point_reps_reader.PointRepsReader.{PointRepsReader}
use Rattle.tshape_data.specs.declared.point_reps_reader.PointStage.TheVariants as stages

some_columns : (form : PointForm) → 0 < length (point_columns form)
some_columns points.OnCurve = omega arith
some_columns points.OnCurve2 = omega arith
some_columns points.OnSurface = omega arith

few_columns : (form : PointForm) → length (point_columns form) ≤ 5
few_columns points.OnCurve = omega arith
few_columns points.OnCurve2 = omega arith
few_columns points.OnSurface = omega arith

-- where no number was read, one is due
pub fresh_columns : (form : PointForm) (r : ColumnsDue) → r.len ≡ 0 → numbers_of r ≡ []
    → IsNumberDue (point_columns form) r
fresh_columns form r len none = record {
  due = subst (λ n. n < length (point_columns form)) (sym len) (some_columns form);
  few = few_columns form;
  fit = subst (λ ns. FitColumns (point_columns form) ns) (sym none) tt;
}

-- where no parameter is due, the numbers are
pub texts_past : (r : PointRepsReader) (form : PointForm) (columns : ColumnsDue) → r.texts.due ≡ 0
    → ((b : HeadBounds) (cs : List Column) (ts : List Token) → columns_left b cs columns ts ≡ columns_at b cs ts)
    → (ts : List Token) → then_points r
    (numbers_then form r.texts.texts (columns_left r.bounds (point_columns form) columns ts)) ≡ at_stage
    (stages.Texts form) r ts
texts_past r form columns none left ts = rw (left r.bounds (point_columns form) ts, none) refl

-- a form, where there is room
pub form_one : (r : PointRepsReader) (form : PointForm) (ts rest : List Token) → 0 < r.room
    → point_form_at r.param r.room ts ≡ Ok (Some form, rest)
    → at_stage stages.Form r ts ≡ point_then r form rest
form_one r form ts rest lt e =
    rw (e, then_one param_at (point_rep_at r.bounds) r.room r.reps (r.param, form) rest lt) refl
