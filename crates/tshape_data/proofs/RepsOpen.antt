-- Where a token is due, no representation is read from no tokens.
use Rattle.std.proofs.Common.{◌≡◌, ℕ, zero, suc, ◌<◌, List, [], ◌∷◌, length, drop, Err, refl, arith}
use Rattle.entry_readers.specs.Reading.{more, decimals_from}
use Rattle.tshape_data.specs.Columns.{edge_columns, point_columns}
use Rattle.tshape_data.specs.ColumnsLeft.{numbers_of}
use Rattle.tshape_data.specs.EdgesLeft.{edges_left}
use Rattle.tshape_data.specs.EdgesLeft as edges
use Rattle.tshape_data.specs.PointsLeft.{points_left}
use Rattle.tshape_data.specs.PointsLeft as points
use Rattle.tshape_data.specs.RepReading.{column_at, columns_from, edge_form_at, edge_rep_at, param_at, point_rep_at}
use Rattle.tshape_data.specs.RepReading.{reps_from}
use Rattle.tshape_data.specs.declared.head_bounds.HeadBounds.{HeadBounds}
use Rattle.tshape_data.specs.declared.columns.Column.{Column}
use Rattle.tshape_data.specs.declared.columns.Column.TheVariants.{Entry, Location, Continuity}
use Rattle.tshape_data.specs.declared.edge_reps_reader.EdgeRepsReader.{EdgeRepsReader}
use Rattle.tshape_data.specs.declared.edge_reps_reader.EdgeStage.{EdgeStage}
use Rattle.tshape_data.specs.declared.edge_reps_reader.EdgeStage.TheVariants as edge_stages
use Rattle.tshape_data.specs.declared.point_reps_reader.PointRepsReader.{PointRepsReader}
use Rattle.tshape_data.specs.declared.point_reps_reader.PointStage.{PointStage}
use Rattle.tshape_data.specs.declared.point_reps_reader.PointStage.TheVariants as point_stages
use Rattle.tshape_data.specs.declared.reps.EdgeRep.{EdgeRep}
use Rattle.tshape_data.specs.declared.reps.PointRep.{PointRep}

pub no_texts : (texts : List (List ℕ)) (n : ℕ) → 0 < n → decimals_from texts n [] ≡ Err more
no_texts texts zero lt = absurd (omega (arith, lt))
no_texts texts (suc n) lt = refl

no_column : (b : HeadBounds) (c : Column) → column_at b c [] ≡ Err more
no_column b (Entry table) = refl
no_column b Location = refl
no_column b Continuity = refl

pub no_number : (b : HeadBounds) (ns : List ℕ) (cs : List Column) (n : ℕ) → n < length cs
    → columns_from b ns (drop n cs) [] ≡ Err more
no_number b ns [] n lt = absurd (omega (arith, lt))
no_number b ns (c ∷ cs) zero lt = rw (no_column b c) refl
no_number b ns (c ∷ cs) (suc n) lt = no_number b ns cs n (omega (arith, lt))

pub no_edge : (b : HeadBounds) (version room : ℕ) (reps : List EdgeRep)
    → reps_from edge_form_at (edge_rep_at b version) room reps [] ≡ Err more
no_edge b version zero reps = refl
no_edge b version (suc room) reps = refl

edge_open : (s : EdgeStage) (r : EdgeRepsReader) → edges.IsDue s r → edges.at_stage s r [] ≡ Err more
edge_open edge_stages.Form r due = no_edge r.bounds r.version r.room r.reps
edge_open (edge_stages.Numbers form) r due =
    rw (no_number r.bounds (numbers_of r.columns) (edge_columns form) r.columns.len due.due) refl
edge_open (edge_stages.Texts form) r due = rw (no_texts r.texts.texts r.texts.due due.1) refl
edge_open edge_stages.Whole r due = absurd due

pub edges_open : (r : EdgeRepsReader) → edges.IsWaiting r → edges_left r [] ≡ Err more
edges_open r due = edge_open r.stage r due

pub no_point : (b : HeadBounds) (room : ℕ) (reps : List PointRep)
    → reps_from param_at (point_rep_at b) room reps [] ≡ Err more
no_point b zero reps = refl
no_point b (suc room) reps = refl

point_open : (s : PointStage) (r : PointRepsReader) → points.IsDue s r → points.at_stage s r [] ≡ Err more
point_open point_stages.Param r due = no_point r.bounds r.room r.reps
point_open point_stages.Form r due = refl
point_open (point_stages.Texts form) r due = rw (no_texts r.texts.texts r.texts.due due) refl
point_open (point_stages.Numbers form) r due =
    rw (no_number r.bounds (numbers_of r.columns) (point_columns form) r.columns.len due.due) refl
point_open point_stages.Whole r due = absurd due

pub points_open : (r : PointRepsReader) → points.IsWaiting r → points_left r [] ≡ Err more
points_open r due = point_open r.stage r due
