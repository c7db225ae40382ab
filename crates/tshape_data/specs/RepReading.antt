-- Reading representations until their end.
use Rattle.std.specs.Prelude.{ℕ, zero, suc, ◌==◌, if◌then◌else◌, nat_eq, List, [], ◌∷◌, ◌++◌, Option, Some, None}
use Rattle.std.specs.Prelude.{Result, Ok, Err, codes}
use Rattle.std.specs.Cmp.Lexicographic.{pointwise}
use Rattle.std.specs.Option.{option_map, option_map_or}
use Rattle.brep_tokens.specs.Forms.{continuity_of}
use Rattle.brep_tokens.specs.declared.text.Token.{Token}
use Rattle.brep_tokens.specs.declared.fault.ReadCode.TheVariants as faults
use Rattle.lists.specs.Results.{◌>>=◌}
use Rattle.entry_readers.specs.Reading.{Read, Refusal, fault, more, at_token, spelled, decimal_at, decimals_at}
use Rattle.entry_readers.specs.Reading.{decimals_from, number_at, ranged_at}
use Rattle.tshape_data.specs.Columns.{edge_columns, edge_form, edge_texts, point_columns, point_form, second_texts}
use Rattle.tshape_data.specs.Reps.{edge_rep, point_rep}
use Rattle.tshape_data.specs.declared.head_bounds.HeadBounds.{HeadBounds}
use Rattle.tshape_data.specs.declared.columns.Table.{Table}
use Rattle.tshape_data.specs.declared.columns.Table.TheVariants.{Curve2s, Curves, Polygons, PolygonsOn, Surfaces}
use Rattle.tshape_data.specs.declared.columns.Table.TheVariants.{Meshes}
use Rattle.tshape_data.specs.declared.columns.Column.{Column}
use Rattle.tshape_data.specs.declared.columns.Column.TheVariants.{Entry, Location, Continuity}
use Rattle.tshape_data.specs.declared.forms.PointForm.{PointForm}
use Rattle.tshape_data.specs.declared.forms.EdgeForm.{EdgeForm}
use Rattle.tshape_data.specs.declared.reps.PointRep.{PointRep}
use Rattle.tshape_data.specs.declared.reps.EdgeRep.{EdgeRep}

-- how many representations the records of a file may have together
abbrev pub most_reps : ℕ
most_reps = 8388608

-- ---- numbers

abbrev pub size_of : HeadBounds → Table → ℕ
size_of b Curve2s = b.curve2s
size_of b Curves = b.curves
size_of b Polygons = b.polygons
size_of b PolygonsOn = b.polygons_on
size_of b Surfaces = b.surfaces
size_of b Meshes = b.meshes

-- the place of a continuity word
abbrev pub continuity_at : List Token → Read ℕ
continuity_at [] = Err more
continuity_at (t ∷ ts) = spelled faults.WordExpected t ts (continuity_of t.text)

abbrev pub column_at : HeadBounds → Column → List Token → Read ℕ
column_at b (Entry table) ts = ranged_at 1 (size_of b table) ts
column_at b Location ts = ranged_at 0 b.locations ts
column_at b Continuity ts = continuity_at ts

-- a number for each of these columns, after those that were read
abbrev pub columns_from : HeadBounds → List ℕ → List Column → List Token → Read (List ℕ)
columns_from b ns [] ts = Ok (ns, ts)
columns_from b ns (c ∷ cs) ts = column_at b c ts >>= λ n. columns_from b (ns ++ n.0 ∷ []) cs n.1

abbrev pub columns_at : HeadBounds → List Column → List Token → Read (List ℕ)
columns_at b cs ts = columns_from b [] cs ts

-- ---- the number of a form, where there is room for so many representations more

abbrev pub unknown_code : ℕ → Token → Refusal
unknown_code n t = fault (at_token faults.UnknownCode n 0 t)

abbrev pub with_room : {A : Type 0} → ℕ → Token → ℕ → Option A → Result (Option A) Refusal
with_room room t n None = Err (unknown_code n t)
with_room zero t n (Some form) = Err (fault (at_token faults.TooMany (suc most_reps) most_reps t))
with_room (suc room) t n (Some form) = Ok (Some form)

-- of an edge: 0 is the end
abbrev pub edge_kind : ℕ → Token → ℕ → Result (Option EdgeForm) Refusal
edge_kind room t n = if n == 0 then Ok None else with_room room t n (edge_form n)

abbrev pub edge_form_at : ℕ → List Token → Read (Option EdgeForm)
edge_form_at room [] = Err more
edge_form_at room (t ∷ ts) = number_at (t ∷ ts) >>= λ n. edge_kind room t n.0 >>= λ form. Ok (form, n.1)

-- of a vertex, after a parameter: 0 is the end where the parameter is spelled `0`, and no form else
abbrev pub point_kind : List ℕ → ℕ → Token → ℕ → Result (Option PointForm) Refusal
point_kind param room t n =
    if n == 0 then (if pointwise nat_eq param (codes "0") then Ok None else Err (unknown_code n t))
    else with_room room t n (point_form n)

abbrev pub point_form_at : List ℕ → ℕ → List Token → Read (Option PointForm)
point_form_at param room [] = Err more
point_form_at param room (t ∷ ts) = number_at (t ∷ ts) >>= λ n. point_kind param room t n.0 >>= λ form. Ok (form, n.1)

-- a parameter and the form after it
abbrev pub param_at : ℕ → List Token → Read (Option (List ℕ × PointForm))
param_at room ts = decimal_at ts >>= λ param. point_form_at param.0 room param.1
    >>= λ form. Ok (option_map (λ f. (param.0, f)) form.0, form.1)

-- ---- the rest of a representation

abbrev pub edge_rep_at : HeadBounds → ℕ → EdgeForm → List Token → Read EdgeRep
edge_rep_at b version form ts = do
  numbers ← columns_at b (edge_columns form) ts
  texts ← decimals_at (edge_texts version form) numbers.1
  Ok (edge_rep form numbers.0 texts.0, texts.1)

abbrev pub point_rep_at : HeadBounds → List ℕ × PointForm → List Token → Read PointRep
point_rep_at b p ts = do
  texts ← decimals_from (p.0 ∷ []) (second_texts p.1) ts
  numbers ← columns_at b (point_columns p.1) texts.1
  Ok (point_rep p.1 numbers.0 texts.0, numbers.1)

-- ---- all of them

-- `form_at` reads the form of one more, where there is room for so many, or the end; `rep_at` the rest of it
module _ {F A : Type 0} (form_at : ℕ → List Token → Read (Option F)) (rep_at : F → List Token → Read A) where
  -- these and those that follow: where there is no room, only the end is read
  abbrev pub reps_from : ℕ → List A → List Token → Read (List A)
  reps_from zero reps ts = form_at zero ts >>= λ form. Ok (reps, form.1)
  reps_from (suc room) reps ts = form_at (suc room) ts >>= λ form.
      option_map_or (λ f. rep_at f form.1 >>= λ r. reps_from room (reps ++ r.0 ∷ []) r.1) form.0 (Ok (reps, form.1))

abbrev pub points_at : HeadBounds → ℕ → List Token → Read (List PointRep)
points_at b room ts = reps_from param_at (point_rep_at b) room [] ts

abbrev pub edge_reps_at : HeadBounds → ℕ → ℕ → List Token → Read (List EdgeRep)
edge_reps_at b version room ts = reps_from edge_form_at (edge_rep_at b version) room [] ts
