-- Reading a curve.
use Rattle.std.specs.Prelude.{ℕ, ◌-◌, List, [], ◌∷◌, Ok}
use Rattle.lists.specs.Results.{◌>>=◌}
use Rattle.entry_readers.specs.Reading.{Knots, Read}
use Rattle.brep_tokens.specs.declared.text.Token.{Token}
use Rattle.curve_tables.specs.Chains.{Chain, chain_at}
use Rattle.curve_tables.specs.declared.parts.Form.{Form}
use Rattle.curve_tables.specs.declared.parts.Form.TheVariants as forms
use Rattle.curve_tables.specs.declared.parts.Frame.{Frame}
use Rattle.curve_tables.specs.declared.parts.Wrap.{Wrap}
use Rattle.curve_tables.specs.declared.parts.Wrap.TheVariants.{Trimmed, Offset}
use Rattle.curve_tables.specs.declared.parts.Dimension.TheVariants.{Plane, Space}
use Rattle.curve_tables.specs.declared.curve2.Curve2.{Curve2}
use Rattle.curve_tables.specs.declared.curve2.Curve2.TheVariants as curves2
use Rattle.curve_tables.specs.declared.curve3.Curve3.{Curve3}
use Rattle.curve_tables.specs.declared.curve3.Curve3.TheVariants as curves3

-- ---- the curve that was taken apart

abbrev pub leaf2 : Form → List (List ℕ) → Knots → Curve2
leaf2 (forms.Plain code) texts knots = curves2.Plain code texts
leaf2 (forms.Bezier rational degree) texts knots = curves2.Bezier rational degree texts
leaf2 (forms.BSpline rational flag degree poles) texts knots =
    curves2.BSpline rational flag degree poles texts knots.texts knots.counts

abbrev pub wrapped2 : Wrap → List (List ℕ) → Curve2 → Curve2
wrapped2 Trimmed texts basis = curves2.Trimmed texts basis
wrapped2 Offset texts basis = curves2.Offset texts basis

abbrev pub framed2 : List Frame → Curve2 → Curve2
framed2 [] c = c
framed2 (f ∷ fs) c = wrapped2 f.wrap f.texts (framed2 fs c)

abbrev pub curve2_of : Chain → Curve2
curve2_of c = framed2 c.frames (leaf2 c.form c.texts c.knots)

abbrev pub leaf3 : Form → List (List ℕ) → Knots → Curve3
leaf3 (forms.Plain code) texts knots = curves3.Plain code texts
leaf3 (forms.Bezier rational degree) texts knots = curves3.Bezier rational degree texts
leaf3 (forms.BSpline rational flag degree poles) texts knots =
    curves3.BSpline rational flag degree poles texts knots.texts knots.counts

abbrev pub wrapped3 : Wrap → List (List ℕ) → Curve3 → Curve3
wrapped3 Trimmed texts basis = curves3.Trimmed texts basis
wrapped3 Offset texts basis = curves3.Offset texts basis

abbrev pub framed3 : List Frame → Curve3 → Curve3
framed3 [] c = c
framed3 (f ∷ fs) c = wrapped3 f.wrap f.texts (framed3 fs c)

abbrev pub curve3_of : Chain → Curve3
curve3_of c = framed3 c.frames (leaf3 c.form c.texts c.knots)

-- ---- reading

-- A 2D curve.
abbrev pub curve2_at : List Token → Read Curve2
curve2_at ts = chain_at Plane 64 [] ts >>= λ c. Ok (curve2_of c.0, c.1)

-- A 3D curve inside so many codes.
abbrev pub curve3_at : ℕ → List Token → Read Curve3
curve3_at nest ts = chain_at Space (64 - nest) [] ts >>= λ c. Ok (curve3_of c.0, c.1)
