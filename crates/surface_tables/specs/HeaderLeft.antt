-- What is still to read of the numbers in front of a surface's decimals.
use Rattle.std.specs.Prelude.{◌≡◌, ℕ, ◌+◌, ◌*◌, Bool, List, ◌∷◌, Result, Ok, Err}
use Rattle.lists.specs.Results.{◌>>=◌}
use Rattle.entry_readers.specs.Reading.{Read, fault, flag_at, number_at}
use Rattle.brep_tokens.specs.declared.text.Token.{Token}
use Rattle.brep_tokens.specs.declared.fault.ReadFault.{ReadFault}
use Rattle.surface_tables.specs.Bodies.{body_of}
use Rattle.surface_tables.specs.Counts.{per_pole}
use Rattle.surface_tables.specs.Headers.{bezier_at, sized_at, spline_at}
use Rattle.surface_tables.specs.declared.parts.Body.{Body}
use Rattle.surface_tables.specs.declared.parts.Form.TheVariants as forms
use Rattle.surface_tables.specs.declared.parts.Net.{Net}
use Rattle.surface_tables.specs.declared.surface.SurfaceFlags.{SurfaceFlags}
use Rattle.surface_tables.specs.declared.header.BezierHeader.{BezierHeader}
use Rattle.surface_tables.specs.declared.header.BezierHeader.TheVariants as bezier
use Rattle.surface_tables.specs.declared.header.SplineFlags.{SplineFlags}
use Rattle.surface_tables.specs.declared.header.SplineFlags.TheVariants as flags
use Rattle.surface_tables.specs.declared.header.SplineCounts.{SplineCounts}
use Rattle.surface_tables.specs.declared.header.SplineCounts.TheVariants as counts
use Rattle.surface_tables.specs.declared.header.HeaderStep.{HeaderStep}
use Rattle.surface_tables.specs.declared.header.HeaderStep.TheVariants as steps

abbrev pub bezier_left : BezierHeader → List Token → Read Body
bezier_left bezier.Urational ts = bezier_at ts
bezier_left (bezier.Vrational u) ts = do
  v ← flag_at ts
  udegree ← number_at v.1
  vdegree ← sized_at (λ n. (udegree.0 + 1) * (n + 1)) udegree.1
  Ok (body_of (forms.Bezier u v.0 udegree.0 vdegree.0), vdegree.1)
bezier_left (bezier.Udegree u v) ts = do
  udegree ← number_at ts
  vdegree ← sized_at (λ n. (udegree.0 + 1) * (n + 1)) udegree.1
  Ok (body_of (forms.Bezier u v udegree.0 vdegree.0), vdegree.1)
bezier_left (bezier.Vdegree u v udegree rows) ts = do
  vdegree ← sized_at (λ n. rows * (n + 1)) ts
  Ok (record { form = forms.Bezier u v udegree vdegree.0; decimals = rows * (vdegree.0 + 1) * per_pole u v }, vdegree.1)

-- the numbers of a B-spline surface after its number of v poles
abbrev pub knots_of_net : Net → ℕ → List Token → Read Body
knots_of_net net decimals ts = do
  uknots ← number_at ts
  vknots ← number_at uknots.1
  Ok (record { form = forms.BSpline net uknots.0 vknots.0; decimals = decimals }, vknots.1)

abbrev pub flags_of : Bool → Bool → Bool → Bool → SurfaceFlags
flags_of u v uflag vflag = record { urational = u; vrational = v; uflag = uflag; vflag = vflag }

abbrev pub net_of : SurfaceFlags → ℕ → ℕ → ℕ → ℕ → Net
net_of f udegree vdegree upoles vpoles = record {
  flags = f;
  udegree = udegree;
  vdegree = vdegree;
  upoles = upoles;
  vpoles = vpoles;
}

abbrev pub counts_left : SplineCounts → List Token → Read Body
counts_left (counts.Udegree f) ts = do
  udegree ← number_at ts
  vdegree ← number_at udegree.1
  upoles ← number_at vdegree.1
  vpoles ← sized_at (λ n. upoles.0 * n) upoles.1
  knots_of_net (net_of f udegree.0 vdegree.0 upoles.0 vpoles.0)
      (upoles.0 * vpoles.0 * per_pole f.urational f.vrational) vpoles.1
counts_left (counts.Vdegree f udegree) ts = do
  vdegree ← number_at ts
  upoles ← number_at vdegree.1
  vpoles ← sized_at (λ n. upoles.0 * n) upoles.1
  knots_of_net (net_of f udegree vdegree.0 upoles.0 vpoles.0)
      (upoles.0 * vpoles.0 * per_pole f.urational f.vrational) vpoles.1
counts_left (counts.Upoles f udegree vdegree) ts = do
  upoles ← number_at ts
  vpoles ← sized_at (λ n. upoles.0 * n) upoles.1
  knots_of_net (net_of f udegree vdegree upoles.0 vpoles.0)
      (upoles.0 * vpoles.0 * per_pole f.urational f.vrational) vpoles.1
counts_left (counts.Vpoles f udegree vdegree upoles) ts = do
  vpoles ← sized_at (λ n. upoles * n) ts
  knots_of_net (net_of f udegree vdegree upoles vpoles.0)
      (upoles * vpoles.0 * per_pole f.urational f.vrational) vpoles.1
counts_left (counts.Uknots net decimals) ts = knots_of_net net decimals ts
counts_left (counts.Vknots net decimals uknots) ts = do
  vknots ← number_at ts
  Ok (record { form = forms.BSpline net uknots vknots.0; decimals = decimals }, vknots.1)

abbrev pub flags_left : SplineFlags → List Token → Read Body
flags_left flags.Urational ts = spline_at ts
flags_left (flags.Vrational u) ts = do
  v ← flag_at ts
  uflag ← flag_at v.1
  vflag ← flag_at uflag.1
  counts_left (counts.Udegree (flags_of u v.0 uflag.0 vflag.0)) vflag.1
flags_left (flags.Uflag u v) ts = do
  uflag ← flag_at ts
  vflag ← flag_at uflag.1
  counts_left (counts.Udegree (flags_of u v uflag.0 vflag.0)) vflag.1
flags_left (flags.Vflag u v uflag) ts = do
  vflag ← flag_at ts
  counts_left (counts.Udegree (flags_of u v uflag vflag.0)) vflag.1

abbrev pub step_left : HeaderStep → List Token → Read Body
step_left (steps.Bezier h) ts = bezier_left h ts
step_left (steps.Flags h) ts = flags_left h ts
step_left (steps.Counts h) ts = counts_left h ts
step_left (steps.Whole b) ts = Ok (b, ts)

-- the number is taken, or refused, whatever follows it
abbrev pub GoesTo : (List Token → Read Body) → Token → Result HeaderStep ReadFault → Type 0
GoesTo old t (Ok s) = (rest : List Token) → step_left s rest ≡ old (t ∷ rest)
GoesTo old t (Err f) = (rest : List Token) → old (t ∷ rest) ≡ Err (fault f)
