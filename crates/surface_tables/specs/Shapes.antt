-- Which surfaces can be spelled: the well shaped ones, whose decimals fit tokens.
use Rattle.std.specs.Prelude.{◌≤◌, ℕ, ◌*◌, Bool, List, length}
use Rattle.curve_tables.specs.Shapes.{AreTexts, CanSpell3}
use Rattle.curve_tables.specs.declared.curve3.Curve3.{Curve3}
use Rattle.surface_tables.specs.Bodies.{bezier_poles}
use Rattle.surface_tables.specs.Counts.{per_pole, plain_size, swept_size, wrap_size}
use Rattle.surface_tables.specs.declared.parts.Wrap.{Wrap}
use Rattle.surface_tables.specs.declared.parts.Wrap.TheVariants.{Trimmed, Offset}
use Rattle.surface_tables.specs.declared.surface.SurfaceFlags.{SurfaceFlags}
use Rattle.surface_tables.specs.declared.surface.Surface.{Surface, Plain, Swept, Bezier, BSpline, Trimmed', Offset'}
use Rattle.surface_tables.specs.declared.surface.Surface.{Row_of-Surface, end_of-Surface, more_of-Surface}

-- ---- each list is as long as the code, the flags and the counts say, and knots and multiplicities of one direction
-- are equally many

pub record CanSpellPlain (code : ℕ) (texts : List (List ℕ)) : Type 0 where
  pub from : 1 ≤ code
  pub to : code ≤ 5
  pub decimals : AreTexts (plain_size code) texts

pub record CanSpellSwept (code : ℕ) (texts : List (List ℕ)) (curve : Curve3) : Type 0 where
  pub from : 6 ≤ code
  pub to : code ≤ 7
  pub decimals : AreTexts (swept_size code) texts
  pub inner : CanSpell3 curve

abbrev pub CanSpellBezier : Bool → Bool → ℕ → ℕ → List (List ℕ) → Type 0
CanSpellBezier urational vrational udegree vdegree poles =
    AreTexts (bezier_poles udegree vdegree * per_pole urational vrational) poles

pub record CanSpellBSpline (flags : SurfaceFlags) (upoles vpoles : ℕ) (poles uknots : List (List ℕ)) (umult : List ℕ)
    (vknots : List (List ℕ)) (vmult : List ℕ) : Type 0 where
  pub decimals : AreTexts (upoles * vpoles * per_pole flags.urational flags.vrational) poles
  pub u : AreTexts (length umult) uknots
  pub v : AreTexts (length vmult) vknots

abbrev pub CanSpellWrapped : Wrap → List (List ℕ) → Type 0
CanSpellWrapped wrap texts = AreTexts (wrap_size wrap) texts

abbrev mutual
  pub CanSpellSurface : Surface → Type 0
  CanSpellSurface (Plain code texts) = CanSpellPlain code texts
  CanSpellSurface (Swept code texts curve) = CanSpellSwept code texts curve
  CanSpellSurface (Bezier urational vrational udegree vdegree poles) =
      CanSpellBezier urational vrational udegree vdegree poles
  CanSpellSurface (BSpline flags udegree vdegree upoles vpoles poles uknots umult vknots vmult) =
      CanSpellBSpline flags upoles vpoles poles uknots umult vknots vmult
  CanSpellSurface (Trimmed' texts place basis) = CanSpellWrapped Trimmed texts × CanSpellBasis basis
  CanSpellSurface (Offset' texts place basis) = CanSpellWrapped Offset texts × CanSpellBasis basis

  pub CanSpellBasis : {m : _} → Row_of-Surface m → Type 0
  CanSpellBasis end_of-Surface = Unit {0}
  CanSpellBasis (more_of-Surface s rest) = CanSpellSurface s
