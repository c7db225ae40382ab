-- Which surfaces a file can hold.
use Rattle.std.specs.Prelude.{◌<◌, ◌≤◌, ℕ, suc, ◌*◌, Bool, List, length}
use Rattle.entry_readers.specs.Begins.{AreDecimals, AreKnots, IsSmall}
use Rattle.curve_tables.specs.Sound.{IsSound3}
use Rattle.curve_tables.specs.declared.curve3.Curve3.{Curve3}
use Rattle.surface_tables.specs.Bodies.{bezier_poles}
use Rattle.surface_tables.specs.Counts.{per_pole, plain_size, swept_size, wrap_size}
use Rattle.surface_tables.specs.declared.parts.Wrap.{Wrap}
use Rattle.surface_tables.specs.declared.parts.Wrap.TheVariants.{Trimmed, Offset}
use Rattle.surface_tables.specs.declared.surface.SurfaceFlags.{SurfaceFlags}
use Rattle.surface_tables.specs.declared.surface.Surface.{Surface, Plain, Swept, Bezier, BSpline, Trimmed', Offset'}
use Rattle.surface_tables.specs.declared.surface.Surface.{Row_of-Surface, end_of-Surface, more_of-Surface}

-- ---- the numbers and knots of a B-spline surface

pub record AreNumbers (udegree vdegree upoles vpoles : ℕ) : Type 0 where
  pub udegree_small : IsSmall udegree
  pub vdegree_small : IsSmall vdegree
  pub upoles_small : IsSmall upoles
  pub vpoles_small : IsSmall vpoles
  pub poles_small : IsSmall (upoles * vpoles)

-- decimals, each with a multiplicity
pub record AreKnotsOf (knots : List (List ℕ)) (multiplicities : List ℕ) : Type 0 where
  pub small : IsSmall (length knots)
  pub pairs : AreKnots (length knots) (record { texts = knots; counts = multiplicities })

-- ---- a surface whose code stands inside so many others: at most 64 are open, each list is as long as the code, the
-- flags and the
-- counts say, each text is a decimal, each number has at most 18 digits, and so has the number of poles

module _ (nest : ℕ) where
  pub record IsPlain (code : ℕ) (texts : List (List ℕ)) : Type 0 where
    pub nested : nest < 64
    pub from : 1 ≤ code
    pub to : code ≤ 5
    pub decimals : AreDecimals (plain_size code) texts

  -- the curve stands inside this code too
  pub record IsSwept (code : ℕ) (texts : List (List ℕ)) (curve : Curve3) : Type 0 where
    pub nested : nest < 64
    pub from : 6 ≤ code
    pub to : code ≤ 7
    pub decimals : AreDecimals (swept_size code) texts
    pub inner : IsSound3 (suc nest) curve

  pub record IsBezier (urational vrational : Bool) (udegree vdegree : ℕ) (poles : List (List ℕ)) : Type 0 where
    pub nested : nest < 64
    pub u_small : IsSmall udegree
    pub v_small : IsSmall vdegree
    pub poles_small : IsSmall (bezier_poles udegree vdegree)
    pub decimals : AreDecimals (bezier_poles udegree vdegree * per_pole urational vrational) poles

  pub record IsBSpline (flags : SurfaceFlags) (udegree vdegree upoles vpoles : ℕ) (poles uknots : List (List ℕ))
      (umult : List ℕ) (vknots : List (List ℕ)) (vmult : List ℕ) : Type 0 where
    pub nested : nest < 64
    pub numbers : AreNumbers udegree vdegree upoles vpoles
    pub decimals : AreDecimals (upoles * vpoles * per_pole flags.urational flags.vrational) poles
    pub u : AreKnotsOf uknots umult
    pub v : AreKnotsOf vknots vmult

  pub record IsWrapped (wrap : Wrap) (texts : List (List ℕ)) : Type 0 where
    pub nested : nest < 64
    pub decimals : AreDecimals (wrap_size wrap) texts

-- ---- a basis stands inside one code more

abbrev mutual
  pub IsSoundIn : ℕ → Surface → Type 0
  IsSoundIn nest (Plain code texts) = IsPlain nest code texts
  IsSoundIn nest (Swept code texts curve) = IsSwept nest code texts curve
  IsSoundIn nest (Bezier urational vrational udegree vdegree poles) =
      IsBezier nest urational vrational udegree vdegree poles
  IsSoundIn nest (BSpline flags udegree vdegree upoles vpoles poles uknots umult vknots vmult) =
      IsBSpline nest flags udegree vdegree upoles vpoles poles uknots umult vknots vmult
  IsSoundIn nest (Trimmed' texts place basis) = IsWrapped nest Trimmed texts × IsSoundBasis (suc nest) basis
  IsSoundIn nest (Offset' texts place basis) = IsWrapped nest Offset texts × IsSoundBasis (suc nest) basis

  pub IsSoundBasis : ℕ → {m : _} → Row_of-Surface m → Type 0
  IsSoundBasis nest end_of-Surface = Unit {0}
  IsSoundBasis nest (more_of-Surface s rest) = IsSoundIn nest s

-- A surface of the table stands inside no other entry.
abbrev pub IsSoundSurface : Surface → Type 0
IsSoundSurface s = IsSoundIn 0 s
