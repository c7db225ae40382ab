-- Which curves a file can hold.
use Rattle.std.specs.Prelude.{◌≡◌, ◌<◌, ◌≤◌, ℕ, suc, ◌+◌, ◌*◌, Bool, List, length}
use Rattle.std.specs.List.{AllByRecursion}
use Rattle.entry_readers.specs.Begins.{AreDecimals, IsSmall}
use Rattle.curve_tables.specs.Counts.{per_pole, plain_size, wrap_size}
use Rattle.curve_tables.specs.declared.parts.Dimension.{Dimension}
use Rattle.curve_tables.specs.declared.parts.Dimension.TheVariants.{Plane, Space}
use Rattle.curve_tables.specs.declared.parts.Wrap.{Wrap}
use Rattle.curve_tables.specs.declared.parts.Wrap.TheVariants.{Trimmed, Offset}
use Rattle.curve_tables.specs.declared.curve2.Curve2.{Curve2, Row_of-Curve2, end_of-Curve2, more_of-Curve2}
use Rattle.curve_tables.specs.declared.curve2.Curve2 as two
use Rattle.curve_tables.specs.declared.curve3.Curve3.{Curve3, Row_of-Curve3, end_of-Curve3, more_of-Curve3}
use Rattle.curve_tables.specs.declared.curve3.Curve3 as three

-- ---- a curve whose code stands inside so many others: at most 64 are open, each list is as long as the code, the
-- flags and the
-- counts say, each text is a decimal, and each number has at most 18 digits

module _ (d : Dimension) (nest : ℕ) where
  pub record IsPlain (code : ℕ) (texts : List (List ℕ)) : Type 0 where
    pub nested : nest < 64
    pub from : 1 ≤ code
    pub to : code ≤ 5
    pub decimals : AreDecimals (plain_size d code) texts

  pub record IsBezier (rational : Bool) (degree : ℕ) (poles : List (List ℕ)) : Type 0 where
    pub nested : nest < 64
    pub small : IsSmall degree
    pub decimals : AreDecimals ((degree + 1) * per_pole d rational) poles

  pub record IsBSpline (rational : Bool) (degree pole_count : ℕ) (poles knots : List (List ℕ))
      (multiplicities : List ℕ) : Type 0 where
    pub nested : nest < 64
    pub small : IsSmall degree
    pub count_small : IsSmall pole_count
    pub knots_small : IsSmall (length knots)
    pub decimals : AreDecimals (pole_count * per_pole d rational) poles
    pub knot_decimals : AreDecimals (length knots) knots
    pub even : length multiplicities ≡ length knots
    pub each_small : AllByRecursion IsSmall multiplicities

  pub record IsWrapped (wrap : Wrap) (texts : List (List ℕ)) : Type 0 where
    pub nested : nest < 64
    pub decimals : AreDecimals (wrap_size d wrap) texts

-- ---- 2D curves

abbrev mutual
  pub IsSoundIn2 : ℕ → Curve2 → Type 0
  IsSoundIn2 nest (two.Plain code texts) = IsPlain Plane nest code texts
  IsSoundIn2 nest (two.Bezier rational degree poles) = IsBezier Plane nest rational degree poles
  IsSoundIn2 nest (two.BSpline rational flag degree pole_count poles knots multiplicities) =
      IsBSpline Plane nest rational degree pole_count poles knots multiplicities
  IsSoundIn2 nest (two.Trimmed' texts place basis) = IsWrapped Plane nest Trimmed texts × IsSoundBasis2 (suc nest) basis
  IsSoundIn2 nest (two.Offset' texts place basis) = IsWrapped Plane nest Offset texts × IsSoundBasis2 (suc nest) basis

  pub IsSoundBasis2 : ℕ → {m : _} → Row_of-Curve2 m → Type 0
  IsSoundBasis2 nest end_of-Curve2 = Unit {0}
  IsSoundBasis2 nest (more_of-Curve2 c rest) = IsSoundIn2 nest c

-- A 2D curve stands inside no other entry.
abbrev pub IsSound2 : Curve2 → Type 0
IsSound2 c = IsSoundIn2 0 c

-- ---- 3D curves

abbrev mutual
  pub IsSound3 : ℕ → Curve3 → Type 0
  IsSound3 nest (three.Plain code texts) = IsPlain Space nest code texts
  IsSound3 nest (three.Bezier rational degree poles) = IsBezier Space nest rational degree poles
  IsSound3 nest (three.BSpline rational flag degree pole_count poles knots multiplicities) =
      IsBSpline Space nest rational degree pole_count poles knots multiplicities
  IsSound3 nest (three.Trimmed' texts place basis) = IsWrapped Space nest Trimmed texts × IsSoundBasis3 (suc nest) basis
  IsSound3 nest (three.Offset' texts place basis) = IsWrapped Space nest Offset texts × IsSoundBasis3 (suc nest) basis

  pub IsSoundBasis3 : ℕ → {m : _} → Row_of-Curve3 m → Type 0
  IsSoundBasis3 nest end_of-Curve3 = Unit {0}
  IsSoundBasis3 nest (more_of-Curve3 c rest) = IsSound3 nest c
