-- Which curves can be spelled: the well shaped ones, whose decimals fit tokens.
use Rattle.std.specs.Prelude.{◌≡◌, ◌≤◌, ℕ, ◌+◌, ◌*◌, Bool, List, length}
use Rattle.entry_readers.specs.Spelled.{AreShort}
use Rattle.curve_tables.specs.Counts.{per_pole, plain_size, wrap_size}
use Rattle.curve_tables.specs.declared.parts.Dimension.{Dimension}
use Rattle.curve_tables.specs.declared.parts.Dimension.TheVariants.{Plane, Space}
use Rattle.curve_tables.specs.declared.parts.Wrap.{Wrap}
use Rattle.curve_tables.specs.declared.parts.Wrap.TheVariants.{Trimmed, Offset}
use Rattle.curve_tables.specs.declared.curve2.Curve2.{Curve2, Row_of-Curve2, end_of-Curve2, more_of-Curve2}
use Rattle.curve_tables.specs.declared.curve2.Curve2 as two
use Rattle.curve_tables.specs.declared.curve3.Curve3.{Curve3, Row_of-Curve3, end_of-Curve3, more_of-Curve3}
use Rattle.curve_tables.specs.declared.curve3.Curve3 as three

-- so many texts, each of at most 128 bytes
pub record AreTexts (n : ℕ) (texts : List (List ℕ)) : Type 0 where
  pub many : length texts ≡ n
  pub short : AreShort texts

-- ---- each list is as long as the code, the flags and the counts say, and knots and multiplicities are equally many

module _ (d : Dimension) where
  pub record CanSpellPlain (code : ℕ) (texts : List (List ℕ)) : Type 0 where
    pub from : 1 ≤ code
    pub to : code ≤ 5
    pub decimals : AreTexts (plain_size d code) texts

  abbrev pub CanSpellBezier : Bool → ℕ → List (List ℕ) → Type 0
  CanSpellBezier rational degree poles = AreTexts ((degree + 1) * per_pole d rational) poles

  pub record CanSpellBSpline (rational : Bool) (pole_count : ℕ) (poles knots : List (List ℕ))
      (multiplicities : List ℕ) : Type 0 where
    pub decimals : AreTexts (pole_count * per_pole d rational) poles
    pub knot_decimals : AreTexts (length multiplicities) knots

  abbrev pub CanSpellWrapped : Wrap → List (List ℕ) → Type 0
  CanSpellWrapped wrap texts = AreTexts (wrap_size d wrap) texts

-- ---- 2D curves

abbrev mutual
  pub CanSpell2 : Curve2 → Type 0
  CanSpell2 (two.Plain code texts) = CanSpellPlain Plane code texts
  CanSpell2 (two.Bezier rational degree poles) = CanSpellBezier Plane rational degree poles
  CanSpell2 (two.BSpline rational flag degree pole_count poles knots multiplicities) =
      CanSpellBSpline Plane rational pole_count poles knots multiplicities
  CanSpell2 (two.Trimmed' texts place basis) = CanSpellWrapped Plane Trimmed texts × CanSpellBasis2 basis
  CanSpell2 (two.Offset' texts place basis) = CanSpellWrapped Plane Offset texts × CanSpellBasis2 basis

  pub CanSpellBasis2 : {m : _} → Row_of-Curve2 m → Type 0
  CanSpellBasis2 end_of-Curve2 = Unit {0}
  CanSpellBasis2 (more_of-Curve2 c rest) = CanSpell2 c

-- ---- 3D curves

abbrev mutual
  pub CanSpell3 : Curve3 → Type 0
  CanSpell3 (three.Plain code texts) = CanSpellPlain Space code texts
  CanSpell3 (three.Bezier rational degree poles) = CanSpellBezier Space rational degree poles
  CanSpell3 (three.BSpline rational flag degree pole_count poles knots multiplicities) =
      CanSpellBSpline Space rational pole_count poles knots multiplicities
  CanSpell3 (three.Trimmed' texts place basis) = CanSpellWrapped Space Trimmed texts × CanSpellBasis3 basis
  CanSpell3 (three.Offset' texts place basis) = CanSpellWrapped Space Offset texts × CanSpellBasis3 basis

  pub CanSpellBasis3 : {m : _} → Row_of-Curve3 m → Type 0
  CanSpellBasis3 end_of-Curve3 = Unit {0}
  CanSpellBasis3 (more_of-Curve3 c rest) = CanSpell3 c
