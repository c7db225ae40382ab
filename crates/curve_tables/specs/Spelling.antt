-- The spelling of a curve: the texts of its tokens.
use Rattle.std.specs.Prelude.{ℕ, Bool, List, [], ◌∷◌, ◌++◌, length}
use Rattle.std.specs.Fmt.{decimal}
use Rattle.brep_tokens.specs.Forms.{flag_text}
use Rattle.entry_readers.specs.Begins.{zipped}
use Rattle.curve_tables.specs.declared.curve2.Curve2.{Curve2, Row_of-Curve2, end_of-Curve2, more_of-Curve2}
use Rattle.curve_tables.specs.declared.curve2.Curve2 as two
use Rattle.curve_tables.specs.declared.curve3.Curve3.{Curve3, Row_of-Curve3, end_of-Curve3, more_of-Curve3}
use Rattle.curve_tables.specs.declared.curve3.Curve3 as three

-- a B-spline curve: its flags and numbers, its poles, and its knots with their multiplicities
abbrev pub spell_spline : Bool → Bool → ℕ → ℕ → List (List ℕ) → List (List ℕ) → List ℕ → List (List ℕ)
spell_spline rational flag degree pole_count poles knots multiplicities =
    decimal 7 ∷ flag_text rational ∷ flag_text flag ∷ decimal degree ∷ decimal pole_count ∷ decimal (length knots)
    ∷ (poles ++ zipped knots multiplicities)

-- ---- 2D curves; a basis, which is boxed, is a row of one curve

abbrev mutual
  pub spelling2 : Curve2 → List (List ℕ)
  spelling2 (two.Plain code texts) = decimal code ∷ texts
  spelling2 (two.Bezier rational degree poles) = decimal 6 ∷ flag_text rational ∷ decimal degree ∷ poles
  spelling2 (two.BSpline rational flag degree pole_count poles knots multiplicities) =
      spell_spline rational flag degree pole_count poles knots multiplicities
  spelling2 (two.Trimmed' texts place basis) = decimal 8 ∷ (texts ++ basis_spelling2 basis)
  spelling2 (two.Offset' texts place basis) = decimal 9 ∷ (texts ++ basis_spelling2 basis)

  pub basis_spelling2 : {m : _} → Row_of-Curve2 m → List (List ℕ)
  basis_spelling2 end_of-Curve2 = []
  basis_spelling2 (more_of-Curve2 c rest) = spelling2 c

-- ---- 3D curves

abbrev mutual
  pub spelling3 : Curve3 → List (List ℕ)
  spelling3 (three.Plain code texts) = decimal code ∷ texts
  spelling3 (three.Bezier rational degree poles) = decimal 6 ∷ flag_text rational ∷ decimal degree ∷ poles
  spelling3 (three.BSpline rational flag degree pole_count poles knots multiplicities) =
      spell_spline rational flag degree pole_count poles knots multiplicities
  spelling3 (three.Trimmed' texts place basis) = decimal 8 ∷ (texts ++ basis_spelling3 basis)
  spelling3 (three.Offset' texts place basis) = decimal 9 ∷ (texts ++ basis_spelling3 basis)

  pub basis_spelling3 : {m : _} → Row_of-Curve3 m → List (List ℕ)
  basis_spelling3 end_of-Curve3 = []
  basis_spelling3 (more_of-Curve3 c rest) = spelling3 c
