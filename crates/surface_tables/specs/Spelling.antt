-- The spelling of a surface.
use Rattle.std.specs.Prelude.{ℕ, Bool, List, [], ◌∷◌, ◌++◌, length}
use Rattle.std.specs.Fmt.{decimal}
use Rattle.brep_tokens.specs.Forms.{flag_text}
use Rattle.entry_readers.specs.Begins.{zipped}
use Rattle.curve_tables.specs.Spelling.{spelling3}
use Rattle.surface_tables.specs.declared.surface.Surface.{Surface, Plain, Swept, Bezier, BSpline, Trimmed', Offset'}
use Rattle.surface_tables.specs.declared.surface.Surface.{Row_of-Surface, end_of-Surface, more_of-Surface}

-- a Bezier surface: its flags, its degrees and its poles
abbrev pub spell_bezier : Bool → Bool → ℕ → ℕ → List (List ℕ) → List (List ℕ)
spell_bezier urational vrational udegree vdegree poles =
    decimal 8 ∷ flag_text urational ∷ flag_text vrational ∷ decimal udegree ∷ decimal vdegree ∷ poles

-- a basis, which is boxed, is a row of one surface
abbrev mutual
  pub spell_surface : Surface → List (List ℕ)
  spell_surface (Plain code texts) = decimal code ∷ texts
  spell_surface (Swept code texts curve) = decimal code ∷ (texts ++ spelling3 curve)
  spell_surface (Bezier urational vrational udegree vdegree poles) =
      spell_bezier urational vrational udegree vdegree poles
  spell_surface (BSpline flags udegree vdegree upoles vpoles poles uknots umult vknots vmult) =
      decimal 9 ∷ flag_text flags.urational ∷ flag_text flags.vrational ∷ flag_text flags.uflag ∷ flag_text flags.vflag
      ∷ decimal udegree ∷ decimal vdegree ∷ decimal upoles ∷ decimal vpoles ∷ decimal (length uknots) ∷ decimal
      (length vknots)
      ∷ (poles ++ (zipped uknots umult ++ zipped vknots vmult))
  spell_surface (Trimmed' texts place basis) = decimal 10 ∷ (texts ++ spell_basis basis)
  spell_surface (Offset' texts place basis) = decimal 11 ∷ (texts ++ spell_basis basis)

  pub spell_basis : {m : _} → Row_of-Surface m → List (List ℕ)
  spell_basis end_of-Surface = []
  spell_basis (more_of-Surface s rest) = spell_surface s
