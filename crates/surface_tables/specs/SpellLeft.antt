-- What the iterator over the tokens of a surface has still to give.
use Rattle.std.specs.Prelude.{ℕ, List, [], ◌∷◌, ◌++◌, Option, Some, None, length}
use Rattle.std.proofs.Common.{Bor}
use Rattle.std.specs.Fmt.{decimal}
use Rattle.brep_tokens.specs.Forms.{flag_text}
use Rattle.entry_readers.specs.Begins.{zipped}
use Rattle.entry_readers.specs.Spelled.{AreShort, CanPair, header_left, pairs_left, texts_left}
use Rattle.curve_tables.specs.SpellLeft.{CanGive3, tokens_left3}
use Rattle.surface_tables.specs.Shapes.{CanSpellSurface}
use Rattle.surface_tables.specs.Spelling.{spell_surface}
use Rattle.surface_tables.specs.declared.parts.Net.{Net}
use Rattle.surface_tables.specs.declared.surface.Surface.{Surface}
use Rattle.surface_tables.specs.declared.part_spell.PartSpell.{PartSpell}
use Rattle.surface_tables.specs.declared.part_spell.NetKnots.{NetKnots}
use Rattle.surface_tables.specs.declared.part_spell.After.{After}
use Rattle.surface_tables.specs.declared.part_spell.After.TheVariants as afters
use Rattle.surface_tables.specs.declared.spell.SurfaceSpell.{SurfaceSpell}

-- ---- up to the basis

abbrev pub knots_left : NetKnots → List (List ℕ)
knots_left k = pairs_left k.u ++ pairs_left k.v

pub record CanGiveKnots (k : NetKnots) : Type 0 where
  pub u_can : CanPair k.u
  pub v_can : CanPair k.v

abbrev pub after_left : After → List (List ℕ)
after_left afters.Nothing = []
after_left (afters.Knots k) = knots_left k
after_left (afters.Curve c) = tokens_left3 c

abbrev pub CanGiveAfter : After → Type 0
CanGiveAfter afters.Nothing = Unit {0}
CanGiveAfter (afters.Knots k) = CanGiveKnots k
CanGiveAfter (afters.Curve c) = CanGive3 c

abbrev pub part_left : PartSpell → List (List ℕ)
part_left p = header_left p.header ++ (texts_left p.texts ++ after_left p.after)

pub record CanGivePart (p : PartSpell) : Type 0 where
  pub texts : AreShort (texts_left p.texts)
  pub after : CanGiveAfter p.after

-- the numbers and flags of a B-spline surface, in front of its poles
abbrev pub spell_net : Net → ℕ → ℕ → List (List ℕ)
spell_net net uknots vknots =
    decimal 9 ∷ flag_text net.flags.urational ∷ flag_text net.flags.vrational ∷ flag_text net.flags.uflag
    ∷ flag_text net.flags.vflag
    ∷ decimal net.udegree ∷ decimal net.vdegree ∷ decimal net.upoles ∷ decimal net.vpoles ∷ decimal uknots
    ∷ decimal vknots ∷ []

-- a B-spline surface: its flags and numbers, its poles, and its knots in u and in v with their multiplicities
abbrev pub spell_spline : Net → List (List ℕ) → List (List ℕ) → List ℕ → List (List ℕ) → List ℕ → List (List ℕ)
spell_spline net poles uknots umult vknots vmult =
    spell_net net (length uknots) (length vknots) ++ (poles ++ (zipped uknots umult ++ zipped vknots vmult))

-- ---- the whole surface

abbrev pub basis_left : Option (Bor Surface) → List (List ℕ)
basis_left None = []
basis_left (Some s) = spell_surface s.now

abbrev pub CanGiveBasis : Option (Bor Surface) → Type 0
CanGiveBasis None = Unit {0}
CanGiveBasis (Some s) = CanSpellSurface s.now

-- The texts that are still to be given.
abbrev pub tokens_left : SurfaceSpell → List (List ℕ)
tokens_left s = part_left s.part ++ basis_left s.basis

pub record CanGive (s : SurfaceSpell) : Type 0 where
  pub part_can : CanGivePart s.part
  pub basis_can : CanGiveBasis s.basis
