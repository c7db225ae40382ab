-- What the definitions over 2D curves say of a curve around a basis.
use Rattle.std.proofs.Common.{◌≡◌, ℕ, suc, List, ◌∷◌, ◌++◌, refl}
use Rattle.std.specs.Fmt.{decimal}
use Rattle.curve_tables.specs.Curves.{wrapped2}
use Rattle.curve_tables.specs.Shapes.{CanSpell2, CanSpellWrapped}
use Rattle.curve_tables.specs.Sound.{IsSoundIn2, IsWrapped}
use Rattle.curve_tables.specs.Spelling.{spelling2}
use Rattle.curve_tables.specs.declared.curve2.Curve2.{Curve2, Trimmed', Offset', end_of-Curve2, more_of-Curve2}
use Rattle.curve_tables.specs.declared.parts.Dimension.TheVariants.{Plane}
use Rattle.curve_tables.specs.declared.parts.Wrap.{Wrap}
use Rattle.curve_tables.specs.declared.parts.Wrap.TheVariants.{Trimmed, Offset}
use Rattle.curve_tables.specs.Parts.{wrap_code}

module _ (texts : List (List ℕ)) (c : Curve2) where
  pub spelling_around : (w : Wrap) → spelling2 (wrapped2 w texts c) ≡ decimal (wrap_code w) ∷ (texts ++ spelling2 c)
  unfolding Rattle.curve_tables.specs.declared.curve2.Curve2.TheBlock.hidden-the_row-Curve2-0 denote.Hole.Carrier.hidden
  spelling_around Trimmed = refl
  spelling_around Offset = refl

  pub can_spell_basis : (w : Wrap) → CanSpell2 (wrapped2 w texts c) → CanSpellWrapped Plane w texts × CanSpell2 c
  unfolding Rattle.curve_tables.specs.declared.curve2.Curve2.TheBlock.hidden-the_row-Curve2-0 denote.Hole.Carrier.hidden
  can_spell_basis Trimmed can = can
  can_spell_basis Offset can = can

  pub can_spell_around : (w : Wrap) → CanSpellWrapped Plane w texts → CanSpell2 c → CanSpell2 (wrapped2 w texts c)
  unfolding Rattle.curve_tables.specs.declared.curve2.Curve2.TheBlock.hidden-the_row-Curve2-0 denote.Hole.Carrier.hidden
  can_spell_around Trimmed wraps can = (wraps, can)
  can_spell_around Offset wraps can = (wraps, can)

  pub sound_basis : (nest : ℕ) (w : Wrap) → IsSoundIn2 nest (wrapped2 w texts c) → IsWrapped Plane nest w texts
      × IsSoundIn2 (suc nest) c
  unfolding Rattle.curve_tables.specs.declared.curve2.Curve2.TheBlock.hidden-the_row-Curve2-0 denote.Hole.Carrier.hidden
  sound_basis nest Trimmed is = is
  sound_basis nest Offset is = is

  pub sound_around : (nest : ℕ) (w : Wrap) → IsWrapped Plane nest w texts → IsSoundIn2 (suc nest) c
      → IsSoundIn2 nest (wrapped2 w texts c)
  unfolding Rattle.curve_tables.specs.declared.curve2.Curve2.TheBlock.hidden-the_row-Curve2-0 denote.Hole.Carrier.hidden
  sound_around nest Trimmed wraps is = (wraps, is)
  sound_around nest Offset wraps is = (wraps, is)

-- the row of one curve in which a basis stands is that curve

module _ (texts : List (List ℕ)) (place : _) (c : Curve2) where
  pub is_trimmed : wrapped2 Trimmed texts c ≡ Trimmed' texts place (more_of-Curve2 c end_of-Curve2)
  unfolding Rattle.curve_tables.specs.declared.curve2.Curve2.TheBlock.hidden-the_row-Curve2-0 denote.Hole.Carrier.hidden
  is_trimmed = refl

  pub is_offset : wrapped2 Offset texts c ≡ Offset' texts place (more_of-Curve2 c end_of-Curve2)
  unfolding Rattle.curve_tables.specs.declared.curve2.Curve2.TheBlock.hidden-the_row-Curve2-0 denote.Hole.Carrier.hidden
  is_offset = refl
