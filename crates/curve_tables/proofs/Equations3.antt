-- What the definitions over 3D curves say of a curve around a basis.
use Rattle.std.proofs.Common.{◌≡◌, ℕ, suc, List, ◌∷◌, ◌++◌, refl}
use Rattle.std.specs.Fmt.{decimal}
use Rattle.curve_tables.specs.Curves.{wrapped3}
use Rattle.curve_tables.specs.Shapes.{CanSpell3, CanSpellWrapped}
use Rattle.curve_tables.specs.Sound.{IsSound3, IsWrapped}
use Rattle.curve_tables.specs.Spelling.{spelling3}
use Rattle.curve_tables.specs.declared.curve3.Curve3.{Curve3, Trimmed', Offset', end_of-Curve3, more_of-Curve3}
use Rattle.curve_tables.specs.declared.parts.Dimension.TheVariants.{Space}
use Rattle.curve_tables.specs.declared.parts.Wrap.{Wrap}
use Rattle.curve_tables.specs.declared.parts.Wrap.TheVariants.{Trimmed, Offset}
use Rattle.curve_tables.specs.Parts.{wrap_code}

module _ (texts : List (List ℕ)) (c : Curve3) where
  pub spelling_around : (w : Wrap) → spelling3 (wrapped3 w texts c) ≡ decimal (wrap_code w) ∷ (texts ++ spelling3 c)
  unfolding Rattle.curve_tables.specs.declared.curve3.Curve3.TheBlock.hidden-the_row-Curve3-0 denote.Hole.Carrier.hidden
  spelling_around Trimmed = refl
  spelling_around Offset = refl

  pub can_spell_basis : (w : Wrap) → CanSpell3 (wrapped3 w texts c) → CanSpellWrapped Space w texts × CanSpell3 c
  unfolding Rattle.curve_tables.specs.declared.curve3.Curve3.TheBlock.hidden-the_row-Curve3-0 denote.Hole.Carrier.hidden
  can_spell_basis Trimmed can = can
  can_spell_basis Offset can = can

  pub can_spell_around : (w : Wrap) → CanSpellWrapped Space w texts → CanSpell3 c → CanSpell3 (wrapped3 w texts c)
  unfolding Rattle.curve_tables.specs.declared.curve3.Curve3.TheBlock.hidden-the_row-Curve3-0 denote.Hole.Carrier.hidden
  can_spell_around Trimmed wraps can = (wraps, can)
  can_spell_around Offset wraps can = (wraps, can)

  pub sound_basis : (nest : ℕ) (w : Wrap) → IsSound3 nest (wrapped3 w texts c) → IsWrapped Space nest w texts
      × IsSound3 (suc nest) c
  unfolding Rattle.curve_tables.specs.declared.curve3.Curve3.TheBlock.hidden-the_row-Curve3-0 denote.Hole.Carrier.hidden
  sound_basis nest Trimmed is = is
  sound_basis nest Offset is = is

  pub sound_around : (nest : ℕ) (w : Wrap) → IsWrapped Space nest w texts → IsSound3 (suc nest) c
      → IsSound3 nest (wrapped3 w texts c)
  unfolding Rattle.curve_tables.specs.declared.curve3.Curve3.TheBlock.hidden-the_row-Curve3-0 denote.Hole.Carrier.hidden
  sound_around nest Trimmed wraps is = (wraps, is)
  sound_around nest Offset wraps is = (wraps, is)

-- the row of one curve in which a basis stands is that curve

module _ (texts : List (List ℕ)) (place : _) (c : Curve3) where
  pub is_trimmed : wrapped3 Trimmed texts c ≡ Trimmed' texts place (more_of-Curve3 c end_of-Curve3)
  unfolding Rattle.curve_tables.specs.declared.curve3.Curve3.TheBlock.hidden-the_row-Curve3-0 denote.Hole.Carrier.hidden
  is_trimmed = refl

  pub is_offset : wrapped3 Offset texts c ≡ Offset' texts place (more_of-Curve3 c end_of-Curve3)
  unfolding Rattle.curve_tables.specs.declared.curve3.Curve3.TheBlock.hidden-the_row-Curve3-0 denote.Hole.Carrier.hidden
  is_offset = refl
