-- What the iterators over the tokens of a curve have still to give.
use Rattle.std.specs.Prelude.{ℕ, List, [], ◌++◌, Option, Some, None}
use Rattle.std.proofs.Common.{Bor}
use Rattle.entry_readers.specs.Spelled.{AreShort, CanPair, header_left, pairs_left, texts_left}
use Rattle.entry_readers.specs.declared.spell.KnotsSpell.{KnotsSpell}
use Rattle.curve_tables.specs.Shapes.{CanSpell2, CanSpell3}
use Rattle.curve_tables.specs.Spelling.{spelling2, spelling3}
use Rattle.curve_tables.specs.declared.curve2.Curve2.{Curve2}
use Rattle.curve_tables.specs.declared.curve3.Curve3.{Curve3}
use Rattle.curve_tables.specs.declared.part_spell.PartSpell.{PartSpell}
use Rattle.curve_tables.specs.declared.spell2.Spell2.{Spell2}
use Rattle.curve_tables.specs.declared.spell3.Spell3.{Spell3}

-- ---- up to the basis

abbrev pub knots_of : Option KnotsSpell → List (List ℕ)
knots_of None = []
knots_of (Some k) = pairs_left k

abbrev pub CanGiveKnots : Option KnotsSpell → Type 0
CanGiveKnots None = Unit {0}
CanGiveKnots (Some k) = CanPair k

abbrev pub part_left : PartSpell → List (List ℕ)
part_left p = header_left p.header ++ (texts_left p.texts ++ knots_of p.knots)

pub record CanGivePart (p : PartSpell) : Type 0 where
  pub texts : AreShort (texts_left p.texts)
  pub knots : CanGiveKnots p.knots

-- ---- 2D curves

abbrev pub basis_left2 : Option (Bor Curve2) → List (List ℕ)
basis_left2 None = []
basis_left2 (Some c) = spelling2 c.now

abbrev pub CanGiveBasis2 : Option (Bor Curve2) → Type 0
CanGiveBasis2 None = Unit {0}
CanGiveBasis2 (Some c) = CanSpell2 c.now

abbrev pub tokens_left2 : Spell2 → List (List ℕ)
tokens_left2 s = part_left s.part ++ basis_left2 s.basis

pub record CanGive2 (s : Spell2) : Type 0 where
  pub part_can : CanGivePart s.part
  pub basis_can : CanGiveBasis2 s.basis

-- ---- 3D curves

abbrev pub basis_left3 : Option (Bor Curve3) → List (List ℕ)
basis_left3 None = []
basis_left3 (Some c) = spelling3 c.now

abbrev pub CanGiveBasis3 : Option (Bor Curve3) → Type 0
CanGiveBasis3 None = Unit {0}
CanGiveBasis3 (Some c) = CanSpell3 c.now

abbrev pub tokens_left3 : Spell3 → List (List ℕ)
tokens_left3 s = part_left s.part ++ basis_left3 s.basis

pub record CanGive3 (s : Spell3) : Type 0 where
  pub part_can : CanGivePart s.part
  pub basis_can : CanGiveBasis3 s.basis
