-- A curve is read exactly as it is spelled.
use Rattle.std.specs.Prelude.{◌≤◌, ℕ}
use Rattle.std.specs.List.{AllByRecursion}
use Rattle.entry_readers.specs.Begins.{IsDecimal, IsExact}
use Rattle.entry_readers.specs.Spelled.{AreShort}
use Rattle.curve_tables.specs.Curves.{curve2_at, curve3_at}
use Rattle.curve_tables.specs.Shapes.{CanSpell2, CanSpell3}
use Rattle.curve_tables.specs.Sound.{IsSound2, IsSound3}
use Rattle.curve_tables.specs.Spelling.{spelling2, spelling3}
use Rattle.curve_tables.specs.declared.curve2.Curve2.{Curve2}
use Rattle.curve_tables.specs.declared.curve3.Curve3.{Curve3}

pub record CurvesAreExact : Type 0 where
  -- what is read is spelled so and sound; what is spelled so and sound is read
  pub curve2 : IsExact curve2_at spelling2 IsSound2
  pub curve3 : (nest : ℕ) → nest ≤ 64 → IsExact (curve3_at nest) spelling3 (IsSound3 nest)
  -- each text of a sound curve is a decimal
  pub forms2 : (c : Curve2) → IsSound2 c → AllByRecursion IsDecimal (spelling2 c)
  pub forms3 : (nest : ℕ) (c : Curve3) → IsSound3 nest c → AllByRecursion IsDecimal (spelling3 c)
  -- a sound curve can be spelled where its texts fit tokens
  pub spells2 : (c : Curve2) → IsSound2 c → AreShort (spelling2 c) → CanSpell2 c
  pub spells3 : (nest : ℕ) (c : Curve3) → IsSound3 nest c → AreShort (spelling3 c) → CanSpell3 c
