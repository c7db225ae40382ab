-- What is gathered from a list, thing by thing.
use Rattle.std.specs.Prelude.{◌⊎◌, ◌↔◌, List, Contains}

-- a list has become one with the same things, and those of which a fact holds
abbrev pub Adds : {Y : Type 0} → (Y → Type 0) → List Y → List Y → Type 0
Adds {Y} P old new = (y : Y) → Contains new y ↔ (Contains old y ⊎ P y)

-- a list has just what things of another are related to
abbrev pub Gathers : {X Y : Type 0} → (X → Y → Type 0) → List X → List Y → Type 0
Gathers {X} {Y} R xs ys = (y : Y) → Contains ys y ↔ ((x : X) × Contains xs x × R x y)
