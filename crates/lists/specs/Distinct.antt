-- Lists that have each thing once.
use Rattle.std.specs.Prelude.{◌≡◌, ◌↔◌, ℕ, Bool, List, [], ◌∷◌, length, Contains, if◌then◌else◌}
use Rattle.std.specs.List.{list_any}

-- each thing comes once
abbrev pub IsDistinct : {X : Type 0} → List X → Type 0
IsDistinct [] = Unit {0}
IsDistinct (x ∷ xs) = (Contains xs x → ⊥) × IsDistinct xs

-- a list has exactly the things of which a fact holds, each once
abbrev pub ListsEachOnce : {X : Type 0} → List X → (X → Type 0) → Type 0
ListsEachOnce {X} xs P = IsDistinct xs × ((x : X) → P x ↔ Contains xs x)

-- as many things as this have the fact
abbrev pub Counts : {X : Type 0} → (X → Type 0) → ℕ → Type 0
Counts {X} P n = (xs : List X) × ListsEachOnce xs P × (length xs ≡ n)

-- a list without what comes again later in it
abbrev pub each_once : {X : Type 0} → (X → X → Bool) → List X → List X
each_once eq [] = []
each_once eq (x ∷ xs) = if list_any (eq x) xs then each_once eq xs else x ∷ each_once eq xs
