-- The limits of a step past its rank, in their groups: a later group is told only where no earlier one fails.
use Rattle.std.specs.Prelude.{◌≡◌, ◌⊎◌, ℕ, suc, ◌<◌, min, nat_eq, if◌then◌else◌, List, [], ◌∷◌}
use Rattle.expansion_laws.specs.Trees.{Tree, Use}
use Rattle.expansion_laws.specs.Measures.{depth}
use Rattle.expansion_laws.specs.Steps.{Step}
use Rattle.expansion_laws.specs.Rewriting.{StepsTo}
use Rattle.expansion_laws.specs.StepMeasures.{IsWordKeyOf, IsWordOfKey, IsUseCount, IsWordMade, IsHeldTree}
use Rattle.shape_pool.specs.Rows.{most_depth, most_nodes}
use Rattle.key_results.specs.declared.fault.ApplyFault.{ApplyFault}
use Rattle.key_results.specs.declared.fault.ApplyFault.TheVariants.{Limit, NoMemory}
use Rattle.key_results.specs.declared.fault.LimitKind.{LimitKind}
use Rattle.key_results.specs.declared.fault.LimitKind.TheVariants.{Keys, Uses, Depth, Nodes}
use Rattle.key_results.specs.Derivations.{most_told}
use Rattle.key_results.specs.Faults.{IsWordFault}
use Rattle.key_results.specs.Grown.{AreMoreThan}

-- the greatest number of keys of a step that hold a word, and of its uses
abbrev pub most_keys : ℕ
most_keys = 1048576

abbrev pub most_uses : ℕ
most_uses = 33554432

-- the tests of a step from a root
module _ (s : Step) (root : Use) where
  -- the keys that hold a word are too many, or one of their words is past a limit
  abbrev pub IsKeysFault : LimitKind → ℕ → Type 0
  IsKeysFault Keys n = AreMoreThan most_keys (IsWordKeyOf s root) × (n ≡ suc most_keys)
  IsKeysFault which n = IsWordFault (IsWordOfKey s root) which n

  -- the uses are too many
  abbrev pub IsUsesFault : LimitKind → ℕ → Type 0
  IsUsesFault Uses n = (m : ℕ) × IsUseCount s root m × (most_uses < m) × (n ≡ min m most_told)
  IsUsesFault _ n = ⊥

  -- a word that the step makes is past a limit
  abbrev pub IsWordsFault : LimitKind → ℕ → Type 0
  IsWordsFault which n = IsWordFault (IsWordMade s root) which n

  -- the new root is too deep
  abbrev pub IsDepthFault : LimitKind → ℕ → Type 0
  IsDepthFault Depth n = (new : Use) × StepsTo s root new × (most_depth < depth new.tree) × (n ≡ depth new.tree)
  IsDepthFault _ n = ⊥

  -- the trees held and those that stand in the new root are too many
  abbrev pub IsNodesFault : List Tree → LimitKind → ℕ → Type 0
  IsNodesFault held Nodes n =
      (new : Use) × StepsTo s root new × AreMoreThan most_nodes (IsHeldTree held (new ∷ [])) × (n ≡ suc most_nodes)
  IsNodesFault held _ n = ⊥

-- none of the tests of a group fails
abbrev pub Passes : (LimitKind → ℕ → Type 0) → Type 0
Passes group = (which : LimitKind) (n : ℕ) → group which n → ⊥

-- a fault is one of the first group in which a test fails
abbrev pub IsFirstFault : List (LimitKind → ℕ → Type 0) → LimitKind → ℕ → Type 0
IsFirstFault [] which n = ⊥
IsFirstFault (group ∷ later) which n = group which n ⊎ (Passes group × IsFirstFault later which n)

-- no test of any group fails
abbrev pub PassAll : List (LimitKind → ℕ → Type 0) → Type 0
PassAll [] = Unit {0}
PassAll (group ∷ later) = Passes group × PassAll later

-- a fault is such a one, unless it is want of memory
abbrev pub IsDueOf : List (LimitKind → ℕ → Type 0) → ApplyFault → Type 0
IsDueOf groups (Limit which n) = IsFirstFault groups which n
IsDueOf groups NoMemory = Unit {0}

-- the groups that are tested before nodes are made
abbrev pub first_groups : Step → Use → List (LimitKind → ℕ → Type 0)
first_groups s root = IsKeysFault s root ∷ IsUsesFault s root ∷ IsWordsFault s root ∷ IsDepthFault s root ∷ []

-- the groups in their order, where the trees held are these
abbrev pub groups : Step → Use → List Tree → List (LimitKind → ℕ → Type 0)
groups s root held =
    IsKeysFault s root ∷ IsUsesFault s root ∷ IsWordsFault s root ∷ IsDepthFault s root ∷ IsNodesFault s root held ∷ []

-- why so many uses are too many, unless it is want of memory
abbrev pub IsPastUses : ℕ → ApplyFault → Type 0
IsPastUses total fault = (fault ≡ NoMemory) ⊎ ((fault ≡ Limit Uses (min total most_told)) × (most_uses < total))

-- the depth of a new root over so many results, by that of the deepest of them
abbrev pub root_depth : ℕ → ℕ → ℕ
root_depth results below = if nat_eq results 1 then below else suc below
