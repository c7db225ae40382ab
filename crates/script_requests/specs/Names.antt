-- What the names of a script stand for: trees, which change with each step.
use Rattle.std.specs.Prelude.{◌≡◌, ◌⊎◌, ℕ, List, [], ◌∷◌}
use Rattle.lists.specs.Distinct.{ListsEachOnce}
use Rattle.expansion_laws.specs.Trees.{Tree}
use Rattle.step_history.specs.Changes.{Becomes}
use Rattle.step_history.specs.Composition.{Done}
use Rattle.brep_file.specs.declared.file.File.{File}
use Rattle.brep_file.specs.PlainRecords.{tree_of_record}

-- none of some trees has an image in a step
abbrev pub HaveNoImage : Done → (Tree → Type 0) → Type 0
HaveNoImage d Stood = (t x : Tree) → Stood t → Becomes d.change d.before t x → ⊥

-- A name stands for the tree of its record at first. After a step, the steps being given from the last to the first, it
-- stands for all images of the trees for which it stood, or where these have none, for the tree of its record again.
abbrev pub StandsFor : File → List Done → ℕ → Tree → Type 0
StandsFor f [] name x = x ≡ tree_of_record f name
StandsFor f (d ∷ ds) name x =
    ((t : Tree) × StandsFor f ds name t × Becomes d.change d.before t x) ⊎
    (HaveNoImage d (StandsFor f ds name) × (x ≡ tree_of_record f name))

-- the trees for which a name stands, each once; and the only one
abbrev pub AreTreesOf : File → List Done → ℕ → List Tree → Type 0
AreTreesOf f ds name xs = ListsEachOnce xs (StandsFor f ds name)

abbrev pub IsTreeOf : File → List Done → ℕ → Tree → Type 0
IsTreeOf f ds name x = AreTreesOf f ds name (x ∷ [])
