-- What a rewriting answers.
use Rattle.std.specs.Prelude.{◌↔◌, ◌⊎◌, ℕ, ◌<◌, ◌≤◌, ◌+◌, List, Contains, length}
use Rattle.std.specs.List.Sorted.{IsStrictlySortedBy}
use Rattle.lists.specs.Distinct.{Counts}
use Rattle.location_words.specs.declared.pair.Pair.{Pair}
use Rattle.expansion_laws.specs.Trees.{Tree, Use}
use Rattle.expansion_laws.specs.Measures.{OccursIn}
use Rattle.expansion_laws.specs.Steps.{Step}
use Rattle.expansion_laws.specs.Rewriting.{StepsTo}
use Rattle.expansion_laws.specs.Visits.{IsImage, IsReplaced}
use Rattle.expansion_laws.specs.Keys.{IsKeyOfStep}
use Rattle.step_history.specs.History.{ListsPairs}
use Rattle.step_history.specs.Numbered.{tree_by, pair_cmp, ArePairsHeld}
use Rattle.shape_pool.specs.declared.node.UseOf.{UseOf}
use Rattle.shape_pool.specs.Rows.{Row, use_by, trees_of, tree_at}
use Rattle.key_results.specs.declared.fault.ApplyFault.{ApplyFault}
use Rattle.key_results.specs.declared.rewritten.Rewritten.{Rewritten}
use Rattle.reshape.specs.Limits.{groups, IsDueOf, PassAll}

-- the use that a numbered use stands for
abbrev pub use_at : List Row → (ℕ → List Pair) → UseOf → Use
use_at rows word u = use_by word (tree_at word rows) u

-- The new root stands for the step's. The lists of pairs have exactly the images and what took the place of what was
-- replaced. The trees held are those held before and those that stand in the new root.
pub record IsRewritten (old new : List Row) (root : UseOf) (made : Rewritten) (s : Step) (word : ℕ → List Pair) :
    Type 0 where
  pub steps : StepsTo s (use_at old word root) (use_at new word made.root)
  pub images : ListsPairs (tree_by word new) made.images (IsImage s (use_at old word root))
  pub replaced : ListsPairs (tree_by word new) made.replaced (IsReplaced s (use_at old word root))
  pub held : (x : Tree) → Contains (trees_of word new) x ↔
      (Contains (trees_of word old) x ⊎ OccursIn x (use_at new word made.root).tree)

-- both lists of pairs ascend, so that they have nothing twice
pub record PairsAscend (made : Rewritten) : Type 0 where
  pub images : IsStrictlySortedBy pair_cmp made.images
  pub replaced : IsStrictlySortedBy pair_cmp made.replaced

-- all numbers in the answer are held
pub record IsHeldAnswer (rows : List Row) (n : ℕ) (made : Rewritten) : Type 0 where
  pub root : made.root.id.0 < length rows
  pub place : made.root.place.0 < n
  pub images : ArePairsHeld rows made.images
  pub replaced : ArePairsHeld rows made.replaced

-- a count rises by no more than the number of the step's keys
abbrev pub RisesByKeys : List Row → UseOf → ℕ → ℕ → Step → (ℕ → List Pair) → Type 0
RisesByKeys rows root old new s word =
    (n : ℕ) → Counts (IsKeyOfStep s (use_at rows word root)) n → new ≤ old + n

-- no limit is passed
abbrev pub IsWithinLimits : List Row → UseOf → Step → (ℕ → List Pair) → Type 0
IsWithinLimits rows root s word = PassAll (groups s (use_at rows word root) (trees_of word rows))

-- why a step isn't carried out: a fault of the first group of tests in which one fails, or want of memory
abbrev pub IsDueLimit : List Row → UseOf → ApplyFault → Step → (ℕ → List Pair) → Type 0
IsDueLimit rows root fault s word = IsDueOf (groups s (use_at rows word root) (trees_of word rows)) fault
