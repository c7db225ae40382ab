-- What the links so far lead to is weighed.
use Rattle.std.proofs.Common.{◌≡◌, ◌≤◌, ℕ, List, All, map, take}
use Rattle.location_words.specs.declared.pair.Pair.{Pair}
use Rattle.expansion_laws.specs.Trees.{Use}
use Rattle.key_results.specs.declared.words.Mover.{Mover}
use Rattle.key_results.specs.Derivations.{joined_by}
use Rattle.key_results.specs.Weights.{weight}
use Rattle.key_results.proofs.weighing.joined.Given as goal

abbrev pub invariant-loop-l : goal.invariant-loop-l
invariant-loop-l l =
    ((results : List (List Use)) (word : ℕ → List Pair) (m : Mover) → l.weights ≡ map weight results →
    l.sum ≡ weight (joined_by word m results (take l.l-index l.links))) ×
    ((n : ℕ) → All (λ w. w.depth ≤ n) l.weights → l.sum.depth ≤ n)
