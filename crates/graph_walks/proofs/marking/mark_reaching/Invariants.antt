-- The marks of the nodes gone through.
use Rattle.std.proofs.Common.{◌≡◌, ℕ, take, length}
use Rattle.std.specs.Prelude.{◌↔◌, Contains, IsTrue}
use Rattle.graph_walks.specs.Graph.{ends_of}
use Rattle.graph_walks.specs.Marks.{is_marked, ReachesMarked}
use Rattle.graph_walks.proofs.marking.mark_reaching.Given as goal

abbrev pub invariant-loop-x : goal.invariant-loop-x
invariant-loop-x l = record {
  long : length l.marks ≡ length l.graph;
  told : (y : ℕ) → Contains (take l.x-index l.order) y → IsTrue (is_marked l.marks y) ↔ ReachesMarked (ends_of l.graph) l.fn.marks y;
  others : (y : ℕ) → (Contains (take l.x-index l.order) y → ⊥) → is_marked l.marks y ≡ is_marked l.fn.marks y;
}
