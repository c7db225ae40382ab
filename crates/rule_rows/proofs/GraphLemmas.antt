-- A graph each of whose nodes leads to such nodes alone.
use Rattle.std.proofs.Common.{◌<◌, ℕ, suc, zero, arith, length}
use Rattle.std.specs.Prelude.{List, [], ◌∷◌, All}
use Rattle.std.proofs.lemmas.List.Elements.{All-nil, All-cons}
use Rattle.graph_walks.specs.Graph.{ends_of}

pub all-ends : (P : ℕ → Type 0) (graph : List (List ℕ))
    → ((x : ℕ) → x < length graph → All P (ends_of graph x)) → All (λ ends. All P ends) graph
all-ends P [] h = All-nil (λ ends. All P ends)
all-ends P (ends ∷ graph) h =
    All-cons (λ l. All P l) ends graph (h zero (omega arith)) (all-ends P graph (λ x l. h (suc x) (omega (arith, l))))
