-- A graph of numbered nodes, seen as the list of the ends of the edges from each node, in order.
use Rattle.std.specs.Prelude.{◌≡◌, ℕ, zero, suc, ◌-◌, ◌<◌, ◌≤◌, List, [], ◌∷◌, ◌++◌, length, take, drop, All}

-- the ends of the edges from a node; none where there is no such node
abbrev pub ends_of : List (List ℕ) → ℕ → List ℕ
ends_of [] x = []
ends_of (ends ∷ graph) zero = ends
ends_of (ends ∷ graph) (suc x) = ends_of graph x

-- each edge leads to a node of the graph
abbrev pub EndsAreNodes : List (List ℕ) → Type 0
EndsAreNodes graph = All (λ ends. All (λ end. end < length graph) ends) graph

-- the last node has one more edge, after the others from it
abbrev pub with_end : List (List ℕ) → ℕ → List (List ℕ)
with_end [] end = []
with_end (ends ∷ []) end = (ends ++ end ∷ []) ∷ []
with_end (ends ∷ next ∷ graph) end = ends ∷ with_end (next ∷ graph) end

-- the same, for one who knows the nodes before the last one: they stay
abbrev pub AddsEnd : List (List ℕ) → List (List ℕ) → ℕ → Type 0
AddsEnd old new end =
    (before : List (List ℕ)) (ends : List ℕ) → old ≡ before ++ ends ∷ [] → new ≡ before ++ (ends ++ end ∷ []) ∷ []

-- ---- The ends of all nodes in one list, with the place in it where those of each node start.
-- where a node's ends stop, by the starts of the nodes after it: where the next one's start, or where the list stops
abbrev pub stop_before : List ℕ → List ℕ → ℕ
stop_before ends [] = length ends
stop_before ends (start ∷ starts) = start

-- no start is past the next one, and none past the end of the list
abbrev pub AreStarts : List ℕ → List ℕ → Type 0
AreStarts ends [] = Unit {0}
AreStarts ends (start ∷ starts) = (start ≤ stop_before ends starts) × AreStarts ends starts

-- the ends of each node
abbrev pub lists_of : List ℕ → List ℕ → List (List ℕ)
lists_of ends [] = []
lists_of ends (start ∷ starts) = take (stop_before ends starts - start) (drop start ends) ∷ lists_of ends starts
