-- Worked histories of steps in a row.
use Rattle.std.specs.Prelude.{◌≡◌, ◌&&◌, ℕ, if◌then◌else◌, Some, List, [], ◌∷◌}
use Rattle.std.specs.List.{list_any}
use Rattle.orientation.specs.declared.kind.Kind.{Kind}
use Rattle.orientation.specs.declared.kind.Kind.TheVariants.{Co, Sh, Fa, Wi, Ed, Ve}
use Rattle.orientation.specs.declared.turn.Turn.TheVariants.{Forward, Reversed}
use Rattle.expansion_laws.specs.Trees.{Tree, Use, a_single, tree_of}
use Rattle.expansion_laws.specs.Equality.{tree_eq}
use Rattle.expansion_laws.specs.Contexts.{bare}
use Rattle.expansion_laws.specs.Requests.{Request, Act, remove, replace}
use Rattle.expansion_laws.specs.Expansion.{NumberedUse, tree_of_number, expansion}
use Rattle.expansion_laws.specs.Examples.{plus, minus, step_of, always, pairs, faces, by_vertex, after_vertex, new_edge}
use Rattle.step_history.specs.Changes.{by_requests, kind_in}
use Rattle.step_history.specs.SlowHistory.{HistoryLists, modified_listed}
use Rattle.step_history.specs.Composition.{Done, AreInRow, ListAll, slow_after}
use Rattle.step_history.specs.Examples.{until_faces, front, back}

-- pairs, each where it stands last
abbrev pub once : List (Tree × Tree) → List (Tree × Tree)
once [] = []
once (p ∷ ps) = if list_any (λ q. tree_eq q.0 p.0 && tree_eq q.1 p.1) ps then once ps else p ∷ once ps

-- the lists of two steps, by the kinds of the first
abbrev pub both_listed : ℕ → Done → Done → HistoryLists
both_listed n one two = slow_after n (kind_in one.change) one.before (two ∷ one ∷ [])

-- two steps were carried out in a row, so many levels list all of them, and these are the modified and generated pairs
-- and the removed trees
pub record HasHistoryOfBoth (n : ℕ) (one two : Done) (changed came : List (Tree × Tree)) (gone : List Tree) : Type 0
  where
    pub in_row : AreInRow one.before (two ∷ one ∷ [])
    pub whole : ListAll n (two ∷ one ∷ [])
    pub modified_are : once (modified_listed (both_listed n one two).images) ≡ changed
    pub generated_are : once (both_listed n one two).generated ≡ came
    pub removed_are : (both_listed n one two).removed ≡ gone

-- ---- the vertices of two edges are merged, and then the edges are sewn, the second one reversed
abbrev pub sewn : List (List NumberedUse)
sewn = [] ∷ [] ∷ [] ∷ [] ∷ (plus 7 ∷ minus 6 ∷ []) ∷ (plus 5 ∷ minus 4 ∷ []) ∷ (plus 3 ∷ plus 2 ∷ []) ∷ []

abbrev pub sewn_kinds : List Kind
sewn_kinds = Co ∷ Ed ∷ Ed ∷ Ve ∷ Ve ∷ Ve ∷ Ve ∷ []

abbrev pub shape : ℕ → Tree
shape k = tree_of_number sewn k

abbrev pub merged_edge : Tree
merged_edge = tree_of 2 (bare (shape 6) ∷ a_single Reversed [] (shape 7) ∷ [])

abbrev pub merging : Done
merging = record {
  change =
      by_requests
      (step_of sewn_kinds (always (shape 5) (replace (bare (shape 6))) ∷ always (shape 4) (replace (bare (shape 7))) ∷
      []));
  before = expansion sewn (plus 1);
  after = bare (tree_of 1 (bare (shape 3) ∷ bare merged_edge ∷ []));
}

abbrev pub sewing : Done
sewing = record {
  change = by_requests (step_of sewn_kinds (always merged_edge (replace (a_single Reversed [] (shape 3))) ∷ []));
  before = bare (tree_of 1 (bare (shape 3) ∷ bare merged_edge ∷ []));
  after = bare (tree_of 1 (bare (shape 3) ∷ a_single Reversed [] (shape 3) ∷ []));
}

-- ---- a face is replaced by a shell of two faces, one of them over an edge; then the one face is replaced, at its
-- place and under its turn, by a shell that brings an edge, and the edge of the other by a wire that brings an edge
-- over a vertex
abbrev pub here_alone : Tree → Act → Request
here_alone x act = record { source = x; place = Some []; turn = Some Forward; act = act }

abbrev pub first_face : Tree
first_face = tree_of 2 []

abbrev pub left_face : Tree
left_face = tree_of 4 []

abbrev pub right_face : Tree → Tree
right_face edge = tree_of 5 (bare (tree_of 6 (bare edge ∷ [])) ∷ [])

abbrev pub right_edge : Tree
right_edge = tree_of 7 []

abbrev pub two_faces : Tree
two_faces = tree_of 3 (bare left_face ∷ bare (right_face right_edge) ∷ [])

abbrev pub later_edge : Tree
later_edge = tree_of 11 []

abbrev pub later_face : Tree
later_face = tree_of 9 (bare (tree_of 10 (bare later_edge ∷ [])) ∷ [])

abbrev pub later_vertex : Tree
later_vertex = tree_of 14 []

abbrev pub edge_over_vertex : Tree
edge_over_vertex = tree_of 13 (bare later_vertex ∷ [])

abbrev pub face_kinds : List Kind
face_kinds = Co ∷ Fa ∷ Sh ∷ Fa ∷ Fa ∷ Wi ∷ Ed ∷ Sh ∷ Fa ∷ Wi ∷ Ed ∷ Wi ∷ Ed ∷ Ve ∷ []

abbrev pub halving : Done
halving = record {
  change = by_requests (step_of face_kinds (always first_face (replace (bare two_faces)) ∷ []));
  before = bare (tree_of 1 (bare first_face ∷ []));
  after = bare (tree_of 1 (bare left_face ∷ bare (right_face right_edge) ∷ []));
}

abbrev pub refining : Done
refining = record {
  change =
      by_requests (step_of face_kinds
      (here_alone left_face (replace (bare (tree_of 8 (bare later_face ∷ [])))) ∷
      always right_edge (replace (bare (tree_of 12 (bare edge_over_vertex ∷ [])))) ∷ []));
  before = bare (tree_of 1 (bare left_face ∷ bare (right_face right_edge) ∷ []));
  after = bare (tree_of 1 (bare later_face ∷ bare (right_face edge_over_vertex) ∷ []));
}

-- ---- two vertices: steps that replace the third by the second or the second by the third, and that remove one of them
abbrev pub point : ℕ → Tree
point k = tree_of_number pairs k

abbrev pub points : List Use → Use
points us = bare (tree_of 1 us)

abbrev pub of_points : List Request → List Use → List Use → Done
of_points requests before after =
    record { change = by_requests (step_of (Co ∷ Ve ∷ Ve ∷ []) requests); before = points before; after = points after }

abbrev pub one_point : Done
one_point =
    of_points (always (point 3) (replace (bare (point 2))) ∷ [])
    (bare (point 3) ∷ bare (point 2) ∷ []) (bare (point 2) ∷ bare (point 2) ∷ [])

abbrev pub no_point : Done
no_point = of_points (always (point 2) remove ∷ []) (bare (point 2) ∷ bare (point 2) ∷ []) []

abbrev pub third_goes : Done
third_goes = of_points (always (point 3) remove ∷ []) (bare (point 3) ∷ bare (point 2) ∷ []) (bare (point 2) ∷ [])

abbrev pub third_comes : Done
third_comes = of_points (always (point 2) (replace (bare (point 3))) ∷ []) (bare (point 2) ∷ []) (bare (point 3) ∷ [])

-- ---- a step that stops at faces, and then the same requests without a stop
abbrev pub stopping : Done
stopping = record { change = until_faces; before = expansion faces (plus 1); after = expansion faces (plus 1) }

abbrev pub replacing : Done
replacing = record { change = by_requests by_vertex; before = expansion faces (plus 1); after = after_vertex }

-- what comes of two steps
pub record RowsComeOut : Type 0 where
  -- the second edge became the merged one and then the first, and the vertices what they were merged into
  pub merged_and_sewn : HasHistoryOfBoth 3 merging sewing
      ((shape 2, shape 3) ∷ (shape 5, shape 6) ∷ (shape 4, shape 7) ∷ []) [] []
  -- of the face came an edge by its image, an edge that an edge became which came of it, and a vertex that came of that
  -- edge
  pub generated_three_ways : HasHistoryOfBoth 5 halving refining
      ((first_face, later_face) ∷ (first_face, right_face edge_over_vertex) ∷ [])
      ((first_face, later_edge) ∷ (first_face, edge_over_vertex) ∷ (first_face, later_vertex) ∷ []) []
  -- a vertex that became another is removed with it
  pub merged_then_removed : HasHistoryOfBoth 2 one_point no_point [] [] (point 3 ∷ point 2 ∷ [])
  -- a vertex that was removed stands in the last root again, and isn't removed
  pub removed_then_back : HasHistoryOfBoth 2 third_goes third_comes ((point 2, point 3) ∷ []) [] []
  -- what stood below the stopped faces is still there to become something else
  pub stopped_then_replaced : HasHistoryOfBoth 5 stopping replacing
      ((tree_of_number faces 3, front) ∷ (tree_of_number faces 2, back) ∷
      (tree_of_number faces 6, new_edge) ∷ (tree_of_number faces 8, tree_of_number faces 7) ∷ []) [] []
