-- Worked histories of one change: what the slow history lists on small files.
use Rattle.std.specs.Prelude.{◌≡◌, ℕ, true, false, List, [], ◌∷◌}
use Rattle.orientation.specs.declared.turn.Turn.TheVariants.{Reversed}
use Rattle.orientation.specs.declared.kind.Kind.{Kind}
use Rattle.orientation.specs.declared.kind.Kind.TheVariants.{Ve, Ed, Wi, Fa, Sh, So, Co}
use Rattle.orientation.specs.declared.rule.Rule.{Rule}
use Rattle.expansion_laws.specs.Trees.{Tree, Use, a_single, tree_of}
use Rattle.expansion_laws.specs.Expansion.{NumberedUse, tree_of_number, expansion}
use Rattle.expansion_laws.specs.Contexts.{bare}
use Rattle.expansion_laws.specs.Requests.{Request, remove, replace}
use Rattle.expansion_laws.specs.Examples.{plus, minus, step_of, step_under, always, wires, by_wire, after_wire}
use Rattle.expansion_laws.specs.Examples.{faces, by_vertex, after_vertex, new_edge, solids, at_place, after_place}
use Rattle.step_history.specs.Changes.{Change, by_requests, Makes}
use Rattle.step_history.specs.SlowHistory.{HistoryLists, lists_all, slow_history, modified_listed}

-- a change makes the second root of the first, so many levels list all of it, and these are its history and its
-- modified shapes
pub record HasHistory (c : Change) (n : ℕ) (before after : Use) (lists : HistoryLists)
    (changed : List (Tree × Tree)) : Type 0 where
  pub makes : Makes c before after
  pub whole : lists_all c n before ≡ true
  pub lists_are : slow_history c n before after ≡ lists
  pub modified_are : modified_listed lists.images ≡ changed

-- a tree beside itself
abbrev pub unchanged : Tree → Tree × Tree
unchanged x = (x, x)

-- rules that stop at a kind, and that prune
abbrev pub until : Kind → Rule
until k = record { stop = k; prune = false }

abbrev pub pruning : Rule
pruning = record { stop = Ve; prune = true }

-- ---- a vertex is removed from a compound that uses it twice
abbrev pub twofold : List (List NumberedUse)
twofold = [] ∷ (plus 2 ∷ minus 2 ∷ []) ∷ []

abbrev pub no_vertex : List Request
no_vertex = always (tree_of_number twofold 2) remove ∷ []

abbrev pub without : Change
without = by_requests (step_of (Co ∷ Ve ∷ []) no_vertex)

abbrev pub without_history : HistoryLists
without_history =
    record { images = []; generated = []; removed = tree_of_number twofold 2 ∷ tree_of_number twofold 2 ∷ [] }

-- ---- the same under the prune mark: the compound goes with its uses, and the new root is a compound of origin 0
abbrev pub pruned_away : Change
pruned_away = by_requests (step_under pruning (Co ∷ Ve ∷ []) no_vertex)

-- ---- an edge is replaced by a wire: the wire's edges are its images, and the vertex that the wire brought came of it;
-- the two vertices that the input has didn't
abbrev pub wire_history : HistoryLists
wire_history = record {
  images =
      (tree_of_number wires 6, tree_of_number wires 5) ∷ (tree_of_number wires 6, tree_of_number wires 4) ∷
      unchanged (tree_of_number wires 9) ∷ unchanged (tree_of_number wires 8) ∷ [];
  generated = (tree_of_number wires 6, tree_of_number wires 7) ∷ (tree_of_number wires 6, tree_of_number wires 7) ∷ [];
  removed = [];
}

-- ---- a vertex is replaced by another: the edge and the faces over it are other trees
abbrev pub front : Tree
front = tree_of 3 (bare (tree_of 5 (bare new_edge ∷ [])) ∷ [])

abbrev pub back : Tree
back = tree_of 2 (bare (tree_of 4 (a_single Reversed [] new_edge ∷ [])) ∷ [])

abbrev pub vertex_history : HistoryLists
vertex_history = record {
  images =
      (tree_of_number faces 3, front) ∷ (tree_of_number faces 6, new_edge) ∷
      unchanged (tree_of_number faces 9) ∷ (tree_of_number faces 8, tree_of_number faces 7) ∷
      (tree_of_number faces 2, back) ∷ (tree_of_number faces 6, new_edge) ∷
      unchanged (tree_of_number faces 9) ∷ (tree_of_number faces 8, tree_of_number faces 7) ∷ [];
  generated = [];
  removed = [];
}

-- ---- the same until faces: the visits stop at the faces, and what stands below them is its own image
abbrev pub until_faces : Change
until_faces =
    by_requests (step_under (until Fa) (Sh ∷ Fa ∷ Fa ∷ Wi ∷ Wi ∷ Ed ∷ Ve ∷ Ve ∷ Ve ∷ [])
    (always (tree_of_number faces 8) (replace (bare (tree_of_number faces 7))) ∷ []))

abbrev pub until_faces_history : HistoryLists
until_faces_history = record {
  images =
      unchanged (tree_of_number faces 3) ∷ unchanged (tree_of_number faces 2) ∷
      unchanged (tree_of_number faces 6) ∷ unchanged (tree_of_number faces 9) ∷ unchanged (tree_of_number faces 8) ∷
      unchanged (tree_of_number faces 6) ∷ unchanged (tree_of_number faces 9) ∷ unchanged (tree_of_number faces 8) ∷ [];
  generated = [];
  removed = [];
}

-- ---- a face is replaced at one of two places: the solid has itself and another tree as images
abbrev pub moved_solid : Tree
moved_solid = tree_of 2 (bare (tree_of 3 (bare (tree_of_number solids 4) ∷ bare (tree_of_number solids 5) ∷ [])) ∷ [])

abbrev pub place_history : HistoryLists
place_history = record {
  images =
      (tree_of_number solids 2, moved_solid) ∷ (tree_of_number solids 6, tree_of_number solids 4) ∷
      unchanged (tree_of_number solids 5) ∷
      unchanged (tree_of_number solids 2) ∷ unchanged (tree_of_number solids 6) ∷ unchanged (tree_of_number solids 5) ∷
      [];
  generated = [];
  removed = [];
}

-- ---- two solids of one face each: the face of one is removed under the prune mark, and its shell and its solid go
-- with it
abbrev pub boxes : List (List NumberedUse)
boxes = [] ∷ (plus 7 ∷ []) ∷ (plus 6 ∷ []) ∷ [] ∷ (plus 4 ∷ []) ∷ (plus 3 ∷ []) ∷ (plus 5 ∷ plus 2 ∷ []) ∷ []

abbrev pub box_kinds : List Kind
box_kinds = Co ∷ So ∷ Sh ∷ Fa ∷ So ∷ Sh ∷ Fa ∷ []

abbrev pub pruned_box : Change
pruned_box = by_requests (step_under pruning box_kinds (always (tree_of_number boxes 7) remove ∷ []))

abbrev pub after_box : Use
after_box = bare (tree_of 1 (bare (tree_of_number boxes 2) ∷ []))

abbrev pub box_history : HistoryLists
box_history = record {
  images = unchanged (tree_of_number boxes 2) ∷ unchanged (tree_of_number boxes 4) ∷ [];
  generated = [];
  removed = tree_of_number boxes 5 ∷ tree_of_number boxes 7 ∷ [];
}

-- ---- one of the solids is removed until solids: the face of the other, at which a visit stops, is its own image, and
-- that of the removed one is gone
abbrev pub removed_at_stop : Change
removed_at_stop = by_requests (step_under (until So) box_kinds (always (tree_of_number boxes 5) remove ∷ []))

-- ---- a face is replaced until faces: a visit stops at the new face, and yet the edge and the vertex below it came of
-- the old one
abbrev pub new_face : Tree
new_face = tree_of 3 (bare (tree_of 4 (bare (tree_of 5 (bare (tree_of 6 []) ∷ [])) ∷ [])) ∷ [])

abbrev pub face_at_stop : Change
face_at_stop =
    by_requests (step_under (until Fa) (Co ∷ Fa ∷ Fa ∷ Wi ∷ Ed ∷ Ve ∷ [])
    (always (tree_of 2 []) (replace (bare new_face)) ∷ []))

abbrev pub before_stop : Use
before_stop = bare (tree_of 1 (bare (tree_of 2 []) ∷ []))

abbrev pub after_stop : Use
after_stop = bare (tree_of 1 (bare new_face ∷ []))

abbrev pub stop_history : HistoryLists
stop_history = record {
  images = (tree_of 2 [], new_face) ∷ [];
  generated = (tree_of 2 [], tree_of 5 (bare (tree_of 6 []) ∷ [])) ∷ (tree_of 2 [], tree_of 6 []) ∷ [];
  removed = [];
}

-- ---- an edge under a wire that goes isn't visited, but another tree of its origin becomes it: it isn't removed
abbrev pub old_edge : Tree
old_edge = tree_of 3 (bare (tree_of 4 []) ∷ [])

abbrev pub other_edge : Tree
other_edge = tree_of 3 (bare (tree_of 5 []) ∷ [])

abbrev pub its_wire : Tree
its_wire = tree_of 2 (bare old_edge ∷ [])

abbrev pub coming_back : Change
coming_back =
    by_requests (step_of (Co ∷ Wi ∷ Ed ∷ Ve ∷ Ve ∷ [])
    (always its_wire remove ∷ always (tree_of 5 []) (replace (bare (tree_of 4 []))) ∷ []))

abbrev pub before_back : Use
before_back = bare (tree_of 1 (bare its_wire ∷ bare other_edge ∷ []))

abbrev pub after_back : Use
after_back = bare (tree_of 1 (bare old_edge ∷ []))

abbrev pub back_history : HistoryLists
back_history = record {
  images = (other_edge, old_edge) ∷ (tree_of 5 [], tree_of 4 []) ∷ unchanged (tree_of 4 []) ∷ [];
  generated = [];
  removed = [];
}

-- ---- the edge of a face is replaced by a wire whose edge is replaced in its turn, and a wire by another: the vertex
-- of the last edge came of the face's old edge alone; nothing came of the face, which no request meets, nor of a wire,
-- of which no history speaks
abbrev pub brought_edge : Tree
brought_edge = tree_of 4 []

abbrev pub last_edge : Tree
last_edge = tree_of 6 (bare (tree_of 7 []) ∷ [])

abbrev pub last_wire : Tree
last_wire = tree_of 9 (bare (tree_of 10 (bare (tree_of 11 []) ∷ [])) ∷ [])

abbrev pub twice_replaced : Change
twice_replaced =
    by_requests (step_of (Co ∷ Ed ∷ Wi ∷ Ed ∷ Wi ∷ Ed ∷ Ve ∷ Wi ∷ Wi ∷ Ed ∷ Ve ∷ Fa ∷ Wi ∷ [])
    (always (tree_of 2 []) (replace (bare (tree_of 3 (bare brought_edge ∷ [])))) ∷
    always brought_edge (replace (bare (tree_of 5 (bare last_edge ∷ [])))) ∷
    always (tree_of 8 []) (replace (bare last_wire)) ∷ []))

abbrev pub face_over : Tree → Tree
face_over edge = tree_of 12 (bare (tree_of 13 (bare edge ∷ [])) ∷ [])

abbrev pub before_twice : Use
before_twice = bare (tree_of 1 (bare (face_over (tree_of 2 [])) ∷ bare (tree_of 8 []) ∷ []))

abbrev pub after_twice : Use
after_twice = bare (tree_of 1 (bare (face_over last_edge) ∷ bare last_wire ∷ []))

abbrev pub twice_history : HistoryLists
twice_history = record {
  images = (face_over (tree_of 2 []), face_over last_edge) ∷ (tree_of 2 [], last_edge) ∷ [];
  generated = (tree_of 2 [], tree_of 7 []) ∷ [];
  removed = [];
}

-- ---- a face is replaced by a shell of one face, over an edge that the input has and one that it lacks, and their
-- vertices are replaced: of the face came what is an image of a tree that the input lacks, also where the input has the
-- image itself; the first edge is new as well, but it is what an edge of the input became
abbrev pub known : Tree → Tree
known vertex = tree_of 3 (bare vertex ∷ [])

abbrev pub unknown : Tree → Tree
unknown vertex = tree_of 9 (bare vertex ∷ [])

abbrev pub face_of_both : Tree → Tree → Tree
face_of_both first second = tree_of 4 (bare (tree_of 8 (bare (known first) ∷ bare (unknown second) ∷ [])) ∷ [])

abbrev pub brought_face : Change
brought_face =
    by_requests (step_of (Co ∷ Fa ∷ Ed ∷ Fa ∷ Ve ∷ Ve ∷ Sh ∷ Wi ∷ Ed ∷ Ve ∷ Ve ∷ [])
    (always (tree_of 2 []) (replace (bare (tree_of 7 (bare (face_of_both (tree_of 5 []) (tree_of 10 [])) ∷ [])))) ∷
    always (tree_of 5 []) (replace (bare (tree_of 6 []))) ∷ always (tree_of 10 []) (replace (bare (tree_of 11 []))) ∷
    []))

abbrev pub before_brought : Use
before_brought = bare (tree_of 1 (bare (tree_of 2 []) ∷ bare (known (tree_of 5 [])) ∷ bare (tree_of 11 []) ∷ []))

abbrev pub after_brought : Use
after_brought =
    bare
    (tree_of 1 (bare (face_of_both (tree_of 6 []) (tree_of 11 [])) ∷ bare (known (tree_of 6 [])) ∷
    bare (tree_of 11 []) ∷ []))

abbrev pub brought_history : HistoryLists
brought_history = record {
  images =
      (tree_of 2 [], face_of_both (tree_of 6 []) (tree_of 11 [])) ∷
      (known (tree_of 5 []), known (tree_of 6 [])) ∷ (tree_of 5 [], tree_of 6 []) ∷ unchanged (tree_of 11 []) ∷
      (known (tree_of 5 []), known (tree_of 6 [])) ∷ (tree_of 5 [], tree_of 6 []) ∷ unchanged (tree_of 11 []) ∷ [];
  generated =
      (tree_of 2 [], tree_of 6 []) ∷ (tree_of 2 [], unknown (tree_of 11 [])) ∷ (tree_of 2 [], tree_of 11 []) ∷ [];
  removed = [];
}

-- what comes of the changes
pub record HistoriesComeOut : Type 0 where
  pub vertex_removed : HasHistory without 1 (expansion twofold (plus 1)) (bare (tree_of 1 [])) without_history []
  pub compound_pruned : HasHistory pruned_away 1 (expansion twofold (plus 1)) (bare (tree_of 0 [])) without_history []
  pub edge_by_wire : HasHistory (by_requests by_wire) 4 (expansion wires (plus 1)) after_wire wire_history
      ((tree_of_number wires 6, tree_of_number wires 5) ∷ (tree_of_number wires 6, tree_of_number wires 4) ∷ [])
  pub shared_edge : HasHistory (by_requests by_vertex) 5 (expansion faces (plus 1)) after_vertex vertex_history
      ((tree_of_number faces 3, front) ∷ (tree_of_number faces 6, new_edge) ∷
      (tree_of_number faces 8, tree_of_number faces 7) ∷
      (tree_of_number faces 2, back) ∷ (tree_of_number faces 6, new_edge) ∷
      (tree_of_number faces 8, tree_of_number faces 7) ∷ [])
  pub stopped_at_faces : HasHistory until_faces 1 (expansion faces (plus 1)) (expansion faces (plus 1))
      until_faces_history []
  pub face_at_place : HasHistory (by_requests at_place) 4 (expansion solids (plus 1)) after_place place_history
      ((tree_of_number solids 2, moved_solid) ∷ (tree_of_number solids 6, tree_of_number solids 4) ∷ [])
  pub solid_pruned : HasHistory pruned_box 3 (expansion boxes (plus 1)) after_box box_history []
  pub solid_removed_at_stop : HasHistory removed_at_stop 1 (expansion boxes (plus 1)) after_box box_history []
  pub face_replaced_at_stop : HasHistory face_at_stop 2 before_stop after_stop stop_history
      ((tree_of 2 [], new_face) ∷ [])
  pub edge_comes_back : HasHistory coming_back 3 before_back after_back back_history
      ((other_edge, old_edge) ∷ (tree_of 5 [], tree_of 4 []) ∷ [])
  pub edge_twice_replaced : HasHistory twice_replaced 6 before_twice after_twice twice_history
      ((face_over (tree_of 2 []), face_over last_edge) ∷ (tree_of 2 [], last_edge) ∷ [])
  pub face_brought : HasHistory brought_face 6 before_brought after_brought brought_history
      ((tree_of 2 [], face_of_both (tree_of 6 []) (tree_of 11 [])) ∷
      (known (tree_of 5 []), known (tree_of 6 [])) ∷ (tree_of 5 [], tree_of 6 []) ∷
      (known (tree_of 5 []), known (tree_of 6 [])) ∷ (tree_of 5 [], tree_of 6 []) ∷ [])
