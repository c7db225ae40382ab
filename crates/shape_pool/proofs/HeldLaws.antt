-- Held nodes are one exactly where their rows have one origin and the same uses; and a held node's tree is that of its
-- number.
use Rattle.std.proofs.Common.{◌≡◌, ◌<◌, ◌↔◌, ℕ, zero, suc, Bool, true, nat_eq, ◌&&◌, List, map, ◌∷◌}
use Rattle.std.proofs.Common.{[], All, arith, sym, ◌∙◌, ap, refl, slice_get, Some, eqb-true, eq-eqb}
use Rattle.std.specs.Cmp.{first_so, second_so}
use Rattle.std.specs.Cmp.Lexicographic.{pointwise}
use Rattle.std.specs.Option.{option_map}
use Rattle.std.proofs.lemmas.List.Elements.{All-head, All-tail}
use Rattle.std.proofs.lemmas.Option.{slice_get-map}
use Rattle.location_words.specs.declared.pair.Pair.{Pair}
use Rattle.orientation.specs.declared.turn.Turn.{Turn}
use Rattle.orientation.specs.declared.turn.Turn.TheVariants.{Forward, Reversed, Internal, External}
use Rattle.orientation.specs.Turns.{sign_of}
use Rattle.expansion_laws.specs.Trees.{Tree, Use, a_single, tree_of}
use Rattle.shape_pool.specs.declared.node.UseOf.{UseOf}
use Rattle.shape_pool.specs.declared.node.Node.{Node, fold_out-Node}
use Rattle.shape_pool.specs.declared.node.NodeUse.{NodeUse, out-NodeUse, fold_out-NodeUse, fold-NodeUse}
use Rattle.shape_pool.specs.declared.held.Held.{Held}
use Rattle.shape_pool.specs.Nodes.{by_number, node_eq, node_origin, node_uses, node_id}
use Rattle.shape_pool.specs.Nodes.{used_node, use_eq, tree_of_node, tree_step, use_step}
use Rattle.shape_pool.specs.Rows.{use_by, tree_at}
use Rattle.shape_pool.specs.Held.{row_of, IsShared, IsIndex, HaveIds}
use Rattle.shape_pool.proofs.RowLaws.{AllBefore, tree-row}

same_turn : (a b : Turn) → sign_of a ≡ sign_of b → a ≡ b
same_turn Forward Forward e = refl
same_turn Forward Reversed e = absurd (omega (arith, e))
same_turn Forward Internal e = absurd (omega (arith, e))
same_turn Forward External e = absurd (omega (arith, e))
same_turn Reversed Forward e = absurd (omega (arith, e))
same_turn Reversed Reversed e = refl
same_turn Reversed Internal e = absurd (omega (arith, e))
same_turn Reversed External e = absurd (omega (arith, e))
same_turn Internal Forward e = absurd (omega (arith, e))
same_turn Internal Reversed e = absurd (omega (arith, e))
same_turn Internal Internal e = refl
same_turn Internal External e = absurd (omega (arith, e))
same_turn External Forward e = absurd (omega (arith, e))
same_turn External Reversed e = absurd (omega (arith, e))
same_turn External Internal e = absurd (omega (arith, e))
same_turn External External e = refl

use_eq-same : (a b : NodeUse) → use_eq a b ≡ true → by_number a ≡ by_number b
use_eq-same a b e =
    let turns : Bool = nat_eq (sign_of (out-NodeUse a).turn) (sign_of (out-NodeUse b).turn) in
    let places : Bool = nat_eq (out-NodeUse a).place.0 (out-NodeUse b).place.0 in
    let ids : Bool = nat_eq (node_id (used_node a)) (node_id (used_node b)) in
    let turn = same_turn (out-NodeUse a).turn (out-NodeUse b).turn
    (eqb-true (sign_of (out-NodeUse a).turn) (sign_of (out-NodeUse b).turn) (first_so turns (places && ids) e)) in
    let rest = second_so turns (places && ids) e in
    let place = eqb-true (out-NodeUse a).place.0 (out-NodeUse b).place.0 (first_so places ids rest) in
    let id = eqb-true (node_id (used_node a)) (node_id (used_node b)) (second_so places ids rest) in
    λ i. record { turn = turn i; place = record { 0 = place i }; id = record { 0 = id i } }

use_eq-of-same : (a b : NodeUse) → by_number a ≡ by_number b → use_eq a b ≡ true
use_eq-of-same a b e =
    let turn = ap (λ (u : UseOf). sign_of u.turn) e in
    let place = ap (λ (u : UseOf). u.place.0) e in
    let id = ap (λ (u : UseOf). u.id.0) e in
    λ i. eq-eqb (sign_of (out-NodeUse a).turn) (sign_of (out-NodeUse b).turn) turn i &&
    (eq-eqb (out-NodeUse a).place.0 (out-NodeUse b).place.0 place i &&
    eq-eqb (node_id (used_node a)) (node_id (used_node b)) id i)

uses_eq-same : (us vs : List NodeUse) → pointwise use_eq us vs ≡ true → map by_number us ≡ map by_number vs
uses_eq-same [] [] e = refl
uses_eq-same [] (v ∷ vs) e = cc
uses_eq-same (u ∷ us) [] e = cc
uses_eq-same (u ∷ us) (v ∷ vs) e =
    let first = use_eq-same u v (first_so (use_eq u v) (pointwise use_eq us vs) e) in
    let rest = uses_eq-same us vs (second_so (use_eq u v) (pointwise use_eq us vs) e) in
    λ i. first i ∷ rest i

uses_eq-of-same : (us vs : List NodeUse) → map by_number us ≡ map by_number vs → pointwise use_eq us vs ≡ true
uses_eq-of-same [] [] e = refl
uses_eq-of-same [] (v ∷ vs) e = cc
uses_eq-of-same (u ∷ us) [] e = cc
uses_eq-of-same (u ∷ us) (v ∷ vs) e =
    let head : by_number u ≡ by_number v = cc in
    let tail : map by_number us ≡ map by_number vs = cc in
    λ i. use_eq-of-same u v head i && uses_eq-of-same us vs tail i

pub node_eq-tells : (a b : Node) → (node_eq a b ≡ true) ↔
    ((node_origin a ≡ node_origin b) × (map by_number (node_uses a) ≡ map by_number (node_uses b)))
node_eq-tells a b =
    let origins : Bool = nat_eq (node_origin a) (node_origin b) in
    let uses : Bool = pointwise use_eq (node_uses a) (node_uses b) in (
      λ e. (
        eqb-true (node_origin a) (node_origin b) (first_so origins uses e),
        uses_eq-same (node_uses a) (node_uses b) (second_so origins uses e),
      ),
      λ h i. eq-eqb (node_origin a) (node_origin b) h.0 i && uses_eq-of-same (node_uses a) (node_uses b) h.1 i,
    )

-- ---- trees
module _ (word : ℕ → List Pair) where
  abbrev use_of_node : NodeUse → Use
  use_of_node = fold-NodeUse Tree Use (tree_step word) (use_step word)

  tree-out : (n : Node) → tree_of_node word n ≡ tree_of (node_origin n) (map use_of_node (node_uses n))
  tree-out n = fold_out-Node Tree Use (tree_step word) (use_step word) n

  use-out : (u : NodeUse) → use_of_node u ≡ a_single (out-NodeUse u).turn (word (out-NodeUse u).place.0)
      (tree_of_node word (used_node u))
  use-out u = fold_out-NodeUse Tree Use (tree_step word) (use_step word) u

  -- nodes held with the numbers of their places, sharing what their rows name
  module _ (held : List Held) (ids : HaveIds held) (shared : (i : ℕ) (h : Held) → slice_get held i ≡ Some h →
      All (IsShared held) (node_uses h.node.value)) (before : AllBefore (map row_of held)) where
    row_at : (i : ℕ) (h : Held) → slice_get held i ≡ Some h → slice_get (map row_of held) i ≡ Some (row_of h)
    row_at i h e = slice_get-map row_of held i ∙ ap (option_map row_of) e

    uses-tree : (n : ℕ) (us : List NodeUse) → All (IsShared held) us →
        All (λ (u : UseOf). u.id.0 < n) (map by_number us) →
        ((j : ℕ) (h : Held) → j < n → slice_get held j ≡ Some h →
        tree_of_node word h.node.value ≡ tree_at word (map row_of held) j) →
        map use_of_node us ≡ map (use_by word (tree_at word (map row_of held))) (map by_number us)
    uses-tree n [] s b ih = refl
    uses-tree n (u ∷ us) s b ih =
        let h = All-head (IsShared held) u us s in
        let lt = All-head (λ (v : UseOf). v.id.0 < n) (by_number u) (map by_number us) b in
        let tree = ap (tree_of_node word) h.2 ∙ ih (node_id (used_node u)) h.0 lt h.1 in
        let first = use-out u ∙ ap (a_single (out-NodeUse u).turn (word (out-NodeUse u).place.0)) tree in
        let rest = uses-tree n us (All-tail (IsShared held) u us s)
        (All-tail (λ (v : UseOf). v.id.0 < n) (by_number u) (map by_number us) b) ih in
        λ k. first k ∷ rest k

    node-tree-below : (n i : ℕ) (h : Held) → i < n → slice_get held i ≡ Some h →
        tree_of_node word h.node.value ≡ tree_at word (map row_of held) i
    node-tree-below zero i h lt e = absurd (omega arith)
    node-tree-below (suc n) i h lt e =
        tree-out h.node.value ∙
        ap (tree_of (node_origin h.node.value)) (uses-tree i (node_uses h.node.value) (shared i h e)
        (before i (row_of h) (row_at i h e)) (λ j k jt. node-tree-below n j k (omega (arith, jt, lt)))) ∙
        sym (tree-row word (map row_of held) before i (row_of h) (row_at i h e))

-- a held node's tree is that of its number
pub node-tree : (word : ℕ → List Pair) (held : List Held) → IsIndex held → (i : ℕ) (h : Held) →
    slice_get held i ≡ Some h →
    tree_of_node word h.node.value ≡ tree_at word (map row_of held) i
node-tree word held p i h e = node-tree-below word held p.ids p.shared p.rows.before (suc i) i h (omega arith) e
