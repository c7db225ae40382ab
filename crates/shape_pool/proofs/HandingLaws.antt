-- Handing nodes in, and looking them up.
use Rattle.std.proofs.Common.{◌≡◌, ◌≤◌, ◌<◌, ◌≢◌, ℕ, suc, List, map, length, All, arith, sym, ◌∙◌}
use Rattle.std.proofs.Common.{ap, subst, refl, slice_get, slice_index_or, Some}
use Rattle.std.specs.Option.{option_map}
use Rattle.std.proofs.lemmas.List.{length-map}
use Rattle.std.proofs.lemmas.Option.{slice_get-map}
use Rattle.orientation.specs.declared.kind.Kind.{Kind}
use Rattle.location_words.specs.declared.pair.Pair.{Pair}
use Rattle.shape_pool.specs.declared.node.UseOf.{UseOf}
use Rattle.shape_pool.specs.declared.node.NodeUse.{NodeUse}
use Rattle.shape_pool.specs.declared.held.Held.{Held}
use Rattle.shape_pool.specs.declared.node.Node.{Node}
use Rattle.shape_pool.specs.declared.fault.PoolFault.{PoolFault}
use Rattle.shape_pool.specs.declared.fault.PoolFault.TheVariants.{TooMany, TooDeep, NoMemory}
use Rattle.shape_pool.specs.Nodes.{by_number, node_id, node_uses, tree_of_node, used_node}
use Rattle.shape_pool.specs.Rows.{Row, depth_over, greatest, tree_at, uses_at, AllHeld, most_depth, most_nodes}
use Rattle.shape_pool.specs.Calls.{IsHeldAs, IsRefused}
use Rattle.shape_pool.specs.Held.{row_of, rows_of, stored_depth, HasAlike, HasNone, IsIndex, IsNext, IsOver, IsTooDeep}
use Rattle.lists.proofs.Places.{at_place}
use Rattle.shape_pool.proofs.RowLaws.{uses-entry}
use Rattle.shape_pool.proofs.HeldLaws.{node-tree}
use Rattle.shape_pool.proofs.IndexLaws.{found-as, missing-as, greatest-rows}

module _ (held : List Held) (us : List UseOf) (all : AllHeld (rows_of held) us) where
  pub uses-within : All (λ (u : UseOf). u.id.0 < length held) us
  uses-within = λ i d lt. let b = all i d lt in let l = length-map held row_of in omega (arith, b, l)

  module _ (p : IsIndex held) (o : ℕ) where
    depth-rows : suc (greatest (stored_depth held) us) ≡ depth_over (rows_of held) us
    depth-rows = greatest-rows held p us uses-within

    pub refused-deep : (f : PoolFault) → IsTooDeep (suc (greatest (stored_depth held) us)) f →
        IsRefused (rows_of held) o us f
    refused-deep (TooMany n) t = absurd t
    refused-deep (TooDeep n) t = (subst (λ d. most_depth < d) depth-rows t.0, t.1 ∙ depth-rows)
    refused-deep NoMemory t = t

    module _ (k : Kind) (h : Held) (over : IsOver held k o us h) where
      pub within : depth_over (rows_of held) us ≤ most_depth
      within = subst (λ d. d ≤ most_depth) (over.depth ∙ depth-rows) over.shallow

      pub refused-many : (f : PoolFault) → ((n : ℕ) → f ≡ TooMany n →
          HasNone held h.node.value × (length held ≡ most_nodes) × (n ≡ suc most_nodes)) →
          ((n : ℕ) → f ≢ TooDeep n) → IsRefused (rows_of held) o us f
      refused-many (TooMany n) many deep =
          let m = many n refl in
          (within, missing-as held k o us h.node.value over.next m.0, length-map held row_of ∙ m.1, m.2)
      refused-many (TooDeep n) many deep = absurd (deep n refl)
      refused-many NoMemory many deep = tt

-- ---- a held list and the rows that it is seen as
module _ (held : List Held) (rows : List Row) (v : rows_of held ≡ rows) where
  pub few-held : length rows ≡ length held
  few-held = ap length (sym v) ∙ length-map held row_of

  -- what a look-up of a node finds
  module _ (k : Kind) (o : ℕ) (us : List UseOf) (n : Node) (next : IsNext held k o us n) where
    pub found-node : (i : ℕ) → HasAlike held n i → IsHeldAs rows o us i
    found-node i a = subst (λ rs. IsHeldAs rs o us i) v (found-as held k o us n next i a)

    pub missing-node : HasNone held n → (i : ℕ) → IsHeldAs rows o us i → ⊥
    missing-node none = subst (λ rs. (i : ℕ) → IsHeldAs rs o us i → ⊥) v (missing-as held k o us n next none)

  -- the held node at a number
  pub held-entry : (i : ℕ) → i < length rows → (h : Held) × (slice_get held i ≡ Some h)
  held-entry i lt = at_place held i (let l = few-held in omega (arith, l, lt))

  -- what a node says
  module _ (p : IsIndex held) (i : ℕ) (h : Held) (e : slice_get held i ≡ Some h) where
    pub node-row : slice_get rows i ≡ Some (row_of h)
    node-row = ap (λ rs. slice_get rs i) (sym v) ∙ slice_get-map row_of held i ∙ ap (option_map row_of) e

    pub node-uses-at : map by_number (node_uses h.node.value) ≡ uses_at rows i
    node-uses-at = sym (uses-entry rows i node-row)

    pub node-tree-at : (word : ℕ → List Pair) → tree_of_node word h.node.value ≡ tree_at word rows i
    node-tree-at word = node-tree word held p i h e ∙ ap (λ rs. tree_at word rs i) v

    pub node-shared : All (λ (u : NodeUse). (word : ℕ → List Pair) →
        tree_of_node word (used_node u) ≡ tree_at word rows (node_id (used_node u))) (node_uses h.node.value)
    node-shared = λ k d lt. let s = p.shared i h e k d lt in
        λ word. ap (tree_of_node word) s.2 ∙ node-tree word held p
        (node_id (used_node (slice_index_or (node_uses h.node.value) k d))) s.0 s.1 ∙
        ap (λ rs. tree_at word rs (node_id (used_node (slice_index_or (node_uses h.node.value) k d)))) v
