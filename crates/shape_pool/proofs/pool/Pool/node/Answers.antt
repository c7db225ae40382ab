-- The node at a place has the row and the tree of that number.
use Rattle.std.proofs.Common.{◌≡◌, subst, ℕ, List, map, All, slice_get, Some}
use Rattle.std.specs.Option.{option_map}
use Rattle.std.specs.declared.alloc.Global.{Global}
use Rattle.std.specs.declared.rc.Rc.{Rc}
use Rattle.location_words.specs.declared.pair.Pair.{Pair}
use Rattle.shape_pool.specs.declared.held.Held.{Held}
use Rattle.shape_pool.specs.declared.node.Node.{Node}
use Rattle.shape_pool.specs.declared.node.NodeUse.{NodeUse}
use Rattle.shape_pool.specs.Nodes.{by_number, node_id, node_uses, tree_of_node, used_node}
use Rattle.shape_pool.specs.Rows.{tree_at, uses_at}
use Rattle.shape_pool.proofs.HeldOfLaws.{node-says}
use Rattle.shape_pool.proofs.HandingLaws.{node-uses-at, node-tree-at, node-shared}
use Rattle.shape_pool.proofs.pool.Pool.node.Goals as goal

pub returns-clause-uses : goal.returns-clause-uses
returns-clause-uses c =
    node-says c.self.inside.stock c.args.id.0 c.node.result.now
    (subst (λ (hs : List Held). option_map (λ (h : Held). h.node) (slice_get hs c.args.id.0) ≡ Some c.node.result.now)
    c.held.ensures c.node.ensures)
    (λ (n : Rc Node Global). map by_number (node_uses n.value) ≡ uses_at c.args.self.now c.args.id.0)
    (λ h at. node-uses-at c.self.inside.stock c.args.self.now c.self.view_is c.self.invariant c.args.id.0 h at)

pub returns-clause-tree : goal.returns-clause-tree
returns-clause-tree c =
    node-says c.self.inside.stock c.args.id.0 c.node.result.now
    (subst (λ (hs : List Held). option_map (λ (h : Held). h.node) (slice_get hs c.args.id.0) ≡ Some c.node.result.now)
    c.held.ensures c.node.ensures)
    (λ (n : Rc Node Global). (word : ℕ → List Pair) →
    tree_of_node word n.value ≡ tree_at word c.args.self.now c.args.id.0)
    (λ h at. node-tree-at c.self.inside.stock c.args.self.now c.self.view_is c.self.invariant c.args.id.0 h at)

pub returns-clause-shared : goal.returns-clause-shared
returns-clause-shared c =
    node-says c.self.inside.stock c.args.id.0 c.node.result.now
    (subst (λ (hs : List Held). option_map (λ (h : Held). h.node) (slice_get hs c.args.id.0) ≡ Some c.node.result.now)
    c.held.ensures c.node.ensures)
    (λ (n : Rc Node Global).
    All (λ (u : NodeUse). (word : ℕ → List Pair) →
    tree_of_node word (used_node u) ≡ tree_at word c.args.self.now (node_id (used_node u))) (node_uses n.value))
    (λ h at. node-shared c.self.inside.stock c.args.self.now c.self.view_is c.self.invariant c.args.id.0 h at)
