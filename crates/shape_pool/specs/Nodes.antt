-- Shared nodes: their fields, their trees, and when two uses are one.
use Rattle.std.specs.Prelude.{◌≡◌, ℕ, Bool, nat_eq, List, [], ◌++◌}
use Rattle.std.specs.Ordering.{eq_of_both, on}
use Rattle.std.specs.Cmp.Lexicographic.{pointwise}
use Rattle.std.specs.Hash as fed
use Rattle.orientation.specs.declared.kind.Kind.{Kind}
use Rattle.orientation.specs.Turns.{sign_of}
use Rattle.location_words.specs.declared.pair.Pair.{Pair}
use Rattle.expansion_laws.specs.Trees.{Tree, Use, a_single, tree_of}
use Rattle.shape_pool.specs.declared.node.UseOf.{UseOf}
use Rattle.shape_pool.specs.declared.node.Node.{Node, Node-F, fold-Node, out-Node}
use Rattle.shape_pool.specs.declared.node.NodeUse.{NodeUse, NodeUse-F, out-NodeUse}

-- the fields of a node and of a use
abbrev pub node_origin : Node → ℕ
node_origin n = (out-Node n).origin

abbrev pub node_kind : Node → Kind
node_kind n = (out-Node n).kind

abbrev pub node_id : Node → ℕ
node_id n = (out-Node n).id.0

abbrev pub node_uses : Node → List NodeUse
node_uses n = (out-Node n).uses.items

-- the node that a use names
abbrev pub used_node : NodeUse → Node
used_node u = (out-NodeUse u).node.value

-- a use by the number of its node
abbrev pub by_number : NodeUse → UseOf
by_number u = record { turn = (out-NodeUse u).turn; place = (out-NodeUse u).place; id = (out-Node (used_node u)).id }

module _ (word : ℕ → List Pair) where
  -- one level: a node over its uses, and a use of the tree that its node stands for, under the word of its number
  abbrev pub tree_step : Node-F Tree Use → Tree
  tree_step n = tree_of n.origin n.uses.items

  abbrev pub use_step : NodeUse-F Tree Use → Use
  use_step u = a_single u.turn (word u.place.0) u.node.value

  -- the tree that a node stands for
  abbrev pub tree_of_node : Node → Tree
  tree_of_node = fold-Node Tree Use tree_step use_step

-- the second node has the number, the kind and the origin of the first, and no uses
pub record IsBareCopy (a b : Node) : Type 0 where
  pub id : node_id b ≡ node_id a
  pub kind : node_kind b ≡ node_kind a
  pub origin : node_origin b ≡ node_origin a
  pub uses : node_uses b ≡ []

-- whether two uses are one, their nodes told by number
abbrev pub use_eq : NodeUse → NodeUse → Bool
use_eq =
    eq_of_both (on (λ u. sign_of (out-NodeUse u).turn) nat_eq)
    (eq_of_both (on (λ u. (out-NodeUse u).place.0) nat_eq) (on (λ u. node_id (used_node u)) nat_eq))

-- whether two nodes have one origin and the same uses
abbrev pub node_eq : Node → Node → Bool
node_eq = eq_of_both (on node_origin nat_eq) (on node_uses (pointwise use_eq))

-- what is hashed of a use
abbrev pub use_input : NodeUse → fed.HashWrites
use_input u =
    fed.u8 (sign_of (out-NodeUse u).turn) ++ fed.usize (out-NodeUse u).place.0 ++ fed.u32 (node_id (used_node u))
