-- Numbers of nodes.
use Rattle.std.proofs.Common.{◌≡◌, ap}
use Rattle.std.specs.Prelude.{ℕ}
use Rattle.shape_pool.specs.declared.node.NodeId.{NodeId}

abbrev pub id_of : ℕ → NodeId
id_of i = record { 0 = i }

pub named_by : (a b : NodeId) → a.0 ≡ b.0 → a ≡ b
named_by a b e = ap id_of e
