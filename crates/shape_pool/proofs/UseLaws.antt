-- The numbers that uses name.
use Rattle.std.proofs.Common.{◌≡◌, ◌<◌, ℕ, List, map, All, subst, slice_get, Some}
use Rattle.lists.proofs.Entries.{slice_get-mapped, All-place}
use Rattle.shape_pool.specs.declared.node.UseOf.{UseOf}
use Rattle.shape_pool.specs.declared.node.NodeUse.{NodeUse}
use Rattle.shape_pool.specs.Nodes.{by_number, node_id, used_node}
use Rattle.shape_pool.specs.Rows.{Row, uses_at}
use Rattle.shape_pool.specs.Laws.{ids_used}

pub named : (rows : List Row) (i at : ℕ) (ns : List NodeUse) (u : NodeUse) → map by_number ns ≡ uses_at rows i → slice_get ns at ≡ Some u →
    slice_get (ids_used rows i) at ≡ Some (node_id (used_node u))
named rows i at ns u e h =
    subst (λ (l : List UseOf). slice_get (map (λ (v : UseOf). v.id.0) l) at ≡ Some (node_id (used_node u))) e
    (slice_get-mapped (λ (v : UseOf). v.id.0) (map by_number ns) at (by_number u) (slice_get-mapped by_number ns at u h))

pub named-below : (rows : List Row) (i at : ℕ) (ns : List NodeUse) (u : NodeUse) → map by_number ns ≡ uses_at rows i → slice_get ns at ≡ Some u →
    All (λ (v : UseOf). v.id.0 < i) (uses_at rows i) → node_id (used_node u) < i
named-below rows i at ns u e h all =
    All-place (λ (v : UseOf). v.id.0 < i) (uses_at rows i) at (by_number u) all
    (subst (λ (l : List UseOf). slice_get l at ≡ Some (by_number u)) e (slice_get-mapped by_number ns at u h))
