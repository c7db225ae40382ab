-- The pairs that a step answers, by what comes of its keys.
use Rattle.std.specs.Prelude.{◌≡◌, ◌≢◌, ◌⊎◌, ℕ, Bool, true, List, Contains, Some, slice_get}
use Rattle.graph_walks.specs.Walks.{Reaches}
use Rattle.shape_pool.specs.declared.node.NodeId.{NodeId}
use Rattle.shape_pool.specs.Rows.{Row}
use Rattle.shape_pool.specs.Laws.{ids_used}
use Rattle.key_results.specs.declared.derive.Outcome.TheVariants.{Stays, Joined}
use Rattle.key_results.specs.declared.derive.Visit.{Visit}
use Rattle.key_results.specs.declared.parts.Part.{Part}
use Rattle.key_results.specs.declared.parts.Outgrowth.{Outgrowth}

-- a node of a result of a key: its own, or that of a part
abbrev pub IsNodeOf : List NodeId → ℕ → Outgrowth → NodeId → Type 0
IsNodeOf nodes k o n =
    ((o.own ≡ true) × (slice_get nodes k ≡ Some n)) ⊎
    ((o.own ≢ true) × ((p : Part) × Contains o.parts.items p × (slice_get nodes p.of ≡ Some n)))

-- a pair of the node of a visit and one of a result, of each visit or of one alone that a request meets
abbrev pub IsPairHere : Visit → ℕ → Outgrowth → List NodeId → Bool → NodeId × NodeId → Type 0
IsPairHere v k o nodes all p = ((all ≡ true) ⊎ (v.outcome ≡ Joined)) × (p.0 ≡ v.id) × IsNodeOf nodes k o p.1

-- and so of some visit
abbrev pub IsPairOf : List Visit → List Outgrowth → List NodeId → Bool → NodeId × NodeId → Type 0
IsPairOf visits outgrowths nodes all p =
    (k : ℕ) × (v : Visit) × (o : Outgrowth) × (slice_get visits k ≡ Some v) × (slice_get outgrowths k ≡ Some o) ×
    IsPairHere v k o nodes all p

-- a number is that of a use of a visit that stops
abbrev pub IsUsedByStopped : List Row → List Visit → ℕ → Type 0
IsUsedByStopped rows visits u =
    (v : Visit) × Contains visits v × (v.outcome ≡ Stays) × Contains (ids_used rows v.id.0) u

-- a number stands properly below that of a visit that stops
abbrev pub IsUnseen : List Row → List Visit → ℕ → Type 0
IsUnseen rows visits i = (u : ℕ) × IsUsedByStopped rows visits u × Reaches (ids_used rows) u i

-- a number is marked
abbrev pub IsMarked : List Bool → ℕ → Type 0
IsMarked marks i = slice_get marks i ≡ Some true
