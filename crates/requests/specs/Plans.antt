-- What a check answers: a plan of the step, the first cycle of its graph, or its rank.
use Rattle.std.specs.Prelude.{◌≡◌, ◌↔◌, ℕ, ◌<◌, ◌≤◌, Bool, is_some, IsTrue, List, All, Contains, length, map, reverse}
use Rattle.std.specs.List.{list_any}
use Rattle.orientation.specs.declared.kind.Kind.{Kind}
use Rattle.orientation.specs.declared.rule.Rule.{Rule}
use Rattle.location_words.specs.declared.pair.Pair.{Pair}
use Rattle.graph_walks.specs.Graph.{ends_of}
use Rattle.graph_walks.specs.Marks.{is_marked, ReachesMarked}
use Rattle.graph_walks.specs.Walks.{IsFinishOrder}
use Rattle.expansion_laws.specs.Trees.{Tree, origin}
use Rattle.expansion_laws.specs.Steps.{Step}
use Rattle.expansion_laws.specs.Graph.{edges, Reaches, HasCycle, IsRank, IsFirstCycle}
use Rattle.expansion_laws.specs.Keys.{ReachesPlace, ReachesTurn}
use Rattle.shape_pool.specs.Rows.{Row, tree_at}
use Rattle.requests.specs.declared.asking.Part.{Part}
use Rattle.requests.specs.declared.asking.Part.TheVariants.{Place, Turn}
use Rattle.requests.specs.declared.request.Request.{Request}
use Rattle.requests.specs.declared.fault.CheckFault.{CheckFault}
use Rattle.requests.specs.declared.fault.CheckFault.TheVariants.{Cycle, Rank, NoMemory}
use Rattle.requests.specs.Numbered.{Table, live_at}
use Rattle.requests.specs.Readings.{IsReading, step_by}
use Rattle.requests.specs.Reached.{met_at}

-- the greatest rank of a step that is carried out
abbrev pub most_rank : ℕ
most_rank = 1024

-- whether a request has a place, or a turn, and whether one of several has
abbrev pub has_part : Part → Request → Bool
has_part Place r = is_some r.place
has_part Turn r = is_some r.turn

abbrev pub asks : Part → List Request → Bool
asks part rs = list_any (has_part part) rs

-- a node of a plan: its number, its live requests, and whether the graph reaches from it, itself included, a node with
-- a live request that has a place, and one that has a turn
pub record PlannedNode : Type 0 where
  pub id : ℕ
  pub live : List Request
  pub place : Bool
  pub turn : Bool

-- a plan: its nodes, each after all that it reaches, and the rule of its step
pub record StepPlan : Type 0 where
  pub nodes : List PlannedNode
  pub rule : Rule

abbrev pub a_plan : List PlannedNode → Rule → StepPlan
a_plan nodes rule = record { nodes = nodes; rule = rule }

abbrev pub ids_of : List PlannedNode → List ℕ
ids_of nodes = map (λ p. p.id) nodes

-- a fact of the step and the trees for which a table and the numbers stand, in each reading
abbrev pub InReadings : List Row → Table → (Step → (ℕ → Tree) → Type 0) → Type 0
InReadings rows t P =
    (kind : ℕ → Kind) (word : ℕ → List Pair) (n : ℕ) → IsReading rows t.requests kind word n →
    P (step_by word rows kind t) (tree_at word rows)

-- The nodes are those that the graph reaches from the root, each once and after all that it reaches, and what is told
-- of their reach is so.
pub record ArePlanned (nodes : List PlannedNode) (root : ℕ) (s : Step) (tree : ℕ → Tree) : Type 0 where
  pub finishes : IsFinishOrder (edges s) (reverse (map tree (ids_of nodes)))
  pub reached : (x : Tree) → Contains (map tree (ids_of nodes)) x ↔ Reaches s (tree root) x
  pub place : All (λ (p : PlannedNode). IsTrue p.place ↔ ReachesPlace s (tree p.id)) nodes
  pub turn : All (λ (p : PlannedNode). IsTrue p.turn ↔ ReachesTurn s (tree p.id)) nodes

-- the graph has no cycle that the root reaches, and a rank that isn't past the limit
pub record IsWithinRank (root : ℕ) (s : Step) (tree : ℕ → Tree) : Type 0 where
  pub no_cycle : HasCycle s (tree root) → ⊥
  pub rank : (n : ℕ) × IsRank s (tree root) n × (n ≤ most_rank)

-- a plan of the step of a table from a root
pub record IsPlan (rows : List Row) (t : Table) (root : ℕ) (plan : StepPlan) : Type 0 where
  pub within : InReadings rows t (IsWithinRank root)
  pub planned : InReadings rows t (ArePlanned plan.nodes root)
  pub held : All (λ (p : PlannedNode). p.id < length rows) plan.nodes
  pub live : All (λ (p : PlannedNode). p.live ≡ live_at t.requests p.id) plan.nodes
  pub rule_is : plan.rule ≡ t.rule

-- the first cycle by origins, and a rank that is past the limit where there is no cycle
abbrev pub IsCycleBy : List ℕ → ℕ → Step → (ℕ → Tree) → Type 0
IsCycleBy walk root s tree = (trees : List Tree) × IsFirstCycle s (tree root) trees × (walk ≡ map origin trees)

abbrev pub IsRankPast : ℕ → ℕ → Step → (ℕ → Tree) → Type 0
IsRankPast n root s tree = (HasCycle s (tree root) → ⊥) × IsRank s (tree root) n × (most_rank < n)

-- why a step isn't carried out
abbrev pub IsDueFault : List Row → Table → ℕ → CheckFault → Type 0
IsDueFault rows t root (Cycle walk) = InReadings rows t (IsCycleBy walk root)
IsDueFault rows t root (Rank n) = InReadings rows t (IsRankPast n root)
IsDueFault rows t root NoMemory = Unit {0}

-- ---- While it is planned, over places
-- what is planned of the node at a place
abbrev pub planned_at : List Request → List ℕ → List Bool → List Bool → ℕ → PlannedNode
planned_at rs met places turns p = record {
  id = met_at met p;
  live = live_at rs (met_at met p);
  place = is_marked places p;
  turn = is_marked turns p;
}

-- for each node that was met, whether its live requests ask for a part
abbrev pub asked : Part → List Request → List ℕ → List Bool
asked part rs met = map (λ i. asks part (live_at rs i)) met

-- marks tell from which places of an order the graph reaches one that asks for a part
abbrev pub TellReach : List Bool → List (List ℕ) → List ℕ → List Bool → Type 0
TellReach own graph order marks =
    (p : ℕ) → Contains order p → IsTrue (is_marked marks p) ↔ ReachesMarked (ends_of graph) own p

-- a plan by such marks
pub record IsPlannedBy (t : Table) (met : List ℕ) (graph : List (List ℕ)) (order : List ℕ) (plan : StepPlan) :
    Type 0 where
  pub places : List Bool
  pub turns : List Bool
  pub by_marks : plan ≡ a_plan (map (planned_at t.requests met places turns) order) t.rule
  pub reach_place : TellReach (asked Place t.requests met) graph order places
  pub reach_turn : TellReach (asked Turn t.requests met) graph order turns
