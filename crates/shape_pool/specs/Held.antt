-- Nodes as the index of a pool holds them.
use Rattle.std.specs.Prelude.{◌≡◌, ◌≢◌, ◌+◌, ℕ, suc, ◌<◌, ◌≤◌, Bool, true, false, nat_eq, List, []}
use Rattle.std.specs.Prelude.{◌∷◌, ◌++◌, ◌⊎◌, map, length, All, Option, Some, slice_get}
use Rattle.orientation.specs.declared.kind.Kind.{Kind}
use Rattle.orientation.specs.declared.kind.Kind.TheVariants.{Co}
use Rattle.shape_pool.specs.declared.node.Node.{Node}
use Rattle.std.specs.Option.{option_map_or}
use Rattle.std.specs.Ordering.{eq_of_both, on}
use Rattle.std.specs.Cmp.{IsEquivalence, and_equiv, on_equiv, nat_eq_equiv, unsigned_Decides}
use Rattle.std.specs.Cmp.Lexicographic.{pointwise, lists_equiv}
use Rattle.std.specs.Hash as fed
use Rattle.std.specs.Hash.{Alike, same_Alike, on_Alike, and-Alike, items_Alike}
use Rattle.shape_pool.specs.declared.node.NodeUse.{NodeUse, out-NodeUse}
use Rattle.shape_pool.specs.declared.held.Held.{Held}
use Rattle.shape_pool.specs.declared.held.Made.{Made}
use Rattle.std.specs.declared.alloc.Global.{Global}
use Rattle.std.specs.declared.rc.Rc.{Rc}
use Rattle.orientation.specs.Turns.{sign_of}
use Rattle.shape_pool.specs.declared.node.NodeId.{NodeId}
use Rattle.shape_pool.specs.declared.node.UseOf.{UseOf}
use Rattle.shape_pool.specs.Rows.{Row, a_row, kind_at, origin_at, AllBelow, depth_at, greatest, most_depth, most_nodes}
use Rattle.shape_pool.specs.Calls.{IsLoadedAs, IsOf}
use Rattle.shape_pool.specs.declared.fault.PoolFault.{PoolFault}
use Rattle.shape_pool.specs.declared.fault.PoolFault.TheVariants.{TooMany, TooDeep, NoMemory}
use Rattle.shape_pool.specs.Nodes.{by_number, node_eq, node_kind, node_id, node_origin}
use Rattle.shape_pool.specs.Nodes.{node_uses, used_node, use_eq, use_input}

-- whether two made nodes are one: they have one origin and one list of uses
abbrev pub made_eq : Made → Made → Bool
made_eq = eq_of_both (on (λ m. node_origin m.node.value) nat_eq) (on (λ m. node_uses m.node.value) (pointwise use_eq))

-- what is hashed of a made node
abbrev pub made_input : Made → fed.HashWrites
made_input m = fed.u32 (node_origin m.node.value) ++ fed.slice use_input (node_uses m.node.value)

-- the tests are equivalences, and what they find equal is hashed alike
pub use_equiv : IsEquivalence use_eq
use_equiv =
    and_equiv (on_equiv (λ u. sign_of (out-NodeUse u).turn) nat_eq_equiv)
    (and_equiv (on_equiv (λ u. (out-NodeUse u).place.0) nat_eq_equiv)
    (on_equiv (λ u. node_id (used_node u)) nat_eq_equiv))

pub made_equiv : IsEquivalence made_eq
made_equiv =
    and_equiv (on_equiv (λ m. node_origin m.node.value) nat_eq_equiv)
    (on_equiv (λ m. node_uses m.node.value) (lists_equiv use_equiv))

use_alike : Alike use_eq use_input
use_alike =
    and-Alike (on_Alike (λ u. sign_of (out-NodeUse u).turn) (same_Alike fed.u8 unsigned_Decides))
    (and-Alike (on_Alike (λ u. (out-NodeUse u).place.0) (same_Alike fed.usize unsigned_Decides))
    (on_Alike (λ u. node_id (used_node u)) (same_Alike fed.u32 unsigned_Decides)))

pub made_alike : Alike made_eq made_input
made_alike =
    and-Alike (on_Alike (λ m. node_origin m.node.value) (same_Alike fed.u32 unsigned_Decides))
    (on_Alike (λ m. node_uses m.node.value) (items_Alike use_alike))

-- the nodes of an origin have this kind
abbrev pub HaveKind : List Row → ℕ → Kind → Type 0
HaveKind rows o k = (j : ℕ) (q : Row) → slice_get rows j ≡ Some q → q.origin ≡ o → q.kind ≡ k

-- Each row names rows before it, of kinds below its own. No two rows have one origin and the same uses, rows of one
-- origin have one kind, which is a compound's for origin 0, and both limits are kept.
pub record IsRows (rows : List Row) : Type 0 where
  pub before : (i : ℕ) (r : Row) → slice_get rows i ≡ Some r → All (λ (u : UseOf). u.id.0 < i) r.uses
  pub below : (i : ℕ) (r : Row) → slice_get rows i ≡ Some r → AllBelow rows r.kind r.uses
  pub distinct : (i j : ℕ) (r q : Row) → slice_get rows i ≡ Some r → slice_get rows j ≡ Some q → r.origin ≡ q.origin →
      r.uses ≡ q.uses → i ≡ j
  pub kinds : (i j : ℕ) (r q : Row) → slice_get rows i ≡ Some r → slice_get rows j ≡ Some q → r.origin ≡ q.origin →
      r.kind ≡ q.kind
  pub compounds : (i : ℕ) (r : Row) → slice_get rows i ≡ Some r → r.origin ≡ 0 → r.kind ≡ Co
  pub shallow : (i : ℕ) → depth_at rows i ≤ most_depth
  pub few : length rows ≤ most_nodes

-- the row of a held node
abbrev pub row_of : Held → Row
row_of h = a_row (node_kind h.node.value) (node_origin h.node.value) (map by_number (node_uses h.node.value))

-- the stored depth at a place
abbrev pub stored_depth : List Held → ℕ → ℕ
stored_depth held i = option_map_or (λ (h : Held). h.depth) (slice_get held i) 0

-- the depth of a tree over uses, by the stored ones
abbrev pub stored_depth_over : List Held → List UseOf → ℕ
stored_depth_over held us = suc (greatest (stored_depth held) us)

-- each held node has its place as its number
abbrev pub HaveIds : List Held → Type 0
HaveIds held = (i : ℕ) (h : Held) → slice_get held i ≡ Some h → node_id h.node.value ≡ i

-- a use names a held node, and has that node itself
abbrev pub IsShared : List Held → NodeUse → Type 0
IsShared held u = (h : Held) × (slice_get held (node_id (used_node u)) ≡ Some h) × (used_node u ≡ h.node.value)

-- nodes' uses made of numbered uses
abbrev pub AreUses : List Held → List UseOf → List NodeUse → Type 0
AreUses held us made = (map by_number made ≡ us) × All (IsShared held) made

-- the rows of nodes held
abbrev pub rows_of : List Held → List Row
rows_of held = map row_of held

-- The nodes held are those of the rows: each has its place as its number, shares the nodes that its row names, and
-- stands beside its depth.
pub record IsIndex (held : List Held) : Type 0 where
  pub rows : IsRows (map row_of held)
  pub ids : HaveIds held
  pub shared : (i : ℕ) (h : Held) → slice_get held i ≡ Some h → All (IsShared held) (node_uses h.node.value)
  pub depths : (i : ℕ) → i < length held → stored_depth held i ≡ depth_at (map row_of held) i

-- nodes, each beside its depth
abbrev pub held_of : List (Rc Node Global) → List ℕ → List Held
held_of [] depths = []
held_of (n ∷ nodes) [] = []
held_of (n ∷ nodes) (d ∷ depths) = (record { node = n; depth = d }) ∷ held_of nodes depths

-- a held number whose node has a node's origin and uses, and that there is none
abbrev pub HasAlike : List Held → Node → ℕ → Type 0
HasAlike held n i = (h : Held) × (slice_get held i ≡ Some h) × (node_eq n h.node.value ≡ true)

abbrev pub HasNone : List Held → Node → Type 0
HasNone held n = (i : ℕ) (h : Held) → slice_get held i ≡ Some h → node_eq n h.node.value ≡ false

-- there is none among the nodes that their origins are loaded as
abbrev pub HasNoneLoaded : List Held → Node → Type 0
HasNoneLoaded held n = (i : ℕ) (h : Held) → slice_get held i ≡ Some h →
    IsLoadedAs (rows_of held) (node_origin h.node.value) i → node_eq n h.node.value ≡ false

-- no more nodes can be held, and there is none of the node's origin and uses: it would be one too many
abbrev pub IsOneTooMany : List Held → Node → ℕ → Type 0
IsOneTooMany held n count = HasNone held n × (length held ≡ most_nodes) × (count ≡ most_nodes + 1)

-- the entries that stand at other places are kept
abbrev pub KeepsOthers : ℕ → List NodeId → List NodeId → Type 0
KeepsOthers place old new =
    (q : ℕ) (n : NodeId) → q ≢ place → slice_get old q ≡ Some n → slice_get new q ≡ Some n

-- an origin that stands for no record, or is held
abbrev pub IsKnown : List Row → ℕ → Type 0
IsKnown rows o = (o ≡ 0) ⊎ ((i : ℕ) × IsOf rows o i)

-- The made nodes are held, in the order of their numbers, and each node held is one of them or is the loaded one of its
-- origin.
pub record IsMade (held : List Held) (made : List Made) : Type 0 where
  pub among : (j : ℕ) (m : Made) → slice_get made j ≡ Some m →
      (h : Held) × (slice_get held (node_id m.node.value) ≡ Some h) × (m.node.value ≡ h.node.value)
  pub rising : (j k : ℕ) (m n : Made) → j < k → slice_get made j ≡ Some m → slice_get made k ≡ Some n →
      node_id m.node.value < node_id n.node.value
  pub others : (i : ℕ) (h : Held) → slice_get held i ≡ Some h →
      IsLoadedAs (map row_of held) (node_origin h.node.value) i ⊎
      ((j : ℕ) × (m : Made) × (slice_get made j ≡ Some m) × (node_id m.node.value ≡ i))

-- and the number under which an origin is loaded is noted
pub record IsStock (held : List Held) (made : List Made) (loaded : ℕ → Option NodeId) : Type 0 where
  pub found : IsMade held made
  pub named : (o i : ℕ) → IsLoadedAs (map row_of held) o i → (n : NodeId) × (loaded o ≡ Some n) × (n.0 ≡ i)

-- a node of this kind and origin over these numbered uses, with the next number
pub record IsNext (held : List Held) (k : Kind) (o : ℕ) (us : List UseOf) (n : Node) : Type 0 where
  pub id : node_id n ≡ length held
  pub kind : node_kind n ≡ k
  pub origin : node_origin n ≡ o
  pub uses : AreUses held us (node_uses n)

-- where a node is handed in: it stays at the place of one that is equal, or goes last
abbrev pub HandsIn : List Held → Held → List Held → ℕ → Type 0
HandsIn old h new i =
    ((new ≡ old) × HasAlike old h.node.value i) ⊎
    (HasNone old h.node.value × (new ≡ old ++ h ∷ []) × (i ≡ length old) × (length old < most_nodes))

-- a node over held ones beside its depth, which is within the limit
pub record IsOver (held : List Held) (k : Kind) (o : ℕ) (us : List UseOf) (h : Held) : Type 0 where
  pub next : IsNext held k o us h.node.value
  pub depth : h.depth ≡ stored_depth_over held us
  pub shallow : h.depth ≤ most_depth

-- and so for a held number's kind and origin, over other uses
abbrev pub IsNextLike : List Held → ℕ → List UseOf → Node → Type 0
IsNextLike held id us n = IsNext held (kind_at (rows_of held) id) (origin_at (rows_of held) id) us n

abbrev pub IsOverLike : List Held → ℕ → List UseOf → Held → Type 0
IsOverLike held id us h = IsOver held (kind_at (rows_of held) id) (origin_at (rows_of held) id) us h

-- no node is made over uses that are too deep
abbrev pub IsTooDeep : ℕ → PoolFault → Type 0
IsTooDeep depth (TooMany n) = ⊥
IsTooDeep depth (TooDeep n) = (most_depth < depth) × (n ≡ depth)
IsTooDeep depth NoMemory = Unit {0}
