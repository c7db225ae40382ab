-- What a plan finds of the visits of a key.
use Rattle.std.proofs.Common.{◌≡◌, ◌≤◌, ◌<◌, ◌∙◌, ℕ, Bool, List, [], ◌∷◌, Contains, length}
use Rattle.std.proofs.Common.{arith, sym, ap, subst, slice_get, Option, Some, None, inl, inr}
use Rattle.std.specs.Prelude.{◌⊎◌, filter, if◌then◌else◌}
use Rattle.std.specs.List.{last_or, list_any}
use Rattle.std.specs.Option.{option_map}
use Rattle.std.proofs.lemmas.List.{length-map}
use Rattle.std.proofs.lemmas.List.Elements.{All-contains}
use Rattle.std.proofs.lemmas.Option.{same_Some, slice_get_within}
use Rattle.lists.proofs.Cases.{by_test}
use Rattle.lists.proofs.Entries.{All-place, slice_get-mapped}
use Rattle.lists.proofs.Members.{Contains-here, Contains-there}
use Rattle.lists.proofs.Places.{at_place, same_entry}
use Rattle.lists.proofs.Tests.{Contains-filter_cases}
use Rattle.orientation.specs.declared.turn.Turn.{Turn}
use Rattle.location_words.specs.declared.pair.Pair.{Pair}
use Rattle.location_words.specs.Tables.{IsTable}
use Rattle.expansion_laws.specs.Requests.{match_of}
use Rattle.expansion_laws.specs.Steps.{Step}
use Rattle.shape_pool.specs.Rows.{Row, tree_at, HasPlaces}
use Rattle.requests.specs.declared.request.Request.{Request}
use Rattle.requests.specs.Plans.{StepPlan, PlannedNode, ids_of}
use Rattle.requests.specs.Numbered.{Table, is_plain, is_for, from_last_plain, live_at}
use Rattle.requests.specs.Numbered.{match_at, last_allowed, allows_at, IsHeldIn, ActIsHeldIn}
use Rattle.requests.specs.Readings.{request_by, StandsForStep}
use Rattle.key_results.specs.declared.key.Key.{Key}
use Rattle.key_results.specs.Memos.{context_by, place_here, turn_here}
use Rattle.reshape.specs.Readings.{ActIsPlaced, IsPlaced, HasTable, IsStepOf}
use Rattle.reshape.proofs.StepLaws.{reading}

-- ---- the node at a place
pub node-at : (nodes : List PlannedNode) (at id : ℕ) → slice_get (ids_of nodes) at ≡ Some id →
    (p : PlannedNode) × (slice_get nodes at ≡ Some p) × (p.id ≡ id)
node-at nodes at id e =
    let within : at < length (ids_of nodes) = slice_get_within (ids_of nodes) at id e in
    let long : length (ids_of nodes) ≡ length nodes = length-map nodes (λ (p : PlannedNode). p.id) in
    let p = at_place nodes at (omega (arith, within, long)) in
    (p.0, p.1, same_entry (slice_get-mapped (λ (p : PlannedNode). p.id) nodes at p.0 p.1) e)

pub node-within : (nodes : List PlannedNode) (at id : ℕ) → slice_get (ids_of nodes) at ≡ Some id → at < length nodes
node-within nodes at id e = let p = node-at nodes at id e in slice_get_within nodes at p.0 p.1

-- ---- what is live was given
last-plain : (rs : List Request) (r : Request) → Contains (from_last_plain rs) r → Contains rs r
last-plain [] r m = m
last-plain (x ∷ rs) r m = by_test (list_any is_plain rs)
    (λ f.
    Contains-there x r rs
    (last-plain rs r (subst (λ (b : Bool). Contains (if b then from_last_plain rs else x ∷ rs) r) f m)))
    (λ f. subst (λ (b : Bool). Contains (if b then from_last_plain rs else x ∷ rs) r) f m)

live-given : (rs : List Request) (i : ℕ) (r : Request) → Contains (live_at rs i) r → Contains rs r
live-given rs i r m = (Contains-filter_cases (is_for i) rs r (last-plain (filter (is_for i) rs) r m)).0

last-among : (o : Option Request) (rs : List Request) (r : Request) → last_or o rs ≡ Some r →
    (o ≡ Some r) ⊎ Contains rs r
last-among o [] r e = inl e
last-among o (x ∷ rs) r e = elim (last-among (Some x) rs r e) [
  | inl same ↦ inr (subst (Contains (x ∷ rs)) (same_Some x r same) (Contains-here x rs))
  | inr m ↦ inr (Contains-there x r rs m)
]

allowed-among : (rs : List Request) (t : Turn) (w : ℕ) (r : Request) → last_allowed rs t w ≡ Some r → Contains rs r
allowed-among rs t w r e = elim (last-among None (filter (allows_at t w) rs) r e) [
  | inl wrong ↦ absurd cc
  | inr m ↦ (Contains-filter_cases (allows_at t w) rs r m).0
]

-- what is found was given, so that it names held nodes and words
module _ (rows : List Row) (n : ℕ) (plan : StepPlan) (has : HasTable rows n plan) (at id : ℕ)
    (e : slice_get (ids_of plan.nodes) at ≡ Some id)
    (turn : Turn) (w : ℕ) (r : Request) (found : (p : PlannedNode) → slice_get plan.nodes at ≡ Some p →
    Some r ≡ last_allowed p.live turn w) where
  was-given : Contains has.1.requests r
  was-given =
      let p = node-at plan.nodes at id e in
      let live : p.0.live ≡ live_at has.1.requests p.0.id =
      All-place (λ (q : PlannedNode). q.live ≡ live_at has.1.requests q.id) plan.nodes at p.0 has.2.planned.live p.1 in
      live-given has.1.requests p.0.id r (subst (λ (rs : List Request). Contains rs r) live
      (allowed-among p.0.live turn w r (sym (found p.0 p.1))))

  pub found-held : ActIsHeldIn rows r.act
  found-held = (All-contains (IsHeldIn rows) has.1.requests r has.2.held was-given).1

  pub found-placed : ActIsPlaced n r.act
  found-placed = (All-contains (IsPlaced n) has.1.requests r has.2.placed was-given).1

-- ---- what is found is the match
pub match-found : (rows : List Row) (n root : ℕ) (plan : StepPlan) (table : List (List Pair)) (s : Step)
    (word : ℕ → List Pair) →
    IsStepOf rows n root plan table s word → IsTable table → n ≤ length table → HasPlaces rows n →
    ((t : Table) → StandsForStep rows t) →
    (at : ℕ) (key : Key) (turn : Turn) (w : ℕ) (found : Option Request) →
    slice_get (ids_of plan.nodes) at ≡ Some key.id.0 → key.id.0 < length rows →
    place_here key < n → turn ≡ turn_here key → w ≡ place_here key →
    ((p : PlannedNode) (given : List Request) → slice_get plan.nodes at ≡ Some p → p.live ≡ live_at given p.id →
    found ≡ match_at given p.id turn w) →
    match_of s.requests (tree_at word rows key.id.0) (context_by word key) ≡ option_map (request_by word rows) found
match-found rows n root plan table s word it is_table le places stands at key turn w found e held below et ew matched =
    let given = it.given.requests in
    let p = node-at plan.nodes at key.id.0 e in
    let live : p.0.live ≡ live_at given p.0.id =
    All-place (λ (q : PlannedNode). q.live ≡ live_at given q.id) plan.nodes at p.0 it.carried.planned.live p.1 in
    let f : found ≡ match_at given p.0.id turn w = matched p.0 given p.1 live in
    let m = (stands it.given).match it.kind word n key.id.0 (place_here key) (turn_here key)
    (reading rows n root plan table s word it is_table le places)
    it.carried.held held below in
    ap (λ (z : Step). match_of z.requests (tree_at word rows key.id.0) (context_by word key)) it.is ∙ m ∙
    ap (option_map (request_by word rows)) (sym (f ∙ (λ i. match_at given (p.2 i) (et i) (ew i))))
