-- The keys that a plan tells of.
use Rattle.std.proofs.Common.{◌≡◌, ◌≤◌, ◌∙◌, ◌↔◌, ℕ, Bool, true, List, length}
use Rattle.std.proofs.Common.{refl, sym, ap, subst, slice_get, Some, None}
use Rattle.std.specs.Prelude.{IsTrue, if◌then◌else◌}
use Rattle.std.specs.Option.{option_map}
use Rattle.lists.proofs.Entries.{All-place}
use Rattle.orientation.specs.Turns.{composed}
use Rattle.location_words.specs.declared.pair.Pair.{Pair}
use Rattle.location_words.specs.declared.table.WordId.{WordId}
use Rattle.location_words.specs.declared.fault.WordFault.{WordFault}
use Rattle.location_words.specs.Faults.{fault_of, IsDueFault}
use Rattle.location_words.specs.Pairs.{mul}
use Rattle.location_words.specs.Tables.{IsTable}
use Rattle.expansion_laws.specs.Contexts.{Context}
use Rattle.expansion_laws.specs.Steps.{Step}
use Rattle.expansion_laws.specs.Keys.{IsKey, ReachesPlace, ReachesTurn, key, Key as TreeKey}
use Rattle.shape_pool.specs.declared.node.NodeId.{NodeId}
use Rattle.shape_pool.specs.declared.node.UseOf.{UseOf}
use Rattle.shape_pool.specs.Rows.{Row, tree_at, HasPlaces}
use Rattle.requests.specs.Plans.{StepPlan, PlannedNode, ids_of}
use Rattle.key_results.specs.declared.key.Key.{Key}
use Rattle.key_results.specs.declared.words.Mover.{Mover}
use Rattle.key_results.specs.Memos.{key_by, place_here, turn_here}
use Rattle.key_results.specs.Words.{moved_word}
use Rattle.reshape.specs.Readings.{IsStepOf}
use Rattle.reshape.specs.Collecting.{IsKeyFrom, IsDueFrom}
use Rattle.reshape.proofs.StepLaws.{planned}
use Rattle.reshape.proofs.FindLaws.{node-at}

module _ (rows : List Row) (n root : ℕ) (plan : StepPlan) (table : List (List Pair)) (s : Step) (word : ℕ → List Pair)
    (it : IsStepOf rows n root plan table s word) (is_table : IsTable table) (le : n ≤ length table)
    (places : HasPlaces rows n) where
  -- what the plan tells of a node makes the key of its visits
  pub held-key : (at id : ℕ) (p : PlannedNode) (here : Context) (k : TreeKey) → slice_get plan.nodes at ≡ Some p →
      p.id ≡ id →
      k ≡ key p.place p.turn (tree_at word rows id) here → IsKey s (tree_at word rows id) here k
  held-key at id p here k e same is =
      let P = planned rows n root plan table s word it is_table le places in
      let place : IsTrue p.place ↔ ReachesPlace s (tree_at word rows p.id) =
      All-place (λ (q : PlannedNode). IsTrue q.place ↔ ReachesPlace s (tree_at word rows q.id)) plan.nodes at p P.place
      e in
      let turn : IsTrue p.turn ↔ ReachesTurn s (tree_at word rows p.id) =
      All-place (λ (q : PlannedNode). IsTrue q.turn ↔ ReachesTurn s (tree_at word rows q.id)) plan.nodes at p P.turn
      e in (
        p.place,
        p.turn,
        subst (λ (i : ℕ). IsTrue p.place ↔ ReachesPlace s (tree_at word rows i)) same place,
        subst (λ (i : ℕ). IsTrue p.turn ↔ ReachesTurn s (tree_at word rows i)) same turn,
        is,
      )

  -- by the turn and the word that it holds
  pub key-by-parts : (at : ℕ) (k : Key) (here : Context) → slice_get (ids_of plan.nodes) at ≡ Some k.id.0 →
      ((p : PlannedNode) → slice_get plan.nodes at ≡ Some p → k.turn ≡ (if p.turn then Some here.turn else None)) →
      ((p : PlannedNode) → slice_get plan.nodes at ≡ Some p →
      option_map (λ (w : WordId). word w.0) k.word ≡ (if p.place then Some here.word else None)) →
      IsKey s (tree_at word rows k.id.0) here (key_by word rows k)
  key-by-parts at k here e turn held =
      let p = node-at plan.nodes at k.id.0 e in
      let same : key_by word rows k ≡ key p.0.place p.0.turn (tree_at word rows k.id.0) here =
      (λ i. record { tree = tree_at word rows k.id.0; word = held p.0 p.1 i; turn = turn p.0 p.1 i }) in
      held-key at k.id.0 p.0 here (key_by word rows k) p.1 p.2 same

  -- of a use that the visits of a key ask for
  pub key-from : (at : ℕ) (from : Key) (m : Mover) (u : UseOf) (k : Key) →
      slice_get (ids_of plan.nodes) at ≡ Some u.id.0 → k.id ≡ u.id →
      ((p : PlannedNode) → slice_get plan.nodes at ≡ Some p →
      k.turn ≡ (if p.turn then Some (composed (turn_here from) u.turn) else None)) →
      ((p : PlannedNode) → slice_get plan.nodes at ≡ Some p →
      option_map (λ (w : WordId). word w.0) k.word ≡
      (if p.place then Some (mul (word (place_here from)) (moved_word word m u.place.0)) else None)) →
      IsKeyFrom rows s word from m u (key_by word rows k)
  key-from at from m u k e id turn held =
      let here : Context = record {
        turn = composed (turn_here from) u.turn;
        word = mul (word (place_here from)) (moved_word word m u.place.0);
      } in
      let own = key-by-parts at k here (e ∙ ap (λ (i : NodeId). Some i.0) (sym id)) turn held in
      subst (λ (i : NodeId). IsKey s (tree_at word rows i.0) here (key_by word rows k)) id own

  -- and a fault that is due of its word
  pub due-from : (at : ℕ) (from : Key) (m : Mover) (u : UseOf) (fault : WordFault) →
      slice_get (ids_of plan.nodes) at ≡ Some u.id.0 →
      ((p : PlannedNode) → slice_get plan.nodes at ≡ Some p →
      (p.place ≡ true) × IsDueFault (fault_of (mul (word (place_here from)) (moved_word word m u.place.0))) fault) →
      IsDueFrom rows s word from m u fault
  due-from at from m u fault e due =
      let p = node-at plan.nodes at u.id.0 e in
      let w = mul (word (place_here from)) (moved_word word m u.place.0) in
      let here : Context = record { turn = composed (turn_here from) u.turn; word = w } in
      let d = due p.0 p.1 in (
        key p.0.place p.0.turn (tree_at word rows u.id.0) here,
        w,
        held-key at u.id.0 p.0 here (key p.0.place p.0.turn (tree_at word rows u.id.0) here) p.1 p.2 refl,
        ap (λ (b : Bool). if b then Some w else None) d.0,
        d.1,
      )
