-- One node more.
use Rattle.std.proofs.Common.{◌≡◌, ◌∙◌, ◌+◌, ◌++◌, ◌∷◌, [], false, refl, ap, sym, take, map, slice_index_or, nat_eq}
use Rattle.std.proofs.Common.{ℕ, List}
use Rattle.std.proofs.lemmas.List.{map-append, take_more}
use Rattle.lists.proofs.Members.{map-map}
use Rattle.indexmap.specs.IndexSet.{insert_key}
use Rattle.requests.specs.Numbered.{live_at}
use Rattle.requests.specs.Plans.{ids_of, planned_at, PlannedNode}
use Rattle.requests.specs.PlanView.{node_of}
use Rattle.requests.specs.Reached.{met_at}
use Rattle.requests.proofs.PlanLaws.{next-new}
use Rattle.requests.proofs.plan.plan_of.Goals as goal

pub loop-p-preserved : goal.loop-p-preserved
loop-p-preserved c =
    let rs = c.args.table.now.requests in
    let met = c.args.nodes.now.keys in
    let order = c.args.order.now in
    let k = c.loop-p.p-index in
    let p : ℕ = slice_index_or order k 0 in
    let done : List ℕ = take k order in
    let at = planned_at rs met c.args.places.now c.args.turns.now in
    let more : take (k + 1) order ≡ done ++ p ∷ [] = take_more order k 0 c.loop-p-test.true in
    let now : PlannedNode = record {
      id = c.met-id.result.0;
      live = c.in_ok-copied.field-0.items;
      place = slice_index_or c.args.places.now p false;
      turn = slice_index_or c.args.turns.now p false;
    } in
    let new : now ≡ at p = λ i. record {
      id = c.met-id.ensures i;
      live = (c.in_ok-copied.ensures ∙ c.live.ensures ∙ ap (live_at rs) c.met-id.ensures) i;
      place = slice_index_or c.args.places.now p false;
      turn = slice_index_or c.args.turns.now p false;
    } in
    record {
      ids = c.in_ok-insert.ensures.keys ∙ ap (insert_key nat_eq c.loop-p.ids.keys) c.met-id.ensures ∙
          next-new (met_at met) order c.loop-p.ids.keys k c.requires.distinct c.loop-p-test.true c.loop-p.invariant.ids ∙
          ap (λ l. l ++ met_at met p ∷ []) c.loop-p.invariant.ids ∙ sym (map-append (met_at met) done (p ∷ [])) ∙ ap (map (met_at met)) (sym more);
      nodes = ap (map node_of) c.in_ok-push.ensures.items ∙ map-append node_of c.loop-p.planned.items _ ∙
          (λ i. c.loop-p.invariant.nodes i ++ new i ∷ []) ∙ sym (map-append at done (p ∷ [])) ∙ ap (map at) (sym more);
    }

pub invariant_of-result : goal.invariant_of-result
invariant_of-result c =
    let met = c.args.nodes.now.keys in
    let at = planned_at c.args.table.now.requests met c.args.places.now c.args.turns.now in
    let done : List ℕ = take c.loop-p.p-index c.args.order.now in
    c.loop-p.invariant.ids ∙ sym (map-map at (λ (p : PlannedNode). p.id) (met_at met) done (λ p m. refl)) ∙
    ap ids_of (sym c.loop-p.invariant.nodes)
