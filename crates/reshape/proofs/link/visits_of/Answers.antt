-- One visit more.
use Rattle.std.proofs.Common.{arith, ◌≡◌, ◌<◌, ◌∷◌, [], ℕ, All, Contains, List, length, sym, ap, subst, slice_get, Some}
use Rattle.std.proofs.lemmas.List.{length-append}
use Rattle.std.proofs.lemmas.List.Elements.{All-nil, All-weaker}
use Rattle.lists.proofs.Entries.{All-place}
use Rattle.lists.proofs.Errors.{IfErr-on}
use Rattle.shape_pool.specs.declared.node.NodeId.{NodeId}
use Rattle.requests.specs.Plans.{ids_of}
use Rattle.key_results.specs.declared.derive.Visit.{Visit}
use Rattle.key_results.specs.declared.key.Key.{Key}
use Rattle.key_results.specs.Derivations.{IsPlacedVisit}
use Rattle.key_results.specs.Memos.{IsHeldKey}
use Rattle.reshape.proofs.TableLaws.{grows-none, grows-on}
use Rattle.reshape.proofs.StepLaws.{has-table, older, wider}
use Rattle.reshape.proofs.LinkLaws.{keys-wider, visits-next, visit-placed-more}
use Rattle.reshape.proofs.NoteLaws.{All-push}
use Rattle.reshape.proofs.UseLaws.{wider-places}
use Rattle.reshape.proofs.link.visits_of.Goals as goal

no-visit : (k : ℕ) (v : Visit) (l : List Visit) → l ≡ [] → slice_get l k ≡ Some v → ⊥
no-visit k v [] n e = absurd cc
no-visit k v (w ∷ l) n e = absurd cc

pub loop-i-init : goal.loop-i-init
loop-i-init c = record {
  grows = grows-none c.args.words.now c.len.ensures.table;
  long = ap (λ (l : List Visit). length l) c.new-visits.ensures.items;
  each = λ root s word it up k from v f g.
      absurd (no-visit k v c.new-visits.result.items c.new-visits.ensures.items g);
  held =
      subst (λ (l : List Visit). All (λ (w : Visit). w.id.0 < length c.args.pool.now) l)
      (sym c.new-visits.ensures.items)
      (All-nil (λ (w : Visit). w.id.0 < length c.args.pool.now));
  placed = subst (λ (l : List Visit). All (IsPlacedVisit (length c.args.words.now)) l) (sym c.new-visits.ensures.items)
      (All-nil (IsPlacedVisit (length c.args.words.now)));
}

pub place_in-at-requires : goal.place_in-at-requires
place_in-at-requires c =
    All-place (λ (k : Key). Contains (ids_of c.args.plan.now.nodes) k.id.0) c.args.keys.now.keys c.loop-i.i
    c.key_in-key.result c.requires.planned c.key_in-key.ensures

pub visit_of-requires-clause-table : goal.visit_of-requires-clause-table
visit_of-requires-clause-table c =
    has-table c.args.pool.now (length c.args.words.now) (length c.loop-i.words) c.args.plan.now
    c.loop-i.invariant.grows.grows c.requires.table

pub visit_of-requires-clause-places : goal.visit_of-requires-clause-places
visit_of-requires-clause-places c =
    wider-places c.args.pool.now (length c.args.words.now) (length c.loop-i.words) c.loop-i.invariant.grows.grows
    c.requires.places

pub visit_of-requires-clause-held : goal.visit_of-requires-clause-held
visit_of-requires-clause-held c =
    keys-wider c.args.pool.now (length c.args.words.now) (length c.loop-i.words) c.args.keys.now.keys
    c.loop-i.invariant.grows.grows c.requires.held

pub visit_of-requires-clause-once : goal.visit_of-requires-clause-once
visit_of-requires-clause-once c = c.requires.once

pub visit_of-requires-clause-at : goal.visit_of-requires-clause-at
visit_of-requires-clause-at c = c.place_in-at.ensures

pub visit_of-requires-clause-key : goal.visit_of-requires-clause-key
visit_of-requires-clause-key c =
    let h = All-place (IsHeldKey c.args.pool.now (length c.args.words.now)) c.args.keys.now.keys c.loop-i.i
    c.key_in-key.result c.requires.held c.key_in-key.ensures in
    let b = c.loop-i.invariant.grows.grows in
    (h.0, (let x = h.1 in omega (arith, x, b)))

pub returns-in_err-visit-clause-refused : goal.returns-in_err-visit-clause-refused
returns-in_err-visit-clause-refused c =
    let rows = c.args.pool.now in
    let n = length c.args.words.now in
    let plan = c.args.plan.now in
    let mid = c.loop-i.words in
    let new = c.visit_of.new.words in
    IfErr-on c.from_residual.result c.in_err-visit.field-0.0 _ c.from_residual.ensures.1
    (λ root s word it up. c.in_err-visit.ensures.refused root s word
    (wider rows n (length mid) root plan new s word c.loop-i.invariant.grows.grows it)
    c.loop-i.i (up c.loop-i.i c.key_in-key.result c.key_in-key.ensures))

pub returns-in_err-visit-clause-grows : goal.returns-in_err-visit-clause-grows
returns-in_err-visit-clause-grows c =
    grows-on c.args.words.now c.loop-i.words c.visit_of.new.words c.loop-i.invariant.grows c.in_err-visit.ensures.grows

pub returns-in_err-push_visit-clause-refused : goal.returns-in_err-push_visit-clause-refused
returns-in_err-push_visit-clause-refused c =
    IfErr-on c.from_residual-in_err-push_visit.result c.in_err-push_visit.field-0.0 _
    c.from_residual-in_err-push_visit.ensures.1
    (λ root s word it up. c.in_err-push_visit.ensures.refused)

pub returns-in_err-push_visit-clause-grows : goal.returns-in_err-push_visit-clause-grows
returns-in_err-push_visit-clause-grows c =
    grows-on c.args.words.now c.loop-i.words c.visit_of.new.words c.loop-i.invariant.grows c.in_ok-visit.ensures.grows

pub loop-i-preserved : goal.loop-i-preserved
loop-i-preserved c =
    let rows = c.args.pool.now in
    let n = length c.args.words.now in
    let plan = c.args.plan.now in
    let keys = c.args.keys.now.keys in
    let mid = c.loop-i.words in
    let new = c.visit_of.new.words in
    let grows = c.in_ok-visit.ensures.grows in
    let v = c.in_ok-visit.visit in
    let pushed = c.in_ok-push_visit.ensures.ok in
    let held = All-place (IsHeldKey rows n) keys c.loop-i.i c.key_in-key.result c.requires.held c.key_in-key.ensures in
    record {
      grows = grows-on c.args.words.now mid new c.loop-i.invariant.grows grows;
      long =
          (let p = ap (λ (l : List Visit). length l) pushed in let q = length-append c.loop-i.visits.items (v ∷ []) in
          let h = c.loop-i.invariant.long in
          omega (arith, p, q, h));
      each = λ root s word it up.
          visits-next rows s word keys c.loop-i.i c.key_in-key.result c.loop-i.visits.items
          c.push_visit.new.visits.items v c.loop-i.invariant.long
          c.key_in-key.ensures pushed
          (c.in_ok-visit.ensures.visit root s word (wider rows n (length mid) root plan new s word
          c.loop-i.invariant.grows.grows it) c.loop-i.i
          (up c.loop-i.i c.key_in-key.result c.key_in-key.ensures))
          (c.loop-i.invariant.each root s word (older rows n root plan mid new s word grows it) up);
      held = subst (λ (l : List Visit). All (λ (w : Visit). w.id.0 < length rows) l) (sym pushed)
          (All-push (λ (w : Visit). w.id.0 < length rows) c.loop-i.visits.items v c.loop-i.invariant.held
          (subst (λ (i : NodeId). i.0 < length rows) (sym c.in_ok-visit.ensures.id) held.0));
      placed = subst (λ (l : List Visit). All (IsPlacedVisit (length new)) l) (sym pushed)
          (All-push (IsPlacedVisit (length new)) c.loop-i.visits.items v
          (All-weaker (IsPlacedVisit (length mid)) (IsPlacedVisit (length new))
          (visit-placed-more (length mid) (length new) grows.grows) c.loop-i.visits.items c.loop-i.invariant.placed)
          c.in_ok-visit.ensures.placed);
    }

pub returns-clause-derivation : goal.returns-clause-derivation
returns-clause-derivation c = λ root s word it up. record {
  long =
      (let h = c.loop-i.invariant.long in let a = c.len-i-end.ensures in let b = c.loop-i-test.false in
      let d = c.loop-i.auto.i-end in omega (arith, h, a, b, d));
  each = c.loop-i.invariant.each root s word it up;
}

pub returns-clause-long : goal.returns-clause-long
returns-clause-long c =
    let h = c.loop-i.invariant.long in let a = c.len-i-end.ensures in let b = c.loop-i-test.false in
    let d = c.loop-i.auto.i-end in omega (arith, h, a, b, d)

pub returns-clause-held : goal.returns-clause-held
returns-clause-held c = c.loop-i.invariant.held

pub returns-clause-placed : goal.returns-clause-placed
returns-clause-placed c = c.loop-i.invariant.placed

pub returns-clause-grows : goal.returns-clause-grows
returns-clause-grows c = c.loop-i.invariant.grows
