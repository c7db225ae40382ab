-- One visit more.
use Rattle.std.proofs.Common.{arith, ◌≡◌, ◌≤◌, ◌<◌, ◌++◌, ◌∷◌, [], ◌∙◌, ℕ, refl, sym}
use Rattle.std.proofs.Common.{ap, subst, List, All, length, slice_get, Some, Contains}
use Rattle.std.proofs.lemmas.List.{length-append, take_all}
use Rattle.std.proofs.lemmas.List.Elements.{All-weaker}
use Rattle.std.proofs.lemmas.Option.{slice_get-get_or, slice_get_within}
use Rattle.std.proofs.lemmas.Result.{err_from_is_err_and}
use Rattle.lists.specs.Sameness.{is_empty}
use Rattle.lists.proofs.Entries.{All-place}
use Rattle.lists.proofs.Places.{Contains-at}
use Rattle.key_results.specs.declared.derive.Link.{Link}
use Rattle.key_results.specs.declared.derive.Visit.{Visit}
use Rattle.key_results.specs.declared.parts.Outgrowth.{Outgrowth}
use Rattle.key_results.specs.declared.parts.Part.{Part}
use Rattle.key_results.specs.Faults.{IsDueAmong}
use Rattle.key_results.specs.Derivations.{results_of, IsPlacedVisit}
use Rattle.key_results.specs.Parts.{own_at, joined_parts, has_own, words_of, IsHeldPart}
use Rattle.key_results.specs.Parts.{AreHeldParts, AreOfOwn, AreOutgrowths, ArePartsOfOwn}
use Rattle.key_results.proofs.LinkTurns.{mover-wider}
use Rattle.key_results.proofs.WordLaws.{reads-old, grows-on, grows-none}
use Rattle.key_results.proofs.PartTurns.{outgrowths-next, held-next, visit-grows, due-visit}
use Rattle.key_results.proofs.OwnerLaws.{owners-next}
use Rattle.key_results.proofs.parts.outgrowths_of.Goals as goal

pub loop-visit-preserved : goal.loop-visit-preserved
loop-visit-preserved c =
    let i = c.loop-visit.visit-index in
    let visits = c.args.visits.now in
    let v = c.visit-item.result in
    let lt = c.loop-visit-test.true in
    let le : i ≤ length visits = omega (arith, lt) in
    let at : slice_get visits i ≡ Some v = slice_get-get_or visits i v lt ∙ ap Some (sym c.visit-item.is) in
    let ok = c.if-is_err.ensures.negation in
    let o : Outgrowth = record { own = c.is_own-own.result; parts = c.in_ok-parts.parts } in
    let pushed : c.push.new.self.items ≡ c.loop-visit.outgrowths.items ++ o ∷ [] = c.push.ensures.items ∙ rw ok refl in
    let own : o.own ≡ has_own v.outcome c.args.prune (is_empty v.links.items) (is_empty o.parts.items) =
    c.is_own-own.ensures ∙
    ap (λ (ps : List Part). has_own v.outcome c.args.prune (is_empty v.links.items) (is_empty ps))
    c.as_slice-in-loop-visit.ensures.value in (
      λ word tree r.
          let R = results_of word tree c.args.prune visits in
          let old = reads-old c.loop-visit.words c.joined.new.words word c.in_ok-parts.ensures.grows r in
          let before = c.loop-visit.invariant.0 word tree old in
          outgrowths-next word R c.args.prune visits i v c.loop-visit.outgrowths.items c.push.new.self.items o le at
          pushed before
          (visit-grows word tree c.args.prune visits c.requires.linked i v c.loop-visit.outgrowths.items o le at before
          (c.in_ok-parts.ensures.joined word (own_at R) r ∙
          ap (λ (e : List Outgrowth). joined_parts word (own_at R) v.mover e v.links.items) c.as_slice.ensures.value)
          own),
      held-next (length c.loop-visit.words) (length c.joined.new.words) c.loop-visit.outgrowths.items
          c.push.new.self.items o pushed c.in_ok-parts.ensures.grows.grows
          c.loop-visit.invariant.1
          (subst
          (λ (e : List Outgrowth). All (IsHeldPart (length e) (length c.joined.new.words)) c.in_ok-parts.parts.items)
          c.as_slice.ensures.value c.in_ok-parts.ensures.held),
      grows-on c.args.words.now c.loop-visit.words c.joined.new.words c.loop-visit.invariant.2
          c.in_ok-parts.ensures.grows,
      owners-next c.loop-visit.outgrowths.items c.push.new.self.items o pushed c.loop-visit.invariant.3
          (subst (λ (e : List Outgrowth). ArePartsOfOwn e c.in_ok-parts.parts.items) c.as_slice.ensures.value
          c.in_ok-parts.ensures.own),
      (let a = ap length pushed in let b = length-append c.loop-visit.outgrowths.items (o ∷ []) in
          let d = c.loop-visit.invariant.4 in
          omega (arith, a, b, d)),
    )

pub joined-requires-clause-mover : goal.joined-requires-clause-mover
joined-requires-clause-mover c =
    let v = c.visit-item.result in
    let at : slice_get c.args.visits.now c.loop-visit.visit-index ≡ Some v =
    slice_get-get_or c.args.visits.now c.loop-visit.visit-index v c.loop-visit-test.true ∙
    ap Some (sym c.visit-item.is) in
    let placed = All-place (IsPlacedVisit (length c.args.words.now)) c.args.visits.now c.loop-visit.visit-index v
    c.requires.placed at in
    mover-wider (length c.args.words.now) (length c.loop-visit.words) v.mover c.loop-visit.invariant.2.grows placed.0

pub joined-requires-clause-places : goal.joined-requires-clause-places
joined-requires-clause-places c =
    let v = c.visit-item.result in
    let at : slice_get c.args.visits.now c.loop-visit.visit-index ≡ Some v =
    slice_get-get_or c.args.visits.now c.loop-visit.visit-index v c.loop-visit-test.true ∙
    ap Some (sym c.visit-item.is) in
    let placed = All-place (IsPlacedVisit (length c.args.words.now)) c.args.visits.now c.loop-visit.visit-index v
    c.requires.placed at in
    let le = c.loop-visit.invariant.2.grows in
    All-weaker (λ (l : Link). l.place.0 < length c.args.words.now) (λ (l : Link). l.place.0 < length c.loop-visit.words)
    (λ l h. omega (arith, h, le)) v.links.items placed.1

pub joined-requires-clause-linked : goal.joined-requires-clause-linked
joined-requires-clause-linked c =
    let v = c.visit-item.result in
    let at : slice_get c.args.visits.now c.loop-visit.visit-index ≡ Some v =
    slice_get-get_or c.args.visits.now c.loop-visit.visit-index v c.loop-visit-test.true ∙
    ap Some (sym c.visit-item.is) in
    subst (λ (n : ℕ). All (λ (l : Link). l.key < n) v.links.items)
    (sym (ap length c.as_slice.ensures.value ∙ c.loop-visit.invariant.4))
    (c.requires.linked c.loop-visit.visit-index v at)

pub joined-requires-clause-held : goal.joined-requires-clause-held
joined-requires-clause-held c =
    subst (AreHeldParts (length c.loop-visit.words)) (sym c.as_slice.ensures.value) c.loop-visit.invariant.1

pub joined-requires-clause-own : goal.joined-requires-clause-own
joined-requires-clause-own c = subst AreOfOwn (sym c.as_slice.ensures.value) c.loop-visit.invariant.3

pub loop-visit-init : goal.loop-visit-init
loop-visit-init c =
    let n = ap length c.new-outgrowths.ensures.items in (
      λ word tree r. record {
        long = n;
        each =
            λ k v o a b. let lt = slice_get_within c.new-outgrowths.result.items k o b in absurd (omega (arith, lt, n));
      },
      λ k o b. let lt = slice_get_within c.new-outgrowths.result.items k o b in absurd (omega (arith, lt, n)),
      grows-none c.args.words.now c.len.ensures.table,
      λ k d lt. absurd (omega (arith, lt, n)),
      n,
    )

pub returns-in_err-parts-clause-refused : goal.returns-in_err-parts-clause-refused
returns-in_err-parts-clause-refused c =
    let i = c.loop-visit.visit-index in
    let visits = c.args.visits.now in
    let v = c.visit-item.result in
    let lt = c.loop-visit-test.true in
    let at : slice_get visits i ≡ Some v = slice_get-get_or visits i v lt ∙ ap Some (sym c.visit-item.is) in
    let p = err_from_is_err_and c.from_residual.result c.from_residual.ensures.1 in
    rw (p.1, p.2) (λ word tree r.
    let R = results_of word tree c.args.prune visits in
    due-visit word tree c.args.prune visits c.requires.linked i v c.loop-visit.outgrowths.items c.in_err-parts.field-0.0
    (omega (arith, lt)) at
    (Contains-at visits i v at)
    (c.loop-visit.invariant.0 word tree (reads-old c.loop-visit.words c.joined.new.words word
    c.in_err-parts.ensures.grows r))
    (subst
    (λ (e : List Outgrowth). IsDueAmong (Contains (words_of (joined_parts word (own_at R) v.mover e v.links.items)))
    c.in_err-parts.field-0.0)
    c.as_slice.ensures.value (c.in_err-parts.ensures.refused word (own_at R) r)))

pub returns-in_err-parts-clause-grows : goal.returns-in_err-parts-clause-grows
returns-in_err-parts-clause-grows c =
    grows-on c.args.words.now c.loop-visit.words c.joined.new.words c.loop-visit.invariant.2
    c.in_err-parts.ensures.grows

pub returns-then-is_err-clause-grows : goal.returns-then-is_err-clause-grows
returns-then-is_err-clause-grows c =
    grows-on c.args.words.now c.loop-visit.words c.joined.new.words c.loop-visit.invariant.2 c.in_ok-parts.ensures.grows

pub returns-clause-outgrowths : goal.returns-clause-outgrowths
returns-clause-outgrowths c = λ word tree r.
    subst
    (λ (vs : List Visit). AreOutgrowths word (results_of word tree c.args.prune c.args.visits.now) c.args.prune vs
    c.loop-visit.outgrowths.items)
    (take_all c.loop-visit.visit-index c.args.visits.now c.loop-visit-test.false) (c.loop-visit.invariant.0 word tree r)
