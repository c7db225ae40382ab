-- Part by part, as the derivation goes on.
use Rattle.std.proofs.Common.{rules, ◌≡◌, ◌<◌, ◌+◌, ◌-◌, ◌*◌, refl, sym, ◌∙◌}
use Rattle.std.proofs.Common.{ap, subst, arith, map, [], ◌∷◌, ◌++◌, IfOk, IfErr}
use Rattle.std.proofs.lemmas.List.{map-append}
use Rattle.std.specs.Prelude.{take, drop}
use Rattle.lists.proofs.Places.{map-place, split-at, take-at, take-map-all}
use Rattle.expansion_laws.specs.Plain.{shown_use}
use Rattle.expansion_laws.specs.SlowRewriting.{act_of, shown_request}
use Rattle.expansion_laws.specs.SlowParts.{context, seen_use, step_by, part_of_all, part_of_act, Gives, Refuses}
use Rattle.expansion_laws.proofs.PartLemmas.{gives-less, use-too-big, use-word, use-refused, use-given}
use Rattle.expansion_laws.proofs.PartLemmas.{match-remaining, match-act, remaining-refused, remaining-given}
use Rattle.expansion_laws.proofs.PartLemmas.{act-later, act-refused, act-given, none-given, more-given, more-refused}
use Rattle.expansion_laws.proofs.rewriting.+rewrite.Goals as goal

-- ---- a use
pub rewrite_use-returns-then-left-eq0-clause-refused : goal.rewrite_use-returns-then-left-eq0-clause-refused
rewrite_use-returns-then-left-eq0-clause-refused t c =
    use-too-big (step_by c.args.rules.now) (context c.args.here.now) (seen_use c.args.one.now) c.args.left
    c.if-left-eq0.true

pub rewrite_use-returns-in_err-tested-clause-refused : goal.rewrite_use-returns-in_err-tested-clause-refused
rewrite_use-returns-in_err-tested-clause-refused t c =
    let due = use-word (step_by c.args.rules.now) (context c.args.here.now) (seen_use c.args.one.now) c.args.left
    c.if-left-eq0.false c.in_err-tested.field-0.0 c.in_err-tested.ensures.refused in
    search rules

pub rewrite_use-rewrite_matched-requires : goal.rewrite_use-rewrite_matched-requires
rewrite_use-rewrite_matched-requires t c =
    let measure : 5 * c.args.left ≡ t = c.decreases in
    let ne = c.if-left-eq0.false in
    let falls : 5 * (c.args.left - 1) + 4 < t = omega (arith, measure, ne) in
    (falls, λ i. record { turn = c.compose.ensures i; word = c.in_ok-tested.ensures.ok i })

pub rewrite_use-returns-in_err-matched-clause-refused : goal.rewrite_use-returns-in_err-matched-clause-refused
rewrite_use-returns-in_err-matched-clause-refused t c =
    let due = use-refused (step_by c.args.rules.now) (context c.args.here.now) (seen_use c.args.one.now) c.args.left
    c.if-left-eq0.false c.in_err-matched.field-0.0 c.in_ok-tested.ensures.within c.in_err-matched.ensures.refused in
    search rules

pub rewrite_use-returns-clause-ok : goal.rewrite_use-returns-clause-ok
rewrite_use-returns-clause-ok t c =
    use-given (step_by c.args.rules.now) (context c.args.here.now) (seen_use c.args.one.now) c.args.left
    c.if-left-eq0.false (map shown_use c.in_ok-matched.matched.results.items) c.in_ok-matched.matched.left
    c.in_ok-tested.ensures.within c.in_ok-matched.ensures.ok

-- ---- by its match
pub rewrite_matched-go_through-requires : goal.rewrite_matched-go_through-requires
rewrite_matched-go_through-requires t c =
    let measure : 5 * c.args.left + 4 ≡ t = c.decreases in
    let falls : 5 * c.args.left + 3 < t = omega (arith, measure) in
    (falls, tt)

pub rewrite_matched-replace-requires : goal.rewrite_matched-replace-requires
rewrite_matched-replace-requires t c =
    let measure : 5 * c.args.left + 4 ≡ t = c.decreases in
    let falls : 5 * c.args.left + 3 < t = omega (arith, measure) in
    (falls, tt)

pub rewrite_matched-returns-in-None-clause-ok : goal.rewrite_matched-returns-in-None-clause-ok
rewrite_matched-returns-in-None-clause-ok t c =
    subst (λ p. IfOk c.go_through.result (λ r. Gives p c.args.left (map shown_use r.results.items) r.left))
    (sym (match-remaining (step_by c.args.rules.now) (context c.args.here.now) (context c.args.inside.now)
    (seen_use c.args.one.now) c.requires (sym c.in-None.ensures))) c.go_through.ensures.ok

pub rewrite_matched-returns-in-None-clause-refused : goal.rewrite_matched-returns-in-None-clause-refused
rewrite_matched-returns-in-None-clause-refused t c =
    subst (λ p. IfErr c.go_through.result (λ fault. Refuses p c.args.left fault))
    (sym (match-remaining (step_by c.args.rules.now) (context c.args.here.now) (context c.args.inside.now)
    (seen_use c.args.one.now) c.requires (sym c.in-None.ensures))) c.go_through.ensures.refused

pub rewrite_matched-returns-in-Some-target-clause-ok : goal.rewrite_matched-returns-in-Some-target-clause-ok
rewrite_matched-returns-in-Some-target-clause-ok t c =
    subst (λ p. IfOk c.replace.result (λ r. Gives p c.args.left (map shown_use r.results.items) r.left))
    (sym (match-act (step_by c.args.rules.now) (context c.args.here.now) (context c.args.inside.now)
    (seen_use c.args.one.now) c.requires (shown_request c.in-Some.request.now) (sym c.in-Some.ensures)
    ∙
    ap
    (λ a. part_of_act (step_by c.args.rules.now) (context c.args.here.now) (seen_use c.args.one.now)
    c.in-Some.request.now.place (act_of a)) c.in-Some-target.is)) c.replace.ensures.ok

pub rewrite_matched-returns-in-Some-target-clause-refused : goal.rewrite_matched-returns-in-Some-target-clause-refused
rewrite_matched-returns-in-Some-target-clause-refused t c =
    subst (λ p. IfErr c.replace.result (λ fault. Refuses p c.args.left fault))
    (sym (match-act (step_by c.args.rules.now) (context c.args.here.now) (context c.args.inside.now)
    (seen_use c.args.one.now) c.requires (shown_request c.in-Some.request.now) (sym c.in-Some.ensures)
    ∙
    ap
    (λ a. part_of_act (step_by c.args.rules.now) (context c.args.here.now) (seen_use c.args.one.now)
    c.in-Some.request.now.place (act_of a)) c.in-Some-target.is)) c.replace.ensures.refused

-- ---- a use that stays
pub go_through-rewrite_each-requires : goal.go_through-rewrite_each-requires
go_through-rewrite_each-requires t c =
    let measure : 5 * c.args.left + 3 ≡ t = c.decreases in
    let falls : 5 * c.args.left + 2 < t = omega (arith, measure) in
    (falls, tt)

pub go_through-returns-in_err-below-clause-refused : goal.go_through-returns-in_err-below-clause-refused
go_through-returns-in_err-below-clause-refused t c =
    let due = remaining-refused (step_by c.args.rules.now) (context c.args.inside.now) (seen_use c.args.one.now)
    (map seen_use c.as_slice.result.now) c.args.left c.in_err-below.field-0.0
    (ap (map seen_use) c.as_slice.ensures.value ∙ c.in-Ok.ensures) c.in_err-below.ensures.refused in
    search rules

pub go_through-returns-in-Ok-remaining-clause-ok : goal.go_through-returns-in-Ok-remaining-clause-ok
go_through-returns-in-Ok-remaining-clause-ok t c =
    remaining-given (step_by c.args.rules.now) (context c.args.inside.now) (seen_use c.args.one.now)
    (map seen_use c.as_slice.result.now) c.args.left (map shown_use c.in_ok-below.below.results.items)
    (map shown_use c.in-Ok-remaining.results.items) c.in_ok-below.below.left
    (ap (map seen_use) c.as_slice.ensures.value ∙ c.in-Ok.ensures) c.in-Ok-remaining.ensures c.in_ok-below.ensures.ok

-- ---- a replace
pub replace-returns-in_err-next-clause-refused : goal.replace-returns-in_err-next-clause-refused
replace-returns-in_err-next-clause-refused t c =
    let due = act-later (step_by c.args.rules.now) (context c.args.here.now) (seen_use c.args.one.now) c.args.place.now
    (shown_use c.args.by.now) (seen_use c.in_ok-new.new) c.in_ok-new.ensures.ok c.args.left c.in_ok-new.ensures.within
    c.in_err-next.field-0.0 c.in_err-next.ensures.refused in
    search rules

pub replace-rewrite_each-requires : goal.replace-rewrite_each-requires
replace-rewrite_each-requires t c =
    let measure : 5 * c.args.left + 3 ≡ t = c.decreases in
    let falls : 5 * c.args.left + 2 < t = omega (arith, measure) in
    (falls, tt)

pub replace-returns-in_err-rewritten-clause-refused : goal.replace-returns-in_err-rewritten-clause-refused
replace-returns-in_err-rewritten-clause-refused t c =
    let due = act-refused (step_by c.args.rules.now) (context c.args.here.now) (seen_use c.args.one.now)
    c.args.place.now (shown_use c.args.by.now) (seen_use c.in_ok-new.new) c.in_ok-new.ensures.ok c.args.left
    c.in_ok-new.ensures.within c.in_ok-next.ensures.within
    (map seen_use c.as_slice.result.now) (ap (map seen_use) c.as_slice.ensures.value ∙ c.in_ok-next.ensures.ok)
    c.in_err-rewritten.field-0.0 c.in_err-rewritten.ensures.refused in
    search rules

pub replace-returns-clause-ok : goal.replace-returns-clause-ok
replace-returns-clause-ok t c =
    act-given (step_by c.args.rules.now) (context c.args.here.now) (seen_use c.args.one.now) c.args.place.now
    (shown_use c.args.by.now) (seen_use c.in_ok-new.new) c.in_ok-new.ensures.ok c.args.left c.in_ok-new.ensures.within
    c.in_ok-next.ensures.within
    (map seen_use c.as_slice.result.now) (ap (map seen_use) c.as_slice.ensures.value ∙ c.in_ok-next.ensures.ok)
    (map shown_use c.in_ok-rewritten.rewritten.results.items) c.in_ok-rewritten.rewritten.left
    c.in_ok-rewritten.ensures.ok

-- ---- uses one after another
pub rewrite_each-loop-i-init : goal.rewrite_each-loop-i-init
rewrite_each-loop-i-init t c =
    none-given (step_by c.args.rules.now) (context c.args.here.now) c.args.left
    (map shown_use c.new-results.result.items) (sym (ap (map shown_use) c.new-results.ensures.items))

pub rewrite_each-rewrite_use-requires : goal.rewrite_each-rewrite_use-requires
rewrite_each-rewrite_use-requires t c =
    let measure : 5 * c.args.left + 2 ≡ t = c.decreases in
    let less =
    gives-less (part_of_all (step_by c.args.rules.now) (context c.args.here.now)
    (take c.loop-i.i (map seen_use c.args.uses.now))) c.args.left (map shown_use c.loop-i.results.items)
    c.loop-i.rest c.loop-i.invariant in
    let falls : 5 * c.loop-i.rest < t = omega (arith, measure, less) in
    (falls, tt)

pub rewrite_each-returns-in_err-part-clause-refused : goal.rewrite_each-returns-in_err-part-clause-refused
rewrite_each-returns-in_err-part-clause-refused t c =
    let refused = more-refused (step_by c.args.rules.now) (context c.args.here.now)
    (take c.loop-i.i (map seen_use c.args.uses.now)) (seen_use c.index-uses-i.result) c.args.left
    (map shown_use c.loop-i.results.items) c.loop-i.rest c.loop-i.invariant
    (drop (c.loop-i.i + 1) (map seen_use c.args.uses.now)) c.in_err-part.field-0.0 c.in_err-part.ensures.refused in
    let due : Refuses (part_of_all (step_by c.args.rules.now) (context c.args.here.now) (map seen_use c.args.uses.now))
    c.args.left c.in_err-part.field-0.0 =
    subst
    (λ us. Refuses (part_of_all (step_by c.args.rules.now) (context c.args.here.now) us) c.args.left
    c.in_err-part.field-0.0)
    (sym (split-at (map seen_use c.args.uses.now) c.loop-i.i (seen_use c.index-uses-i.result)
    (map-place seen_use c.args.uses.now c.loop-i.i c.index-uses-i.result c.loop-i-test.true c.index-uses-i.is)))
    refused in
    search rules

pub rewrite_each-loop-i-preserved : goal.rewrite_each-loop-i-preserved
rewrite_each-loop-i-preserved t c =
    let ok = c.if-is_err.ensures.negation in
    let joined : c.append.new.self.items ≡ c.loop-i.results.items ++ c.in_ok-part.part.results.items =
    c.append.ensures.items ∙ rw ok refl in
    let made : map shown_use c.append.new.self.items ≡
    map shown_use c.loop-i.results.items ++ map shown_use c.in_ok-part.part.results.items =
    ap (map shown_use) joined ∙ map-append shown_use c.loop-i.results.items c.in_ok-part.part.results.items in
    let given = more-given (step_by c.args.rules.now) (context c.args.here.now)
    (take c.loop-i.i (map seen_use c.args.uses.now)) (seen_use c.index-uses-i.result) c.args.left
    (map shown_use c.loop-i.results.items) c.loop-i.rest c.loop-i.invariant
    (map shown_use c.in_ok-part.part.results.items) c.in_ok-part.part.left c.in_ok-part.ensures.ok in
    subst
    (λ us. Gives (part_of_all (step_by c.args.rules.now) (context c.args.here.now) us) c.args.left
    (map shown_use c.append.new.self.items) c.in_ok-part.part.left)
    (sym (take-at (map seen_use c.args.uses.now) c.loop-i.i (seen_use c.index-uses-i.result)
    (map-place seen_use c.args.uses.now c.loop-i.i c.index-uses-i.result c.loop-i-test.true c.index-uses-i.is)))
    (subst
    (λ rs.
    Gives (part_of_all (step_by c.args.rules.now) (context c.args.here.now)
    (take c.loop-i.i (map seen_use c.args.uses.now) ++ seen_use c.index-uses-i.result ∷ [])) c.args.left rs
    c.in_ok-part.part.left) (sym made) given)

pub rewrite_each-returns-clause-ok : goal.rewrite_each-returns-clause-ok
rewrite_each-returns-clause-ok t c =
    subst
    (λ us. Gives (part_of_all (step_by c.args.rules.now) (context c.args.here.now) us) c.args.left
    (map shown_use c.loop-i.results.items) c.loop-i.rest)
    (take-map-all seen_use c.args.uses.now c.loop-i.i c.loop-i-test.false) c.loop-i.invariant
