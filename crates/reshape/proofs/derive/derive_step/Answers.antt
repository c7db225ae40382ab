-- The limits one after the other, and what is derived.
use Rattle.std.proofs.Common.{arith, ◌≡◌, ◌≤◌, ◌<◌, ◌+◌, ◌-◌, ◌∙◌, ◌^◌, ℕ, List}
use Rattle.std.proofs.Common.{[], All, length, sym, ap, subst, slice_get, Some}
use Rattle.std.proofs.lemmas.List.{length-map}
use Rattle.std.proofs.lemmas.List.Elements.{All-weaker}
use Rattle.lists.proofs.Errors.{IfErr-on}
use Rattle.location_words.specs.declared.pair.Pair.{Pair}
use Rattle.orientation.specs.declared.rule.Rule.{Rule}
use Rattle.shape_pool.specs.Rows.{tree_at, use_by}
use Rattle.key_results.specs.declared.derive.Visit.{Visit}
use Rattle.key_results.specs.declared.parts.Outgrowth.{Outgrowth}
use Rattle.key_results.specs.declared.parts.Part.{Part}
use Rattle.key_results.specs.declared.weighing.Weight.{Weight}
use Rattle.key_results.specs.Derivations.{results_of, ArePlaced, AreLinked, AreVisitsHeld}
use Rattle.key_results.specs.Parts.{own_at, AreHeldParts, AreOfOwn, ArePartsOfOwn, IsHeldPart}
use Rattle.key_results.specs.Weights.{weight}
use Rattle.reshape.proofs.TableLaws.{grows-on}
use Rattle.reshape.proofs.StepLaws.{a-root-step, older, rule-is}
use Rattle.reshape.proofs.LimitLaws.{keys-due}
use Rattle.reshape.specs.Limits.{root_depth}
use Rattle.shape_pool.specs.Rows.{most_depth}
use Rattle.reshape.proofs.DeriveLaws.{told}
use Rattle.reshape.proofs.KindLaws.{in-order}
use Rattle.reshape.proofs.DeriveTurns.{IsDeepFault, depth-turn, derived-turn, joined-turn}
use Rattle.reshape.proofs.DeriveTurns.{last-place, out-turn, parts-wider, root-turn, uses-turn}
use Rattle.reshape.proofs.derive.derive_step.Goals as goal

pub returns-in_err-visits-clause-refused : goal.returns-in_err-visits-clause-refused
returns-in_err-visits-clause-refused c =
    IfErr-on c.from_residual.result c.in_err-visits.field-0.0 _ c.from_residual.ensures.1
    (λ s word it. keys-due s (use_by word (tree_at word c.args.pool.now) c.args.root) c.in_err-visits.field-0.0
    (c.in_err-visits.ensures.refused s word it))

pub weights_within-requires-clause-linked : goal.weights_within-requires-clause-linked
weights_within-requires-clause-linked c =
    subst (λ (l : List Visit). AreLinked l) (sym c.as_slice-all.ensures.value) c.in_ok-visits.ensures.linked

pub weights_within-requires-clause-held : goal.weights_within-requires-clause-held
weights_within-requires-clause-held c =
    subst (λ (l : List Visit). AreVisitsHeld c.args.pool.now l) (sym c.as_slice-all.ensures.value)
    c.in_ok-visits.ensures.held

pub outgrowths_of-requires-clause-linked : goal.outgrowths_of-requires-clause-linked
outgrowths_of-requires-clause-linked c =
    subst (λ (l : List Visit). AreLinked l) (sym c.as_slice-all.ensures.value) c.in_ok-visits.ensures.linked

pub outgrowths_of-requires-clause-placed : goal.outgrowths_of-requires-clause-placed
outgrowths_of-requires-clause-placed c =
    subst (λ (l : List Visit). ArePlaced (length c.visits_of_step.new.words) l) (sym c.as_slice-all.ensures.value)
    c.in_ok-visits.ensures.placed

pub overflow_sub-key : goal.overflow_sub-key
overflow_sub-key c =
    let some = c.in_ok-visits.ensures.some in
    let same = ap (λ (l : List Visit). length l) c.as_slice-all.ensures.value in
    omega (arith, some, same)

pub root_parts-requires-clause-key : goal.root_parts-requires-clause-key
root_parts-requires-clause-key c =
    let mid = c.outgrowths_of.new.words in
    let n = length c.args.words.now in
    let grows = grows-on c.args.words.now c.visits_of_step.new.words mid c.in_ok-visits.ensures.grows
    c.in_ok-outgrowths.ensures.grows in
    let some = a-root-step c.args.pool.now n c.args.root.id.0 c.args.plan.now mid c.laws.ensures grows.table
    c.requires.plan.0 c.requires.plan.1 in
    let out = c.in_ok-outgrowths.ensures.outgrowths some.1 (tree_at some.1 c.args.pool.now) some.2.reads.told in
    let long = out.long in
    let came = ap (λ (l : List Outgrowth). length l) c.as_slice-came.ensures.value in
    let least = c.in_ok-visits.ensures.some in
    let same = ap (λ (l : List Visit). length l) c.as_slice-all.ensures.value in
    omega (arith, long, came, least, same)

pub root_parts-requires-clause-place : goal.root_parts-requires-clause-place
root_parts-requires-clause-place c =
    let a = c.requires.place in
    let b = c.in_ok-visits.ensures.grows.grows in
    let d = c.in_ok-outgrowths.ensures.grows.grows in
    omega (arith, a, b, d)

pub root_parts-requires-clause-held : goal.root_parts-requires-clause-held
root_parts-requires-clause-held c =
    subst (λ (l : List Outgrowth). AreHeldParts (length c.outgrowths_of.new.words) l)
    (sym c.as_slice-came.ensures.value) c.in_ok-outgrowths.ensures.held

pub root_parts-requires-clause-own : goal.root_parts-requires-clause-own
root_parts-requires-clause-own c =
    subst (λ (l : List Outgrowth). AreOfOwn l) (sym c.as_slice-came.ensures.value) c.in_ok-outgrowths.ensures.own

pub within_depth-requires-clause-key : goal.within_depth-requires-clause-key
within_depth-requires-clause-key c =
    let word : ℕ → List Pair = (λ _. []) in
    let weighed = ap (λ (l : List Weight). length l) (c.in_ok-weights.ensures.weights word) in
    let a =
    length-map (results_of word (tree_at word c.args.pool.now) c.is_pruning-prune.result c.as_slice-all.result.now)
    weight in
    let b = (c.results_follow_visits.ensures word (tree_at word c.args.pool.now) c.is_pruning-prune.result).long
    c.as_slice-all.result.now in
    let least = c.in_ok-visits.ensures.some in
    let same = ap (λ (l : List Visit). length l) c.as_slice-all.ensures.value in
    omega (arith, weighed, a, b, least, same)

pub within_depth-requires-clause-deep : goal.within_depth-requires-clause-deep
within_depth-requires-clause-deep c =
    let few = c.as_slice-all.type_inv.0 in
    All-weaker (λ (v : Weight). v.depth ≤ 512 + length c.as_slice-all.result.now) (λ (v : Weight). v.depth < 2 ^ 127)
    (λ v h. omega (arith, h, few))
    c.in_ok-weights.weights.of_keys.items c.in_ok-weights.ensures.deep

pub returns-in_err-weights-clause-refused : goal.returns-in_err-weights-clause-refused
returns-in_err-weights-clause-refused c =
    let rows = c.args.pool.now in
    let n = length c.args.words.now in
    let plan = c.args.plan.now in
    let u = c.args.root in
    let new = c.visits_of_step.new.words in
    let grows = c.in_ok-visits.ensures.grows in
    IfErr-on c.from_residual-in_err-weights.result c.in_err-weights.field-0.0 _ c.from_residual-in_err-weights.ensures.1
    (λ s word it.
    let rule = c.is_pruning-prune.ensures ∙ ap (λ (r : Rule). r.prune)
    (rule-is rows n u.id.0 plan new s word it grows.table grows.grows c.requires.places) in
    uses-turn rows n plan new u s word it grows.table grows.grows c.requires.places (c.steps_have_laws.ensures s)
    c.in_ok-visits.visits.items
    (c.in_ok-visits.ensures.derived s word it) c.in_ok-visits.ensures.linked c.as_slice-all.result.now
    c.as_slice-all.ensures.value c.is_pruning-prune.result rule
    c.in_err-weights.field-0.0 (c.in_err-weights.ensures.refused word))

pub returns-in_err-weights-clause-grows : goal.returns-in_err-weights-clause-grows
returns-in_err-weights-clause-grows c = c.in_ok-visits.ensures.grows

pub returns-in_err-outgrowths-clause-refused : goal.returns-in_err-outgrowths-clause-refused
returns-in_err-outgrowths-clause-refused c =
    let rows = c.args.pool.now in
    let n = length c.args.words.now in
    let plan = c.args.plan.now in
    let u = c.args.root in
    let first = c.visits_of_step.new.words in
    let new = c.outgrowths_of.new.words in
    let grows = grows-on c.args.words.now first new c.in_ok-visits.ensures.grows c.in_err-outgrowths.ensures.grows in
    IfErr-on c.from_residual-in_err-outgrowths.result c.in_err-outgrowths.field-0.0 _
    c.from_residual-in_err-outgrowths.ensures.1
    (λ s word it.
    let rule = c.is_pruning-prune.ensures ∙ ap (λ (r : Rule). r.prune)
    (rule-is rows n u.id.0 plan new s word it grows.table grows.grows c.requires.places) in
    joined-turn rows n plan new u s word it grows.table grows.grows c.requires.places (c.steps_have_laws.ensures s)
    c.in_ok-visits.visits.items
    (c.in_ok-visits.ensures.derived s word (older rows n u.id.0 plan first new s word c.in_err-outgrowths.ensures.grows
    it)) c.in_ok-visits.ensures.linked
    c.as_slice-all.result.now c.as_slice-all.ensures.value c.is_pruning-prune.result rule
    (c.in_ok-weights.ensures.within word)
    c.in_err-outgrowths.field-0.0 (c.in_err-outgrowths.ensures.refused word (tree_at word rows) it.reads.told))

pub returns-in_err-outgrowths-clause-grows : goal.returns-in_err-outgrowths-clause-grows
returns-in_err-outgrowths-clause-grows c =
    grows-on c.args.words.now c.visits_of_step.new.words c.outgrowths_of.new.words c.in_ok-visits.ensures.grows
    c.in_err-outgrowths.ensures.grows

pub returns-in_err-parts-clause-refused : goal.returns-in_err-parts-clause-refused
returns-in_err-parts-clause-refused c =
    let rows = c.args.pool.now in
    let n = length c.args.words.now in
    let plan = c.args.plan.now in
    let u = c.args.root in
    let first = c.visits_of_step.new.words in
    let mid = c.outgrowths_of.new.words in
    let new = c.root_parts.new.words in
    let later = grows-on first mid new c.in_ok-outgrowths.ensures.grows c.in_err-parts.ensures.grows in
    let grows = grows-on c.args.words.now first new c.in_ok-visits.ensures.grows later in
    let visits = c.in_ok-visits.visits.items in
    let many = ap (λ (l : List Visit). length l) c.as_slice-all.ensures.value in
    IfErr-on c.from_residual-in_err-parts.result c.in_err-parts.field-0.0 _ c.from_residual-in_err-parts.ensures.1
    (λ s word it.
    let rule = c.is_pruning-prune.ensures ∙ ap (λ (r : Rule). r.prune)
    (rule-is rows n u.id.0 plan new s word it grows.table grows.grows c.requires.places) in
    let derived = c.in_ok-visits.ensures.derived s word (older rows n u.id.0 plan first new s word later it) in
    let at-mid = older rows n u.id.0 plan mid new s word c.in_err-parts.ensures.grows it in
    root-turn rows n plan new u s word it grows.table grows.grows c.requires.places (c.steps_have_laws.ensures s) visits
    derived c.in_ok-visits.ensures.linked
    c.as_slice-all.result.now c.as_slice-all.ensures.value c.is_pruning-prune.result rule
    c.in_ok-outgrowths.outgrowths.items
    (c.in_ok-outgrowths.ensures.outgrowths word (tree_at word rows) at-mid.reads.told)
    (c.outgrowths_give_results.ensures word (tree_at word rows) s.rule.prune visits c.in_ok-outgrowths.outgrowths.items)
    c.as_slice-came.result.now c.as_slice-came.ensures.value (length c.as_slice-all.result.now - 1)
    (last-place rows s word (use_by word (tree_at word rows) u) visits derived (length c.as_slice-all.result.now) many)
    (c.in_ok-weights.ensures.within word)
    c.in_err-parts.field-0.0 (c.in_err-parts.ensures.refused word
    (own_at (results_of word (tree_at word rows) s.rule.prune visits)) it.reads.told))

pub returns-in_err-parts-clause-grows : goal.returns-in_err-parts-clause-grows
returns-in_err-parts-clause-grows c =
    grows-on c.args.words.now c.visits_of_step.new.words c.root_parts.new.words c.in_ok-visits.ensures.grows
    (grows-on c.visits_of_step.new.words c.outgrowths_of.new.words c.root_parts.new.words
    c.in_ok-outgrowths.ensures.grows c.in_err-parts.ensures.grows)

pub returns-in_err-within_depth-clause-refused : goal.returns-in_err-within_depth-clause-refused
returns-in_err-within_depth-clause-refused c =
    let rows = c.args.pool.now in
    let n = length c.args.words.now in
    let plan = c.args.plan.now in
    let u = c.args.root in
    let first = c.visits_of_step.new.words in
    let mid = c.outgrowths_of.new.words in
    let new = c.root_parts.new.words in
    let later = grows-on first mid new c.in_ok-outgrowths.ensures.grows c.in_ok-parts.ensures.grows in
    let grows = grows-on c.args.words.now first new c.in_ok-visits.ensures.grows later in
    let visits = c.in_ok-visits.visits.items in
    let parts = c.in_ok-parts.parts.items in
    let many = ap (λ (l : List Visit). length l) c.as_slice-all.ensures.value in
    IfErr-on c.from_residual-in_err-within_depth.result c.in_err-within_depth.field-0.0 _
    c.from_residual-in_err-within_depth.ensures.1
    (λ s word it.
    let rule = c.is_pruning-prune.ensures ∙ ap (λ (r : Rule). r.prune)
    (rule-is rows n u.id.0 plan new s word it grows.table grows.grows c.requires.places) in
    let derived = c.in_ok-visits.ensures.derived s word (older rows n u.id.0 plan first new s word later it) in
    let at-mid = older rows n u.id.0 plan mid new s word c.in_ok-parts.ensures.grows it in
    depth-turn rows n plan new u s word it grows.table grows.grows c.requires.places (c.steps_have_laws.ensures s)
    visits derived c.in_ok-visits.ensures.linked
    c.as_slice-all.result.now c.as_slice-all.ensures.value c.is_pruning-prune.result rule
    c.in_ok-outgrowths.outgrowths.items
    (c.in_ok-outgrowths.ensures.outgrowths word (tree_at word rows) at-mid.reads.told)
    (c.outgrowths_give_results.ensures word (tree_at word rows) s.rule.prune visits c.in_ok-outgrowths.outgrowths.items)
    c.as_slice-came.result.now c.as_slice-came.ensures.value (length c.as_slice-all.result.now - 1)
    (last-place rows s word (use_by word (tree_at word rows) u) visits derived (length c.as_slice-all.result.now) many)
    (c.in_ok-weights.ensures.within word)
    parts (c.in_ok-parts.ensures.results word (own_at (results_of word (tree_at word rows) s.rule.prune visits))
    it.reads.told)
    c.limits_tell.ensures (parts-wider (length mid) (length new) c.in_ok-outgrowths.outgrowths.items
    c.in_ok-parts.ensures.grows.grows c.in_ok-outgrowths.ensures.held)
    (All-weaker (IsHeldPart (length c.as_slice-came.result.now) (length new)) (λ (p : Part). p.place.0 < length new)
    (λ p h. h.1) parts c.in_ok-parts.ensures.held)
    c.in_ok-weights.weights.of_keys.items (c.in_ok-weights.ensures.weights word)
    c.in_err-within_depth.field-0.0
    (subst
    (λ (k : ℕ). (w : Weight) → slice_get c.in_ok-weights.weights.of_keys.items
    (length c.as_slice-all.result.now - 1) ≡ Some w → IsDeepFault k w c.in_err-within_depth.field-0.0)
    c.count_of-count.ensures c.in_err-within_depth.ensures.refused))

pub returns-in_err-within_depth-clause-grows : goal.returns-in_err-within_depth-clause-grows
returns-in_err-within_depth-clause-grows c =
    grows-on c.args.words.now c.visits_of_step.new.words c.root_parts.new.words c.in_ok-visits.ensures.grows
    (grows-on c.visits_of_step.new.words c.outgrowths_of.new.words c.root_parts.new.words
    c.in_ok-outgrowths.ensures.grows c.in_ok-parts.ensures.grows)

pub returns-clause-derived : goal.returns-clause-derived
returns-clause-derived c = λ s word it.
    let rows = c.args.pool.now in
    let n = length c.args.words.now in
    let plan = c.args.plan.now in
    let u = c.args.root in
    let first = c.visits_of_step.new.words in
    let mid = c.outgrowths_of.new.words in
    let new = c.root_parts.new.words in
    let later = grows-on first mid new c.in_ok-outgrowths.ensures.grows c.in_ok-parts.ensures.grows in
    let grows = grows-on c.args.words.now first new c.in_ok-visits.ensures.grows later in
    let visits = c.in_ok-visits.visits.items in
    let parts = c.in_ok-parts.parts.items in
    let many = ap (λ (l : List Visit). length l) c.as_slice-all.ensures.value in
    let rule = c.is_pruning-prune.ensures ∙ ap (λ (r : Rule). r.prune)
    (rule-is rows n u.id.0 plan new s word it grows.table grows.grows c.requires.places) in
    let derived = c.in_ok-visits.ensures.derived s word (older rows n u.id.0 plan first new s word later it) in
    let at-mid = older rows n u.id.0 plan mid new s word c.in_ok-parts.ensures.grows it in
    derived-turn rows n plan new u s word it grows.table grows.grows c.requires.places (c.steps_have_laws.ensures s)
    visits derived c.in_ok-visits.ensures.linked
    c.as_slice-all.result.now c.as_slice-all.ensures.value c.is_pruning-prune.result rule
    c.in_ok-outgrowths.outgrowths.items
    (c.in_ok-outgrowths.ensures.outgrowths word (tree_at word rows) at-mid.reads.told)
    (c.outgrowths_give_results.ensures word (tree_at word rows) s.rule.prune visits c.in_ok-outgrowths.outgrowths.items)
    c.as_slice-came.result.now c.as_slice-came.ensures.value (length c.as_slice-all.result.now - 1)
    (last-place rows s word (use_by word (tree_at word rows) u) visits derived (length c.as_slice-all.result.now) many)
    (c.in_ok-weights.ensures.within word)
    parts (c.in_ok-parts.ensures.results word (own_at (results_of word (tree_at word rows) s.rule.prune visits))
    it.reads.told)
    c.limits_tell.ensures (parts-wider (length mid) (length new) c.in_ok-outgrowths.outgrowths.items
    c.in_ok-parts.ensures.grows.grows c.in_ok-outgrowths.ensures.held)
    (All-weaker (IsHeldPart (length c.as_slice-came.result.now) (length new)) (λ (p : Part). p.place.0 < length new)
    (λ p h. h.1) parts c.in_ok-parts.ensures.held)
    c.in_ok-weights.weights.of_keys.items (c.in_ok-weights.ensures.weights word)
    (subst
    (λ (k : ℕ). (w : Weight) → slice_get c.in_ok-weights.weights.of_keys.items
    (length c.as_slice-all.result.now - 1) ≡ Some w → root_depth k w.depth ≤ most_depth)
    c.count_of-count.ensures c.in_ok-within_depth.ensures.within)

pub returns-clause-linked : goal.returns-clause-linked
returns-clause-linked c = c.in_ok-visits.ensures.linked

pub returns-clause-held : goal.returns-clause-held
returns-clause-held c = c.in_ok-visits.ensures.held

pub returns-clause-long : goal.returns-clause-long
returns-clause-long c =
    let mid = c.outgrowths_of.new.words in
    let n = length c.args.words.now in
    let grows = grows-on c.args.words.now c.visits_of_step.new.words mid c.in_ok-visits.ensures.grows
    c.in_ok-outgrowths.ensures.grows in
    let some = a-root-step c.args.pool.now n c.args.root.id.0 c.args.plan.now mid c.laws.ensures grows.table
    c.requires.plan.0 c.requires.plan.1 in
    let out = c.in_ok-outgrowths.ensures.outgrowths some.1 (tree_at some.1 c.args.pool.now) some.2.reads.told in
    out.long ∙ ap (λ (l : List Visit). length l) c.as_slice-all.ensures.value

pub returns-clause-parts : goal.returns-clause-parts
returns-clause-parts c =
    parts-wider (length c.outgrowths_of.new.words) (length c.root_parts.new.words) c.in_ok-outgrowths.outgrowths.items
    c.in_ok-parts.ensures.grows.grows
    c.in_ok-outgrowths.ensures.held

pub returns-clause-own : goal.returns-clause-own
returns-clause-own c = c.in_ok-outgrowths.ensures.own

pub returns-clause-root_parts : goal.returns-clause-root_parts
returns-clause-root_parts c =
    subst
    (λ (l : List Outgrowth). All (IsHeldPart (length l) (length c.root_parts.new.words)) c.in_ok-parts.parts.items)
    c.as_slice-came.ensures.value
    c.in_ok-parts.ensures.held

pub returns-clause-root_own : goal.returns-clause-root_own
returns-clause-root_own c =
    subst (λ (l : List Outgrowth). ArePartsOfOwn l c.in_ok-parts.parts.items) c.as_slice-came.ensures.value
    c.in_ok-parts.ensures.own

pub returns-clause-grows : goal.returns-clause-grows
returns-clause-grows c =
    grows-on c.args.words.now c.visits_of_step.new.words c.root_parts.new.words c.in_ok-visits.ensures.grows
    (grows-on c.visits_of_step.new.words c.outgrowths_of.new.words c.root_parts.new.words
    c.in_ok-outgrowths.ensures.grows c.in_ok-parts.ensures.grows)

pub returns-clause-order : goal.returns-clause-order
returns-clause-order c =
    let rows = c.args.pool.now in
    let n = length c.args.words.now in
    let plan = c.args.plan.now in
    let u = c.args.root in
    let first = c.visits_of_step.new.words in
    let new = c.outgrowths_of.new.words in
    let grows = grows-on c.args.words.now first new c.in_ok-visits.ensures.grows c.in_ok-outgrowths.ensures.grows in
    let visits = c.in_ok-visits.visits.items in
    let some = a-root-step rows n u.id.0 plan new c.laws.ensures grows.table c.requires.plan.0 c.requires.plan.1 in
    let s = some.0 in
    let word = some.1 in
    let it = some.2 in
    let laws = c.steps_have_laws.ensures s in
    let rule = c.is_pruning-prune.ensures ∙ ap (λ (r : Rule). r.prune)
    (rule-is rows n u.id.0 plan new s word it grows.table grows.grows c.requires.places) in
    let derived = c.in_ok-visits.ensures.derived s word
    (older rows n u.id.0 plan first new s word c.in_ok-outgrowths.ensures.grows it) in
    let linked = c.in_ok-visits.ensures.linked in
    in-order rows c.laws.ensures n u.id.0 plan new s word it c.targets_fit_as_trees.ensures laws.kinds
    (use_by word (tree_at word rows) u) visits derived linked
    (told rows n plan new u s word it grows.table grows.grows c.requires.places laws visits derived linked)
    c.in_ok-visits.ensures.held
    c.in_ok-outgrowths.outgrowths.items
    (out-turn rows n plan new u s word it grows.table grows.grows c.requires.places laws visits derived linked
    c.as_slice-all.result.now c.as_slice-all.ensures.value
    c.is_pruning-prune.result rule c.in_ok-outgrowths.outgrowths.items
    (c.in_ok-outgrowths.ensures.outgrowths word (tree_at word rows) it.reads.told))
    (c.outgrowths_give_results.ensures word (tree_at word rows) s.rule.prune visits c.in_ok-outgrowths.outgrowths.items)
    c.in_ok-outgrowths.ensures.own
