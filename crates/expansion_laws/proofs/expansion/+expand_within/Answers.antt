-- Each use costs one of the budget and what its tree costs.
use Rattle.std.proofs.Common.{rules, ◌≡◌, ◌<◌, refl, ◌∙◌, ap, arith, ◌-◌, length, map, [], ◌++◌, ◌∷◌}
use Rattle.expansion_laws.specs.declared.plain.Tree.{roll-Tree}
use Rattle.expansion_laws.specs.Trees.{a_single, uses_of}
use Rattle.expansion_laws.specs.Measures.{uses_count}
use Rattle.expansion_laws.specs.Plain.{shown_tree, shown_use}
use Rattle.expansion_laws.proofs.PlainLemmas.{tree-roll}
use Rattle.expansion_laws.proofs.ExpansionLemmas.{child-number, one-more, none-left}
use Rattle.expansion_laws.proofs.ExpansionLemmas.{child-fault, spent-more, tree-made, spent-all}
use Rattle.expansion_laws.proofs.expansion.+expand_within.Goals as goal

pub loop-u-init : goal.loop-u-init
loop-u-init t c = (
  ap (map shown_use) c.new-uses.ensures.items,
  (let e = ap (λ l. uses_count (uses_of (map shown_use l))) c.new-uses.ensures.items in omega (arith, e)),
)

pub returns-then-left-eq0-clause-refused : goal.returns-then-left-eq0-clause-refused
returns-then-left-eq0-clause-refused t c =
    none-left c.args.records.now c.args.number c.as_slice-u-items.result.now c.index-records-records.result
    c.requires.number c.requires.names c.as_slice-u-items.ensures
    c.loop-u.u-index c.u-item.result c.loop-u-test.true c.u-item.is c.loop-u.uses.items c.loop-u.left c.args.budget
    c.loop-u.invariant.0 c.loop-u.invariant.1 c.if-left-eq0.true

pub expand_within-requires : goal.expand_within-requires
expand_within-requires t c =
    let n = child-number c.args.records.now c.args.number c.as_slice-u-items.result.now c.index-records-records.result
    c.requires.number c.requires.names c.as_slice-u-items.ensures
    c.loop-u.u-index c.u-item.result c.loop-u-test.true c.u-item.is in
    let low = n.0 in let high = n.1 in
    let measure : length c.args.records.now - c.args.number ≡ t = c.decreases in
    let falls : length c.args.records.now - c.u-item.result.number < t = omega (arith, low, high, measure) in
    (falls, ((omega (arith, low), high), c.requires.names))

pub returns-in_err-child-clause-refused : goal.returns-in_err-child-clause-refused
returns-in_err-child-clause-refused t c =
    let due = child-fault c.args.records.now c.args.number c.as_slice-u-items.result.now c.index-records-records.result
    c.requires.number c.requires.names c.as_slice-u-items.ensures
    c.loop-u.u-index c.u-item.result c.loop-u-test.true c.u-item.is c.loop-u.uses.items c.loop-u.left c.args.budget
    c.loop-u.invariant.0 c.loop-u.invariant.1 c.if-left-eq0.false
    c.in_err-child.field-0.0 c.in_err-child.ensures.refused in
    search rules

pub loop-u-preserved : goal.loop-u-preserved
loop-u-preserved t c =
    let ok = c.if-is_err.ensures.negation in
    let pushed : c.push.new.self.items ≡ c.loop-u.uses.items ++ c.in-Ok.one ∷ [] = c.push.ensures.items ∙ rw ok refl in
    let used = a_single c.u-item.result.turn c.u-item.result.word in
    let shown = c.in-Ok.ensures ∙ ap used c.in_ok-child.ensures.tree in (
      one-more c.args.records.now c.args.number c.as_slice-u-items.result.now c.index-records-records.result
          c.requires.number c.requires.names c.as_slice-u-items.ensures
          c.loop-u.u-index c.u-item.result c.loop-u-test.true c.u-item.is c.loop-u.uses.items c.push.new.self.items
          c.in-Ok.one pushed shown c.loop-u.invariant.0,
      spent-more c.args.records.now c.args.number c.as_slice-u-items.result.now c.index-records-records.result
          c.requires.number c.requires.names c.as_slice-u-items.ensures
          c.loop-u.u-index c.u-item.result c.loop-u-test.true c.u-item.is c.loop-u.uses.items c.loop-u.left
          c.args.budget c.loop-u.invariant.0 c.loop-u.invariant.1 c.if-left-eq0.false
          c.push.new.self.items c.in-Ok.one c.in_ok-child.child.left pushed shown c.in_ok-child.ensures.left,
    )

pub returns-clause-tree : goal.returns-clause-tree
returns-clause-tree t c =
    tree-made c.args.records.now c.args.number c.as_slice-u-items.result.now c.index-records-records.result
    c.requires.number c.requires.names c.as_slice-u-items.ensures
    c.loop-u.u-index c.loop-u.uses.items c.loop-u.invariant.0 (omega (arith, c.loop-u-test.false))
    (shown_tree (roll-Tree (record { origin = c.args.number; uses = c.loop-u.uses })))
    (tree-roll (record { origin = c.args.number; uses = c.loop-u.uses }))

pub returns-clause-left : goal.returns-clause-left
returns-clause-left t c =
    spent-all c.args.records.now c.args.number c.as_slice-u-items.result.now c.index-records-records.result
    c.requires.number c.requires.names c.as_slice-u-items.ensures
    c.loop-u.u-index c.loop-u.uses.items c.loop-u.invariant.0 (omega (arith, c.loop-u-test.false)) c.loop-u.left
    c.args.budget c.loop-u.invariant.1
