-- By the lengths of both lists.
use Rattle.std.proofs.Common.{sym, ap, ◌∙◌, ◌&&◌, ◌==◌, not, length}
use Rattle.expansion_laws.specs.SlowParts.{step_by}
use Rattle.expansion_laws.proofs.PlainLemmas.{prune-is}
use Rattle.expansion_laws.proofs.rewriting.is_pruned.Goals as goal

pub returns-then-not-is_empty : goal.returns-then-not-is_empty
returns-then-not-is_empty c =
    let e = prune-is (step_by c.args.rules.now) c.args.tree.now c.args.below.now in
    let p = c.if-rules.true in
    let n = ap (λ l. length l == 0) (sym c.as_slice-own.ensures.value) ∙ sym c.is_empty.ensures ∙
    c.if-not-is_empty.true in
    c.is_empty-then-not-is_empty.ensures ∙ sym (e ∙ (λ i. p i && (not (n i) && (length c.args.below.now == 0))))

pub returns-else-not-is_empty : goal.returns-else-not-is_empty
returns-else-not-is_empty c =
    let e = prune-is (step_by c.args.rules.now) c.args.tree.now c.args.below.now in
    let p = c.if-rules.true in
    let n = ap (λ l. length l == 0) (sym c.as_slice-own.ensures.value) ∙ sym c.is_empty.ensures ∙
    c.if-not-is_empty.false in
    ap not c.if-not-is_empty.false ∙ sym (e ∙ (λ i. p i && (not (n i) && (length c.args.below.now == 0))))
