-- One node more has its mark.
use Rattle.std.proofs.Common.{◌∙◌, ◌∷◌, [], List, Bool, ap, sym, subst, arith, length}
use Rattle.std.proofs.lemmas.List.{length-append}
use Rattle.shape_pool.specs.Rows.{tree_at}
use Rattle.explorer.specs.Walks.{gives}
use Rattle.explorer.specs.Levels.{AreMarks}
use Rattle.explorer.proofs.MarkLemmas.{marks-push}
use Rattle.explorer.proofs.giving.all_marks.Goals as goal

pub loop-i-preserved : goal.loop-i-preserved
loop-i-preserved c = record {
  count =
      let a = ap (length {A = Bool}) c.in_ok-push.ensures.items in
      let b = length-append c.loop-i.marks.items (c.has_one-mark.result ∷ []) in
      let n = c.loop-i.invariant.count in
      omega (arith, a, b, n);
  marks =
      subst (λ (l : List Bool). AreMarks c.args.pool.now c.args.find c.args.avoid l) (sym c.in_ok-push.ensures.items)
      (marks-push c.args.pool.now c.args.find c.args.avoid c.loop-i.marks.items c.has_one-mark.result
      c.loop-i.invariant.marks
      (λ word kind kinds.
      c.has_one-mark.ensures word kind kinds ∙
      ap (λ n. gives kind c.args.find c.args.avoid (tree_at word c.args.pool.now n)) (sym c.loop-i.invariant.count)));
}
