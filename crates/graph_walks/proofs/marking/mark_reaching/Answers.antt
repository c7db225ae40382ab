-- One more node.
use Rattle.std.proofs.Common.{◌≡◌, ◌<◌, ◌∙◌, ℕ, All, Contains, length, sym, ap, subst, arith, slice_index_or, inl, inr}
use Rattle.std.specs.List.{list_any}
use Rattle.std.proofs.lemmas.List.{take_all}
use Rattle.graph_walks.specs.Graph.{ends_of}
use Rattle.graph_walks.specs.Marks.{is_marked}
use Rattle.graph_walks.proofs.Turns.{ends-within}
use Rattle.graph_walks.proofs.MarkLaws.{IsMarkedNext, mark-told, mark-others}
use Rattle.graph_walks.proofs.marking.mark_reaching.Goals as goal
use Rattle.graph_walks.proofs.marking.mark_reaching.Goals.{then-any_marked, else-any_marked}

pub any_marked-requires : goal.any_marked-requires
any_marked-requires c =
    let x = slice_index_or c.args.order.now c.loop-x.x-index 0 in
    subst (All (λ y. y < length c.loop-x.marks)) (sym c.ends.ensures)
    (subst (λ n. All (λ y. y < n) (ends_of c.args.graph.now x)) (sym c.loop-x.invariant.long)
    (ends-within c.args.graph.now c.requires.ends x))

pub loop-x-preserved : goal.loop-x-preserved
loop-x-preserved c =
    let edges = ends_of c.args.graph.now in
    let order = c.args.order.now in
    let k = c.loop-x.x-index in
    let within : slice_index_or order k 0 < length c.loop-x.marks =
    (let h = c.requires.within k 0 c.loop-x-test.true in let e = c.loop-x.invariant.long in omega (arith, h, e)) in
    let any = ap (list_any (is_marked c.loop-x.marks)) (sym c.ends.ensures) ∙ sym c.any_marked.ensures in
    let next : IsMarkedNext edges c.loop-x.marks c.if-any_marked.marks (slice_index_or order k 0) =
    elim c.if-any_marked.branch [
      | then-any_marked w ↦ inl (any ∙ w.if-any_marked.true, w.marks-is)
      | else-any_marked w ↦ inr (any ∙ w.if-any_marked.false, w.marks-is)
    ] in
    record {
      long = c.if-any_marked.auto.marks ∙ c.loop-x.invariant.long;
      told = mark-told edges c.args.marks.now c.loop-x.marks order k c.loop-x-test.true c.requires.order within c.loop-x.invariant.told
          c.loop-x.invariant.others c.if-any_marked.marks next;
      others = mark-others edges c.args.marks.now c.loop-x.marks order k c.loop-x-test.true c.requires.order within
          c.loop-x.invariant.told c.loop-x.invariant.others c.if-any_marked.marks next;
    }

pub returns-clause-reach : goal.returns-clause-reach
returns-clause-reach c = λ x m. c.loop-x.invariant.told x
    (subst (λ l. Contains l x) (sym (take_all c.loop-x.x-index c.args.order.now (omega (arith, c.loop-x-test.false)))) m)
