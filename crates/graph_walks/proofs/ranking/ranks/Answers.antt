-- One more node.
use Rattle.std.proofs.Common.{◌≡◌, ◌<◌, length, slice_index_or, arith, sym, ◌∙◌, ap, subst, ℕ, List, All}
use Rattle.std.specs.Prelude.{Contains}
use Rattle.std.proofs.lemmas.List.{length-set, take_all}
use Rattle.lists.proofs.Members.{Contains-none}
use Rattle.graph_walks.specs.Walks.{rank_over}
use Rattle.graph_walks.specs.Graph.{ends_of}
use Rattle.graph_walks.proofs.Turns.{ends-within}
use Rattle.graph_walks.proofs.RankLaws.{rest-zero, others-kept, rank-told, rank-grows}
use Rattle.graph_walks.proofs.ranking.ranks.Goals as goal

pub loop-x-init : goal.loop-x-init
loop-x-init c = record {
  long = omega (arith, c.loop.invariant.long, c.loop-test.false, c.loop.auto, c.len-end.ensures);
  small = c.loop.invariant.small;
  told = λ y m. absurd (Contains-none y m);
  others = λ y apart. rest-zero c.loop.ranks.items y c.loop.invariant.small;
}

pub over-rank-requires-clause-within : goal.over-rank-requires-clause-within
over-rank-requires-clause-within c =
    let ends : List ℕ = ends_of c.args.graph.now (slice_index_or c.args.order.now c.loop-x.x-index 0) in
    let within = ends-within c.args.graph.now c.requires.ends (slice_index_or c.args.order.now c.loop-x.x-index 0) in
    let long : length c.as_slice.result.now ≡ length c.args.graph.now =
    ap length c.as_slice.ensures.value ∙ c.loop-x.invariant.long in
    subst (λ l. All (λ (y : ℕ). y < length c.as_slice.result.now) l) (sym c.ends.ensures)
    (subst (λ n. All (λ (y : ℕ). y < n) ends) (sym long) within)

pub loop-x-preserved : goal.loop-x-preserved
loop-x-preserved c =
    let x : ℕ = slice_index_or c.args.order.now c.loop-x.x-index 0 in
    let lt : x < length c.args.graph.now = c.requires.within c.loop-x.x-index 0 c.loop-x-test.true in
    let is : c.over-rank.result ≡ rank_over (λ y. slice_index_or c.loop-x.ranks.items y 0)
    (ends_of c.args.graph.now x) =
    c.over-rank.ensures ∙ (λ j. rank_over (λ y. slice_index_or (c.as_slice.ensures.value j) y 0) c.ends.result.now) ∙
    ap (rank_over (λ y. slice_index_or c.loop-x.ranks.items y 0)) c.ends.ensures in
    let held : All (λ (y : ℕ). y < length c.loop-x.ranks.items) (ends_of c.args.graph.now x) =
    subst (λ n. All (λ (y : ℕ). y < n) (ends_of c.args.graph.now x)) (sym c.loop-x.invariant.long)
    (ends-within c.args.graph.now c.requires.ends x) in
    record {
      long = length-set c.loop-x.ranks.items x c.over-rank.result ∙ c.loop-x.invariant.long;
      small = rank-grows c.loop-x.ranks.items
          (ends_of c.args.graph.now x) c.loop-x.x-index x c.over-rank.result c.loop-x.invariant.small held is;
      told =
          rank-told (ends_of c.args.graph.now) c.args.order.now c.loop-x.ranks.items c.loop-x.x-index c.over-rank.result
          c.loop-x-test.true
          c.requires.order (omega (arith, lt, c.loop-x.invariant.long)) is c.loop-x.invariant.told;
      others =
          others-kept c.args.order.now c.loop-x.ranks.items c.loop-x.x-index c.over-rank.result c.loop-x-test.true
          c.loop-x.invariant.others;
    }

pub returns-clause-ranked : goal.returns-clause-ranked
returns-clause-ranked c = λ x m. c.loop-x.invariant.told x
    (subst (λ l. Contains l x) (sym (take_all c.loop-x.x-index c.args.order.now (omega (arith, c.loop-x-test.false))))
    m)

pub returns-clause-others : goal.returns-clause-others
returns-clause-others c = λ x apart. c.loop-x.invariant.others x
    (λ m.
    apart (subst (λ l. Contains l x) (take_all c.loop-x.x-index c.args.order.now (omega (arith, c.loop-x-test.false)))
    m))
