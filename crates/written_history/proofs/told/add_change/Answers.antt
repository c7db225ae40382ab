-- A pair of one node with itself is no change; any other is.
use Rattle.std.proofs.Common.{arith, inl, inr}
use Rattle.lists.proofs.Gathering.{adds-nothing}
use Rattle.written_history.specs.Numbered.{IsChangeOf}
use Rattle.written_history.proofs.told.add_change.Goals as goal

pub returns-then-pair-clause-adds : goal.returns-then-pair-clause-adds
returns-then-pair-clause-adds c =
    adds-nothing (IsChangeOf c.args.pool.now c.args.order.now.numbers c.args.pair) c.args.pairs.now.items
    (λ y q. let same = c.if-pair.true in q.0 (omega (arith, same)))

pub returns-clause-adds : goal.returns-clause-adds
returns-clause-adds c = λ y. (
  (λ contains. elim ((c.in_ok-add_pair.ensures.adds y).0 contains) [
    | inl before ↦ inl before
    | inr is ↦ inr ((λ same. let other = c.if-pair.false in absurd (omega (arith, other, same))), is)
  ]),
  (λ h. (c.in_ok-add_pair.ensures.adds y).1 (elim h [ inl before ↦ inl before | inr is ↦ inr is.1 ])),
)
