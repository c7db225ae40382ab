-- The numbers of the pair, where the second node is written.
use Rattle.std.proofs.Common.{sym, subst, ◌≡◌, ◌<◌, ◌^◌, ◌∙◌}
use Rattle.lists.proofs.Gathering.{adds-nothing, adds-one}
use Rattle.written_order.specs.Placed.{IsNumbered}
use Rattle.written_history.specs.Numbered.{IsPairOf}
use Rattle.written_history.proofs.NumberLaws.{numbered-once, numbered-there, small-pairs-more}
use Rattle.written_history.proofs.told.add_pair.Goals as goal

pub returns-in_ok-push-clause-adds : goal.returns-in_ok-push-clause-adds
returns-in_ok-push-clause-adds c =
    let order = c.args.order.now.numbers in
    let own : c.from.result ≡ c.origin.result = c.from.ensures in
    let number : c.from-in-Some.result ≡ c.in-Some.number = c.from-in-Some.ensures in
    let is = c.in-Some.ensures.some in
    adds-one (IsPairOf c.args.pool.now order c.args.pair) c.args.pairs.now.items c.push.new.self.items
    (c.from.result, c.from-in-Some.result) c.in_ok-push.ensures.items
    (own ∙ c.origin.ensures, subst (IsNumbered order c.args.pair.1.0) (sym number) is)
    (λ y q.
    let first : c.from.result ≡ y.0 = own ∙ c.origin.ensures ∙ sym q.0 in
    let second : c.from-in-Some.result ≡ y.1 =
    number ∙ numbered-once order c.args.pair.1.0 c.in-Some.number y.1 c.requires.once is q.1 in
    λ i. (first i, second i))

pub returns-in_ok-push-clause-small : goal.returns-in_ok-push-clause-small
returns-in_ok-push-clause-small c =
    small-pairs-more c.args.pairs.now.items c.push.new.self.items (c.from.result, c.from-in-Some.result)
    c.in_ok-push.ensures.items
    (let own : c.from.result ≡ c.origin.result = c.from.ensures in
    let small = c.origin.type_inv in subst (λ n. n < 2 ^ 32) (sym own) small)

pub returns-in_default-clause-adds : goal.returns-in_default-clause-adds
returns-in_default-clause-adds c =
    adds-nothing (IsPairOf c.args.pool.now c.args.order.now.numbers c.args.pair) c.args.pairs.now.items
    (λ y q. c.in_default.ensures.none (numbered-there c.args.order.now.numbers c.args.pair.1.0 y.1 q.1))
