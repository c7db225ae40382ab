-- Each node's origin is added, and all are sorted.
use Rattle.std.proofs.Common.{arith, subst, sym, ◌<◌, ◌≡◌, ◌^◌, ◌∙◌}
use Rattle.lists.proofs.Gathering.{adds-one, gathers-all, gathers-none, gathers-out, gathers-step}
use Rattle.written_history.specs.Numbered.{IsOriginOf}
use Rattle.written_history.proofs.NumberLaws.{any_id, none-small-numbers, small-more}
use Rattle.written_history.proofs.told.numbers_of.Goals as goal

pub loop-id-init : goal.loop-id-init
loop-id-init c = (
  gathers-none (IsOriginOf c.args.pool.now) c.new-numbers.result.items c.new-numbers.ensures.items,
  none-small-numbers c.new-numbers.result.items c.new-numbers.ensures.items,
)

pub origin-requires : goal.origin-requires
origin-requires c = c.requires c.loop-id.id-index any_id (omega (arith, c.loop-id-test.true))

pub loop-id-preserved : goal.loop-id-preserved
loop-id-preserved c =
    let own : c.from.result ≡ c.origin.result = c.from.ensures in
    let small = c.origin.type_inv in (
      gathers-step (IsOriginOf c.args.pool.now) c.args.removed.now c.loop-id.id-index any_id c.loop-id.numbers.items
          c.push.new.self.items (omega (arith, c.loop-id-test.true)) c.loop-id.invariant.0
          (adds-one _ c.loop-id.numbers.items c.push.new.self.items c.from.result c.in_ok-push.ensures.items
          (own ∙ c.origin.ensures) (λ y q. own ∙ c.origin.ensures ∙ sym q)),
      small-more c.loop-id.numbers.items c.push.new.self.items c.from.result c.in_ok-push.ensures.items
          (subst (λ n. n < 2 ^ 32) (sym own) small) c.loop-id.invariant.1,
    )

pub returns-clause-are : goal.returns-clause-are
returns-clause-are c =
    gathers-out (IsOriginOf c.args.pool.now) c.args.removed.now c.loop-id.numbers.items c.ascending_numbers.result
    (gathers-all (IsOriginOf c.args.pool.now) c.args.removed.now c.loop-id.id-index c.loop-id.numbers.items
    (omega (arith, c.loop-id-test.false)) c.loop-id.invariant.0)
    c.ascending_numbers.ensures.same

pub returns-clause-small : goal.returns-clause-small
returns-clause-small c = λ k contains. c.loop-id.invariant.1 k ((c.ascending_numbers.ensures.same k).0 contains)
