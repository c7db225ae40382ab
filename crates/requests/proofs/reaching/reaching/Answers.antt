-- The marks that are written back.
use Rattle.std.proofs.Common.{◌≡◌, ◌∙◌, ap, sym, subst, length}
use Rattle.requests.specs.Plans.{asked, TellReach}
use Rattle.requests.proofs.PlanLaws.{written-back}
use Rattle.requests.proofs.reaching.reaching.Goals as goal

pub returns-clause-marked : goal.returns-clause-marked
returns-clause-marked c =
    let own = asked c.args.part c.args.table.now.requests c.args.reached.now.nodes.keys in
    let graph = c.args.reached.now.graph in
    let order = c.args.order.now in
    let before = c.in_ok-marks.marks.items in
    let after = c.mark_reaching.new.marks in
    let long : length after ≡ length before = c.mark_reaching.ensures.long ∙ ap length c.as_mut_slice.ensures.value in
    let whole = written-back c.in_ok-marks.marks.len after before c.in_ok-marks.marks.ok.0 long in
    let was : c.as_mut_slice.result.now ≡ own = c.as_mut_slice.ensures.value ∙ c.in_ok-marks.ensures in
    subst (TellReach own graph order) (sym whole)
    (subst (λ o. TellReach o graph order after) was (λ p m. c.mark_reaching.ensures.reach p m))
