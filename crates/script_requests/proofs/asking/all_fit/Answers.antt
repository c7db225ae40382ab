-- One request more fits.
use Rattle.std.proofs.Common.{arith, subst, All}
use Rattle.std.proofs.lemmas.List.{take_all}
use Rattle.std.proofs.lemmas.Option.{slice_get-get_or}
use Rattle.lists.proofs.Entries.{All-more}
use Rattle.requests.specs.Numbered.{ActFits}
use Rattle.requests.specs.declared.request.Request.{Request}
use Rattle.script_requests.proofs.RequestLaws.{any_request}
use Rattle.script_requests.proofs.asking.all_fit.Goals as goal

pub loop-request-preserved : goal.loop-request-preserved
loop-request-preserved c =
    All-more (λ (r : Request). ActFits c.args.pool.now r.source.0 r.act) c.args.asked.now c.loop-request.request-index _
    c.loop-request.invariant
    (slice_get-get_or c.args.asked.now c.loop-request.request-index any_request
    (omega (arith, c.loop-request-test.true)))
    (c.in_ok-fits.ensures.0 c.if-not-branch.false)

pub returns-clause-right : goal.returns-clause-right
returns-clause-right c =
    λ t.
    subst (λ l. All (λ (r : Request). ActFits c.args.pool.now r.source.0 r.act) l)
    (take_all c.loop-request.request-index c.args.asked.now (omega (arith, c.loop-request-test.false)))
    c.loop-request.invariant
