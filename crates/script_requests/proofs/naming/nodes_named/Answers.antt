-- One version more.
use Rattle.std.proofs.Common.{◌∙◌, ap, arith, sym}
use Rattle.std.specs.Prelude.{Some}
use Rattle.std.proofs.lemmas.Option.{slice_get-get_or}
use Rattle.script_requests.proofs.NameLaws.{named-all, named-first, named-step}
use Rattle.script_requests.proofs.naming.nodes_named.Goals as goal

pub loop-version-init : goal.loop-version-init
loop-version-init c =
    named-first c.args.pool.now c.args.name c.in-Some.own.0 c.in-Some.ensures.some c.new-met.result c.meet.new.met
    c.new-met.ensures c.in_ok-meet.ensures

pub loop-version-preserved : goal.loop-version-preserved
loop-version-preserved c =
    let v = c.version-item.result in
    let i = c.loop-version.version-index in
    named-step c.args.pool.now c.args.name c.in-Some.own.0 c.in-Some.ensures.some c.args.versions.now i v _ _
    c.loop-version.met c.in_ok-next.next
    (slice_get-get_or c.args.versions.now i v (omega (arith, c.loop-version-test.true))
    ∙ ap Some (sym c.version-item.is))
    c.as_slice.ensures c.as_slice-in-loop-version.ensures c.loop-version.invariant c.in_ok-next.ensures

pub returns : goal.returns
returns c =
    named-all c.args.pool.now c.args.versions.now c.loop-version.version-index c.args.name c.loop-version.met _
    c.in_ok-ids.ids (omega (arith, c.loop-version-test.false)) c.loop-version.invariant c.as_slice-2.ensures
    c.in_ok-ids.ensures
