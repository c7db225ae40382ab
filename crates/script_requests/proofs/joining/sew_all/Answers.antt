-- One name more is sewn, or is the first one that isn't.
use Rattle.std.proofs.Common.{◌++◌, ◌<◌, ◌∙◌, ap, arith, length, reverse}
use Rattle.std.proofs.lemmas.Option.{slice_get-get_or}
use Rattle.sewing.specs.Refused.{CanBeSewn}
use Rattle.script_requests.specs.Numbered.{OrWants, SewFails}
use Rattle.script_requests.proofs.FailLaws.{given-on, sew-fails}
use Rattle.script_requests.proofs.JoinLaws.{forward, joins-step}
use Rattle.script_requests.proofs.joining.sew_all.Goals as goal

pub sew_one-requires-clause-name : goal.sew_one-requires-clause-name
sew_one-requires-clause-name c =
    c.requires.names c.loop-name.name-index (forward 0) (omega (arith, c.loop-name-test.true))

pub returns-in_err-more-clause-refused : goal.returns-in_err-more-clause-refused
returns-in_err-more-clause-refused c =
    let rows = c.args.pool.now in
    let vs = reverse c.args.versions.now in
    let names = c.args.further.now in
    let at = c.loop-name.name-index in
    let lt : at < length names = omega (arith, c.loop-name-test.true) in
    given-on (OrWants (SewFails rows vs c.args.line c.args.first c.args.own names)) c.from_residual.result
    c.in_err-more.field-0.0 c.from_residual.ensures.1
    (sew-fails rows vs c.args.line c.args.own names at _ c.args.first c.loop-name.asked c.in_err-more.field-0.0
    (slice_get-get_or names at (forward 0) lt) c.loop-name.invariant.joins c.in_err-more.ensures.refused)

pub loop-name-preserved : goal.loop-name-preserved
loop-name-preserved c =
    let rows = c.args.pool.now in
    let names = c.args.further.now in
    let at = c.loop-name.name-index in
    let lt : at < length names = omega (arith, c.loop-name-test.true) in
    record {
      joins =
          joins-step rows (reverse c.args.versions.now) (CanBeSewn rows c.args.first) c.args.first names at _
          c.loop-name.asked c.in_ok-more.more c.add_all.new.asked (slice_get-get_or names at (forward 0) lt)
          c.loop-name.invariant.joins c.in_ok-more.ensures.asked
          (c.in_ok-add_all.ensures ∙ ap (λ l. c.loop-name.asked ++ l) c.as_slice.ensures);
      edge = λ h. c.in_ok-more.ensures.edge;
    }
