-- One name more is merged, or is the first one that isn't.
use Rattle.std.proofs.Common.{◌++◌, ◌<◌, ◌∙◌, ap, arith, length, reverse}
use Rattle.std.proofs.lemmas.Option.{slice_get-get_or}
use Rattle.lists.proofs.Entries.{slice_get-mapped}
use Rattle.script_requests.specs.Asking.{under_no_sign}
use Rattle.script_requests.specs.Numbered.{CanBeMerged, MergeFails, OrWants}
use Rattle.script_requests.proofs.FailLaws.{given-on, merge-fails}
use Rattle.script_requests.proofs.JoinLaws.{forward, joins-step}
use Rattle.script_requests.proofs.joining.merge_all.Goals as goal

pub merge_one-requires-clause-name : goal.merge_one-requires-clause-name
merge_one-requires-clause-name c = c.requires.names c.loop-name.name-index 0 (omega (arith, c.loop-name-test.true))

pub returns-in_err-more-clause-refused : goal.returns-in_err-more-clause-refused
returns-in_err-more-clause-refused c =
    let rows = c.args.pool.now in
    let vs = reverse c.args.versions.now in
    let names = c.args.further.now in
    let at = c.loop-name.name-index in
    let lt : at < length names = omega (arith, c.loop-name-test.true) in
    given-on (OrWants (MergeFails rows vs c.args.line c.args.first c.args.own (under_no_sign names)))
    c.from_residual.result c.in_err-more.field-0.0 c.from_residual.ensures.1
    (merge-fails rows vs c.args.line c.args.own (under_no_sign names) at _ c.args.first c.loop-name.asked
    c.in_err-more.field-0.0 (slice_get-mapped forward names at _ (slice_get-get_or names at 0 lt))
    c.loop-name.invariant c.in_err-more.ensures.refused)

pub loop-name-preserved : goal.loop-name-preserved
loop-name-preserved c =
    let rows = c.args.pool.now in
    let names = c.args.further.now in
    let at = c.loop-name.name-index in
    let lt : at < length names = omega (arith, c.loop-name-test.true) in
    joins-step rows (reverse c.args.versions.now) (CanBeMerged rows c.args.first) c.args.first (under_no_sign names) at
    _ c.loop-name.asked c.in_ok-more.more c.add_all.new.asked
    (slice_get-mapped forward names at _ (slice_get-get_or names at 0 lt)) c.loop-name.invariant
    c.in_ok-more.ensures.asked
    (c.in_ok-add_all.ensures ∙ ap (λ l. c.loop-name.asked ++ l) c.as_slice.ensures)
