-- The further names are merged with the first one.
use Rattle.std.proofs.Common.{reverse, slice_index_or}
use Rattle.shape_pool.specs.Calls.{IsLoaded}
use Rattle.script_requests.specs.Numbered.{IsMergeRefused, OrWants}
use Rattle.script_requests.proofs.FailLaws.{given-on}
use Rattle.script_requests.proofs.HeldLaws.{one-held}
use Rattle.script_requests.proofs.RestLaws.{all-rest, merge-refused}
use Rattle.script_requests.proofs.joining.merging.Goals as goal

pub merge_all-requires-clause-first : goal.merge_all-requires-clause-first
merge_all-requires-clause-first c =
    one-held c.args.pool.now c.args.versions.now c.requires.versions (slice_index_or c.args.names.now 0 0)
    c.in_ok-first.first c.in_ok-first.ensures.only

pub merge_all-requires-clause-names : goal.merge_all-requires-clause-names
merge_all-requires-clause-names c =
    all-rest (IsLoaded c.args.pool.now) c.args.names.now c.requires.some c.requires.names

pub returns-in_err-asked-clause-refused : goal.returns-in_err-asked-clause-refused
returns-in_err-asked-clause-refused c =
    let vs = reverse c.args.versions.now in
    given-on (OrWants (IsMergeRefused c.args.pool.now vs c.args.line c.args.names.now))
    c.from_residual-in_err-asked.result c.in_err-asked.field-0.0 c.from_residual-in_err-asked.ensures.1
    (merge-refused c.args.pool.now vs c.args.line c.in_ok-first.first c.args.names.now c.in_err-asked.field-0.0
    c.requires.some c.in_ok-first.ensures.only c.in_err-asked.ensures.refused)
