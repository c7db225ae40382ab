-- The edges of the further names are sewn to the first one.
use Rattle.std.proofs.Common.{◌≤◌, arith, length, reverse, slice_index_or}
use Rattle.script_text.specs.declared.command.SignedName.{SignedName}
use Rattle.shape_pool.specs.Calls.{IsLoaded}
use Rattle.script_requests.specs.Numbered.{IsSewRefused, OrWants}
use Rattle.script_requests.proofs.FailLaws.{given-on}
use Rattle.script_requests.proofs.HeldLaws.{one-held}
use Rattle.script_requests.proofs.JoinLaws.{forward}
use Rattle.script_requests.proofs.RestLaws.{all-rest, sew-refused}
use Rattle.script_requests.proofs.joining.sewing_of.Goals as goal

pub sew_all-requires-clause-first : goal.sew_all-requires-clause-first
sew_all-requires-clause-first c =
    one-held c.args.pool.now c.args.versions.now c.requires.versions
    (slice_index_or c.args.names.now 0 (forward 0)).name c.in_ok-first.first c.in_ok-first.ensures.only

pub sew_all-requires-clause-names : goal.sew_all-requires-clause-names
sew_all-requires-clause-names c =
    all-rest (λ (n : SignedName). IsLoaded c.args.pool.now n.name) c.args.names.now (omega (arith, c.requires.some))
    c.requires.names

pub returns-in_err-asked-clause-refused : goal.returns-in_err-asked-clause-refused
returns-in_err-asked-clause-refused c =
    let vs = reverse c.args.versions.now in
    let some : 1 ≤ length c.args.names.now = omega (arith, c.requires.some) in
    given-on (OrWants (IsSewRefused c.args.pool.now vs c.args.line c.args.names.now))
    c.from_residual-in_err-asked.result c.in_err-asked.field-0.0 c.from_residual-in_err-asked.ensures.1
    (sew-refused c.args.pool.now vs c.args.line c.in_ok-first.first c.args.names.now c.in_err-asked.field-0.0 some
    c.in_ok-first.ensures.only c.in_err-asked.ensures.refused)
