-- The edges of the name are sewn to the first one; or the first that can't be is told.
use Rattle.std.proofs.Common.{◌<◌, ◌∙◌, ◌∷◌, [], sym, subst, length, reverse, All}
use Rattle.sewing.specs.Refused.{IsSewFault}
use Rattle.sewing.specs.declared.member.Member.{Member}
use Rattle.script_requests.specs.Numbered.{OrWants, SewFails}
use Rattle.script_requests.proofs.FailLaws.{sew-fault}
use Rattle.script_requests.proofs.HeldLaws.{members-held-by}
use Rattle.script_requests.proofs.joining.sew_one.Goals as goal

pub sew-requires-clause-members : goal.sew-requires-clause-members
sew-requires-clause-members c =
    subst (λ l. All (λ (m : Member). m.id.0 < length c.args.pool.now) l) (sym c.as_slice.ensures.value)
    (members-held-by c.args.pool.now c.args.versions.now c.requires.versions c.args.name c.in_ok-members.members.items
    c.in_ok-members.ensures)

pub returns-clause-refused : goal.returns-clause-refused
returns-clause-refused c =
    let rows = c.args.pool.now in
    let vs = reverse c.args.versions.now in
    let members = c.in_ok-members.ensures in
    subst (OrWants (SewFails rows vs c.args.line c.args.first c.args.own (c.args.name ∷ [])))
    (sym c.fault_of.ensures)
    (sew-fault rows vs c.args.line c.args.own c.args.name c.args.first members.0 c.in-Err.fault members.1
    (subst (λ l. IsSewFault rows c.args.first l c.in-Err.fault) (c.as_slice.ensures.value ∙ members.2)
    c.in-Err.ensures.err))
