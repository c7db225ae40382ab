-- The nodes of the name are merged with the first one; or the first of another kind is told.
use Rattle.std.proofs.Common.{◌<◌, ◌∙◌, ◌∷◌, [], sym, subst, length, reverse, All}
use Rattle.shape_pool.specs.declared.node.NodeId.{NodeId}
use Rattle.script_requests.specs.Named.{AreNamed}
use Rattle.script_requests.specs.Numbered.{CanBeMerged, MergeFails, OrWants}
use Rattle.script_requests.proofs.FailLaws.{merge-fault}
use Rattle.script_requests.proofs.HeldLaws.{all-held}
use Rattle.script_requests.proofs.JoinLaws.{forward, joins-one, merged-as-sewn, merged-fit}
use Rattle.script_requests.proofs.joining.merge_one.Goals as goal

pub merge-requires-clause-members : goal.merge-requires-clause-members
merge-requires-clause-members c =
    subst (λ l. All (λ (i : NodeId). i.0 < length c.args.pool.now) l) (sym c.as_slice.ensures)
    (all-held c.args.pool.now c.args.versions.now c.requires.versions c.args.name c.in_ok-members.members
    c.in_ok-members.ensures)

pub returns-in-Ok-clause-asked : goal.returns-in-Ok-clause-asked
returns-in-Ok-clause-asked c =
    let rows = c.args.pool.now in
    let vs = reverse c.args.versions.now in
    let ids = c.as_slice.result.now in
    joins-one rows vs (CanBeMerged rows c.args.first) c.args.first (forward c.args.name) ids c.in-Ok.asked
    (subst (λ l. AreNamed rows vs c.args.name l) (sym c.as_slice.ensures) c.in_ok-members.ensures)
    (merged-fit rows c.args.first c.args.name ids c.in-Ok.ensures.kinds)
    (c.in-Ok.ensures.ok ∙ merged-as-sewn c.args.first c.args.name ids)

pub returns-clause-refused : goal.returns-clause-refused
returns-clause-refused c =
    let rows = c.args.pool.now in
    let vs = reverse c.args.versions.now in
    subst (OrWants (MergeFails rows vs c.args.line c.args.first c.args.own (forward c.args.name ∷ [])))
    (sym c.fault_of.ensures)
    (merge-fault rows vs c.args.line c.args.own c.args.name c.args.first c.as_slice.result.now c.in-Err.fault
    (subst (λ l. AreNamed rows vs c.args.name l) (sym c.as_slice.ensures) c.in_ok-members.ensures)
    c.in-Err.ensures.err)
