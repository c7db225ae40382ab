use Rattle.std.proofs.Common.{false, None, Some, refl, ap, ◌∙◌}
use Rattle.brep_desk.specs.Kept.{bytes_of, is_ended}
use Rattle.brep_desk.proofs.OutputLists.{of_output-changed, of_output-pushed}
use Rattle.brep_desk.proofs.outputs.restart.Goals as goal

pub returns-in-Some-clause-written : goal.returns-in-Some-clause-written
returns-in-Some-clause-written c =
    of_output-changed bytes_of None _ _ _ _ _ _ (rw c.deref.ensures.value at c.in-Some.ensures.some.1)
    c.index_mut-output.ensures.value refl (ap Some c.clear.ensures)

pub returns-in-Some-clause-ended : goal.returns-in-Some-clause-ended
returns-in-Some-clause-ended c =
    of_output-changed is_ended false _ _ _ _ _ _ (rw c.deref.ensures.value at c.in-Some.ensures.some.1)
    c.index_mut-output.ensures.value refl refl

pub returns-in_ok-push-in-None-clause-written : goal.returns-in_ok-push-in-None-clause-written
returns-in_ok-push-in-None-clause-written c =
    of_output-pushed bytes_of None _ _ _ _ _ c.in_ok-push-in-None.ensures.items
    (rw c.deref.ensures.value at c.in-None.ensures.none) c.in_ok-copy_name-in-None.ensures
    (ap Some (c.of.ensures ∙ c.new.ensures.items))

pub returns-in_ok-push-in-None-clause-ended : goal.returns-in_ok-push-in-None-clause-ended
returns-in_ok-push-in-None-clause-ended c =
    of_output-pushed is_ended false _ _ _ _ _ c.in_ok-push-in-None.ensures.items
    (rw c.deref.ensures.value at c.in-None.ensures.none) c.in_ok-copy_name-in-None.ensures refl
