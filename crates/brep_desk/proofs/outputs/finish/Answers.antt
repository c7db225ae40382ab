use Rattle.std.proofs.Common.{false, None, refl}
use Rattle.brep_desk.specs.Kept.{bytes_of, is_ended}
use Rattle.brep_desk.proofs.OutputLists.{of_output-changed, of_output-unchanged}
use Rattle.brep_desk.proofs.outputs.finish.Goals as goal

pub returns-in-Some-clause-written : goal.returns-in-Some-clause-written
returns-in-Some-clause-written c =
    of_output-unchanged bytes_of None _ _ _ _ _ (rw c.deref.ensures.value at c.in-Some.ensures.some.1)
    c.index_mut-output.ensures.value refl refl

pub returns-in-Some-clause-ended : goal.returns-in-Some-clause-ended
returns-in-Some-clause-ended c =
    of_output-changed is_ended false _ _ _ _ _ _ (rw c.deref.ensures.value at c.in-Some.ensures.some.1)
    c.index_mut-output.ensures.value refl refl
