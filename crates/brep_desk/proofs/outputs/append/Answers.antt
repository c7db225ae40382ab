use Rattle.std.proofs.Common.{false, None, refl}
use Rattle.brep_desk.specs.Kept.{bytes_of, is_ended}
use Rattle.brep_desk.proofs.OutputLists.{of_output-changed, of_output-unchanged, written_in-appended}
use Rattle.brep_desk.proofs.outputs.append.Goals as goal

pub returns-in_ok-append-in-Some-clause-written : goal.returns-in_ok-append-in-Some-clause-written
returns-in_ok-append-in-Some-clause-written c =
    of_output-changed bytes_of None _ _ _ _ _ _ (rw c.deref.ensures.value at c.in-Some.ensures.some.1)
    c.index_mut-output.ensures.value refl (written_in-appended _ _ _ _ _ _
    (rw c.deref.ensures.value at c.in-Some.ensures.some.1) c.index_mut-output.ensures.value
    c.in_ok-append-in-Some.ensures.ok)

pub returns-in_ok-append-in-Some-clause-ended : goal.returns-in_ok-append-in-Some-clause-ended
returns-in_ok-append-in-Some-clause-ended c =
    of_output-unchanged is_ended false _ _ _ _ _ (rw c.deref.ensures.value at c.in-Some.ensures.some.1)
    c.index_mut-output.ensures.value refl refl
