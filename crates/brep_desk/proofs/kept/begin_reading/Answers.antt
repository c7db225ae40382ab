use Rattle.brep_desk.proofs.Keeping.{IfOk-by, BeginsReading-pushed}
use Rattle.brep_desk.proofs.kept.begin_reading.Goals as goal

pub returns-clause-begins : goal.returns-clause-begins
returns-clause-begins c =
    IfOk-by c.open.result c.open.ensures.number c.open.ensures.ok
    (λ k at is os before after. BeginsReading-pushed _ os _ _ _ _ _ k before after c.in-Some.ensures
    c.in_ok-channel.ensures.ok is at)
