use Rattle.std.proofs.Common.{[], refl}
use Rattle.byte_sink.specs.SendingLaws.{Stopped-more, Sends-on, Sends-behind}
use Rattle.byte_sink.proofs.waiting.WaitingBytes.flush_and_push.Goals as goal

pub returns-in_err-flush-clause-sends : goal.returns-in_err-flush-clause-sends
returns-in_err-flush-clause-sends g c =
    Sends-on _ _ _ _ _ _ _ _ c.in_err-flush.field-0.0 c.from_residual.ensures.1
    (Stopped-more _ _ _ _ _ [] _ _ c.in_err-flush.ensures.sends)

pub returns-clause-sends : goal.returns-clause-sends
returns-clause-sends g c =
    Sends-behind _ _ _ _ _ _ _ _ [] _ _ _ refl c.in_ok-flush.ensures.sends c.push_alone.ensures.sends
