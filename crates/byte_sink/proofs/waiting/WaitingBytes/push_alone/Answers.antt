use Rattle.std.proofs.Common.{ap, rules}
use Rattle.byte_sink.specs.Sending.{Waiting}
use Rattle.byte_sink.specs.SendingLaws.{Sent-waiting, Sends-from}
use Rattle.byte_sink.proofs.waiting.WaitingBytes.push_alone.Goals as goal

pub returns-then-is_ok-clause-sends : goal.returns-then-is_ok-clause-sends
returns-then-is_ok-clause-sends g c =
    Sent-waiting _ _ _ _ _ _ (search rules) (ap (λ (w : Waiting). w.taken) c.self.view_is)

pub returns-clause-sends : goal.returns-clause-sends
returns-clause-sends g c =
    Sends-from _ _ _ _ _ c.args.self.now _ _ _ (search rules) (ap (λ (w : Waiting). w.taken) c.self.view_is)
    c.pass.ensures.sends
