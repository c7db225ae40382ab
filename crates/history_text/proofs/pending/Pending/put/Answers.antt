use Rattle.std.proofs.Common.{[], ap, rules}
use Rattle.history_text.specs.Sending.{Waiting}
use Rattle.history_text.proofs.SendingLaws.{Sent-waiting, Stopped-more, Stopped-from, Sends-on}
use Rattle.history_text.proofs.pending.Pending.put.Goals as goal

pub returns-then-is_ok-clause-sends : goal.returns-then-is_ok-clause-sends
returns-then-is_ok-clause-sends g c =
    Sent-waiting _ _ _ _ _ _ (search rules) (search rules) (ap (λ (w : Waiting). w.taken) c.self.view_is)

pub returns-in_err-flush-clause-sends : goal.returns-in_err-flush-clause-sends
returns-in_err-flush-clause-sends g c = Sends-on _ _ _ _ _ _ _ _ c.in_err-flush.field-0.0 c.from_residual.ensures.1 (Stopped-more _ _ _ _ _ [] _ _ (Stopped-from _ _ _ _ _ c.args.self.now _ _ (search rules) (ap (λ (w : Waiting). w.taken) c.self.view_is) c.in_err-flush.ensures.sends))
