use Rattle.std.proofs.Common.{[], ap, ◌∙◌, sym, rules}
use Rattle.std.proofs.lemmas.List.{append-nil}
use Rattle.byte_sink.specs.Sending.{Waiting}
use Rattle.byte_sink.specs.SendingLaws.{Stopped-gone}
use Rattle.byte_sink.proofs.waiting.WaitingBytes.flush.Goals as goal

pub returns-in-Err-clause-sends : goal.returns-in-Err-clause-sends
returns-in-Err-clause-sends g c =
    Stopped-gone _ _ _ _ _ _ [] c.in-Err.stop.taken _ c.in-Err.ensures.part
    (c.as_slice.ensures.value ∙ ap (λ (w : Waiting). w.bytes) c.self.view_is ∙ sym (append-nil _))
    c.in-Err.ensures.stops_early (search rules) c.in-Err.ensures.strays c.in-Err.ensures.calls
