use Rattle.std.proofs.Common.{ℕ, List, ◌++◌, ap, sym, rules}
use Rattle.byte_sink.specs.SendingLaws.{Stopped-gone}
use Rattle.byte_sink.proofs.waiting.WaitingBytes.pass.Goals as goal

pub returns-in-Err-clause-sends : goal.returns-in-Err-clause-sends
returns-in-Err-clause-sends g c =
    Stopped-gone _ _ _ _ _ _ _ c.in-Err.stop.taken _ c.in-Err.ensures.part
    (ap (λ (z : List ℕ). z ++ c.args.piece.now) (sym c.requires)) c.in-Err.ensures.stops_early (search rules)
    c.in-Err.ensures.strays c.in-Err.ensures.calls
