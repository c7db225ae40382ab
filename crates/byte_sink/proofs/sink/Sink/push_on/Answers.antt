use Rattle.std.proofs.Common.{refl}
use Rattle.byte_sink.specs.HandingLaws.{Handed-on, Handed-stop}
use Rattle.byte_sink.proofs.sink.Sink.push_on.Goals as goal

pub returns-in-Ok : goal.returns-in-Ok
returns-in-Ok g c =
    Handed-on _ _ _ _ c.requires c.requires refl refl
    (record { faults = c.in-Ok.ensures.no_fault; sent = c.in-Ok.ensures.sends })

pub returns-in-Err : goal.returns-in-Err
returns-in-Err g c =
    Handed-stop _ _ _ _ _ c.requires refl refl refl
    (record { later = c.in-Err.ensures.later; faults = c.in-Err.ensures.cause; stopped = c.in-Err.ensures.sends })
