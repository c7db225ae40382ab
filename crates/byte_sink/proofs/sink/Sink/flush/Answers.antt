use Rattle.std.proofs.Common.{refl, rules}
use Rattle.byte_sink.specs.HandingLaws.{Handed-on, Handed-stop, nothing_waits_in}
use Rattle.byte_sink.proofs.sink.Sink.flush.Goals as goal

pub returns-in-Ok : goal.returns-in-Ok
returns-in-Ok g c = record {
  handed =
      Handed-on _ _ _ _ c.requires c.requires refl refl
      (record { faults = c.in-Ok.ensures.no_fault; sent = c.in-Ok.ensures.sends });
  taken = (c.requires, nothing_waits_in _ _ c.in-Ok.ensures.empty (search rules));
  stopped = tt;
}

pub returns-in-Err : goal.returns-in-Err
returns-in-Err g c = record {
  handed =
      Handed-stop _ _ _ _ _ c.requires refl refl refl (record {
        later = c.in-Err.ensures.later;
        faults = c.in-Err.ensures.cause;
        stopped = c.in-Err.ensures.sends;
      });
  taken = tt;
  stopped = refl;
}
