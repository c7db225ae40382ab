use Rattle.byte_sink.specs.HandingLaws.{stopped_takes_no_more}
use Rattle.byte_sink.proofs.sink.Sink.finish.Goals as goal

pub returns-in-Some : goal.returns-in-Some
returns-in-Some g c = record {
  handed = stopped_takes_no_more _ _ _ _ c.in-Some.is;
  taken = tt;
  stopped = c.in-Some.is;
}
