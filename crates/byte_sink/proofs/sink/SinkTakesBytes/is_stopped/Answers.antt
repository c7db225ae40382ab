use Rattle.byte_sink.specs.HandingLaws.{stopped_takes_no_more}
use Rattle.byte_sink.proofs.sink.SinkTakesBytes.is_stopped.Goals as goal

pub returns-in-Some : goal.returns-in-Some
returns-in-Some g c stopped x = stopped_takes_no_more _ _ x _ c.in-Some.is
