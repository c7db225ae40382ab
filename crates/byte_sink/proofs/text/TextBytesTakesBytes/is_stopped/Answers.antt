use Rattle.byte_sink.specs.HandingLaws.{Gives-short}
use Rattle.byte_sink.proofs.text.TextBytesTakesBytes.is_stopped.Goals as goal

pub returns : goal.returns
returns c short x = Gives-short _ _ x short
