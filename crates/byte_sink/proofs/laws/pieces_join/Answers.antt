use Rattle.byte_sink.specs.SendingLaws.{pieces-join}
use Rattle.byte_sink.proofs.laws.pieces_join.Goals as goal

pub returns : goal.returns
returns c = pieces-join
