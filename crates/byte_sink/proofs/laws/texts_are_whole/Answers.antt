use Rattle.byte_sink.specs.SendingLaws.{texts-are-whole}
use Rattle.byte_sink.proofs.laws.texts_are_whole.Goals as goal

pub returns : goal.returns
returns c = texts-are-whole
