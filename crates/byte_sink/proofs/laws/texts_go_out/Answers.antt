use Rattle.byte_sink.specs.HandingLaws.{texts-go-out}
use Rattle.byte_sink.proofs.laws.texts_go_out.Goals as goal

pub returns : goal.returns
returns c = texts-go-out
