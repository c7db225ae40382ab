use Rattle.std.proofs.Common.{rules}
use Rattle.byte_sink.specs.HandingLaws.{Gives-short}
use Rattle.byte_sink.proofs.text.TextBytesTakesBytes.push.Goals as goal

pub returns-in-Ok : goal.returns-in-Ok
returns-in-Ok c = record { enough = λ e. e; bytes = λ _. c.in-Ok.ensures.items }

pub returns-in-Err : goal.returns-in-Err
returns-in-Err c = Gives-short _ _ _ (search rules)
