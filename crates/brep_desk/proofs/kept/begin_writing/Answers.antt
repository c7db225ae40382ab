use Rattle.std.proofs.Common.{◌∙◌}
use Rattle.brep_desk.proofs.Keeping.{BeginsWriting-pushed}
use Rattle.brep_desk.proofs.kept.begin_writing.Goals as goal

pub returns-in-Ok-restart-clause-begins : goal.returns-in-Ok-restart-clause-begins
returns-in-Ok-restart-clause-begins c fs before after =
    BeginsWriting-pushed fs _ _ _ _ _ _ _ _ before after c.in-Ok-restart.ensures.written c.in-Ok-restart.ensures.ended
    c.in-Ok.ensures (c.of.ensures ∙ c.new.ensures.items) c.in_ok-number.ensures.ok c.in_ok-number.ensures.number
