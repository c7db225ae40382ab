use Rattle.history_text.proofs.ReadingLaws.{answers_given}
use Rattle.history_text.proofs.reading.read.Goals as goal

pub returns : goal.returns
returns c = answers_given c.texts_spell_one_history.ensures c.args.bytes.now c.alone.result c.alone.ensures
