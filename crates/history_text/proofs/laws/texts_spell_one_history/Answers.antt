use Rattle.history_text.proofs.ReadingLaws.{spell_one}
use Rattle.history_text.proofs.laws.texts_spell_one_history.Goals as goal

pub returns : goal.returns
returns c = spell_one c.forms_are_exact.ensures
