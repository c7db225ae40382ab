use Rattle.script_text.proofs.AnswerLaws as laws
use Rattle.script_text.proofs.laws.lines_spell_one_command.Goals as goal

pub returns : goal.returns
returns c = laws.lines_spell_one_command c.forms_are_exact.ensures
