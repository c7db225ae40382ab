use Rattle.script_text.proofs.WritingLaws as laws
use Rattle.script_text.proofs.laws.commands_have_lines.Goals as goal

pub returns : goal.returns
returns c = laws.commands_have_lines c.lines_spell_one_command.ensures c.written_is_read.ensures
