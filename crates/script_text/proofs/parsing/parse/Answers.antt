use Rattle.script_text.proofs.AnswerLaws.{answers_given}
use Rattle.script_text.proofs.parsing.parse.Goals as goal

pub returns-clause-spelled : goal.returns-clause-spelled
returns-clause-spelled c = answers_given c.lines_spell_one_command.ensures c.args.shapes c.args.locations
    c.args.line.now c.parsed.result c.parsed.ensures.computed
