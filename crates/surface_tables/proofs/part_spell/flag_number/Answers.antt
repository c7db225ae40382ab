use Rattle.std.proofs.Common.{ap, arith, sym, ◌∙◌}
use Rattle.std.proofs.lemmas.Fmt.{decimal_digit}
use Rattle.brep_tokens.specs.Forms.{flag_text}
use Rattle.surface_tables.proofs.part_spell.flag_number.Goals as goal

pub returns-then-flag : goal.returns-then-flag
returns-then-flag c = decimal_digit 1 (omega arith) ∙ ap flag_text (sym c.if-flag.true)

pub returns-else-flag : goal.returns-else-flag
returns-else-flag c = decimal_digit 0 (omega arith) ∙ ap flag_text (sym c.if-flag.false)
