use Rattle.std.proofs.Common.{◌∙◌, ap, sym}
use Rattle.brep_tokens.specs.Written.{line_text}
use Rattle.curve_tables.specs.Spelling.{spelling2}
use Rattle.curve_tables.specs.SpellLeft.{tokens_left2}
use Rattle.curve_tables.specs.declared.curve2.Curve2.{Curve2}
use Rattle.byte_sink.proofs.Joining.{as_text}
use Rattle.written_layout.proofs.TableLines.{drains-first}
use Rattle.written_layout.proofs.tables.Curve2TableEntry.push_to.Goals as goal

pub returns-in-Plain : goal.returns-in-Plain
returns-in-Plain g c =
    as_text g.met.B.TakesBytes.joins _ _ _ _
    c.push_numbered.ensures
    (ap (λ (e : Curve2). line_text (spelling2 e)) (sym c.in-Plain.is))

pub returns-in_default : goal.returns-in_default
returns-in_default g c =
    let given = c.push_line.ensures in
    as_text g.met.B.TakesBytes.joins _ _ _ _
    given.2
    (ap line_text (sym (drains-first tokens_left2 c.spell.result given.0 given.1) ∙ c.spell.ensures.left))
