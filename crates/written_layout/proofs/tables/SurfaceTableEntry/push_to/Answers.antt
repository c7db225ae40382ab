use Rattle.std.proofs.Common.{◌∙◌, ap, sym}
use Rattle.brep_tokens.specs.Written.{line_text}
use Rattle.surface_tables.specs.Spelling.{spell_surface}
use Rattle.surface_tables.specs.SpellLeft.{tokens_left}
use Rattle.surface_tables.specs.declared.surface.Surface.{Surface}
use Rattle.byte_sink.proofs.Joining.{as_text}
use Rattle.written_layout.proofs.TableLines.{drains-first}
use Rattle.written_layout.proofs.tables.SurfaceTableEntry.push_to.Goals as goal

pub returns-in-Plain : goal.returns-in-Plain
returns-in-Plain g c =
    as_text g.met.B.TakesBytes.joins _ _ _ _
    c.push_numbered.ensures
    (ap (λ (e : Surface). line_text (spell_surface e)) (sym c.in-Plain.is))

pub returns-in_default : goal.returns-in_default
returns-in_default g c =
    let given = c.push_line.ensures in
    as_text g.met.B.TakesBytes.joins _ _ _ _
    given.2
    (ap line_text (sym (drains-first tokens_left c.spell.result given.0 given.1) ∙ c.spell.ensures.left))
