use Rattle.std.proofs.Common.{◌∙◌, ap, sym}
use Rattle.brep_tokens.specs.Written.{line_text}
use Rattle.mesh_tables.specs.SpellLeft.{mesh_tokens_left}
use Rattle.byte_sink.proofs.Joining.{as_text}
use Rattle.written_layout.proofs.TableLines.{drains-first}
use Rattle.written_layout.proofs.tables.MeshTableEntry.push_to.Goals as goal

pub returns : goal.returns
returns g c =
    let given = c.push_line.ensures in
    as_text g.met.B.TakesBytes.joins _ _ _ _
    given.2
    (ap line_text (sym (drains-first mesh_tokens_left c.spell.result given.0 given.1) ∙ c.spell.ensures.left))
