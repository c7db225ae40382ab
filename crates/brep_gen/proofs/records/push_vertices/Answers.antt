-- One vertex more.
use Rattle.std.proofs.Common.{◌∙◌, ◌++◌, ap}
use Rattle.brep_tokens.specs.Written.{lines_text}
use Rattle.brep_gen.specs.Generated.{vertex_lines}
use Rattle.brep_gen.proofs.TextLemmas.{lines_more, lines_none}
use Rattle.brep_gen.proofs.records.push_vertices.Goals as goal

pub loop-j-preserved : goal.loop-j-preserved
loop-j-preserved c =
    c.in_ok-push_vertex.ensures
    ∙ ap (λ t. t ++ lines_text (vertex_lines c.loop-j.j)) c.loop-j.invariant
    ∙ lines_more c.args.text.now.items c.loop-j.j vertex_lines

pub loop-j-init : goal.loop-j-init
loop-j-init c = lines_none c.args.text.now.items vertex_lines
