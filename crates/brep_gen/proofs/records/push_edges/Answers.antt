-- One edge more.
use Rattle.std.proofs.Common.{◌∙◌, ◌++◌, ap}
use Rattle.brep_tokens.specs.Written.{lines_text}
use Rattle.brep_gen.specs.Generated.{edge_lines}
use Rattle.brep_gen.proofs.TextLemmas.{lines_more, lines_none}
use Rattle.brep_gen.proofs.records.push_edges.Goals as goal

pub loop-j-preserved : goal.loop-j-preserved
loop-j-preserved c =
    c.in_ok-push_edge.ensures
    ∙ ap (λ t. t ++ lines_text (edge_lines c.args.n c.loop-j.j)) c.loop-j.invariant
    ∙ lines_more c.args.text.now.items c.loop-j.j (edge_lines c.args.n)

pub loop-j-init : goal.loop-j-init
loop-j-init c = lines_none c.args.text.now.items (edge_lines c.args.n)
