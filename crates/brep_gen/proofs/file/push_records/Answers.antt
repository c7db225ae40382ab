-- The rows of records, one after another.
use Rattle.std.proofs.Common.{◌∙◌, ◌++◌, ◌+◌, ◌*◌, ap}
use Rattle.brep_tokens.specs.Written.{lines_text}
use Rattle.brep_gen.specs.Generated.{drawn_levels, edge_lines, in_turn, vertex_lines, whole}
use Rattle.brep_gen.proofs.TextLemmas.{joined}
use Rattle.brep_gen.proofs.file.push_records.Goals as goal

pub returns : goal.returns
returns c =
    let t = c.args.text.now.items in
    let n = c.count_of-n.result in
    let levels = c.args.levels in
    let a = in_turn 1024 vertex_lines in
    let b = in_turn 1024 (edge_lines n) in
    let d = drawn_levels n levels c.args.seed in
    let e = whole n (1024 * (levels + 1)) in
    let last = joined c.push_edges.new.text.items c.push_levels.new.text.items c.push_whole.new.text.items d e
    c.in_ok-push_levels.ensures c.in_ok-push_whole.ensures in
    let most = joined c.push_vertices.new.text.items c.push_edges.new.text.items c.push_whole.new.text.items b (d ++ e)
    c.in_ok-push_edges.ensures last in
    joined t c.push_vertices.new.text.items c.push_whole.new.text.items a (b ++ (d ++ e))
    c.in_ok-push_vertices.ensures most
    ∙ ap
    (λ n. t ++ lines_text (in_turn 1024 vertex_lines ++ (in_turn 1024 (edge_lines n)
    ++ (drawn_levels n levels c.args.seed ++ whole n (1024 * (levels + 1))))))
    c.count_of-n.ensures
