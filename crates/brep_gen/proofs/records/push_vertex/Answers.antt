-- The lines of a vertex.
use Rattle.std.proofs.Common.{◌∙◌, ◌++◌, ap}
use Rattle.std.specs.Prelude.{codes}
use Rattle.std.specs.Fmt.{decimal}
use Rattle.brep_gen.proofs.FileLemmas.{vertex_text}
use Rattle.brep_gen.proofs.TextLemmas.{three}
use Rattle.brep_gen.proofs.records.push_vertex.Goals as goal

pub returns : goal.returns
returns c =
    three c.args.text.now.items c.extend_from_slice.new.self.items c.push_number.new.text.items
    c.extend_from_slice-2.new.self.items
    (codes "Ve\n1e-07\n") (decimal c.args.j) (codes " 0 0\n0 0\n\n0101101\n*\n")
    c.in_ok-extend_from_slice.ensures.items c.in_ok-push_number.ensures c.in_ok-extend_from_slice-2.ensures.items
    ∙ ap (λ z. c.args.text.now.items ++ z) (vertex_text c.args.j)
