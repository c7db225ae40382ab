-- The four pieces.
use Rattle.std.proofs.Common.{◌∙◌, ◌∷◌, sym, append_assoc}
use Rattle.std.specs.Prelude.{codes}
use Rattle.brep_tokens.specs.Tokens.{version_line}
use Rattle.brep_tokens.specs.Written.{lines_text}
use Rattle.brep_gen.specs.Generated.{table_lines}
use Rattle.brep_gen.proofs.TextLemmas.{four}
use Rattle.brep_gen.proofs.file.push_tables.Goals as goal

pub returns : goal.returns
unfolding version_line
returns c =
    four c.args.text.now.items c.extend_from_slice.new.self.items c.extend_from_slice-2.new.self.items
    c.extend_from_slice-3.new.self.items c.extend_from_slice-4.new.self.items
    (codes "CASCADE Topology V1, (c) Matra-Datavision\nLocations 3\n")
    (codes "1 1 0 0 1 0 1 0 0 0 0 1 0\n1 1 0 0 0 0 1 0 1 0 0 1 0\n")
    (codes "1 1 0 0 0 0 1 0 0 0 0 1 1\nCurve2ds 0\nCurves 0\nPolygon3D 0\n")
    (codes "PolygonOnTriangulations 0\nSurfaces 0\nTriangulations 0\n")
    c.in_ok-extend_from_slice.ensures.items c.in_ok-extend_from_slice-2.ensures.items
    c.in_ok-extend_from_slice-3.ensures.items c.in_ok-extend_from_slice-4.ensures.items
    ∙ sym (append_assoc c.args.text.now.items (version_line 1) (10 ∷ lines_text table_lines))
