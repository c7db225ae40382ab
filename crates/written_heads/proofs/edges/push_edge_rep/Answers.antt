use Rattle.std.proofs.Common.{◌++◌, sym, ◌∙◌, ap}
use Rattle.byte_sink.proofs.Joining.{in_three}
use Rattle.tshape_data.specs.Lines.{number_words}
use Rattle.tshape_data.specs.Locations.{renumbered_edge_rep}
use Rattle.written_locations.specs.Added.{location_number}
use Rattle.written_heads.specs.Words.{parameters_text, spaced}
use Rattle.written_heads.proofs.LineLemmas.{edge_rep_text}
use Rattle.written_heads.proofs.edges.push_edge_rep.Goals as goal

pub returns : goal.returns
returns g c =
    let renumber = location_number c.args.locations.now in
    let r = c.args.rep.now in
    let whole =
    edge_rep_text renumber c.args.version r
    ∙ ap (λ t. t ++ (spaced (number_words (renumbered_edge_rep renumber r)) ++ parameters_text c.args.version r))
    (sym c.form_digit.ensures) in
    in_three g.met.B.TakesBytes.joins _ _ _ _ _ _ _ _
    c.push_byte.ensures
    c.push_columns.ensures
    c.push_parameters.ensures
    (sym whole)
