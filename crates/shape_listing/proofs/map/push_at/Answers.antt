use Rattle.std.proofs.Common.{◌∙◌}
use Rattle.byte_sink.proofs.Joining.{as_text}
use Rattle.shape_listing.specs.Lines.{line_of}
use Rattle.shape_listing.proofs.LineLaws.{word-at}
use Rattle.shape_listing.proofs.map.push_at.Goals as goal

pub returns : goal.returns
returns g c =
    as_text g.met.B.TakesBytes.joins _ _ _ _
    c.push_shape.ensures
    (λ i. line_of (c.origin.ensures i)
    ((c.pairs.ensures.pairs ∙ word-at c.args.words.now c.args.at.word.0 _ c.word.ensures.word) i))
