use Rattle.std.proofs.Common.{refl}
use Rattle.std.proofs.lemmas.List.{get_or_default}
use Rattle.byte_sink.proofs.Joining.{each_all, each_more, in_three}
use Rattle.shape_listing.specs.Lines.{factor_text}
use Rattle.shape_listing.proofs.lines.push_shape.Goals as goal

pub loop-pair-init : goal.loop-pair-init
loop-pair-init g c = g.met.B.TakesBytes.joins.none _

pub loop-pair-preserved : goal.loop-pair-preserved
loop-pair-preserved g c =
    each_more g.met.B.TakesBytes.joins factor_text c.args.word.now c.loop-pair.pair-index _ _ _ _ c.loop-pair-test.true
    (get_or_default c.args.word.now c.loop-pair.pair-index _ _ c.loop-pair-test.true) c.loop-pair.invariant
    c.push_factor.ensures

pub returns : goal.returns
returns g c =
    let joins = g.met.B.TakesBytes.joins in
    in_three joins _ _ _ _ _ _ _ _
    c.push_number.ensures
    (each_all joins factor_text c.args.word.now c.loop-pair.pair-index _ _ c.loop-pair-test.false c.loop-pair.invariant)
    c.push_byte.ensures
    refl
