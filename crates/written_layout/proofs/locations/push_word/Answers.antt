use Rattle.std.proofs.Common.{sym}
use Rattle.std.proofs.lemmas.List.{get_or_default}
use Rattle.byte_sink.proofs.Joining.{each_all, each_more, in_three}
use Rattle.written_layout.specs.Layout.{pair_text}
use Rattle.written_layout.proofs.LocationLines.{word_text}
use Rattle.written_layout.proofs.locations.push_word.Goals as goal

pub loop-pair-init : goal.loop-pair-init
loop-pair-init g c = g.met.B.TakesBytes.joins.none _

pub loop-pair-preserved : goal.loop-pair-preserved
loop-pair-preserved g c =
    each_more g.met.B.TakesBytes.joins pair_text c.args.pairs.now c.loop-pair.pair-index _ _ _ _ c.loop-pair-test.true
    (get_or_default c.args.pairs.now c.loop-pair.pair-index _ _ c.loop-pair-test.true) c.loop-pair.invariant
    c.push_pair.ensures

pub returns : goal.returns
returns g c =
    let joins = g.met.B.TakesBytes.joins in
    in_three joins _ _ _ _ _ _ _ _
    c.push_byte.ensures
    (each_all joins pair_text c.args.pairs.now c.loop-pair.pair-index _ _ c.loop-pair-test.false c.loop-pair.invariant)
    c.push.ensures
    (sym (word_text c.args.pairs.now))
