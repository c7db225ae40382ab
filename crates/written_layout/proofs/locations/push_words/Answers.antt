use Rattle.std.proofs.Common.{◌∙◌, ap, arith, sym, take_all}
use Rattle.std.specs.Prelude.{Some}
use Rattle.written_locations.specs.Added.{further_of}
use Rattle.byte_sink.proofs.Joining.{as_text, in_two}
use Rattle.written_layout.specs.Layout.{words_text}
use Rattle.written_layout.proofs.LocationLines.{words-more}
use Rattle.written_layout.proofs.locations.push_words.Goals as goal

pub loop-i-init : goal.loop-i-init
loop-i-init g c = g.met.B.TakesBytes.joins.none _

pub loop-i-preserved : goal.loop-i-preserved
loop-i-preserved g c =
    in_two g.met.B.TakesBytes.joins _ _ _ _ _ _
    c.loop-i.invariant
    c.push_word.ensures
    (sym (words-more (further_of c.args.locations.now) c.loop-i.i c.pairs.result.now
    (c.further.ensures ∙ ap Some (sym c.pairs.ensures.pairs))))

pub returns : goal.returns
returns g c =
    let long = c.len-i-end.ensures.len in
    as_text g.met.B.TakesBytes.joins _ _ _ _
    c.loop-i.invariant
    (ap words_text (take_all c.loop-i.i (further_of c.args.locations.now) (omega (arith, long, c.loop-i-test.false))))
