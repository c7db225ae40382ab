-- One more pair is narrowed.
use Rattle.std.proofs.Common.{pos, arith}
use Rattle.location_words.proofs.SumLemmas.{narrowed-more}
use Rattle.location_words.proofs.sum.narrowed.Goals as goal

pub loop-q-preserved : goal.loop-q-preserved
loop-q-preserved c = record {
  same =
      narrowed-more c.args.sum.now c.loop-q.q-index (record { datum = 0; power = pos 0 }) c.loop-q.pairs.items
      c.push.new.self.items
      c.loop-q-test.true c.requires c.loop-q.invariant.same c.in_ok-push.ensures.ok;
  room = omega (arith, c.in_ok-push.ensures.capacity, c.loop-q.invariant.room);
}
