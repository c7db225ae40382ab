-- The node is marked, or nothing is done.
use Rattle.std.proofs.Common.{arith}
use Rattle.key_results.proofs.MarkTurns.{mark-read, mark-missing}
use Rattle.key_results.proofs.PairLaws.{pair-more, so-more, no-more}
use Rattle.key_results.proofs.images.see.Goals as goal

pub bounds-marks-id : goal.bounds-marks-id
bounds-marks-id c = omega (arith, c.requires.id, c.requires.long)

pub returns-then-marks-id-clause-marked : goal.returns-then-marks-id-clause-marked
returns-then-marks-id-clause-marked c = λ i.
    so-more (mark-read c.args.marks.now c.args.id.0 (omega (arith, c.requires.id, c.requires.long)) c.if-marks-id.true)
    (c.mark_used.ensures.marked i)

pub returns-then-marks-id-clause-pairs : goal.returns-then-marks-id-clause-pairs
returns-then-marks-id-clause-pairs c =
    pair-more c.args.pairs.now.items c.push.new.self.items (c.args.id, c.args.id)
    (mark-read c.args.marks.now c.args.id.0 (omega (arith, c.requires.id, c.requires.long)) c.if-marks-id.true)
    c.in_ok-push.ensures.items

pub returns-clause-marked : goal.returns-clause-marked
returns-clause-marked c =
    λ i.
    no-more (mark-missing c.args.marks.now c.args.id.0 (omega (arith, c.requires.id, c.requires.long))
    c.if-marks-id.false)

pub returns-clause-pairs : goal.returns-clause-pairs
returns-clause-pairs c =
    λ p.
    no-more (mark-missing c.args.marks.now c.args.id.0 (omega (arith, c.requires.id, c.requires.long))
    c.if-marks-id.false)
