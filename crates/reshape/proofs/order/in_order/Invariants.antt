-- The keys of the places so far are in order.
use Rattle.reshape.proofs.MemoLaws.{AreOrderedTo}
use Rattle.reshape.proofs.order.in_order.Given as goal

abbrev pub invariant-loop-p : goal.invariant-loop-p
invariant-loop-p l = AreOrderedTo l.found.at.items l.p l.keys.keys
