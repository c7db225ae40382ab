-- From the highest number down, what stands below stopped visits is marked.
use Rattle.key_results.proofs.MarkTurns.{IsSeenTo}
use Rattle.key_results.proofs.images.see_all.Given as goal

abbrev pub invariant-loop-done : goal.invariant-loop-done
invariant-loop-done l = IsSeenTo l.pool l.visits l.initial.pairs.items l.done l.marks l.pairs.items
