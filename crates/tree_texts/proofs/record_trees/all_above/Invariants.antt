-- All so far name records above.
use Rattle.std.proofs.Common.{take}
use Rattle.std.specs.Prelude.{All}
use Rattle.tree_texts.proofs.RecordLemmas.{IsAboveOwn}
use Rattle.tree_texts.proofs.record_trees.all_above.Given as goal

abbrev pub invariant-loop-one : goal.invariant-loop-one
invariant-loop-one l = All (IsAboveOwn l.count l.own) (take l.one-index l.uses)
