-- The records so far name records above them.
use Rattle.std.proofs.Common.{◌<◌, ◌-◌, ℕ, length}
use Rattle.std.specs.Prelude.{All, slice_index_or}
use Rattle.expansion_laws.specs.declared.records.PlainRecord.{PlainRecord}
use Rattle.tree_texts.proofs.RecordLemmas.{IsAboveOwn}
use Rattle.tree_texts.proofs.record_trees.names_above.Given as goal

abbrev pub invariant-loop-i : goal.invariant-loop-i
invariant-loop-i l =
    (j : ℕ) (d : PlainRecord) → j < l.i →
    All (IsAboveOwn (length l.records) (length l.records - j)) (slice_index_or l.records j d).uses
