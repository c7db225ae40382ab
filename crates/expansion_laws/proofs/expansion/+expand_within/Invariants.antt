-- The uses so far are those of the record with their trees, and what is left is the budget without them.
use Rattle.std.proofs.Common.{◌≡◌, ◌+◌, ◌-◌, map, take, length}
use Rattle.expansion_laws.specs.Trees.{uses_of}
use Rattle.expansion_laws.specs.Measures.{uses_count}
use Rattle.expansion_laws.specs.Expansion.{expanded, trees_of_file}
use Rattle.expansion_laws.specs.Plain.{shown_use}
use Rattle.expansion_laws.specs.PlainFile.{numbered_use, rows}
use Rattle.expansion_laws.proofs.expansion.+expand_within.Given as goal

abbrev pub decreases-expand_within : goal.decreases-expand_within
decreases-expand_within l = length l.records.now - l.number

abbrev pub invariant-loop-u : goal.invariant-loop-u
invariant-loop-u l =
    (map shown_use l.uses.items ≡ map (expanded 1 (trees_of_file (rows l.records)))
    (map numbered_use (take l.u-index l.u-items))) ×
    (l.left + uses_count (uses_of (map shown_use l.uses.items)) ≡ l.budget)
