-- All decimals so far fit.
use Rattle.std.proofs.Common.{take}
use Rattle.entry_readers.specs.Spelled.{AreShort}
use Rattle.entry_rows.proofs.saying.short.Given as goal

abbrev pub invariant-loop-at : goal.invariant-loop-at
invariant-loop-at l = AreShort (take l.at l.texts)
