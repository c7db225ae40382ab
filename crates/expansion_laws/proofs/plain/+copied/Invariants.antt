-- The copies so far are those of the uses so far.
use Rattle.std.proofs.Common.{◌≡◌, map, take}
use Rattle.expansion_laws.specs.Plain.{shown_use}
use Rattle.expansion_laws.proofs.plain.+copied.Given as goal

abbrev pub invariant-copied_uses-loop-i : goal.invariant-copied_uses-loop-i
invariant-copied_uses-loop-i l = map shown_use l.copies.items ≡ map shown_use (take l.i l.uses)
