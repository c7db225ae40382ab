-- What is left tells whether the whole is one.
use Rattle.std.proofs.Common.{◌≡◌, map, drop}
use Rattle.expansion_laws.specs.Trees.{uses_of}
use Rattle.expansion_laws.specs.Equality.{uses_eq}
use Rattle.expansion_laws.specs.Plain.{shown_use}
use Rattle.expansion_laws.proofs.plain.+same.Given as goal

abbrev pub invariant-same_uses-loop-i : goal.invariant-same_uses-loop-i
invariant-same_uses-loop-i l =
    uses_eq (uses_of (map shown_use l.a)) (uses_of (map shown_use l.b)) ≡
    uses_eq (uses_of (map shown_use (drop l.i l.a))) (uses_of (map shown_use (drop l.i l.b)))
