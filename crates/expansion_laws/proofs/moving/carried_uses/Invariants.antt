-- The uses so far, whose words are within the limits.
use Rattle.std.proofs.Common.{◌≡◌, map, take}
use Rattle.expansion_laws.specs.Contexts.{carried}
use Rattle.expansion_laws.specs.Plain.{shown_use}
use Rattle.expansion_laws.specs.SlowParts.{seen_use, words_of, Pass}
use Rattle.expansion_laws.proofs.moving.carried_uses.Given as goal

abbrev pub invariant-loop-u : goal.invariant-loop-u
invariant-loop-u l =
    (map seen_use l.next.items ≡ map (carried l.new.turn l.new.word) (take l.u-index (map shown_use l.u-items))) ×
    Pass (words_of (map (carried l.new.turn l.new.word) (take l.u-index (map shown_use l.u-items))))
