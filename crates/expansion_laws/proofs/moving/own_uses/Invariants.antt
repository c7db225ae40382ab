-- The uses so far.
use Rattle.std.proofs.Common.{◌≡◌, map, take}
use Rattle.expansion_laws.specs.Trees.{Use}
use Rattle.expansion_laws.specs.Plain.{shown_use}
use Rattle.expansion_laws.specs.SlowParts.{seen_use}
use Rattle.expansion_laws.proofs.moving.own_uses.Given as goal

abbrev pub invariant-loop-u : goal.invariant-loop-u
invariant-loop-u l = map seen_use l.own.items ≡ map (λ (u : Use). u) (take l.u-index (map shown_use l.u-items))
