-- The numbers so far.
use Rattle.std.proofs.Common.{◌≡◌, map, take}
use Rattle.script_requests.specs.Named.{id_of}
use Rattle.script_requests.proofs.naming.ids_of.Given as goal

abbrev pub invariant-loop-number : goal.invariant-loop-number
invariant-loop-number l = l.ids ≡ map id_of (take l.number-index l.numbers)
