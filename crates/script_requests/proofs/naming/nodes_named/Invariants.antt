-- The numbers of the name after the versions so far.
use Rattle.std.proofs.Common.{reverse, take}
use Rattle.script_requests.specs.Named.{AreNumbersNamed}
use Rattle.script_requests.proofs.naming.nodes_named.Given as goal

abbrev pub invariant-loop-version : goal.invariant-loop-version
invariant-loop-version l =
    AreNumbersNamed l.pool (reverse (take l.version-index l.versions)) l.name l.met
