use Rattle.std.proofs.Common.{◌≡◌, ◌++◌, take}
use Rattle.std.specs.Prelude.{codes, string_bytes}
use Rattle.std.specs.List.{flat_map}
use Rattle.brep_run.specs.Messages.{spaced_origin}
use Rattle.brep_run.proofs.outcome.cycle_text.Given as goal

abbrev pub invariant-loop-origin : goal.invariant-loop-origin
invariant-loop-origin l =
    string_bytes l.text ≡ codes "cycle" ++ flat_map spaced_origin (take l.origin-index l.walk)
