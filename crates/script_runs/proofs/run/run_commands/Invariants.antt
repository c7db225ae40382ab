use Rattle.std.proofs.Common.{◌≡◌, ◌≤◌, drop}
use Rattle.script_runs.specs.Runs.{HaveLines}
use Rattle.script_runs.proofs.Leading.{HasComeTo}
use Rattle.script_runs.proofs.run.run_commands.Given as goal

abbrev pub invariant-commands : goal.invariant-commands
invariant-commands g l = record {
  file : l.session.file ≡ l.initial.session.file;
  lines : HaveLines l.initial.session.file (drop l.it-index l.commands);
  come : HasComeTo l.initial.session l.commands l.initial.steps l.session (drop l.it-index l.commands) l.steps;
  rise : l.initial.steps ≤ l.steps;
}
