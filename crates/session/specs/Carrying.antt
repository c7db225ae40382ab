-- How a script goes on: each command takes a state to the next.
use Rattle.std.specs.Prelude.{◌≡◌, List, [], ◌∷◌}
use Rattle.expansion_laws.specs.Trees.{Use}
use Rattle.expansion_laws.specs.Requests.{Request}
use Rattle.expansion_laws.specs.Rewriting.{StepsTo}
use Rattle.script_text.specs.declared.command.Command.{Command}
use Rattle.script_text.specs.declared.command.Command.TheVariants as commands
use Rattle.step_history.specs.Composition.{Done}
use Rattle.brep_file.specs.declared.file.File.{File}
use Rattle.session.specs.States.{State, root_of, step_of, asked_too, at_rest, after_step, with_steps}
use Rattle.session.specs.States.{stopping_at, pruning, in_first_version}
use Rattle.script_requests.specs.Asking.{Asks}

-- the end of a step: without requests nothing is done
abbrev pub Ends : File → State → List Request → State → Type 0
Ends f s [] new = new ≡ at_rest s
Ends f s (r ∷ rs) new = (root : Use) × StepsTo (step_of f s) (root_of f s) root × (new ≡ after_step f s root)

-- taking back: the unfinished step where it has requests, or else the last step
abbrev pub TakesBack : State → List Request → List Done → State → Type 0
TakesBack s (r ∷ rs) ds new = new ≡ at_rest s
TakesBack s [] (d ∷ ds) new = new ≡ with_steps s ds
TakesBack s [] [] new = ⊥

-- asking
abbrev pub AsksMore : File → State → Command → State → Type 0
AsksMore f s c new = (asked : List Request) × Asks f s.steps c asked × (new ≡ asked_too s asked)

-- a command takes a state to the next one
abbrev pub Carries : File → State → Command → State → Type 0
Carries f s commands.Apply new = Ends f s s.requests new
Carries f s commands.Undo new = TakesBack s s.requests s.steps new
Carries f s (commands.Until kind) new = new ≡ stopping_at s kind
Carries f s commands.Prune new = new ≡ pruning s
Carries f s commands.OutputFirst new = new ≡ in_first_version s
Carries f s c new = AsksMore f s c new
