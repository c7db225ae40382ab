-- What a command does to a session, in each state for which it stands.
use Rattle.std.specs.Prelude.{◌≡◌, ◌≤◌, ◌+◌, ℕ, List, [], ◌∷◌}
use Rattle.lists.specs.Distinct.{Counts}
use Rattle.file_loading.specs.Places.{KeepsWords}
use Rattle.shape_pool.specs.Calls.{Keeps}
use Rattle.expansion_laws.specs.Keys.{IsKeyOfStep}
use Rattle.expansion_laws.specs.Requests.{Request}
use Rattle.script_text.specs.declared.command.Command.{Command}
use Rattle.script_text.specs.declared.command.Command.TheVariants as commands
use Rattle.brep_file.specs.declared.file.File.{File}
use Rattle.location_words.specs.declared.pair.Pair.{Pair}
use Rattle.requests.specs.declared.request.Request.{Request as NumberedRequest}
use Rattle.shape_pool.specs.Rows.{Row}
use Rattle.step_history.specs.Composition.{Done}
use Rattle.script_requests.specs.AsTrees.{AreAskedBy, IsReached, IsRight}
use Rattle.script_requests.specs.declared.fault.ScriptFault.{ScriptFault}
use Rattle.script_requests.specs.declared.version.Version.{Version}
use Rattle.script_requests.specs.Refusals.{IsAmiss}
use Rattle.session.specs.declared.fault.SessionFault.{SessionFault}
use Rattle.session.specs.Carrying.{Carries}
use Rattle.session.specs.Refusals.{IsDueRefusal, IsRefused}
use Rattle.session.specs.Standing.{InStates, Stands}
use Rattle.session.specs.States.{State, root_of, step_of}
use Rattle.session.specs.Views.{View}

-- it takes the state to the next one
abbrev pub GoesOn : View → View → Command → Type 0
GoesOn old new c = InStates old (λ s. (next : State) × Carries old.file s c next × Stands new next)

-- no refusal is due; or this one is, unless memory is wanted
abbrev pub IsAccepted : View → ℕ → Command → Type 0
IsAccepted old line c = InStates old (λ s. (fault : SessionFault) → IsRefused old.file s line c fault → ⊥)

abbrev pub IsRefusedFor : View → ℕ → Command → SessionFault → Type 0
IsRefusedFor old line c fault = InStates old (λ s. IsDueRefusal old.file s line c fault)

-- what a command that asks something asks, and why it is refused, where its versions have these images
abbrev pub IsAsking : Command → Type 0
IsAsking (commands.Replace sel tgt) = Unit {0}
IsAsking (commands.Remove sel) = Unit {0}
IsAsking (commands.Merge names) = Unit {0}
IsAsking (commands.Sew names) = Unit {0}
IsAsking commands.Apply = ⊥
IsAsking commands.Undo = ⊥
IsAsking (commands.Until kind) = ⊥
IsAsking commands.Prune = ⊥
IsAsking commands.OutputFirst = ⊥

module _ (f : File) (words : List (List Pair)) (rows : List Row) (vs : List Version) (line : ℕ) (c : Command) where
  abbrev pub AsksOf : List NumberedRequest → Type 0
  AsksOf asked = (ds : List Done) → IsReached f words rows vs ds →
      AreAskedBy f words rows ds c asked × IsRight f ds line c

  abbrev pub FailsFor : ScriptFault → Type 0
  FailsFor fault = (ds : List Done) → IsReached f words rows vs ds → IsAmiss f ds line c fault

-- it stands for what it stood for
abbrev pub StandsStill : View → View → Type 0
StandsStill old new = InStates old (Stands new)

-- earlier numbers keep their words, and earlier nodes what they stand for
pub record KeepsNumbers (old new : View) : Type 0 where
  pub words : KeepsWords old.words new.words
  pub rows : Keeps old.rows new.rows

-- it is as it was, but that its table of words may hold more
pub record IsAsItWas (old new : View) : Type 0 where
  pub is : new ≡ record old { words = new.words }
  pub kept : KeepsWords old.words new.words
  pub stands : StandsStill old new

-- a count rises by no more than the keys of the step that ends, and stays where none does
abbrev pub RisesByStep : File → State → List Request → ℕ → ℕ → Type 0
RisesByStep f s [] old new = new ≡ old
RisesByStep f s (r ∷ rs) old new = (n : ℕ) → Counts (IsKeyOfStep (step_of f s) (root_of f s)) n → new ≤ old + n

abbrev pub RisesBy : File → State → Command → ℕ → ℕ → Type 0
RisesBy f s commands.Apply old new = RisesByStep f s s.requests old new
RisesBy f s c old new = new ≡ old
