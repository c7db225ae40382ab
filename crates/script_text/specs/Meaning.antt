-- What a phrase means, and which of its numbers is out of range.
use Rattle.std.specs.Prelude.{◌≡◌, ◌⊎◌, ℕ, ◌&&◌, nat_le, if◌then◌else◌, unwrap_or, List, [], ◌∷◌, map, MatchResult}
use Rattle.std.specs.Prelude.{Option, Some, None, Result, Ok, Err}
use Rattle.orientation.specs.declared.turn.Turn.{Turn}
use Rattle.orientation.specs.declared.turn.Turn.TheVariants.{Forward}
use Rattle.script_text.specs.Reading.{phrase_of}
use Rattle.script_text.specs.Words.{is_nothing, words_of}
use Rattle.script_text.specs.declared.command.Command.{Command}
use Rattle.script_text.specs.declared.command.Command.TheVariants as commands
use Rattle.script_text.specs.declared.command.LineFault.{LineFault}
use Rattle.script_text.specs.declared.command.LineFault.TheVariants.{Syntax, NoSuchShape, NoSuchLocation, NoMemory}
use Rattle.script_text.specs.declared.command.Sel.{Sel}
use Rattle.script_text.specs.declared.command.SignedName.{SignedName}
use Rattle.script_text.specs.declared.command.Tgt.{Tgt}
use Rattle.script_text.specs.declared.phrase.Mention.{Mention}
use Rattle.script_text.specs.declared.phrase.Phrase.{Phrase}
use Rattle.script_text.specs.declared.phrase.Phrase.TheVariants.{Replace, Remove, Merge, Sew, Apply, Undo, Until, Prune}
use Rattle.script_text.specs.declared.phrase.Phrase.TheVariants.{OutputFirst}

-- ---- what is meant

-- no sign is `+`
abbrev pub turn_of_mention : Mention → Turn
turn_of_mention m = unwrap_or m.sign Forward

abbrev pub number_of_mention : Mention → ℕ
number_of_mention m = m.number

abbrev pub signed_name : Mention → SignedName
signed_name m = record { name = m.number; turn = turn_of_mention m }

abbrev pub selection : Mention → Option ℕ → Sel
selection m place = record { name = m.number; turn = m.sign; place = place }

-- without `loc` the location is that of `at`, and 0 without both
abbrev pub target_of : Mention → Option ℕ → Option ℕ → Tgt
target_of m place location = record {
  name = m.number;
  turn = turn_of_mention m;
  location =
      unwrap_or location (unwrap_or place 0);
}

abbrev pub meaning_of : Phrase → Command
meaning_of (Replace source place target location) =
    commands.Replace (selection source place) (target_of target place location)
meaning_of (Remove source place) = commands.Remove (selection source place)
meaning_of (Merge ms) = commands.Merge (map number_of_mention ms)
meaning_of (Sew ms) = commands.Sew (map signed_name ms)
meaning_of Apply = commands.Apply
meaning_of Undo = commands.Undo
meaning_of (Until kind) = commands.Until kind
meaning_of Prune = commands.Prune
meaning_of OutputFirst = commands.OutputFirst

-- ---- numbers out of range, the leftmost first

-- the numbers of records run from 1
abbrev pub shape_fault : ℕ → ℕ → Option LineFault
shape_fault shapes n = if nat_le 1 n && nat_le n shapes then None else Some (NoSuchShape n)

-- the numbers of locations run from 0
abbrev pub location_fault : ℕ → Option ℕ → Option LineFault
location_fault locations None = None
location_fault locations (Some n) = if nat_le n locations then None else Some (NoSuchLocation n)

abbrev pub first_fault : Option LineFault → Option LineFault → Option LineFault
first_fault None later = later
first_fault (Some f) later = Some f

abbrev pub selection_fault : ℕ → ℕ → Mention → Option ℕ → Option LineFault
selection_fault shapes locations m place = first_fault (shape_fault shapes m.number) (location_fault locations place)

abbrev pub mentions_fault : ℕ → List Mention → Option LineFault
mentions_fault shapes [] = None
mentions_fault shapes (m ∷ ms) = first_fault (shape_fault shapes m.number) (mentions_fault shapes ms)

abbrev pub fault_of : ℕ → ℕ → Phrase → Option LineFault
fault_of shapes locations (Replace source place target location) =
    first_fault (selection_fault shapes locations source place) (selection_fault shapes locations target location)
fault_of shapes locations (Remove source place) = selection_fault shapes locations source place
fault_of shapes locations (Merge ms) = mentions_fault shapes ms
fault_of shapes locations (Sew ms) = mentions_fault shapes ms
fault_of shapes locations Apply = None
fault_of shapes locations Undo = None
fault_of shapes locations (Until kind) = None
fault_of shapes locations Prune = None
fault_of shapes locations OutputFirst = None

-- ---- what a line gives

abbrev pub unless_faulty : Command → Option LineFault → Result (Option Command) LineFault
unless_faulty c None = Ok (Some c)
unless_faulty c (Some f) = Err f

abbrev pub command_of_phrase : ℕ → ℕ → Option Phrase → Result (Option Command) LineFault
command_of_phrase shapes locations None = Err Syntax
command_of_phrase shapes locations (Some p) = unless_faulty (meaning_of p) (fault_of shapes locations p)

-- The command of a line, over so many records and locations; or the fault.
abbrev pub command_of_line : ℕ → ℕ → List ℕ → Result (Option Command) LineFault
command_of_line shapes locations line =
    if is_nothing (words_of line) then Ok None else command_of_phrase shapes locations (phrase_of (words_of line))

-- memory is wanted, or the fact holds
abbrev pub OrNoMemory : LineFault → Type 0 → Type 0
OrNoMemory f P = (f ≡ NoMemory) ⊎ P

-- the value, where there is no fault; else the fault
abbrev pub Tells : {A : Type 0} → Option LineFault → A → Result A LineFault → Type 0
Tells fault value result = MatchResult result (λ x. (fault ≡ None) × (x ≡ value)) (λ f. fault ≡ Some f)

-- the command that a phrase means, where none of its numbers is out of range; else the fault
abbrev pub TellsCommand : ℕ → ℕ → Phrase → Result Command LineFault → Type 0
TellsCommand shapes locations phrase result = Tells (fault_of shapes locations phrase) (meaning_of phrase) result

-- so, or memory is wanted
abbrev pub TellsOrWants : {A : Type 0} → Option LineFault → A → Result A LineFault → Type 0
TellsOrWants fault value result = MatchResult result (λ x. (fault ≡ None) × (x ≡ value))
    (λ f. OrNoMemory f (fault ≡ Some f))

-- the answer is this, or memory is wanted
abbrev pub Gives : Result (Option Command) LineFault → Result (Option Command) LineFault → Type 0
Gives (Ok c) due = due ≡ Ok c
Gives (Err f) due = OrNoMemory f (due ≡ Err f)
