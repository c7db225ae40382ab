-- What an answer of `parse` says of the words of a line.
use Rattle.std.specs.Prelude.{◌≡◌, ℕ, true, false, List, Option, Some, None, Result, Ok, Err}
use Rattle.script_text.specs.Meaning.{fault_of, meaning_of}
use Rattle.script_text.specs.Spelling.{Spells}
use Rattle.script_text.specs.Words.{is_nothing}
use Rattle.script_text.specs.declared.command.Command.{Command}
use Rattle.script_text.specs.declared.command.LineFault.{LineFault}
use Rattle.script_text.specs.declared.command.LineFault.TheVariants.{Syntax, NoSuchShape, NoSuchLocation, NoMemory}
use Rattle.script_text.specs.declared.phrase.Phrase.{Phrase}

-- the words spell a phrase, and this is its leftmost number out of range
abbrev pub IsFaulty : ℕ → ℕ → List (List ℕ) → LineFault → Type 0
IsFaulty shapes locations words f = (p : Phrase) × (Spells words p × (fault_of shapes locations p ≡ Some f))

-- the words spell a phrase with all numbers in range, and it means this command
abbrev pub IsCommandOf : ℕ → ℕ → List (List ℕ) → Command → Type 0
IsCommandOf shapes locations words c = (p : Phrase)
    × (Spells words p × ((fault_of shapes locations p ≡ None) × (c ≡ meaning_of p)))

abbrev pub Answers : ℕ → ℕ → List (List ℕ) → Result (Option Command) LineFault → Type 0
Answers shapes locations words (Ok None) = is_nothing words ≡ true
Answers shapes locations words (Ok (Some c)) = IsCommandOf shapes locations words c
Answers shapes locations words (Err Syntax) = (is_nothing words ≡ false) × ((p : Phrase) → Spells words p → ⊥)
Answers shapes locations words (Err (NoSuchShape n)) = IsFaulty shapes locations words (NoSuchShape n)
Answers shapes locations words (Err (NoSuchLocation n)) = IsFaulty shapes locations words (NoSuchLocation n)
Answers shapes locations words (Err NoMemory) = Unit {0}
