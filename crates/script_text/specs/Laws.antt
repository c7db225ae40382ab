-- What holds of the words of all lines, and of the lines of all commands.
use Rattle.std.specs.Prelude.{◌≡◌, ◌↔◌, ℕ, ◌≤◌, true, List, length, Some, Ok}
use Rattle.script_text.specs.Meaning.{command_of_line}
use Rattle.script_text.specs.Reading.{phrase_of}
use Rattle.script_text.specs.Spelling.{IsShort, Spells}
use Rattle.script_text.specs.Words.{is_nothing}
use Rattle.script_text.specs.Writing.{HasLine, line_of_command}
use Rattle.script_text.specs.declared.command.Command.{Command}
use Rattle.script_text.specs.declared.phrase.Phrase.{Phrase}

-- Words are read as the phrase that they spell; they spell at most one, and none where they are nothing.
pub record LinesSpellOneCommand : Type 0 where
  pub read : (words : List (List ℕ)) (p : Phrase) → (phrase_of words ≡ Some p) ↔ Spells words p
  pub one : (words : List (List ℕ)) (p q : Phrase) → Spells words p → Spells words q → p ≡ q
  pub nothing : (words : List (List ℕ)) (p : Phrase) → is_nothing words ≡ true → Spells words p → ⊥

-- the line gives the command, over so many records and locations
abbrev pub IsLineOf : ℕ → ℕ → List ℕ → Command → Type 0
IsLineOf shapes locations line c = command_of_line shapes locations line ≡ Ok (Some c)

-- Over any numbers of records and locations that a line can name: a command that a line gives is given by the line that
-- is
-- written for it; each command whose numbers are in range has that line, and only such a command is given by a line; no
-- line
-- of the command is shorter, and no other command has its line.
pub record CommandsAreWritten (shapes locations : ℕ) : Type 0 where
  pub back : (c : Command) → HasLine shapes locations c → IsLineOf shapes locations (line_of_command c) c
  pub only : (line : List ℕ) (c : Command) → IsLineOf shapes locations line c → HasLine shapes locations c
  pub shortest : (line : List ℕ) (c : Command) → IsLineOf shapes locations line c
      → length (line_of_command c) ≤ length line
  pub told : (c d : Command) → HasLine shapes locations c → HasLine shapes locations d
      → line_of_command c ≡ line_of_command d → c ≡ d

-- Commands and their lines stand for one another.
abbrev pub CommandsHaveLines : Type 0
CommandsHaveLines = (shapes locations : ℕ) → IsShort shapes → IsShort locations → CommandsAreWritten shapes locations
