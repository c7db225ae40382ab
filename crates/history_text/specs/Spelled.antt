-- Texts that spell a history, what an answer of `read` says of a text, and what holds of all texts.
use Rattle.std.specs.Prelude.{◌≡◌, ◌↔◌, ℕ, ◌+◌, ◌<◌, ◌≤◌, List, ◌++◌, length, take, Some, Result, Ok, Err}
use Rattle.brep_tokens.specs.Written.{lines_text}
use Rattle.history_text.specs.HistoryText.{IsHistory, history_lines, text_of}
use Rattle.history_text.specs.Reading.{Left, Read, first_that_disagrees, history_of}
use Rattle.history_text.specs.declared.fault.HistoryFault.{HistoryFault}
use Rattle.history_text.specs.declared.fault.HistoryFault.TheVariants.{NotHistory, NoMemory}
use Rattle.history_text.specs.declared.file.HistoryFile.{HistoryFile}

-- It is the text of this history, and the history is one whose text can be read back.
pub record SpellsHistory (bytes : List ℕ) (h : HistoryFile) : Type 0 where
  pub sound : IsHistory h
  pub spelled : bytes ≡ text_of h

abbrev pub SpellsNone : List ℕ → Type 0
SpellsNone bytes = (h : HistoryFile) → SpellsHistory bytes h → ⊥

-- What `read` answers to a text.
abbrev pub Answers : List ℕ → Result HistoryFile HistoryFault → Type 0
Answers bytes (Ok h) = SpellsHistory bytes h
Answers bytes (Err (NotHistory line)) = SpellsNone bytes × (first_that_disagrees bytes ≡ Some line)
Answers bytes (Err NoMemory) = Unit {0}

-- What a reader of some lines answers.
abbrev pub Takes : {A : Type 0} → Read A → Left → Result A HistoryFault → Type 0
Takes read new (Ok x) = read ≡ Ok (x, new)
Takes read new (Err (NotHistory line)) = read ≡ Err line
Takes read new (Err NoMemory) = Unit {0}

-- What a reader of a whole text answers.
abbrev pub Gives : Result HistoryFile ℕ → Result HistoryFile HistoryFault → Type 0
Gives read (Ok h) = read ≡ Ok h
Gives read (Err (NotHistory line)) = read ≡ Err line
Gives read (Err NoMemory) = Unit {0}

-- A text is read as the history that it spells; it spells at most one, and none exactly where a line disagrees; the
-- text of each history that can be read back is read as it.
pub record TextsSpellOneHistory : Type 0 where
  pub read : (bytes : List ℕ) (h : HistoryFile) → (history_of bytes ≡ Ok h) ↔ SpellsHistory bytes h
  pub one : (bytes : List ℕ) (g h : HistoryFile) → SpellsHistory bytes g → SpellsHistory bytes h → g ≡ h
  pub none : (bytes : List ℕ) → SpellsNone bytes ↔ ((line : ℕ) × (first_that_disagrees bytes ≡ Some line))
  pub written : (h : HistoryFile) → IsHistory h → history_of (text_of h) ≡ Ok h

-- The text of a history that goes on disagrees at the line after its last one; where it breaks off after so many of its
-- lines, the next one disagrees; and none of the lines that begin a history's text is blamed, whatever follows them.
pub record FaultsHaveTheirLine : Type 0 where
  pub longer : (h : HistoryFile) (more : List ℕ) → IsHistory h → 0 < length more
      → first_that_disagrees (text_of h ++ more) ≡ Some (length (history_lines h) + 1)
  pub shorter : (h : HistoryFile) (lines : ℕ) → IsHistory h → lines < length (history_lines h)
      → first_that_disagrees (lines_text (take lines (history_lines h))) ≡ Some (lines + 1)
  pub front : (h : HistoryFile) (lines : ℕ) (rest : List ℕ) (line : ℕ) → IsHistory h → lines ≤ length (history_lines h)
      → first_that_disagrees (lines_text (take lines (history_lines h)) ++ rest) ≡ Some line → lines < line
