-- Reading the text of a history line by line: the history that it spells, or its first line that disagrees.
use Rattle.std.specs.Prelude.{ℕ, zero, suc, ◌+◌, ◌==◌, if◌then◌else◌, List, [], ◌∷◌, ◌++◌, length, codes}
use Rattle.std.specs.Prelude.{Option, Some, None, Result, Ok, Err}
use Rattle.lists.specs.Results.{◌>>=◌}
use Rattle.history_text.specs.LineForms.{count_of_line, cut_at, origin_due, pair_due, removed_due, text_of_line}
use Rattle.history_text.specs.declared.file.HistoryFile.{HistoryFile}

-- The bytes that are still to be read, and the number of the line that they begin with, counted from 1.
pub record Left : Type 0 where
  pub number : ℕ
  pub bytes : List ℕ

-- What lines say, with what is left after them; or the number of the first line that disagrees.
abbrev pub Read : Type 0 → Type 0
Read A = Result (A × Left) ℕ

-- what a line says, before these bytes, if it says something
abbrev pub said_before : {A : Type 0} → ℕ → List ℕ → Option A → Read A
said_before number rest None = Err number
said_before number rest (Some x) = Ok (x, record { number = number + 1; bytes = rest })

abbrev pub first_line : {A : Type 0} → (List ℕ → Option A) → ℕ → Option (List ℕ × List ℕ) → Read A
first_line form number None = Err number
first_line form number (Some cut) = said_before number cut.1 (form cut.0)

-- One line. It disagrees where it isn't of the form that is due, lacks its byte 10, or is missing.
abbrev pub line_at : {A : Type 0} → (List ℕ → Option A) → Left → Read A
line_at form left = first_line form left.number (cut_at 10 left.bytes)

-- So many lines more, each of the form that is due after the lines before it, which said this.
abbrev pub lines_at : {A : Type 0} → (List A → List ℕ → Option A) → List A → ℕ → Left → Read (List A)
lines_at due said zero left = Ok (said, left)
lines_at due said (suc n) left = do
  next ← line_at (due said) left
  lines_at due (said ++ next.0 ∷ []) n next.1

-- a line with a word and a count, and as many lines
abbrev pub section_at : {A : Type 0} → List ℕ → (List A → List ℕ → Option A) → Left → Read (List A)
section_at word due left = do
  count ← line_at (count_of_line word) left
  lines_at due [] count.0 count.1

-- ---- the parts of a history

abbrev pub origins_at : Left → Read (List ℕ)
origins_at left = section_at (codes "records") origin_due left

-- of so many written records
abbrev pub pairs_at : List ℕ → ℕ → Left → Read (List (ℕ × ℕ))
pairs_at word written left = section_at word (pair_due written) left

abbrev pub removed_at : Left → Read (List ℕ)
removed_at left = section_at (codes "removed") removed_due left

abbrev pub rest_at : List ℕ → Left → Read HistoryFile
rest_at origins left = do
  modified ← pairs_at (codes "modified") (length origins) left
  generated ← pairs_at (codes "generated") (length origins) modified.1
  removed ← removed_at generated.1
  end ← line_at (text_of_line (codes "end")) removed.1
  Ok (record { origins = origins; modified = modified.0; generated = generated.0; removed = removed.0 }, end.1)

abbrev pub history_at : Left → Read HistoryFile
history_at left = do
  head ← line_at (text_of_line (codes "BREP-HISTORY 1")) left
  origins ← origins_at head.1
  rest_at origins.0 origins.1

-- A line that follows the end disagrees.
abbrev pub alone : HistoryFile × Left → Result HistoryFile ℕ
alone x = if length x.1.bytes == 0 then Ok x.0 else Err x.1.number

-- The history that a text spells, or the number of its first line that disagrees.
unfoldable pub history_of : List ℕ → Result HistoryFile ℕ
history_of bytes = history_at (record { number = 1; bytes = bytes }) >>= alone

abbrev pub fault_of : Result HistoryFile ℕ → Option ℕ
fault_of (Ok h) = None
fault_of (Err line) = Some line

-- the first line of a text that disagrees, if one does
unfoldable pub first_that_disagrees : List ℕ → Option ℕ
first_that_disagrees bytes = fault_of (history_of bytes)
