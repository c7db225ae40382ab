-- The readers of a history's parts, each with what comes after it.
use Rattle.std.proofs.Common.{ℕ, List, length, Ok}
use Rattle.std.specs.Prelude.{codes}
use Rattle.lists.specs.Results.{◌>>=◌}
use Rattle.history_text.specs.LineForms.{text_of_line}
use Rattle.history_text.specs.Reading.{Left, Read, line_at, origins_at, pairs_at, removed_at, rest_at}
use Rattle.history_text.specs.declared.file.HistoryFile.{HistoryFile}

abbrev pub file : List ℕ → List (ℕ × ℕ) → List (ℕ × ℕ) → List ℕ → HistoryFile
file os ms gs rs = record { origins = os; modified = ms; generated = gs; removed = rs }

abbrev pub head_at : Left → Read (Unit {0})
head_at left = line_at (text_of_line (codes "BREP-HISTORY 1")) left

abbrev pub end_at : Left → Read (Unit {0})
end_at left = line_at (text_of_line (codes "end")) left

abbrev pub modified_at : List ℕ → Left → Read (List (ℕ × ℕ))
modified_at os left = pairs_at (codes "modified") (length os) left

abbrev pub generated_at : List ℕ → Left → Read (List (ℕ × ℕ))
generated_at os left = pairs_at (codes "generated") (length os) left

-- what is read behind each part, from the last part to the first
abbrev pub behind_end : List ℕ → List (ℕ × ℕ) → List (ℕ × ℕ) → List ℕ → Unit {0} × Left → Read HistoryFile
behind_end os ms gs rs = λ end. Ok (file os ms gs rs, end.1)

abbrev pub behind_removed : List ℕ → List (ℕ × ℕ) → List (ℕ × ℕ) → List ℕ × Left → Read HistoryFile
behind_removed os ms gs = λ removed. end_at removed.1 >>= behind_end os ms gs removed.0

abbrev pub behind_generated : List ℕ → List (ℕ × ℕ) → List (ℕ × ℕ) × Left → Read HistoryFile
behind_generated os ms = λ generated. removed_at generated.1 >>= behind_removed os ms generated.0

abbrev pub behind_modified : List ℕ → List (ℕ × ℕ) × Left → Read HistoryFile
behind_modified os = λ modified. generated_at os modified.1 >>= behind_generated os modified.0

abbrev pub behind_origins : List ℕ × Left → Read HistoryFile
behind_origins = λ origins. rest_at origins.0 origins.1

abbrev pub behind_head : Unit {0} × Left → Read HistoryFile
behind_head = λ head. origins_at head.1 >>= behind_origins
