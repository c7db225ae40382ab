-- The lines of a script.
use Rattle.std.specs.Prelude.{ℕ, ◌+◌, suc, Bool, true, false, ◌&&◌, ◌==◌, if◌then◌else◌, List, [], ◌∷◌, count_by}
use Rattle.std.specs.Prelude.{length, nat_lt, slice_index, take, ◌-◌}

-- does a line end directly here
abbrev pub starts_line_end : List ℕ → Bool
starts_line_end [] = false
starts_line_end (b ∷ bs) = b == 10

-- a byte at the front of the first line
abbrev pub onto_line : ℕ → List (List ℕ) → List (List ℕ)
onto_line b [] = (b ∷ []) ∷ []
onto_line b (l ∷ ls) = (b ∷ l) ∷ ls

-- A byte 10 ends a line, also the last byte of a text. A byte 13 directly before a byte 10 belongs to no line.
abbrev pub script_lines : List ℕ → List (List ℕ)
script_lines [] = []
script_lines (b ∷ bs) =
    if b == 10 then [] ∷ script_lines bs
    else (if starts_line_end bs && (b == 13) then script_lines bs else onto_line b (script_lines bs))

-- do bytes follow the last byte 10, where the flag tells whether some stand before
abbrev pub leaves_open : Bool → List ℕ → Bool
leaves_open some [] = some
leaves_open some (b ∷ bs) = if b == 10 then leaves_open false bs else leaves_open true bs

-- the number of bytes 10, and one more where bytes follow the last of them
abbrev pub script_line_count : List ℕ → ℕ
script_line_count bytes = count_by (λ b. b == 10) bytes + (if leaves_open false bytes then 1 else 0)

-- how many bytes stand before the next byte 10, or all
abbrev pub line_size : List ℕ → ℕ
line_size [] = 0
line_size (b ∷ bs) = if b == 10 then 0 else suc (line_size bs)

-- a line without one byte 13 at its end
abbrev pub before_return : List ℕ → List ℕ
before_return line = if nat_lt 0 (length line) && (slice_index line (length line - 1) == 13)
    then take (length line - 1) line else line
