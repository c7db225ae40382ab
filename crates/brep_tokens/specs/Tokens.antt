-- The tokens of a whole text: the version line, and the words after it with their offsets.
use Rattle.std.specs.Prelude.{ℕ, ◌+◌, ◌-◌, Bool, true, ◌&&◌, nat_le, slice_index, is_some, if◌then◌else◌, List, [], ◌∷◌}
use Rattle.std.specs.Prelude.{◌++◌, length, take, drop, suc, Option, Some, None, codes, nat_eq}
use Rattle.std.specs.List.{starts_with, list_all, flat_map}
use Rattle.brep_tokens.specs.Bytes.{is_white, is_digit, is_trailing, is_line_end}
use Rattle.brep_tokens.specs.Forms.{continuity_place}

pub record Word : Type 0 where
  pub offset : ℕ
  pub text : List ℕ

-- does no word go on here
abbrev pub starts_white : List ℕ → Bool
starts_white [] = true
starts_white (b ∷ bs) = is_white b

-- a byte at the front of the first word
abbrev pub onto : ℕ → ℕ → List Word → List Word
onto k b [] = record { offset = k; text = b ∷ [] } ∷ []
onto k b (w ∷ ws) = record { offset = k; text = b ∷ w.text } ∷ ws

-- The longest runs of bytes other than white space, of a text at an offset.
abbrev pub runs_at : ℕ → List ℕ → List Word
runs_at k [] = []
runs_at k (b ∷ bs) =
    if is_white b then runs_at (k + 1) bs
    else (if starts_white bs then record { offset = k; text = b ∷ [] } ∷ runs_at (k + 1) bs else onto k b
    (runs_at (k + 1) bs))

-- Digits, at least one, and directly after them a continuity word.
abbrev pub is_joined : List ℕ → Bool
is_joined text =
    nat_le 3 (length text)
    && (is_some (continuity_place (slice_index text (length text - 2)) (slice_index text (length text - 1)))
    && list_all is_digit (take (length text - 2) text))

-- such a run is two tokens
unfoldable pub parts : Word → List Word
parts w =
    if is_joined w.text then
    record { offset = w.offset; text = take (length w.text - 2) w.text }
    ∷ record { offset = w.offset + (length w.text - 2); text = drop (length w.text - 2) w.text }
    ∷ []
    else w ∷ []

-- the tokens of the text after the version line
abbrev pub words_at : ℕ → List ℕ → List Word
words_at k bytes = flat_map parts (runs_at k bytes)

-- ---- the version line

unfoldable pub version_mark : List ℕ
version_mark = codes "CASCADE Topology V"

unfoldable pub version_line : ℕ → List ℕ
version_line v = codes "CASCADE Topology V" ++ (48 + v) ∷ codes ", (c) Matra-Datavision"

pub data Head : Type 0 where
  -- no line begins as a version line
  missing : Head
  -- the first that does, with this line number at this offset, is none
  unread : ℕ → ℕ → Head
  -- version 1 or 2, and the text after the line with its offset
  version : ℕ → ℕ → List ℕ → Head

-- the text, perhaps with bytes 9, 13 and 32 after it
abbrev pub is_line : List ℕ → List ℕ → Bool
is_line text line = starts_with nat_eq line text && list_all is_trailing (drop (length text) line)

-- the number of bytes before the next byte 10, or of all
abbrev pub line_size : List ℕ → ℕ
line_size [] = 0
line_size (b ∷ bs) = if is_line_end b then 0 else suc (line_size bs)

-- what the line at the front says, which begins as a version line
unfoldable pub line_says : ℕ → ℕ → List ℕ → Head
line_says line k bytes =
    if is_line (version_line 1) (take (line_size bytes) bytes) then version 1 (k + (line_size bytes + 1))
    (drop (line_size bytes + 1) bytes)
    else (if is_line (version_line 2) (take (line_size bytes) bytes) then version 2 (k + (line_size bytes + 1))
    (drop (line_size bytes + 1) bytes) else unread line k)

-- over the lines, the flag telling whether one begins here
abbrev pub head_at : Bool → ℕ → ℕ → List ℕ → Head
head_at start line k [] = missing
head_at start line k (b ∷ bs) =
    if start && starts_with nat_eq (b ∷ bs) version_mark then line_says line k (b ∷ bs)
    else head_at (is_line_end b) (line + (if is_line_end b then 1 else 0)) (k + 1) bs

abbrev pub after_head : Head → Option (ℕ × List Word)
after_head missing = None
after_head (unread line k) = None
after_head (version v k rest) = Some (v, words_at k rest)

-- The version and the tokens after the version line, if there is a version line.
unfoldable pub tokens_of : List ℕ → Option (ℕ × List Word)
tokens_of bytes = after_head (head_at true 1 0 bytes)
