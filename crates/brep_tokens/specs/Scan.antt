-- A scanner, what it has still to give, and what its next call answers.
use Rattle.std.specs.Prelude.{ℕ, true, List, [], ◌∷◌, drop, length, nat_le, ◌≡◌, if◌then◌else◌, Result, Ok, Err, Option}
use Rattle.std.specs.Prelude.{Some, None, take, ◌-◌, ◌<◌, ◌≤◌}
use Rattle.brep_tokens.specs.Tokens.{Word, words_at, Head, missing, unread, version, head_at}
use Rattle.brep_tokens.specs.declared.fault.ReadFault.{ReadFault}
use Rattle.brep_tokens.specs.declared.fault.ReadCode.TheVariants as codes
use Rattle.brep_tokens.specs.declared.scanner.Next.{Next}
use Rattle.brep_tokens.specs.declared.scanner.Next.TheVariants as next
use Rattle.brep_tokens.specs.State.{Scan}

-- the tokens that are still to be given, once the version line was
abbrev pub words_left : Scan → List Word
words_left s = words_at s.at (drop s.at s.fed)

abbrev pub head_of : Scan → Head
head_of s = head_at true 1 0 s.fed

abbrev pub head_says : ℕ → Head → Result Next ReadFault
head_says size missing = Err (record { code = codes.NoVersion; offset = size; value = 0; limit = 0 })
head_says size (unread line k) = Err (record { code = codes.VersionNotRead; offset = k; value = line; limit = 0 })
head_says size (version v k rest) = Ok (next.Version v)

abbrev pub words_say : ℕ → List Word → Result Next ReadFault
words_say size [] = Ok (next.End size)
words_say size (w ∷ ws) =
    if nat_le (length w.text) 128 then Ok (next.Token (record { offset = w.offset; text = w.text }))
    else Err (record { code = codes.TokenTooLong; offset = w.offset; value = 129; limit = 128 })

-- What the next call answers, where the end was told.
abbrev pub coming : Scan → Result Next ReadFault
coming s = if s.headed then words_say (length s.fed) (words_left s) else head_says (length s.fed) (head_of s)

abbrev pub after_first : List Word → List Word
after_first [] = []
after_first (w ∷ ws) = ws

abbrev pub words_of : Head → List Word
words_of missing = []
words_of (unread line k) = []
words_of (version v k rest) = words_at k rest

-- the tokens that are still to be given after it, where it answers no fault
abbrev pub left_after : Scan → List Word
left_after s = if s.headed then after_first (words_left s) else words_of (head_of s)

pub record Steps (old new : Scan) : Type 0 where
  pub fed : new.fed ≡ old.fed
  pub ended : new.ended ≡ old.ended
  pub headed : new.headed ≡ true
  pub left : words_left new ≡ left_after old

-- the first token from a place on lies between these places, and the others come after it
abbrev pub FirstWord : List ℕ → ℕ → Option (ℕ × ℕ) → Type 0
FirstWord bytes at None = words_at at (drop at bytes) ≡ []
FirstWord bytes at (Some (start, end)) =
    (start < end)
    × (end ≤ length bytes)
    × (words_at at (drop at bytes) ≡ record { offset = start; text = take (end - start) (drop start bytes) }
    ∷ words_at end (drop end bytes))

-- the version and where the text after the version line begins, or the fault
abbrev pub IsHead : List ℕ → Result (ℕ × ℕ) ReadFault → Head → Type 0
IsHead bytes (Ok r) head = (r.1 ≤ length bytes) × ((k : ℕ) × (rest : List ℕ) × (head ≡ version r.0 k rest)
    × (words_at k rest ≡ words_at r.1 (drop r.1 bytes)))
IsHead bytes (Err e) head = head_says (length bytes) head ≡ Err e
