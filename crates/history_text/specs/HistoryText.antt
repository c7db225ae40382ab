-- The text of a history, line by line, and which histories have a text that can be read back.
use Rattle.std.specs.Prelude.{◌≡◌, ℕ, ◌^◌, ◌<◌, ◌≤◌, ◌==◌, nat_lt, Bool, true, if◌then◌else◌}
use Rattle.std.specs.Prelude.{List, [], ◌∷◌, ◌++◌, length, map, codes}
use Rattle.std.specs.List.{AllByRecursion, enumerate_from}
use Rattle.std.specs.Fmt.{decimal}
use Rattle.brep_tokens.specs.Written.{lines_text}
use Rattle.history_text.specs.declared.file.HistoryFile.{HistoryFile}

-- the words of a line: a number
abbrev pub number_words : ℕ → List (List ℕ)
number_words n = decimal n ∷ []

-- two numbers
abbrev pub pair_words : ℕ × ℕ → List (List ℕ)
pair_words p = decimal p.0 ∷ decimal p.1 ∷ []

-- lines under a line that has a word and their count
abbrev pub section : List ℕ → List (List (List ℕ)) → List (List (List ℕ))
section word lines = (word ∷ decimal (length lines) ∷ []) ∷ lines

-- the written numbers from 1 on, each with its origin
abbrev pub origin_lines : List ℕ → List (List (List ℕ))
origin_lines origins = map pair_words (enumerate_from 1 origins)

-- the text of the written numbers with their origins, of pairs under a word, and of removed numbers
abbrev pub origins_text : List ℕ → List ℕ
origins_text origins = lines_text (section (codes "records") (origin_lines origins))

abbrev pub pairs_text : List ℕ → List (ℕ × ℕ) → List ℕ
pairs_text word pairs = lines_text (section word (map pair_words pairs))

abbrev pub removed_text : List ℕ → List ℕ
removed_text removed = lines_text (section (codes "removed") (map number_words removed))

abbrev pub history_lines : HistoryFile → List (List (List ℕ))
history_lines h =
    (codes "BREP-HISTORY" ∷ codes "1" ∷ [])
    ∷ (section (codes "records") (origin_lines h.origins)
    ++ (section (codes "modified") (map pair_words h.modified)
    ++ (section (codes "generated") (map pair_words h.generated)
    ++ (section (codes "removed") (map number_words h.removed)
    ++ (codes "end" ∷ []) ∷ []))))

-- The words of a line have one space between them, and each line ends with byte 10.
unfoldable pub text_of : HistoryFile → List ℕ
text_of h = lines_text (history_lines h)

-- ---- histories whose text can be read back

-- each is below the one after it
abbrev pub Ascend : {A : Type 0} → (A → A → Bool) → List A → Type 0
Ascend below [] = Unit {0}
Ascend below (x ∷ []) = Unit {0}
Ascend below (x ∷ y ∷ ys) = (below x y ≡ true) × Ascend below (y ∷ ys)

-- by the first numbers, and where these are equal by the second
abbrev pub is_pair_below : ℕ × ℕ → ℕ × ℕ → Bool
is_pair_below p q = if p.0 == q.0 then nat_lt p.1 q.1 else nat_lt p.0 q.0

-- a number of at most 18 digits
abbrev pub IsShort : ℕ → Type 0
IsShort n = n < 10 ^ 18

-- an input number and a written number, of so many that were written
abbrev pub IsPairOf : ℕ → ℕ × ℕ → Type 0
IsPairOf written p = IsShort p.0 × (1 ≤ p.1) × (p.1 ≤ written)

pub record ArePairs (written : ℕ) (pairs : List (ℕ × ℕ)) : Type 0 where
  pub each : AllByRecursion (IsPairOf written) pairs
  pub ascend : Ascend is_pair_below pairs
  pub short : IsShort (length pairs)

pub record IsHistory (h : HistoryFile) : Type 0 where
  pub origins : AllByRecursion IsShort h.origins
  pub written : IsShort (length h.origins)
  pub modified : ArePairs (length h.origins) h.modified
  pub generated : ArePairs (length h.origins) h.generated
  pub removed : AllByRecursion IsShort h.removed
  pub ascend : Ascend nat_lt h.removed
  pub short : IsShort (length h.removed)
