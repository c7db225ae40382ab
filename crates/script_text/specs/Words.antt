-- The words of a line.
use Rattle.std.specs.Prelude.{◌≡◌, ◌<◌, ℕ, suc, Bool, true, false, ◌==◌, ◌||◌, if◌then◌else◌, nat_eq, List, [], ◌∷◌}
use Rattle.std.specs.Prelude.{length}
use Rattle.std.specs.Prelude.{Option, MatchOption}
use Rattle.std.proofs.Common.{Bor}
use Rattle.std.specs.Cmp.Lexicographic.{pointwise}

-- a space or a tab
abbrev pub is_blank : ℕ → Bool
is_blank b = (b == 32) || (b == 9)

-- does no word go on here
abbrev pub starts_blank : List ℕ → Bool
starts_blank [] = true
starts_blank (b ∷ bs) = is_blank b

-- a byte at the front of the first word
abbrev pub onto_word : ℕ → List (List ℕ) → List (List ℕ)
onto_word b [] = (b ∷ []) ∷ []
onto_word b (w ∷ ws) = (b ∷ w) ∷ ws

-- The words of a line: the longest runs of bytes other than spaces and tabs.
abbrev pub words_of : List ℕ → List (List ℕ)
words_of [] = []
words_of (b ∷ bs) =
    if is_blank b then words_of bs
    else (if starts_blank bs then (b ∷ []) ∷ words_of bs else onto_word b (words_of bs))

-- a line has no words; or this is its first word, and a shorter line has the words that follow
abbrev pub SplitsFirst : List ℕ → Option (Bor (List ℕ) × Bor (List ℕ)) → Type 0
SplitsFirst line result = MatchOption result (words_of line ≡ [])
    (λ r. (words_of line ≡ r.0.now ∷ words_of r.1.now) × (length r.1.now < length line))

abbrev pub starts_hash : List ℕ → Bool
starts_hash [] = false
starts_hash (b ∷ bs) = b == 35

-- no words, or a first word that begins with `#`
abbrev pub is_nothing : List (List ℕ) → Bool
is_nothing [] = true
is_nothing (w ∷ ws) = starts_hash w

abbrev pub is_word : List ℕ → List ℕ → Bool
is_word a b = pointwise nat_eq a b

-- how many bytes stand before the first space or tab, or all
abbrev pub word_size : List ℕ → ℕ
word_size [] = 0
word_size (b ∷ bs) = if is_blank b then 0 else suc (word_size bs)
