-- Lines of words are read back as these words.
use Rattle.std.proofs.Common.{◌≡◌, ℕ, suc, ◌+◌, ◌⊎◌, inl, inr, Bool, true, false, not, ltb, if◌then◌else◌, List, []}
use Rattle.std.proofs.Common.{◌∷◌, ◌++◌, length, Some, refl, sym, ap, subst, ◌∙◌, append_assoc, arith}
use Rattle.std.specs.Prelude.{map}
use Rattle.std.specs.List.{AllByRecursion, flat_map, join_with_byte, list_all}
use Rattle.std.proofs.lemmas.Grind.{flat_map-append}
use Rattle.std.proofs.lemmas.Bool.Decides.{nat_tests}
use Rattle.brep_tokens.specs.Bytes.{is_dark, is_white}
use Rattle.brep_tokens.specs.Tokens.{Word, starts_white, onto, runs_at, parts, words_at, is_joined, tokens_of}
use Rattle.brep_tokens.specs.Tokens.{version_line, version_mark, line_says}
use Rattle.brep_tokens.specs.Written.{is_dark_word, IsDarkWord, split_word, IsPlain, line_text, lines_text, HasTokens}
use Rattle.brep_tokens.proofs.NumberForms.{and_left, and_right}

abbrev texts : List Word → List (List ℕ)
texts ws = map (λ w. w.text) ws

-- ---- the version line

tokens_first : (rest : List ℕ) → tokens_of (version_line 1 ++ 10 ∷ rest) ≡ Some (1, words_at 42 rest)
unfolding tokens_of version_line version_mark line_says
tokens_first rest = refl

tokens_second : (rest : List ℕ) → tokens_of (version_line 2 ++ 10 ∷ rest) ≡ Some (2, words_at 42 rest)
unfolding tokens_of version_line version_mark line_says
tokens_second rest = refl

-- ---- words

split_if : (b : Bool) (x y z : Word)
    → texts (if b then x ∷ y ∷ [] else z ∷ []) ≡ (if b then x.text ∷ y.text ∷ [] else z.text ∷ [])
split_if true x y z = refl
split_if false x y z = refl

split_parts : (w : Word) → texts (parts w) ≡ split_word w.text
unfolding parts
split_parts w = split_if (is_joined w.text) _ _ _

map-append_texts : (xs ys : List Word) → texts (xs ++ ys) ≡ texts xs ++ texts ys
map-append_texts [] ys = refl
map-append_texts (x ∷ xs) ys = ap (λ z. x.text ∷ z) (map-append_texts xs ys)

split_texts : (ws : List Word) → texts (flat_map parts ws) ≡ flat_map split_word (texts ws)
split_texts [] = refl
split_texts (w ∷ ws) = map-append_texts (parts w) (flat_map parts ws) ∙ rw (split_parts w, split_texts ws) refl

dark_not_white : (b : ℕ) → is_dark b ≡ true → is_white b ≡ false
dark_not_white b h = grind (arith, nat_tests)

runs_on : (k b c : ℕ) (bs : List ℕ) → is_white b ≡ false → is_white c ≡ false
    → runs_at k (b ∷ c ∷ bs) ≡ onto k b (runs_at (k + 1) (c ∷ bs))
runs_on k b c bs dark next = rw (dark, next) refl

-- a dark word, where no word goes on after it
runs_word : (k b : ℕ) (word rest : List ℕ) → is_white b ≡ false → list_all is_dark word ≡ true
    → starts_white rest ≡ true
    → runs_at k (b ∷ word ++ rest) ≡ record { offset = k; text = b ∷ word } ∷ runs_at (k + suc (length word)) rest
runs_word k b [] rest dark all stops = rw (dark, stops) refl
runs_word k b (c ∷ word) rest dark all stops =
    let next : is_white c ≡ false = dark_not_white c (and_left (is_dark c) (list_all is_dark word) all) in
    let more = runs_word (k + 1) c word rest next (and_right (is_dark c) (list_all is_dark word) all) stops in
    let e : k + 1 + suc (length word) ≡ k + suc (suc (length word)) = omega arith in
    runs_on k b c (word ++ rest) dark next ∙ ap (onto k b) more ∙ rw e refl

-- the texts at the front, and then those of what is left
abbrev BeginsWith : ℕ → List ℕ → List (List ℕ) → List ℕ → Type 0
BeginsWith k bytes words rest = (j : ℕ) × (texts (runs_at k bytes) ≡ words ++ texts (runs_at j rest))

word_read : (k : ℕ) (word rest : List ℕ) → IsDarkWord word → starts_white rest ≡ true
    → BeginsWith k (word ++ rest) (word ∷ []) rest
word_read k [] rest dark stops = absurd cc
word_read k (b ∷ word) rest dark stops =
    let all : list_all is_dark (b ∷ word) ≡ true = and_right (ltb 0 (length (b ∷ word))) (list_all is_dark (b ∷ word))
    dark in
    let first : is_white b ≡ false = dark_not_white b (and_left (is_dark b) (list_all is_dark word) all) in (
      k + suc (length word),
      ap texts (runs_word k b word rest first (and_right (is_dark b) (list_all is_dark word) all)
          stops),
    )

line_read : (k : ℕ) (words : List (List ℕ)) (rest : List ℕ) → AllByRecursion IsDarkWord words
    → BeginsWith k (line_text words ++ rest) words rest
line_read k [] rest dark = (k + 1, refl)
line_read k (w ∷ []) rest dark =
    let one = word_read k w (10 ∷ rest) dark.0 refl in
    (one.0 + 1, rw (append_assoc w (10 ∷ []) rest) one.1)
line_read k (w ∷ x ∷ words) rest dark =
    let one = word_read k w (32 ∷ line_text (x ∷ words) ++ rest) dark.0 refl in
    let more = line_read (one.0 + 1) (x ∷ words) rest dark.1 in
    let e : line_text (w ∷ x ∷ words) ++ rest ≡ w ++ (32 ∷ line_text (x ∷ words) ++ rest) =
    ap (λ z. z ++ rest) (append_assoc w (32 ∷ join_with_byte 32 (x ∷ words)) (10 ∷ []))
    ∙ append_assoc w (32 ∷ line_text (x ∷ words)) rest in
    (more.0, ap (λ z. texts (runs_at k z)) e ∙ one.1 ∙ ap (λ z. w ∷ z) more.1)

lines_read : (k : ℕ) (lines : List (List (List ℕ))) → AllByRecursion (AllByRecursion IsDarkWord) lines
    → texts (runs_at k (lines_text lines)) ≡ flat_map (λ words. words) lines
lines_read k [] dark = refl
lines_read k (l ∷ lines) dark =
    let one = line_read k l (lines_text lines) dark.0 in
    one.1 ∙ ap (λ z. l ++ z) (lines_read one.0 lines dark.1)

split_lines : (lines : List (List (List ℕ))) → flat_map split_word (flat_map (λ words. words) lines) ≡ flat_map
    (flat_map split_word) lines
split_lines [] = refl
split_lines (l ∷ lines) = flat_map-append split_word l (flat_map (λ words. words) lines)
    ∙ ap (λ z. flat_map split_word l ++ z) (split_lines lines)

words_read : (k : ℕ) (lines : List (List (List ℕ))) → AllByRecursion (AllByRecursion IsDarkWord) lines
    → texts (words_at k (lines_text lines)) ≡ flat_map (flat_map split_word) lines
words_read k lines dark = split_texts (runs_at k (lines_text lines))
    ∙ ap (flat_map split_word) (lines_read k lines dark) ∙ split_lines lines

pub read : (v : ℕ) (lines : List (List (List ℕ))) → (v ≡ 1) ⊎ (v ≡ 2) → AllByRecursion (AllByRecursion IsDarkWord) lines
    → HasTokens (version_line v ++ 10 ∷ lines_text lines) v (flat_map (flat_map split_word) lines)
read v lines (inl one) dark =
    subst (λ (n : ℕ). HasTokens (version_line n ++ 10 ∷ lines_text lines) n (flat_map (flat_map split_word) lines))
    (sym one) (words_at 42 (lines_text lines), tokens_first (lines_text lines), words_read 42 lines dark)
read v lines (inr two) dark =
    subst (λ (n : ℕ). HasTokens (version_line n ++ 10 ∷ lines_text lines) n (flat_map (flat_map split_word) lines))
    (sym two) (words_at 42 (lines_text lines), tokens_second (lines_text lines), words_read 42 lines dark)

-- ---- plain words

unjoined : (b : Bool) (x y z : List ℕ) → not b ≡ true → (if b then x ∷ y ∷ [] else z ∷ []) ≡ z ∷ []
unjoined true x y z h = absurd cc
unjoined false x y z h = refl

pub plain : (text : List ℕ) → IsPlain text → IsDarkWord text × (split_word text ≡ text ∷ [])
plain text is = (
  and_left (is_dark_word text) (not (is_joined text)) is,
  unjoined (is_joined text) _ _ text
      (and_right (is_dark_word text) (not (is_joined text)) is),
)

plain_words : (words : List (List ℕ)) → AllByRecursion IsPlain words → AllByRecursion IsDarkWord words
    × (flat_map split_word words ≡ words)
plain_words [] are = (tt, refl)
plain_words (w ∷ words) are =
    let one = plain w are.0 in
    let more = plain_words words are.1 in
    ((one.0, more.0), rw (one.1, more.1) refl)

pub plain_lines : (lines : List (List (List ℕ))) → AllByRecursion (AllByRecursion IsPlain) lines
    → AllByRecursion (AllByRecursion IsDarkWord) lines
    × (flat_map (flat_map split_word) lines ≡ flat_map (λ words. words) lines)
plain_lines [] are = (tt, refl)
plain_lines (l ∷ lines) are =
    let one = plain_words l are.0 in
    let more = plain_lines lines are.1 in
    ((one.0, more.0), rw (one.1, more.1) refl)
