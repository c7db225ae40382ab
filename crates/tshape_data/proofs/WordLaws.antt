-- Written words and lines, and the tokens that they are split into.
use Rattle.std.proofs.Common.{◌≡◌, ℕ, List, [], ◌∷◌, ◌++◌, map, refl, sym, ap, ◌∙◌, append_assoc}
use Rattle.std.specs.List.{AllByRecursion, flat_map}
use Rattle.brep_tokens.specs.Written.{IsDarkWord, IsPlain, WrittenIsRead, split_word}
use Rattle.entry_readers.specs.Begins.{IsDecimal}
use Rattle.tshape_data.specs.Lines.{Line}

-- the words are dark, and split into tokens they are these
pub record Spells (words : Line) (texts : List (List ℕ)) : Type 0 where
  pub dark : AllByRecursion IsDarkWord words
  pub same : flat_map split_word words ≡ texts

pub record LinesSpell (lines : List Line) (texts : List (List ℕ)) : Type 0 where
  pub dark : AllByRecursion (AllByRecursion IsDarkWord) lines
  pub same : flat_map (flat_map split_word) lines ≡ texts

-- ---- words

pub no_words : Spells [] []
no_words = record { dark = tt; same = refl }

pub word_then : (word : List ℕ) (words : Line) (texts more : List (List ℕ)) → IsDarkWord word → split_word word ≡ texts
    → Spells words more → Spells (word ∷ words) (texts ++ more)
word_then word words texts more dark same rest = record { dark = (dark, rest.dark); same = rw (same, rest.same) refl }

pub words_join : (words more : Line) (texts other : List (List ℕ)) → Spells words texts → Spells more other
    → Spells (words ++ more) (texts ++ other)
words_join [] more texts other a b = record { dark = b.dark; same = rw (← a.same) b.same }
words_join (w ∷ words) more texts other a b =
    let rest = words_join words more (flat_map split_word words) other (record { dark = a.dark.1; same = refl }) b in
    record {
      dark = (a.dark.0, rest.dark);
      same = rw (← a.same) (ap (λ (z : List (List ℕ)). split_word w ++ z) rest.same
          ∙ sym (append_assoc (split_word w) (flat_map split_word words) other));
    }

module _ (written : WrittenIsRead) where
  -- words that are tokens
  pub plain_then : (word : List ℕ) (words : Line) (texts : List (List ℕ)) → IsPlain word → Spells words texts
      → Spells (word ∷ words) (word ∷ texts)
  plain_then word words texts plain rest =
      let is = written.plain word plain in
      word_then word words (word ∷ []) texts is.0 is.1 rest

  pub decimals_spell : (texts : List (List ℕ)) → AllByRecursion IsDecimal texts → Spells texts texts
  decimals_spell [] all = no_words
  decimals_spell (x ∷ texts) all = plain_then x texts texts (written.decimals x all.0) (decimals_spell texts all.1)

-- ---- lines

pub no_lines : LinesSpell [] []
no_lines = record { dark = tt; same = refl }

pub line_then : (words : Line) (lines : List Line) (texts more : List (List ℕ)) → Spells words texts
    → LinesSpell lines more → LinesSpell (words ∷ lines) (texts ++ more)
line_then words lines texts more a b = record { dark = (a.dark, b.dark); same = rw (a.same, b.same) refl }

pub lines_join : (lines more : List Line) (texts other : List (List ℕ)) → LinesSpell lines texts → LinesSpell more other
    → LinesSpell (lines ++ more) (texts ++ other)
lines_join [] more texts other a b = record { dark = b.dark; same = rw (← a.same) b.same }
lines_join (l ∷ lines) more texts other a b =
    let rest = lines_join lines more (flat_map (flat_map split_word) lines) other
    (record { dark = a.dark.1; same = refl }) b in
    record {
      dark = (a.dark.0, rest.dark);
      same = rw (← a.same) (ap (λ (z : List (List ℕ)). flat_map split_word l ++ z) rest.same
          ∙ sym (append_assoc (flat_map split_word l) (flat_map (flat_map split_word) lines) other));
    }

-- a line for each
pub each_line : {X : Type 0} (line_of : X → Line) (P : X → Type 0) → ((x : X) → P x → Spells (line_of x) (line_of x))
    → (xs : List X) → AllByRecursion P xs → LinesSpell (map line_of xs) (flat_map line_of xs)
each_line line_of P spell [] all = no_lines
each_line line_of P spell (x ∷ xs) all = line_then (line_of x) (map line_of xs) (line_of x) (flat_map line_of xs)
    (spell x all.0) (each_line line_of P spell xs all.1)

-- lines for each
pub each_lines : {X : Type 0} (lines_of : X → List Line) (texts_of : X → List (List ℕ)) (P : X → Type 0)
    → ((x : X) → P x → LinesSpell (lines_of x) (texts_of x)) → (xs : List X) → AllByRecursion P xs
    → LinesSpell (flat_map lines_of xs) (flat_map texts_of xs)
each_lines lines_of texts_of P spell [] all = no_lines
each_lines lines_of texts_of P spell (x ∷ xs) all = lines_join (lines_of x) (flat_map lines_of xs) (texts_of x)
    (flat_map texts_of xs) (spell x all.0) (each_lines lines_of texts_of P spell xs all.1)
