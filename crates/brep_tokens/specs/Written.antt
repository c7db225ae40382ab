-- Words that are written line by line, and the tokens that are read back.
use Rattle.std.specs.Prelude.{◌≡◌, ◌⊎◌, ℕ, ℤ, ◌<◌, ◌-◌, ◌&&◌, not, nat_lt, Bool, true, if◌then◌else◌, List, [], ◌∷◌}
use Rattle.std.specs.Prelude.{◌++◌, length, take, drop, map, Some, slice_get}
use Rattle.std.specs.List.{AllByRecursion, flat_map, join_with_byte, list_all}
use Rattle.std.specs.Fmt.{decimal, signed_decimal}
use Rattle.brep_tokens.specs.Bytes.{is_dark, is_flag, is_sign}
use Rattle.brep_tokens.specs.Forms.{continuity_words, is_decimal}
use Rattle.brep_tokens.specs.Tokens.{Word, is_joined, tokens_of, version_line}

-- not empty, and without white space
abbrev pub is_dark_word : List ℕ → Bool
is_dark_word text = nat_lt 0 (length text) && list_all is_dark text

abbrev pub IsDarkWord : List ℕ → Type 0
IsDarkWord text = is_dark_word text ≡ true

-- the texts of the tokens of a word: itself, or two where digits are joined to a continuity word
abbrev pub split_word : List ℕ → List (List ℕ)
split_word text = if is_joined text then take (length text - 2) text ∷ drop (length text - 2) text ∷ [] else text ∷ []

-- a word that is one token
abbrev pub is_plain : List ℕ → Bool
is_plain text = is_dark_word text && not (is_joined text)

abbrev pub IsPlain : List ℕ → Type 0
IsPlain text = is_plain text ≡ true

-- the words of a line with one space between neighbours, and the byte 10
abbrev pub line_text : List (List ℕ) → List ℕ
line_text words = join_with_byte 32 words ++ 10 ∷ []

abbrev pub lines_text : List (List (List ℕ)) → List ℕ
lines_text lines = flat_map line_text lines

-- the text has this version, and tokens with these texts
abbrev pub HasTokens : List ℕ → ℕ → List (List ℕ) → Type 0
HasTokens bytes v texts = (ws : List Word) × (tokens_of bytes ≡ Some (v, ws)) × (map (λ w. w.text) ws ≡ texts)

-- What is written line by line after a version line is read back, and what is written there is mostly plain.
pub record WrittenIsRead : Type 0 where
  pub read : (v : ℕ) (lines : List (List (List ℕ))) → (v ≡ 1) ⊎ (v ≡ 2)
      → AllByRecursion (AllByRecursion IsDarkWord) lines
      → HasTokens (version_line v ++ 10 ∷ lines_text lines) v (flat_map (flat_map split_word) lines)
  pub plain : (text : List ℕ) → IsPlain text → IsDarkWord text × (split_word text ≡ text ∷ [])
  pub plain_lines : (lines : List (List (List ℕ))) → AllByRecursion (AllByRecursion IsPlain) lines
      → AllByRecursion (AllByRecursion IsDarkWord) lines
      × (flat_map (flat_map split_word) lines ≡ flat_map (λ words. words) lines)
  pub joined : (n place : ℕ) (word : List ℕ) → slice_get continuity_words place ≡ Some word
      → IsDarkWord (decimal n ++ word) × (split_word (decimal n ++ word) ≡ decimal n ∷ word ∷ [])
  pub continuities : (place : ℕ) (word : List ℕ) → slice_get continuity_words place ≡ Some word → IsPlain word
  pub numbers : (n : ℕ) → IsPlain (decimal n)
  pub powers : (p : ℤ) → IsPlain (signed_decimal p)
  pub use_signs : (s n : ℕ) → is_sign s ≡ true → IsPlain (s ∷ decimal n)
  pub decimals : (text : List ℕ) → is_decimal text ≡ true → IsPlain text
  pub flags : (text : List ℕ) → 0 < length text → list_all is_flag text ≡ true → IsPlain text
