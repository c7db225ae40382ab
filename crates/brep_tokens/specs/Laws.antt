-- What holds of all texts: the forms of tokens are those of their grammar, and a scanner gives the tokens of its text.
use Rattle.std.specs.Prelude.{◌≡◌, ◌↔◌, ◌≤◌, ◌<◌, ◌⊎◌, ℕ, ℤ, Bool, true, false, List, [], ◌∷◌, length, Some, None, Ok}
use Rattle.std.specs.Prelude.{Err, IsErr, slice_get, take, drop}
use Rattle.std.specs.List.{AllByRecursion, list_all}
use Rattle.brep_tokens.specs.Bytes.{is_dark}
use Rattle.brep_tokens.specs.Forms.{IsNumber, IsPower, IsUseSign, continuity_of, continuity_words, flag_of, flag_text}
use Rattle.brep_tokens.specs.Forms.{is_decimal, number_of, power_of, use_sign_of}
use Rattle.brep_tokens.specs.Grammar.{IsDecimalByGrammar}
use Rattle.brep_tokens.specs.Scan.{coming, left_after, words_left}
use Rattle.brep_tokens.specs.State.{Scan}
use Rattle.brep_tokens.specs.Tokens.{Word, tokens_of}
use Rattle.brep_tokens.specs.declared.fault.ReadCode.TheVariants as codes
use Rattle.brep_tokens.specs.declared.scanner.Next.TheVariants as next

-- What a form's test answers, the text spells; and what a text spells, the test answers.
pub record FormsAreExact : Type 0 where
  pub numbers : (text : List ℕ) (n : ℕ) → (number_of text ≡ Some n) ↔ IsNumber text n
  pub powers : (text : List ℕ) (p : ℤ) → (power_of text ≡ Some p) ↔ IsPower text p
  pub flags : (text : List ℕ) (b : Bool) → (flag_of text ≡ Some b) ↔ (text ≡ flag_text b)
  pub use_signs : (text : List ℕ) (s n : ℕ) → (use_sign_of text ≡ Some (s, n)) ↔ IsUseSign text s n
  pub continuities : (text : List ℕ) (k : ℕ) → (continuity_of text ≡ Some k)
      ↔ (slice_get continuity_words k ≡ Some text)
  pub decimals : (text : List ℕ) → (is_decimal text ≡ true) ↔ IsDecimalByGrammar text

-- a scanner that was fed a whole text, before its first answer
abbrev pub begun : List ℕ → Scan
begun bytes = record { fed = bytes; at = 0; headed = false; ended = true }

-- the word is not empty, none of its bytes is white space, and they stand in the text at its offset
pub record StandsIn (bytes : List ℕ) (w : Word) : Type 0 where
  pub some : 0 < length w.text
  pub dark : list_all is_dark w.text ≡ true
  pub here : take (length w.text) (drop w.offset bytes) ≡ w.text

-- The version comes first and is 1 or 2; then each token, while it has at most 128 bytes; then the end.
pub record ScannerGivesTokens : Type 0 where
  pub version : (bytes : List ℕ) (v : ℕ) (ws : List Word) → tokens_of bytes ≡ Some (v, ws)
      → (coming (begun bytes) ≡ Ok (next.Version v)) × (left_after (begun bytes) ≡ ws) × ((v ≡ 1) ⊎ (v ≡ 2))
  pub stands : (bytes : List ℕ) (v : ℕ) (ws : List Word) → tokens_of bytes ≡ Some (v, ws)
      → AllByRecursion (StandsIn bytes) ws
  pub no_version : (bytes : List ℕ) → tokens_of bytes ≡ None → IsErr (coming (begun bytes))
  pub token : (s : Scan) (w : Word) (ws : List Word) → s.headed ≡ true → words_left s ≡ w ∷ ws → length w.text ≤ 128
      → (coming s ≡ Ok (next.Token (record { offset = w.offset; text = w.text }))) × (left_after s ≡ ws)
  pub too_long : (s : Scan) (w : Word) (ws : List Word) → s.headed ≡ true → words_left s ≡ w ∷ ws → 128 < length w.text
      → coming s ≡ Err (record { code = codes.TokenTooLong; offset = w.offset; value = 129; limit = 128 })
  pub end : (s : Scan) → s.headed ≡ true → words_left s ≡ [] → (coming s ≡ Ok (next.End (length s.fed)))
      × (left_after s ≡ [])
