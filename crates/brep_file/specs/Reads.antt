-- Which bytes spell a file.
use Rattle.std.specs.Prelude.{◌≡◌, ℕ, ◌⊎◌, List, [], ◌∷◌, ◌++◌, map, Some, codes}
use Rattle.brep_tokens.specs.Tokens.{Word, tokens_of}
use Rattle.brep_file.specs.declared.file.File.{File}
use Rattle.brep_file.specs.Spelling.{spell_file}
use Rattle.brep_file.specs.Sound.{IsSound, IsWithinLimits}

abbrev pub texts_of : List Word → List (List ℕ)
texts_of ws = map (λ w. w.text) ws

-- the tokens after the version line are the file's spelling, perhaps with a closing `0`
abbrev pub IsSpelling : List (List ℕ) → File → Type 0
IsSpelling texts f = (texts ≡ spell_file f) ⊎ (texts ≡ spell_file f ++ codes "0" ∷ [])

-- the bytes are a text of this sound file
pub record Spells (bytes : List ℕ) (f : File) : Type 0 where
  pub tokens : (ws : List Word) × (tokens_of bytes ≡ Some (f.version, ws)) × IsSpelling (texts_of ws) f
  pub sound : IsSound f

-- and the program reads it
pub record Reads (bytes : List ℕ) (f : File) : Type 0 where
  pub spells : Spells bytes f
  pub small : IsWithinLimits f
