-- What is read from bytes is spelled so, and what is spelled so is read.
use Rattle.std.specs.Prelude.{◌≡◌, ℕ, List, Ok}
use Rattle.brep_file.specs.declared.file.File.{File}
use Rattle.brep_tokens.specs.declared.text.Token.{Token}
use Rattle.entry_readers.specs.Begins.{Begins}
use Rattle.brep_file.specs.Sound.{IsSound, IsWithin, Limits}
use Rattle.brep_file.specs.Reads.{Spells}
use Rattle.brep_file.specs.FileReading.{read_text}
use Rattle.brep_file.specs.Spelling.{spell_file}

pub record ReadingIsExact : Type 0 where
  pub takes : (limits : Limits) (bytes : List ℕ) (f : File) → read_text limits bytes ≡ Ok f
      → Spells bytes f × IsWithin limits f
  pub again : (limits : Limits) (bytes : List ℕ) (f : File) → Spells bytes f → IsWithin limits f
      → read_text limits bytes ≡ Ok f
  -- a text spells one file at most
  pub one : (bytes : List ℕ) (f g : File) → Spells bytes f → Spells bytes g → f ≡ g
  -- and so do a version and a list of tokens
  pub one_of_tokens : (f g : File) (ts rest other : List Token) → f.version ≡ g.version → IsSound f → IsSound g
      → Begins ts (spell_file f) rest → Begins ts (spell_file g) other → f ≡ g
