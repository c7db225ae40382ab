-- What the text written for a root says of it.
use Rattle.std.specs.Prelude.{◌≡◌, ℕ, length, ◌<◌, ◌^◌, ◌≤◌, ◌⊎◌, List, Contains}
use Rattle.orientation.specs.Kinds.{IsBelow}
use Rattle.location_table.specs.Words.{datums_of}
use Rattle.location_table.specs.Written.{IsWordOver}
use Rattle.expansion_laws.specs.Trees.{Tree, Use, uses, origin}
use Rattle.expansion_laws.specs.Measures.{depth, subtrees}
use Rattle.expansion_laws.specs.Expansion.{IsNumberOf}
use Rattle.expansion_laws.specs.Sharing.{use_with_origins, IsShared}
use Rattle.expansion_laws.specs.Written.{flat, origins_of}
use Rattle.written_heads.specs.Versions.{IsOutputOf}
use Rattle.brep_file.specs.declared.file.File.{File}
use Rattle.brep_file.specs.PlainRecords.{plain_records, expansion_of, plain_root}
use Rattle.brep_file.specs.Reads.{Reads, Spells}
use Rattle.brep_file.specs.Sound.{IsSound}
use Rattle.brep_writer.specs.Dress.{dress, full, head_for}
use Rattle.brep_writer.specs.WrittenFile.{locations_under, text_of}

-- A root over the records of a file can be written as a file again.
pub record CanBeWritten (f : File) (root : Use) : Type 0 where
  -- each origin is 0 or the number of a record
  pub origins : (x : Tree) → Contains (subtrees root.tree) x → (origin x ≡ 0) ⊎ IsNumberOf (length f.records) (origin x)
  pub in_order : (x : Tree) (u : Use) → Contains (subtrees root.tree) x → Contains (uses x) u
      → IsBelow (head_for f u.tree).kind (head_for f x).kind
  -- each word is within the limits, and over the file's datums
  pub words : (x : Tree) (u : Use) → Contains (subtrees root.tree) x → Contains (uses x) u
      → IsWordOver (length (datums_of f.locations)) u.word
  pub root_word : IsWordOver (length (datums_of f.locations)) root.word
  pub shallow : depth root.tree ≤ 512
  pub countable : length (flat root.tree) < 10 ^ 18
  pub few_words : length (locations_under f root) < 10 ^ 18

-- The full expansion of the file `g` is the root dressed by `f` in a version, which is that of `g`; with its origins
-- put back, the expansion of `g` is the root; it has the datums of `f`; and two occurrences of `g` go through one
-- record exactly where their trees, so relabelled, are equal.
pub record StandsFor (f : File) (root : Use) (output : ℕ) (g : File) : Type 0 where
  pub dressed : full g ≡ dress f root output
  pub relabelled : use_with_origins (origins_of (flat root.tree)) (expansion_of g) ≡ root
  pub version : g.version ≡ output
  pub datums : datums_of g.locations ≡ datums_of f.locations
  pub shared : IsShared (plain_records g) (plain_root g) (origins_of (flat root.tree))

-- The text spells one file, and that file stands for the root.
pub record IsTextFor (f : File) (root : Use) (version : ℕ) (text : List ℕ) : Type 0 where
  pub spelled : (g : File) × Spells text g × StandsFor f root version g
  pub one : (g h : File) → Spells text g → Spells text h → g ≡ h

-- Each root that can be written is written, in the file's version or in version 1, as a text for it; and the expansion
-- of a sound file can be written.
pub record TextsStandForRoots : Type 0 where
  pub texts : (f : File) (root : Use) (version : ℕ) → IsSound f → IsOutputOf f.version version → CanBeWritten f root
      → IsTextFor f root version (text_of f root version)
  pub copies : (f : File) → IsSound f → CanBeWritten f (expansion_of f)

-- the file is what some bytes spell, no more than 2 ^ 26
abbrev pub IsOfFewBytes : File → Type 0
IsOfFewBytes f = (bytes : List ℕ) × Reads bytes f × (length bytes ≤ 2 ^ 26)

-- The text that is written for the expansion of such a file, in its own version, has fewer bytes than 2 ^ 64.
abbrev pub CopiesAreCountable : Type 0
CopiesAreCountable = (f : File) → IsOfFewBytes f → length (text_of f (expansion_of f) f.version) < 2 ^ 64
