-- What is written from: a file, with the pool and the table of words that it was loaded into.
use Rattle.std.specs.Prelude.{◌≡◌, ◌⊎◌, ℕ, List, length, map}
use Rattle.tshape_data.specs.Locations.{data_locations}
use Rattle.tshape_data.specs.Sound.{IsSoundHead}
use Rattle.tshape_data.specs.declared.head.Head.{Head}
use Rattle.expansion_laws.specs.Expansion.{IsNumberOf}
use Rattle.expansion_laws.specs.Trees.{Tree, Use}
use Rattle.shape_pool.specs.declared.node.UseOf.{UseOf}
use Rattle.shape_pool.specs.Laws.{word_in}
use Rattle.shape_pool.specs.Rows.{origin_at, tree_at, uses_at}
use Rattle.brep_file.specs.declared.file.File.{File}
use Rattle.brep_file.specs.Sound.{IsSound, sizes_of}
use Rattle.file_loading.specs.Loading.{use_in, IsLoadedFrom}
use Rattle.brep_writer.specs.declared.source.NodeHead.{NodeHead}
use Rattle.brep_writer.specs.declared.source.NodeHead.TheVariants.{AsLoaded, Made, Rebuilt}
use Rattle.brep_writer.specs.declared.source.Source.{Source}
use Rattle.brep_writer.specs.Dress.{head_for, made_head, rebuilt}

-- the tree of a number, and the use that a use by numbers stands for
abbrev pub tree_in : Source → ℕ → Tree
tree_in s i = tree_at (word_in s.words.now) s.pool.now i

abbrev pub use_of : Source → UseOf → Use
use_of s u = use_in s.words.now s.pool.now u

-- the file is sound, and was loaded
pub record IsLoadedSource (s : Source) : Type 0 where
  pub sound : IsSound s.file.now
  pub loaded : IsLoadedFrom s.file.now s.words.now s.pool.now

-- a number's origin is 0 or the number of a record
abbrev pub HasOrigin : Source → ℕ → Type 0
HasOrigin s i = (origin_at s.pool.now i ≡ 0) ⊎ IsNumberOf (length s.file.now.records) (origin_at s.pool.now i)

-- the head under which a number is written, the locations in its data, and the numbers of the words of its uses
abbrev pub head_in : Source → ℕ → Head
head_in s i = head_for s.file.now (tree_in s i)

abbrev pub data_in : Source → ℕ → List ℕ
data_in s i = data_locations s.file.now.version (head_in s i).payload

abbrev pub words_in : Source → ℕ → List ℕ
words_in s i = map (λ (u : UseOf). u.place.0) (uses_at s.pool.now i)

-- ---- the head as it is found

abbrev pub head_by : NodeHead → Head
head_by Made = made_head
head_by (AsLoaded h) = h.now
head_by (Rebuilt h) = rebuilt h.now

-- it is a sound head of the file's version, where none was made
abbrev pub IsSoundNodeHead : File → NodeHead → Type 0
IsSoundNodeHead f Made = Unit {0}
IsSoundNodeHead f (AsLoaded h) = IsSoundHead (sizes_of f) f.version h.now
IsSoundNodeHead f (Rebuilt h) = IsSoundHead (sizes_of f) f.version h.now
