-- The words that are written with nodes.
use Rattle.std.specs.Prelude.{◌≡◌, ℕ, List, Contains}
use Rattle.std.specs.List.{flat_map}
use Rattle.shape_pool.specs.declared.node.UseOf.{UseOf}
use Rattle.written_locations.specs.declared.written.WrittenLocations.{WrittenLocations}
use Rattle.written_locations.specs.Added.{further_of, AddsAll, IsAdded, IsNumbering, IsWordAdded}
use Rattle.written_locations.specs.Further.{further_words}
use Rattle.brep_writer.specs.declared.source.Source.{Source}
use Rattle.brep_writer.specs.Sources.{data_in, tree_in, use_of, words_in}
use Rattle.brep_writer.specs.WrittenFile.{words_of_tree, words_under}

-- the words are those of the file's places and of the table
pub record IsOver (s : Source) (l : WrittenLocations) : Type 0 where
  pub section : l.section.now ≡ s.file.now.locations
  pub table : l.table.now ≡ s.words.now

-- the words of a number are added: those of its data, and those of its uses
abbrev pub AddsNode : Source → ℕ → WrittenLocations → WrittenLocations → Type 0
AddsNode s i old new = AddsAll (words_of_tree s.file.now (tree_in s i)) (data_in s i) (words_in s i) old new

-- and those of numbers, one after another
abbrev pub AddsNodes : Source → List ℕ → WrittenLocations → WrittenLocations → Type 0
AddsNodes s numbers old new =
    AddsAll (flat_map (λ i. words_of_tree s.file.now (tree_in s i)) numbers) (flat_map (data_in s) numbers)
    (flat_map (words_in s) numbers) old new

-- The words of the numbers and of the root use are added, and are those that are written for the root.
pub record AreLocated (s : Source) (numbers : List ℕ) (root : UseOf) (l : WrittenLocations) : Type 0 where
  pub over : IsOver s l
  pub numbering : IsNumbering l
  pub words : further_of l ≡ further_words (words_under s.file.now (use_of s root))
  pub named : (i k : ℕ) → Contains numbers i → Contains (data_in s i) k → IsAdded l k
  pub used : (i k : ℕ) → Contains numbers i → Contains (words_in s i) k → IsWordAdded l k
  pub root_added : IsWordAdded l root.place.0
