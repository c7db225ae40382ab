-- What was loaded, under a table of words and in a pool that have grown.
use Rattle.std.specs.Prelude.{◌≡◌, ◌<◌, ℕ, List, length}
use Rattle.location_words.specs.declared.pair.Pair.{Pair}
use Rattle.location_words.specs.Tables.{IsTable}
use Rattle.shape_pool.specs.declared.node.UseOf.{UseOf}
use Rattle.shape_pool.specs.Rows.{Row, HasPlaces, tree_at}
use Rattle.shape_pool.specs.Calls.{Keeps, KeepsLoaded}
use Rattle.shape_pool.specs.Laws.{IsSound, word_in}
use Rattle.brep_file.specs.declared.file.File.{File}
use Rattle.file_loading.specs.Loading.{IsLoadedFrom, use_in}
use Rattle.file_loading.specs.Places.{KeepsWords}

-- Earlier numbers keep their words and their nodes, the same origins are loaded, and the words of all uses are numbered
-- by the table.
pub record HaveGrown (words new_words : List (List Pair)) (rows new_rows : List Row) : Type 0 where
  pub table : IsTable new_words
  pub keeps_words : KeepsWords words new_words
  pub keeps_rows : Keeps rows new_rows
  pub keeps_loaded : KeepsLoaded rows new_rows
  pub places : HasPlaces new_rows (length new_words)

-- A file that is loaded stays loaded, and numbers of words, of nodes and uses stand for what they stood for.
pub record LoadingStays : Type 0 where
  pub words : (words new_words : List (List Pair)) (i : ℕ) → KeepsWords words new_words → i < length words
      → word_in new_words i ≡ word_in words i
  pub trees : (words new_words : List (List Pair)) (rows new_rows : List Row) (i : ℕ) → IsSound rows
      → HasPlaces rows (length words) → HaveGrown words new_words rows new_rows → i < length rows
      → tree_at (word_in new_words) new_rows i ≡ tree_at (word_in words) rows i
  pub loaded : (f : File) (words new_words : List (List Pair)) (rows new_rows : List Row) → IsSound rows
      → IsLoadedFrom f words rows → HaveGrown words new_words rows new_rows → IsLoadedFrom f new_words new_rows
  pub uses : (words new_words : List (List Pair)) (rows new_rows : List Row) (u : UseOf) → IsSound rows
      → HasPlaces rows (length words) → HaveGrown words new_words rows new_rows → u.id.0 < length rows
      → u.place.0 < length words → use_in new_words new_rows u ≡ use_in words rows u
