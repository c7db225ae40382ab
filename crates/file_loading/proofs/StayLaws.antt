-- What is loaded stays loaded.
use Rattle.std.proofs.Common.{◌≡◌, ◌<◌, ◌∙◌, ap, sym}
use Rattle.std.specs.Prelude.{ℕ, List, [], length, unwrap_or}
use Rattle.lists.proofs.Places.{at_place}
use Rattle.location_words.specs.declared.pair.Pair.{Pair}
use Rattle.expansion_laws.specs.Trees.{a_single}
use Rattle.shape_pool.specs.declared.node.UseOf.{UseOf}
use Rattle.shape_pool.specs.Laws.{IsSound, word_in}
use Rattle.shape_pool.specs.Rows.{Row, HasPlaces, tree_at}
use Rattle.brep_file.specs.declared.file.File.{File}
use Rattle.file_loading.specs.Loading.{IsLoadedFrom, use_in}
use Rattle.file_loading.specs.Places.{KeepsWords}
use Rattle.file_loading.specs.Staying.{HaveGrown, LoadingStays}

word-stays : (words new_words : List (List Pair)) → KeepsWords words new_words → (i : ℕ) → i < length words
    → word_in new_words i ≡ word_in words i
word-stays words new_words kept i lt =
    let at = at_place words i lt in ap (λ o. unwrap_or o []) (kept i at.0 at.1 ∙ sym at.1)

module _ (words new_words : List (List Pair)) (rows new_rows : List Row) (laws : IsSound rows)
    (places : HasPlaces rows (length words)) (grown : HaveGrown words new_words rows new_rows) where
  tree-stays : (i : ℕ) → i < length rows → tree_at (word_in new_words) new_rows i ≡ tree_at (word_in words) rows i
  tree-stays i lt =
      grown.keeps_rows.trees (word_in new_words) i lt
      ∙ sym (laws.trees_read_alike.tables words new_words places grown.keeps_words i lt)

  use-stays : (u : UseOf) → u.id.0 < length rows → u.place.0 < length words
      → use_in new_words new_rows u ≡ use_in words rows u
  use-stays u held named =
      let word = word-stays words new_words grown.keeps_words u.place.0 named in let tree = tree-stays u.id.0 held in
      λ i. a_single u.turn (word i) (tree i)

  file-stays : (f : File) → IsLoadedFrom f words rows → IsLoadedFrom f new_words new_rows
  file-stays f loaded = record {
    table = grown.table;
    places = grown.places;
    loaded = λ k n. (grown.keeps_loaded.loaded k).1 (loaded.loaded k n);
    trees = λ k i n named.
        let was = (grown.keeps_loaded.loaded_as k i).0 named in
        tree-stays i was.1.0 ∙ loaded.trees k i n was;
    kinds = λ k i r is n named.
        let was = (grown.keeps_loaded.loaded_as k i).0 named in
        grown.keeps_rows.kinds i was.1.0 ∙ loaded.kinds k i r is n was;
  }

pub loading-stays : LoadingStays
loading-stays = record {
  words = λ words new_words i kept lt. word-stays words new_words kept i lt;
  trees = λ words new_words rows new_rows i laws places grown lt.
      tree-stays words new_words rows new_rows laws places grown i lt;
  loaded = λ f words new_words rows new_rows laws loaded grown.
      file-stays words new_words rows new_rows laws loaded.places grown f loaded;
  uses = λ words new_words rows new_rows u laws places grown held named.
      use-stays words new_words rows new_rows laws places grown u held named;
}
