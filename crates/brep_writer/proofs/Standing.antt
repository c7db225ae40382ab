-- The file that is written for a root stands for it: its expansion, dressed, is the dressed root.
use Rattle.std.proofs.Common.{◌≡◌, ◌-◌, refl, sym, ◌∙◌, ap, subst}
use Rattle.std.specs.Prelude.{ℕ, Option, Some, List, [], ◌∷◌, map, length, Contains, slice_get}
use Rattle.std.specs.List.{flat_map}
use Rattle.std.specs.Option.{option_map_or}
use Rattle.std.proofs.lemmas.List.{length-map}
use Rattle.lists.proofs.Places.{Contains-at}
use Rattle.lists.proofs.Members.{Contains-here, Contains-there}
use Rattle.expansion_laws.specs.Trees.{Tree, Use, a_single, uses, origin}
use Rattle.expansion_laws.specs.Measures.{subtrees}
use Rattle.expansion_laws.specs.Expansion.{IsNumberOf, tree_of_number, expansion}
use Rattle.expansion_laws.specs.Sharing.{relabelled, relabelled_use, with_origins, use_with_origins, IsShared}
use Rattle.expansion_laws.specs.Written.{flat, number_in, numbered, records_of, origins_of, IsWritten}
use Rattle.expansion_laws.specs.Walk.{RecordsAreTrees}
use Rattle.tshape_data.specs.Laws.{RenumberingKeepsParts}
use Rattle.tshape_data.specs.Parts.{Part, token, entry, located, payload_parts}
use Rattle.tshape_data.specs.Locations.{renumbered_part, location_of_part}
use Rattle.tshape_data.specs.declared.columns.Table.{Table}
use Rattle.tshape_data.specs.declared.columns.Table.TheVariants.{Curve2s, Curves, Polygons}
use Rattle.tshape_data.specs.declared.columns.Table.TheVariants.{PolygonsOn, Surfaces, Meshes}
use Rattle.tshape_data.specs.declared.head.Head.{Head}
use Rattle.brep_file.specs.declared.records.Record.{Record}
use Rattle.brep_file.specs.declared.file.File.{File}
use Rattle.brep_file.specs.PlainRecords.{expansion_of, plain_root}
use Rattle.brep_file.specs.Sound.{IsSound}
use Rattle.brep_writer.specs.Dress.{Dressed, dressed_part, entry_tokens}
use Rattle.brep_writer.specs.OwnVersion.{dressed}
use Rattle.brep_writer.specs.Dress.{head_for, head_of, made_head, full}
use Rattle.brep_writer.specs.OwnVersion.{dress}
use Rattle.brep_writer.specs.Dress.{token as dressed_token, entry as dressed_entry, word as dressed_word}
use Rattle.location_words.specs.declared.pair.Pair.{Pair}
use Rattle.location_table.specs.Laws.{PlacesHaveWords, WrittenIsHeld}
use Rattle.location_table.specs.Words.{datums_of, word_of_place}
use Rattle.written_locations.specs.Further.{further_words}
use Rattle.brep_writer.specs.WrittenFile.{location_under, words_under, written_head}
use Rattle.brep_writer.specs.OwnVersion.{written_file}
use Rattle.brep_writer.specs.Copies.{CanBeWritten, StandsFor}
use Rattle.brep_writer.proofs.RelabelledTrees.{relabelled-twice, relabelled-same}
use Rattle.brep_writer.proofs.WritingLaws.{WritingLaws}
use Rattle.brep_writer.proofs.WrittenSound.{data-listed, record-made, tree-made, plain-made, root-made, word-again}

module _ (f : File) (root : Use) (can : CanBeWritten f root) (written : IsWritten root (flat root.tree))
    (walk : RecordsAreTrees (records_of (flat root.tree))) (sound : IsSound f) (renumbering : RenumberingKeepsParts)
    (places : PlacesHaveWords)
    (laws : WritingLaws) (law : WrittenIsHeld) where
  abbrev trees : List Tree
  trees = flat root.tree

  abbrev made : File
  made = written_file f root

  abbrev location : List Pair → ℕ
  location = location_under f root

  -- the expansion of the trees' records, whose origins are their numbers
  abbrev again : Use
  again = expansion (records_of trees) (numbered trees root)

  abbrev restore : Tree → Tree
  restore x = with_origins (origins_of trees) x

  abbrev dressed_for : Tree → Dressed
  dressed_for x = dressed f (head_for f x)

  abbrev dressed_of : Tree → Dressed
  dressed_of x = dressed made (head_of made (origin x))

  expansion-made : expansion_of made ≡ again
  expansion-made =
      λ i. expansion (plain-made f root can written sound renumbering places laws law i)
      (root-made f root can written sound renumbering places laws law i)

  -- the number of a tree has the head under which the tree is written
  head-made : (k : ℕ) (x : Tree) → slice_get trees (length trees - k) ≡ Some x
      → head_of made k ≡ written_head f location (head_for f x)
  head-made k x e =
      ap (λ (o : Option Record). option_map_or (λ r. r.head) o made_head)
      (record-made f root can written sound renumbering places laws k x e)

  -- the tree of a number is that of the record, with the origins put back
  number-stands : (k : ℕ) (x : Tree) → IsNumberOf (length trees) k → slice_get trees (length trees - k) ≡ Some x
      → restore (tree_of_number (records_of trees) k) ≡ x
  number-stands k x n e =
      ap (λ j. restore (tree_of_number (records_of trees) j)) (sym (written.lists.once k x n e))
      ∙ written.stands_for x (Contains-at trees (length trees - k) x e)

  -- an entry of the written file is that of the file
  entry-same : (table : Table) (n : ℕ) → entry_tokens made table n ≡ entry_tokens f table n
  entry-same Curve2s n = refl
  entry-same Curves n = refl
  entry-same Polygons n = refl
  entry-same PolygonsOn n = refl
  entry-same Surfaces n = refl
  entry-same Meshes n = refl

  -- the parts of data, dressed again, where the words of their locations are had again
  parts-again : (ps : List Part)
      → ((n : ℕ) → Contains (flat_map location_of_part ps) n
      → word_of_place made.locations (location (word_of_place f.locations n)) ≡ word_of_place f.locations n) →
      map (dressed_part made) (map (renumbered_part (λ n. location (word_of_place f.locations n))) ps)
      ≡ map (dressed_part f) ps
  parts-again [] again_at = refl
  parts-again (token text ∷ ps) again_at = ap (λ l. dressed_token text ∷ l) (parts-again ps again_at)
  parts-again (entry table n ∷ ps) again_at = λ i. dressed_entry (entry-same table n i) ∷ parts-again ps again_at i
  parts-again (located n ∷ ps) again_at =
      λ i. dressed_word (again_at n (Contains-here n (flat_map location_of_part ps)) i)
      ∷ parts-again ps (λ m k. again_at m (Contains-there n m (flat_map location_of_part ps) k)) i

  -- the head that a tree is written with, dressed by the written file
  dressed-again : (x : Tree) → Contains trees x → dressed made (written_head f location (head_for f x)) ≡ dressed_for x
  dressed-again x m =
      let h : Head = head_for f x in
      let same : map (dressed_part made) (payload_parts f.version (written_head f location h).payload)
      ≡ map (dressed_part f) (payload_parts f.version h.payload) =
      ap (map (dressed_part made)) (renumbering.parts f.version (λ n. location (word_of_place f.locations n)) h.payload)
      ∙ parts-again (payload_parts f.version h.payload)
      (λ n k. word-again f root can written sound renumbering places laws law (word_of_place f.locations n)
      (data-listed f root can written sound renumbering places laws x n m k)) in
      λ i. record { kind = h.kind; parts = same i; flags = h.flags }

  same-dress : (y : Tree) → Contains (subtrees again.tree) y → dressed_of y ≡ dressed_for (restore y)
  same-dress y m =
      let stands = walk.below (number_in trees root.tree) y written.file.names_root m in
      let n : IsNumberOf (length trees) (origin y) =
      subst (λ j. IsNumberOf j (origin y)) (length-map trees (λ x. map (numbered trees) (uses x))) stands.0 in
      let at = tree-made f root can written sound renumbering places laws (origin y) n in
      ap (dressed made) (head-made (origin y) at.0 at.1)
      ∙ dressed-again at.0 (Contains-at trees (length trees - origin y) at.0 at.1)
      ∙ ap dressed_for (sym (ap restore stands.1 ∙ number-stands (origin y) at.0 n at.1))

  same-tree : relabelled dressed_of again.tree ≡ relabelled dressed_for (restore again.tree)
  same-tree =
      relabelled-same dressed_of (λ y. dressed_for (restore y)) again.tree same-dress
      ∙ sym (relabelled-twice (λ y. origins_of trees (origin y)) dressed_for again.tree)

  full-made : full made ≡ dress f root
  full-made =
      ap (relabelled_use dressed_of) expansion-made
      ∙ (λ i. a_single again.turn again.word (same-tree i))
      ∙ ap (relabelled_use dressed_for) written.expands

  pub written-stands : StandsFor f root f.version made
  written-stands = record {
    dressed = full-made;
    relabelled = ap (use_with_origins (origins_of trees)) expansion-made ∙ written.expands;
    version = refl;
    datums = law.datums_are (datums_of f.locations) (further_words (words_under f root));
    shared =
        subst (λ records. IsShared records (plain_root made) (origins_of trees))
        (sym (plain-made f root can written sound renumbering places laws law))
        (subst (λ use_of. IsShared (records_of trees) use_of (origins_of trees))
        (sym (root-made f root can written sound renumbering places laws law)) written.shared);
  }
