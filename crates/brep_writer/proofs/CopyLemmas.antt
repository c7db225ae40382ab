-- The expansion of a sound file can be written.
use Rattle.std.proofs.Common.{◌≡◌, ◌<◌, ◌≤◌, ◌-◌, refl, sym, ◌∙◌, ap, subst, arith, inl, inr}
use Rattle.std.specs.Prelude.{ℕ, ◌^◌, Bool, true, false, if◌then◌else◌, Option, Some}
use Rattle.std.specs.Prelude.{List, [], ◌∷◌, map, length, Contains, slice_get}
use Rattle.std.specs.List.{flat_map}
use Rattle.std.specs.Option.{option_map_or}
use Rattle.std.proofs.lemmas.List.{length-map}
use Rattle.std.proofs.lemmas.List.Elements.{All-contains, Contains-append_cases}
use Rattle.lists.proofs.Places.{Contains-at, at_place}
use Rattle.lists.proofs.Members.{Contains-cases, Contains-flat_map_cases, Contains-map_cases, Contains-none}
use Rattle.orientation.specs.Kinds.{IsBelow}
use Rattle.location_words.specs.declared.pair.Pair.{Pair}
use Rattle.location_table.specs.Laws.{PlacesHaveWords}
use Rattle.location_table.specs.Words.{datums_of, words_of, word_of_place}
use Rattle.location_table.specs.Written.{IsWordOver}
use Rattle.written_locations.specs.Further.{further_words}
use Rattle.expansion_laws.specs.Trees.{Tree, Use, Uses, node, no_use, a_use, a_single, uses, origin}
use Rattle.expansion_laws.specs.Equality.{tree_eq}
use Rattle.expansion_laws.specs.Measures.{subtrees}
use Rattle.expansion_laws.specs.Expansion.{NumberedUse, IsNumberOf, IsFile, expanded, trees_of_file}
use Rattle.expansion_laws.specs.Sharing.{relabelled, relabelled_uses, use_with_origins}
use Rattle.expansion_laws.specs.Written.{flat}
use Rattle.expansion_laws.specs.Fewest.{NoFileHasFewer}
use Rattle.expansion_laws.specs.Walk.{RecordsAreTrees}
use Rattle.expansion_laws.specs.Written.{IsWritten}
use Rattle.tshape_data.specs.Laws.{RenumberingKeepsParts}
use Rattle.tshape_data.specs.Locations.{data_locations}
use Rattle.brep_file.specs.declared.uses.FileUse.{FileUse}
use Rattle.brep_file.specs.declared.records.Record.{Record}
use Rattle.brep_file.specs.declared.file.File.{File}
use Rattle.brep_file.specs.PlainRecords.{record_of, plain_use, plain_records, tree_of_record, expansion_of, plain_root}
use Rattle.brep_file.specs.Sound.{IsUse, IsSound}
use Rattle.brep_writer.specs.Dress.{head_for, made_head, rebuilt}
use Rattle.brep_writer.specs.WrittenFile.{locations_under, words_of_data, words_of_tree, words_under}
use Rattle.brep_writer.specs.Copies.{CanBeWritten}
use Rattle.brep_writer.proofs.Weights.{flat_map-part}
use Rattle.brep_writer.proofs.WritingLaws.{WritingLaws}
use Rattle.brep_writer.proofs.WrittenSound.{data-within, place-over}
use Rattle.brep_writer.proofs.NumberedRecords.{map-from_end}

-- a tree relabelled by its own origins is the tree
mutual
  own-origins : (x : Tree) → relabelled (λ y. origin y) x ≡ x
  own-origins (node k us) = ap (node k) (own_uses-origins us)

  own_uses-origins : (us : Uses) → relabelled_uses (λ y. origin y) us ≡ us
  own_uses-origins no_use = refl
  own_uses-origins (a_use t w x others) = λ i. a_use t w (own-origins x i) (own_uses-origins others i)

-- a head has the kind of the record that it was made from
kind-chosen : (same : Bool) (r : Record)
    → (option_map_or (λ (s : Record). if same then s.head else rebuilt s.head) (Some r) made_head).kind ≡ r.head.kind
kind-chosen true r = refl
kind-chosen false r = refl

module _ (f : File) where
  abbrev pub uses_of_record : Record → List NumberedUse
  uses_of_record r = map (plain_use f.locations) r.uses

  pub count-plain : length (plain_records f) ≡ length f.records
  count-plain = length-map f.records uses_of_record

  pub record-at : (k : ℕ) → IsNumberOf (length f.records) k → (r : Record) × (record_of f k ≡ Some r)
  record-at k n =
      (let low = n.0 in let high = n.1 in at_place f.records (length f.records - k) (omega (arith, low, high)))

  pub plain-at : (k : ℕ) (r : Record) → record_of f k ≡ Some r
      → slice_get (plain_records f) (length (plain_records f) - k) ≡ Some (uses_of_record r)
  plain-at k r e = map-from_end uses_of_record f.records k r e

  pub kind-for : (x : Tree) (r : Record) → record_of f (origin x) ≡ Some r → (head_for f x).kind ≡ r.head.kind
  kind-for x r e =
      ap (λ (o : Option Record). (option_map_or
      (λ (s : Record). if tree_eq x (tree_of_record f (origin x)) then s.head else rebuilt s.head) o
      made_head).kind) e
      ∙ kind-chosen (tree_eq x (tree_of_record f (origin x))) r

  module _ (sound : IsSound f) where
    root-named : IsNumberOf (length (plain_records f)) f.root.number
    root-named = subst (λ j. IsNumberOf j f.root.number) (sym count-plain) sound.root

    module _ (walk : RecordsAreTrees (plain_records f)) where
      -- what stands in the expansion is the tree of a record
      pub record Stands (x : Tree) : Type 0 where
        pub number : IsNumberOf (length f.records) (origin x)
        pub tree : x ≡ tree_of_record f (origin x)

      pub stands-below : (x : Tree) → Contains (subtrees (expansion_of f).tree) x → Stands x
      stands-below x m =
          let below = walk.below f.root.number x root-named m in
          record { number = subst (λ j. IsNumberOf j (origin x)) count-plain below.0; tree = below.1 }

      -- its uses are those of the record
      uses-listed : (x : Tree) → (stands : Stands x) → uses x
          ≡ map (expanded 1 (trees_of_file (plain_records f))) (uses_of_record (record-at (origin x) stands.number).0)
      uses-listed x stands =
          let at = record-at (origin x) stands.number in
          ap uses stands.tree ∙ walk.same_uses (origin x) (uses_of_record at.0)
          (subst (λ j. IsNumberOf j (origin x)) (sym count-plain) stands.number) (plain-at (origin x) at.0 at.1)

      pub uses-few : (x : Tree) → Contains (subtrees (expansion_of f).tree) x
          → length (uses x) ≤ length (flat_map (λ (r : Record). r.uses) f.records)
      uses-few x m =
          let stands = stands-below x m in let at = record-at (origin x) stands.number in
          let listed = ap length (uses-listed x stands) in
          let first = length-map (uses_of_record at.0) (expanded 1 (trees_of_file (plain_records f))) in
          let again = length-map at.0.uses (plain_use f.locations) in
          let part = flat_map-part (λ (r : Record). r.uses) f.records at.0
          (Contains-at f.records (length f.records - origin x) at.0 at.1) in
          omega (arith, listed, first, again, part)

      record Comes (x : Tree) (u : Use) : Type 0 where
        pub own : Record
        pub is_own : record_of f (origin x) ≡ Some own
        pub file_use : FileUse
        pub is_use : IsUse f (origin x) own.head.kind file_use
        pub is : expanded 1 (trees_of_file (plain_records f)) (plain_use f.locations file_use) ≡ u

      comes-from : (x : Tree) (u : Use) → Stands x → Contains (uses x) u → Comes x u
      comes-from x u stands m =
          let at = record-at (origin x) stands.number in
          let plain =
          Contains-map_cases (expanded 1 (trees_of_file (plain_records f))) u (uses_of_record at.0)
          (subst (λ l. Contains l u) (uses-listed x stands) m) in
          let from = Contains-map_cases (plain_use f.locations) plain.0 at.0.uses plain.1 in
          record {
            own = at.0;
            is_own = at.1;
            file_use = from.0;
            is_use =
                All-contains (IsUse f (origin x) at.0.head.kind) at.0.uses from.0
                (sound.records (origin x) at.0 stands.number at.1).uses from.1;
            is = ap (expanded 1 (trees_of_file (plain_records f))) from.2 ∙ plain.2;
          }

      in-order : (x : Tree) (u : Use) → Contains (subtrees (expansion_of f).tree) x → Contains (uses x) u
          → IsBelow (head_for f u.tree).kind (head_for f x).kind
      in-order x u m k =
          let stands = stands-below x m in
          let c = comes-from x u stands k in
          let low = c.is_use.above in
          let number : IsNumberOf (length f.records) c.file_use.number = (omega (arith, low), c.is_use.named) in
          let named : origin u.tree ≡ c.file_use.number =
          ap (λ (v : Use). origin v.tree) (sym c.is)
          ∙ walk.origins c.file_use.number (subst (λ j. IsNumberOf j c.file_use.number) (sym count-plain) number) in
          let child = record-at c.file_use.number number in
          subst (λ a. IsBelow a (head_for f x).kind) (sym (kind-for u.tree child.0 (ap (record_of f) named ∙ child.1)))
          (subst (IsBelow child.0.head.kind) (sym (kind-for x c.own c.is_own)) (c.is_use.in_order child.0 child.1))

      pub flat-few : IsFile (plain_records f) (plain_root f) → NoFileHasFewer (expansion_of f)
          → length (flat (expansion_of f).tree) ≤ length f.records
      flat-few file fewest =
          let same : use_with_origins (λ k. k) (expansion_of f) ≡ expansion_of f =
          λ i. a_single (expansion_of f).turn (expansion_of f).word (own-origins (expansion_of f).tree i) in
          let low = fewest (plain_records f) (plain_root f) (λ k. k) file same in
          let count = count-plain in
          omega (arith, low, count)

      count-flat : IsFile (plain_records f) (plain_root f) → NoFileHasFewer (expansion_of f)
          → length (flat (expansion_of f).tree) < 10 ^ 18
      count-flat file fewest =
          (let low = flat-few file fewest in let high = sound.countable in omega (arith, low, high))

      module _ (renumbering : RenumberingKeepsParts) (places : PlacesHaveWords) (laws : WritingLaws)
          (written : IsWritten (expansion_of f) (flat (expansion_of f).tree)) where
        -- the words under the root are words of places
        use-place : (x : Tree) (u : Use) → Contains (subtrees (expansion_of f).tree) x → Contains (uses x) u
            → (k : ℕ) × (k ≤ length f.locations) × (word_of_place f.locations k ≡ u.word)
        use-place x u m k =
            (let c = comes-from x u (stands-below x m) k in
            (c.file_use.location, c.is_use.location, ap (λ (v : Use). v.word) c.is))

        word-of_place : (w : List Pair) → Contains (words_under f (expansion_of f)) w
            → Contains (words_of f.locations) w
        word-of_place w m =
            elim (Contains-append_cases (flat_map (words_of_tree f) (flat (expansion_of f).tree))
            ((expansion_of f).word ∷ []) w m) [
              | inl k ↦ (let from = Contains-flat_map_cases (words_of_tree f) w (flat (expansion_of f).tree) k in
                  elim (Contains-append_cases (words_of_data f (head_for f from.0))
                  (map (λ (v : Use). v.word) (uses from.0)) w from.2) [
                    | inl own ↦ (let of = Contains-map_cases (word_of_place f.locations) w
                        (data_locations f.version (head_for f from.0).payload) own in
                        subst (Contains (words_of f.locations)) of.2
                        (laws.sections.word f.locations of.0 (data-within renumbering f sound from.0 of.0 of.1)))
                    | inr l ↦ (let used = Contains-map_cases (λ (v : Use). v.word) w (uses from.0) l in
                        let place = use-place from.0 used.0 (written.lists.stand from.0 from.1) used.1 in
                        subst (Contains (words_of f.locations)) (place.2 ∙ used.2)
                        (laws.sections.word f.locations place.0 place.1))
                  ])
              | inr k ↦ elim (Contains-cases (expansion_of f).word w [] k) [
                | inl same ↦ subst (Contains (words_of f.locations)) same
                    (laws.sections.word f.locations f.root.location sound.root_location)
                | inr none ↦ absurd (Contains-none w none)
              ]
            ]

        pub locations-few : length (locations_under f (expansion_of f)) ≤ length f.locations
        locations-few =
            let words : List (List Pair) = words_under f (expansion_of f) in
            let long = laws.numbers.size (datums_of f.locations) (further_words words) in
            let less = laws.further.few f.locations (further_words words) (laws.further.distinct words)
            (λ w m. (let from = laws.further.from words w m in (word-of_place w from.0, from.1))) in
            omega (arith, long, less)

        few-locations : length (locations_under f (expansion_of f)) < 10 ^ 18
        few-locations =
            (let less = locations-few in let few = sound.tables.countable in omega (arith, less, few))

        pub expansion-writable : IsFile (plain_records f) (plain_root f) → NoFileHasFewer (expansion_of f)
            → CanBeWritten f (expansion_of f)
        expansion-writable file fewest = record {
          origins = λ x m. inr (stands-below x m).number;
          in_order = in-order;
          words =
              λ x u m k. (let place = use-place x u m k in
              subst (IsWordOver (length (datums_of f.locations))) place.2
              (place-over places laws.sections f sound place.0 place.1));
          root_word = place-over places laws.sections f sound f.root.location sound.root_location;
          few_words = few-locations;
          shallow = sound.depths f.root.number sound.root;
          countable = count-flat file fewest;
        }
