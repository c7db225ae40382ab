-- The file that is written for a root over a sound file's records is sound, and its records are those of the root's
-- trees.
use Rattle.std.proofs.Common.{◌≡◌, ◌<◌, ◌≤◌, ◌-◌, refl, sym, ◌∙◌, ap, subst, arith, inl, inr}
use Rattle.std.specs.Prelude.{ℕ, ◌^◌, Bool, true, false, if◌then◌else◌, Option, Some, None}
use Rattle.std.specs.Prelude.{List, [], ◌∷◌, map, length, codes, Contains, slice_get}
use Rattle.std.specs.List.{AllByRecursion, flat_map}
use Rattle.std.specs.Option.{option_map_or}
use Rattle.std.proofs.lemmas.List.{length-map}
use Rattle.std.proofs.lemmas.List.Elements.{All-map, All-weaker, All-contains, All-contains_itself}
use Rattle.std.proofs.lemmas.List.Elements.{Contains-append_left, Contains-append_right, Contains-append_cases}
use Rattle.std.proofs.lemmas.Option.{same_Some, slice_get_within}
use Rattle.lists.proofs.Places.{Contains-at, at_place}
use Rattle.lists.proofs.Each.{each-append, each-contains, each-flat_map, each-left, each-map, each-member, each-right}
use Rattle.lists.proofs.Members.{Contains-cases, Contains-flat_map, Contains-flat_map_cases}
use Rattle.lists.proofs.Members.{Contains-here, Contains-map, Contains-map_cases, Contains-none}
use Rattle.orientation.specs.Kinds.{IsBelow}
use Rattle.location_words.specs.declared.pair.Pair.{Pair}
use Rattle.location_table.specs.Laws.{PlacesHaveWords, WrittenIsHeld}
use Rattle.location_table.specs.Locations.{spell_location}
use Rattle.location_table.specs.Words.{datums_of, word_of_place, words_of}
use Rattle.location_table.specs.Written.{IsWordOver}
use Rattle.written_locations.specs.Laws.{SectionsHold}
use Rattle.written_locations.specs.Further.{further_words}
use Rattle.expansion_laws.specs.Trees.{Tree, Use, uses, origin}
use Rattle.expansion_laws.specs.Equality.{tree_eq}
use Rattle.expansion_laws.specs.Measures.{depth}
use Rattle.expansion_laws.specs.Expansion.{NumberedUse, IsNumberOf, tree_of_number}
use Rattle.expansion_laws.specs.Written.{flat, number_in, numbered, records_of, IsWritten}
use Rattle.tshape_data.specs.Laws.{RenumberingKeepsParts}
use Rattle.tshape_data.specs.Locations.{data_locations}
use Rattle.tshape_data.specs.Sound.{IsSoundHead}
use Rattle.tshape_data.specs.declared.head_bounds.HeadBounds.{HeadBounds}
use Rattle.tshape_data.specs.declared.head.Head.{Head}
use Rattle.brep_file.specs.declared.uses.FileUse.{FileUse}
use Rattle.brep_file.specs.declared.records.Record.{Record}
use Rattle.brep_file.specs.declared.file.File.{File}
use Rattle.brep_file.specs.Spelling.{section, spell_file, spell_record, spell_tables, spell_use}
use Rattle.brep_file.specs.PlainRecords.{record_of, plain_use, plain_root, plain_records, tree_of_record}
use Rattle.brep_file.specs.Sound.{AreSoundTables, IsUse, IsRecord, IsSound, sizes_of}
use Rattle.brep_writer.specs.Dress.{head_for, made_head, rebuilt}
use Rattle.brep_writer.specs.WrittenFile.{words_of_data, words_of_tree, words_under, location_under}
use Rattle.brep_writer.specs.WrittenFile.{written_head, written_use, written_record}
use Rattle.brep_writer.specs.OwnVersion.{written_file}
use Rattle.brep_writer.specs.Copies.{CanBeWritten}
use Rattle.brep_writer.proofs.LayoutSizes.{spell_others}
use Rattle.brep_writer.proofs.NumberedRecords.{map-map, map-from_end, names_of-number}
use Rattle.brep_writer.proofs.ShortTokens.{Short, AreShort, datums-short}
use Rattle.brep_writer.proofs.ShortTokens.{written-entries, section-short, use-short}
use Rattle.brep_writer.proofs.ShortTokens.{renumbered_payload-short, record-short, shape_tokens, payload-for}
use Rattle.brep_writer.proofs.WritingLaws.{WritingLaws}

-- ---- heads
-- a head, perhaps rebuilt
abbrev pub perhaps : Bool → Head → Head
perhaps b h = if b then h else rebuilt h

sound-perhaps : (b : HeadBounds) (version : ℕ) (same : Bool) (h : Head) → IsSoundHead b version h
    → IsSoundHead b version (perhaps same h)
sound-perhaps b version true h s = s
sound-perhaps b version false h s = s

sound-chosen : (b : HeadBounds) (version : ℕ) (o : Option Record) (same : Bool)
    → ((r : Record) → o ≡ Some r → IsSoundHead b version r.head) →
    IsSoundHead b version (option_map_or (λ r. perhaps same r.head) o made_head)
sound-chosen b version None same h = tt
sound-chosen b version (Some r) same h = sound-perhaps b version same r.head (h r refl)

-- the head under which a tree is written is sound
pub head-sound : (f : File) → IsSound f → (x : Tree) → IsSoundHead (sizes_of f) f.version (head_for f x)
head-sound f sound x =
    sound-chosen (sizes_of f) f.version (record_of f (origin x)) (tree_eq x (tree_of_record f (origin x))) (λ r e.
    (let within = slice_get_within f.records (length f.records - origin x) r e in
    let k : ℕ = length f.records - (length f.records - origin x) in
    let back : length f.records - k ≡ length f.records - origin x = omega (arith, within) in
    (sound.records k r (omega (arith, within), omega arith) (ap (slice_get f.records) back ∙ e)).head))

-- its locations are places of the file, and their words are over the file's datums
pub data-within : RenumberingKeepsParts → (f : File) → IsSound f → (x : Tree) → (n : ℕ)
    → Contains (data_locations f.version (head_for f x).payload) n → n ≤ length f.locations
data-within renumbering f sound x n m =
    All-contains (λ (j : ℕ). j ≤ length f.locations) (data_locations f.version (head_for f x).payload) n
    (renumbering.within (sizes_of f) f.version (head_for f x) (head-sound f sound x)) m

pub place-over : PlacesHaveWords → SectionsHold → (f : File) → IsSound f → (k : ℕ) → k ≤ length f.locations
    → IsWordOver (length (datums_of f.locations)) (word_of_place f.locations k)
place-over places sections f sound k le =
    each-contains (IsWordOver (length (datums_of f.locations))) (words_of f.locations) (word_of_place f.locations k)
    (places.held f.locations sound.tables.locations) (sections.word f.locations k le)

module _ (f : File) (root : Use) (can : CanBeWritten f root) (written : IsWritten root (flat root.tree))
    (sound : IsSound f) (renumbering : RenumberingKeepsParts) (places : PlacesHaveWords)
    (laws : WritingLaws) where
  abbrev trees : List Tree
  trees = flat root.tree

  abbrev made : File
  made = written_file f root

  abbrev location : List Pair → ℕ
  location = location_under f root

  abbrev datums : List (List (List ℕ))
  datums = datums_of f.locations

  abbrev further : List (List Pair)
  further = further_words (words_under f root)

  pub count-made : length made.records ≡ length trees
  count-made = length-map trees (written_record f location trees)

  -- the record of a number is that of the tree with this number
  pub record-made : (k : ℕ) (x : Tree) → slice_get trees (length trees - k) ≡ Some x
      → record_of made k ≡ Some (written_record f location trees x)
  record-made k x e = map-from_end (written_record f location trees) trees k x e

  pub tree-made : (k : ℕ) → IsNumberOf (length trees) k → (x : Tree) × (slice_get trees (length trees - k) ≡ Some x)
  tree-made k n = (let low = n.0 in let high = n.1 in at_place trees (length trees - k) (omega (arith, low, high)))

  -- ---- words
  word-listed : (x : Tree) (u : Use) → Contains trees x → Contains (uses x) u → Contains (words_under f root) u.word
  word-listed x u m k =
      Contains-append_left (flat_map (words_of_tree f) trees) (root.word ∷ []) u.word
      (Contains-flat_map (words_of_tree f) x u.word trees m
      (Contains-append_right (words_of_data f (head_for f x)) (map (λ (v : Use). v.word) (uses x)) u.word
      (Contains-map (λ (v : Use). v.word) u (uses x) k)))

  root-listed : Contains (words_under f root) root.word
  root-listed =
      Contains-append_right (flat_map (words_of_tree f) trees) (root.word ∷ []) root.word (Contains-here root.word [])

  -- the words of the data of a tree's record
  pub data-listed : (x : Tree) (n : ℕ) → Contains trees x → Contains (data_locations f.version (head_for f x).payload) n
      → Contains (words_under f root) (word_of_place f.locations n)
  data-listed x n m k =
      Contains-append_left (flat_map (words_of_tree f) trees) (root.word ∷ []) (word_of_place f.locations n)
      (Contains-flat_map (words_of_tree f) x (word_of_place f.locations n) trees m
      (Contains-append_left (words_of_data f (head_for f x)) (map (λ (v : Use). v.word) (uses x))
      (word_of_place f.locations n)
      (Contains-map (word_of_place f.locations) n (data_locations f.version (head_for f x).payload) k)))

  word-over : (w : List Pair) → Contains (words_under f root) w → IsWordOver (length datums) w
  word-over w m = elim (Contains-append_cases (flat_map (words_of_tree f) trees) (root.word ∷ []) w m) [
    | inl k ↦ (let from = Contains-flat_map_cases (words_of_tree f) w trees k in
        elim (Contains-append_cases (words_of_data f (head_for f from.0)) (map (λ (v : Use). v.word) (uses from.0)) w
        from.2) [
          | inl own ↦ (let of = Contains-map_cases (word_of_place f.locations) w
              (data_locations f.version (head_for f from.0).payload) own in
              subst (IsWordOver (length datums)) of.2 (place-over places laws.sections f sound of.0
              (data-within renumbering f sound from.0 of.0 of.1)))
          | inr l ↦ (let used = Contains-map_cases (λ (v : Use). v.word) w (uses from.0) l in
              subst (IsWordOver (length datums)) used.2
              (can.words from.0 used.0 (written.lists.stand from.0 from.1) used.1))
        ])
    | inr k ↦ elim (Contains-cases root.word w [] k)
        [ inl same ↦ subst (IsWordOver (length datums)) same can.root_word | inr none ↦ absurd (Contains-none w none) ]
  ]

  pub over-further : AllByRecursion (IsWordOver (length datums)) further
  over-further =
      each-member (IsWordOver (length datums)) further
      (λ w m. word-over w (laws.further.from (words_under f root) w m).0)

  module _ (law : WrittenIsHeld) where
    -- the location of a word has it again
    pub word-again : (w : List Pair) → Contains (words_under f root) w → word_of_place made.locations (location w) ≡ w
    word-again w m =
        laws.numbers.word datums further over-further w (word-over w m)
        (λ e. laws.further.found (words_under f root) w m e)

    word-within : (w : List Pair) → Contains (words_under f root) w → location w ≤ length made.locations
    word-within w m =
        laws.numbers.within datums further over-further w (word-over w m)
        (λ e. laws.further.found (words_under f root) w m e)

    -- without their data they are the records of the trees
    pub plain-made : plain_records made ≡ records_of trees
    plain-made =
        map-map (written_record f location trees) (λ r. map (plain_use made.locations) r.uses)
        (λ x. map (numbered trees) (uses x)) trees (λ x m.
        map-map (written_use location trees) (plain_use made.locations) (numbered trees) (uses x) (λ u k.
        λ i. record {
          turn = u.turn;
          word = word-again u.word (word-listed x u m k) i;
          number = number_in trees u.tree;
        }))

    pub root-made : plain_root made ≡ numbered trees root
    root-made =
        λ i. record { turn = root.turn; word = word-again root.word root-listed i; number = number_in trees root.tree }

  stands-root : Contains trees root.tree
  stands-root = written.lists.all root.tree (laws.subtrees.itself root.tree)

  -- a number of a tree is one of the file
  number-made : (x : Tree) → Contains trees x → IsNumberOf (length made.records) (number_in trees x)
  number-made x m = subst (λ n. IsNumberOf n (number_in trees x)) (sym count-made) (written.lists.numbers x m)

  -- the uses of a tree name records above its own
  names-made : (k : ℕ) (x : Tree) → IsNumberOf (length trees) k → slice_get trees (length trees - k) ≡ Some x
      → (u : Use) → Contains (uses x) u → k < number_in trees u.tree
  names-made k x n e u m =
      let record_at : Tree → List NumberedUse = λ y. map (numbered trees) (uses y) in
      let all = names_of-number (records_of trees) written.file.names_above k (record_at x)
      (subst (λ j. IsNumberOf j k) (sym (length-map trees record_at)) n) (map-from_end record_at trees k x e) in
      (All-contains (λ (v : NumberedUse). (k < v.number) × (v.number ≤ length (records_of trees))) (record_at x)
      (numbered trees u) all (Contains-map (numbered trees) u (uses x) m)).0

  module _ (law : WrittenIsHeld) where
    use-made : (k : ℕ) (x : Tree) → IsNumberOf (length trees) k → slice_get trees (length trees - k) ≡ Some x
        → (u : Use) → Contains (uses x) u →
        IsUse made k (head_for f x).kind (written_use location trees u)
    use-made k x n e u m =
        let stands = written.lists.stand x (Contains-at trees (length trees - k) x e) in
        let listed : Contains trees u.tree =
        written.lists.all u.tree (laws.subtrees.onward root.tree x u.tree stands
        (laws.subtrees.below x u u.tree m (laws.subtrees.itself u.tree))) in
        record {
          above = names-made k x n e u m;
          named = (number-made u.tree listed).1;
          in_order = λ r is. subst (λ (s : Record). IsBelow s.head.kind (head_for f x).kind)
              (same_Some (written_record f location trees u.tree) r
              (sym (record-made (number_in trees u.tree) u.tree (written.lists.places u.tree listed)) ∙ is))
              (can.in_order x u stands m);
          location = word-within law u.word (word-listed x u (Contains-at trees (length trees - k) x e) m);
        }

    -- the locations of a written head are those of the written file
    renumbered-within : (x : Tree) → Contains trees x → (n : ℕ)
        → Contains (data_locations f.version (head_for f x).payload) n
        → location (word_of_place f.locations n) ≤ length made.locations
    renumbered-within x m n k = word-within law (word_of_place f.locations n) (data-listed x n m k)

    head-made_sound : (x : Tree) → Contains trees x
        → IsSoundHead (sizes_of made) f.version (written_head f location (head_for f x))
    head-made_sound x m =
        renumbering.sound (sizes_of f) f.version (head_for f x) (λ n. location (word_of_place f.locations n))
        (length made.locations) (head-sound f sound x) can.few_words
        (All-weaker (Contains (data_locations f.version (head_for f x).payload))
        (λ (n : ℕ). location (word_of_place f.locations n) ≤ length made.locations)
        (renumbered-within x m) (data_locations f.version (head_for f x).payload)
        (All-contains_itself (data_locations f.version (head_for f x).payload)))

    record-sound : (k : ℕ) (x : Tree) → IsNumberOf (length trees) k → slice_get trees (length trees - k) ≡ Some x
        → IsRecord made k (written_record f location trees x)
    record-sound k x n e = record {
      head = head-made_sound x (Contains-at trees (length trees - k) x e);
      uses = All-map (IsUse made k (head_for f x).kind) (written_use location trees) (uses x)
          (All-weaker (Contains (uses x)) (λ u. IsUse made k (head_for f x).kind (written_use location trees u))
          (use-made k x n e) (uses x) (All-contains_itself (uses x)));
    }

    -- ---- tables and tokens
    few-datums : length datums < 10 ^ 18
    few-datums =
        (let few = sound.tables.countable in let less = laws.sections.few_datums f.locations in
        omega (arith, few, less))

    tables-made : AreSoundTables made
    tables-made = record {
      countable = can.few_words;
      locations =
          law.sound_section datums further few-datums (laws.sections.datums f.locations sound.tables.locations)
          over-further;
      curve2s = sound.tables.curve2s;
      curves = sound.tables.curves;
      polygons = sound.tables.polygons;
      polygons_on = sound.tables.polygons_on;
      surfaces = sound.tables.surfaces;
      meshes = sound.tables.meshes;
    }

    tables-short : AreShort (spell_tables f)
    tables-short = each-left Short (spell_tables f) (shape_tokens f) sound.tokens

    tables-tokens : AreShort (spell_tables made)
    tables-tokens =
        each-append Short (section (codes "Locations") spell_location made.locations) (spell_others f)
        (section-short (codes "Locations") spell_location made.locations (omega arith) can.few_words
        (written-entries datums further few-datums
        (datums-short f.locations (each-left Short (section (codes "Locations") spell_location f.locations)
        (spell_others f) tables-short).1.1) over-further))
        (each-right Short (section (codes "Locations") spell_location f.locations) (spell_others f) tables-short)

    -- numbers of written uses
    use-small : (u : Use) → Contains trees u.tree → Contains (words_under f root) u.word
        → (number_in trees u.tree < 10 ^ 18) × (location u.word < 10 ^ 18)
    use-small u m k =
        let high = (written.lists.numbers u.tree m).1 in let few = can.countable in
        let within = word-within law u.word k in let few_words = can.few_words in
        (omega (arith, high, few), omega (arith, within, few_words))

    record-tokens : (x : Tree) → Contains trees x
        → AreShort (spell_record f.version (written_record f location trees x))
    record-tokens x m =
        record-short f.version (written_record f location trees x)
        (renumbered_payload-short renumbering f.version (λ n. location (word_of_place f.locations n))
        (head_for f x).payload (payload-for f sound x)
        (λ n k. (let within = renumbered-within x m n k in let few_words = can.few_words in
        omega (arith, within, few_words))))
        (each-map (λ (v : FileUse). (v.number < 10 ^ 18) × (v.location < 10 ^ 18)) (written_use location trees) (uses x)
        (λ u k.
        use-small u (written.lists.all u.tree (laws.subtrees.onward root.tree x u.tree (written.lists.stand x m)
        (laws.subtrees.below x u u.tree k (laws.subtrees.itself u.tree)))) (word-listed x u m k)))

    tokens-made : AreShort (spell_file made)
    tokens-made =
        let root_small = use-small root stands-root root-listed in
        each-append Short (spell_tables made) (shape_tokens made) tables-tokens
        (each-append Short (section (codes "TShapes") (spell_record f.version) made.records) (spell_use made.root)
        (section-short (codes "TShapes") (spell_record f.version) made.records (omega arith)
        (subst (λ n. n < 10 ^ 18) (sym count-made) can.countable)
        (each-flat_map (λ r. AreShort (spell_record f.version r)) Short (spell_record f.version) (λ r h. h) made.records
        (each-map (λ r. AreShort (spell_record f.version r)) (written_record f location trees) trees record-tokens)))
        (use-short made.root root_small.0 root_small.1))

    pub written-sound : IsSound made
    written-sound = record {
      version = sound.version;
      tokens = tokens-made;
      tables = tables-made;
      countable = subst (λ n. n < 10 ^ 18) (sym count-made) can.countable;
      records = λ k r n e.
          (let m = subst (λ j. IsNumberOf j k) count-made n in
          let at = tree-made k m in
          subst (IsRecord made k) (same_Some (written_record f location trees at.0) r
          (sym (record-made k at.0 at.1) ∙ e)) (record-sound k at.0 m at.1));
      depths = λ k n.
          (let low = written.depths k (subst (λ j. IsNumberOf j k) count-made n) in
          let same = ap (λ records. depth (tree_of_number records k)) (plain-made law) in
          let shallow = can.shallow in
          omega (arith, low, same, shallow));
      root = number-made root.tree stands-root;
      root_location = word-within law root.word root-listed;
    }
