-- What is written in version 1 is what is written of the file as one of version 1.
use Rattle.std.proofs.Common.{◌≡◌, ◌<◌, ◌≤◌, ◌-◌, refl, sym, ◌∙◌, ap, subst, arith, inl, inr}
use Rattle.std.specs.Prelude.{ℕ, ◌^◌, Bool, true, false, if◌then◌else◌, Option, Some, None}
use Rattle.std.specs.Prelude.{List, [], ◌∷◌, ◌++◌, length, map, codes, slice_get}
use Rattle.std.specs.List.{AllByRecursion, flat_map}
use Rattle.std.specs.Option.{option_map, option_map_or}
use Rattle.std.specs.Fmt.{decimal}
use Rattle.std.proofs.lemmas.List.{length-map}
use Rattle.std.proofs.lemmas.List.Elements.{All-weaker}
use Rattle.std.proofs.lemmas.List.Folds.{flat_map-map}
use Rattle.std.proofs.lemmas.Option.{same_Some, slice_get-map}
use Rattle.std.proofs.lemmas.Simd.{map-map}
use Rattle.lists.proofs.Each.{each-append, each-left, each-right}
use Rattle.lists.proofs.Places.{at_place}
use Rattle.orientation.specs.Kinds.{IsBelow}
use Rattle.orientation.specs.declared.kind.Kind.{Kind}
use Rattle.brep_tokens.specs.Tokens.{version_line}
use Rattle.brep_tokens.specs.Written.{lines_text}
use Rattle.location_words.specs.declared.pair.Pair.{Pair}
use Rattle.location_table.specs.Words.{datums_of, word_of_place}
use Rattle.location_table.specs.Written.{written_section}
use Rattle.location_table.specs.declared.entry.LocationEntry.{LocationEntry}
use Rattle.written_locations.specs.Further.{further_words, number_of_word}
use Rattle.expansion_laws.specs.Trees.{Tree, Use, origin, uses}
use Rattle.expansion_laws.specs.Equality.{tree_eq}
use Rattle.expansion_laws.specs.Measures.{depth}
use Rattle.expansion_laws.specs.Expansion.{IsNumberOf, tree_of_number}
use Rattle.expansion_laws.specs.Sharing.{relabelled_use}
use Rattle.expansion_laws.specs.Written.{flat}
use Rattle.tshape_data.specs.Flags.{spell_flags}
use Rattle.tshape_data.specs.Lines.{Line, head_lines}
use Rattle.tshape_data.specs.Locations.{data_locations, renumbered_head}
use Rattle.tshape_data.specs.Parts.{Part, payload_parts}
use Rattle.tshape_data.specs.Parts as parts
use Rattle.tshape_data.specs.Spelling.{spell_head, spell_payload}
use Rattle.tshape_data.specs.declared.columns.Table.{Table}
use Rattle.tshape_data.specs.declared.columns.Table.TheVariants.{Curve2s, Curves, Polygons}
use Rattle.tshape_data.specs.declared.columns.Table.TheVariants.{PolygonsOn, Surfaces, Meshes}
use Rattle.tshape_data.specs.declared.head.Head.{Head}
use Rattle.brep_file.specs.declared.uses.FileUse.{FileUse}
use Rattle.brep_file.specs.declared.records.Record.{Record}
use Rattle.brep_file.specs.declared.file.File.{File}
use Rattle.brep_file.specs.PlainRecords.{plain_records, plain_use, record_of, tree_of_record}
use Rattle.brep_file.specs.Sound.{IsRecord, IsSound, IsUse, sizes_of}
use Rattle.brep_file.specs.Spelling.{section, spell_file, spell_record, spell_tables, spell_use}
use Rattle.written_heads.specs.Named.{LocationsStay}
use Rattle.written_heads.specs.Versions.{IsOutputOf}
use Rattle.written_layout.specs.Layout.{heading, location_lines, record_lines, table_lines}
use Rattle.brep_writer.specs.Dress.{dress, dressed, dressed_part, entry_tokens, head_for, made_head}
use Rattle.brep_writer.specs.Dress.{entry as dressed_entry, rebuilt}
use Rattle.brep_writer.specs.WrittenFile.{location_under, locations_under, text_of, words_of_data}
use Rattle.brep_writer.specs.WrittenFile.{words_under, written_record, written_use}
use Rattle.brep_writer.specs.Copies.{CanBeWritten, IsTextFor}
use Rattle.brep_writer.proofs.VersionedHeads.{data-in, head_in, head-in_lines, parts-in, payload_in, sound-in}
use Rattle.brep_writer.proofs.VersionedHeads.{tokens-in}

abbrev Short : List ℕ → Type 0
Short text = length text ≤ 128

abbrev pub record_in : Record → Record
record_in r = record r { head = head_in 1 r.head }

-- a file as one of version 1
abbrev pub file_in : File → File
file_in f = record f { version = 1; records = map record_in f.records }

-- ---- heads
head-chosen : (same : Bool) (o : Option Record)
    → option_map_or (λ (r : Record). if same then r.head else rebuilt r.head) (option_map record_in o) made_head
    ≡ head_in 1 (option_map_or (λ (r : Record). if same then r.head else rebuilt r.head) o made_head)
head-chosen true None = refl
head-chosen false None = refl
head-chosen true (Some r) = refl
head-chosen false (Some r) = refl

module _ (f : File) where
  abbrev one : File
  one = file_in f

  count-one : length one.records ≡ length f.records
  count-one = length-map f.records record_in

  plain-same : plain_records one ≡ plain_records f
  plain-same = map-map (λ (r : Record). map (plain_use f.locations) r.uses) record_in f.records

  tree-same : (k : ℕ) → tree_of_record one k ≡ tree_of_record f k
  tree-same k = ap (λ records. tree_of_number records k) plain-same

  record-one : (k : ℕ) → record_of one k ≡ option_map record_in (record_of f k)
  record-one k =
      ap (λ n. slice_get (map record_in f.records) (n - k)) count-one
      ∙ slice_get-map record_in f.records (length f.records - k)

  head-one : (x : Tree) → head_for one x ≡ head_in 1 (head_for f x)
  head-one x =
      (λ i. option_map_or
      (λ (r : Record). if tree_eq x (tree-same (origin x) i) then r.head else rebuilt r.head)
      (record-one (origin x) i) made_head)
      ∙ head-chosen (tree_eq x (tree_of_record f (origin x))) (record_of f (origin x))

  kind-one : (x : Tree) → (head_for one x).kind ≡ (head_for f x).kind
  kind-one x = ap (λ (h : Head). h.kind) (head-one x)

  -- ---- locations and lines
  module _ (stay : LocationsStay) where
    data-same : (x : Tree) → words_of_data one (head_for one x) ≡ words_of_data f (head_for f x)
    data-same x =
        ap (λ (h : Head). map (word_of_place f.locations) (data_locations 1 h.payload)) (head-one x)
        ∙ ap (map (word_of_place f.locations))
        (data-in 1 (head_for f x).payload ∙ stay 1 f.version (head_for f x).payload)

    words-same : (root : Use) → words_under one root ≡ words_under f root
    words-same root =
        λ i. flat_map (λ x. data-same x i ++ map (λ (u : Use). u.word) (uses x)) (flat root.tree) ++ root.word ∷ []

    location-same : (root : Use) → location_under one root ≡ location_under f root
    location-same root =
        let number : List (List Pair) → List Pair → ℕ =
        λ words w. number_of_word (length (datums_of f.locations)) (further_words words) w in
        ap number (words-same root)

    locations-same : (root : Use) → locations_under one root ≡ locations_under f root
    locations-same root =
        ap (λ words. written_section (datums_of f.locations) (further_words words)) (words-same root)

    module _ (root : Use) where
      abbrev trees : List Tree
      trees = flat root.tree

      record-same : (x : Tree)
          → record_lines 1 (written_record one (location_under one root) trees x)
          ≡ record_lines 1 (written_record f (location_under f root) trees x)
      record-same x =
          let location : List Pair → ℕ = location_under f root in
          let renumber : ℕ → ℕ = λ n. location (word_of_place f.locations n) in
          let last : List Line =
          (flat_map spell_use (map (written_use location trees) (uses x)) ++ codes "*" ∷ []) ∷ [] in
          ap (λ (l : List Pair → ℕ). record_lines 1 (written_record one l trees x)) (location-same root)
          ∙ ap (λ (h : Head). head_lines 1 (renumbered_head renumber h) ++ last) (head-one x)
          ∙ ap (λ (lines : List Line). lines ++ last) (head-in_lines 1 renumber (head_for f x))

      lines-same : flat_map (record_lines 1) (map (written_record one (location_under one root) trees) trees)
          ≡ flat_map (record_lines 1) (map (written_record f (location_under f root) trees) trees)
      lines-same =
          flat_map-map (record_lines 1) (written_record one (location_under one root) trees) trees
          ∙ (λ i. flat_map (λ x. record-same x i) trees)
          ∙ sym (flat_map-map (record_lines 1) (written_record f (location_under f root) trees) trees)

      count-same : length (map (written_record one (location_under one root) trees) trees)
          ≡ length (map (written_record f (location_under f root) trees) trees)
      count-same =
          length-map trees (written_record one (location_under one root) trees)
          ∙ sym (length-map trees (written_record f (location_under f root) trees))

      abbrev text_with : List LocationEntry → ℕ → List Line → FileUse → List ℕ
      text_with locations count lines used =
          version_line 1
          ++ 10 ∷ lines_text ((location_lines locations ++ table_lines f)
          ++ (heading (codes "TShapes") count ∷ (lines ++ spell_use used ∷ [])))

      -- the text is the same
      pub text-same : text_of one root 1 ≡ text_of f root 1
      text-same =
          λ i. text_with (locations-same root i) (count-same i) (lines-same i)
          (written_use (location-same root i) trees root)

  -- ---- what is dressed
  entry-same : (table : Table) (n : ℕ) → entry_tokens one table n ≡ entry_tokens f table n
  entry-same Curve2s n = refl
  entry-same Curves n = refl
  entry-same Polygons n = refl
  entry-same PolygonsOn n = refl
  entry-same Surfaces n = refl
  entry-same Meshes n = refl

  part-same : (p : Part) → dressed_part one p ≡ dressed_part f p
  part-same (parts.token text) = refl
  part-same (parts.entry table n) = ap dressed_entry (entry-same table n)
  part-same (parts.located n) = refl

  dressed-same : (x : Tree) → dressed one (head_for one x) 1 ≡ dressed f (head_for f x) 1
  dressed-same x =
      let h : Head = head_for f x in
      let all : map (dressed_part one) (payload_parts 1 (payload_in 1 h.payload))
      ≡ map (dressed_part f) (payload_parts 1 h.payload) =
      ap (map (dressed_part one)) (parts-in 1 h.payload) ∙ (λ i. map (λ p. part-same p i) (payload_parts 1 h.payload))
      in
      ap (λ (g : Head). dressed one g 1) (head-one x)
      ∙ (λ i. record { kind = h.kind; parts = all i; flags = h.flags })

  pub dress-same : (root : Use) → dress one root 1 ≡ dress f root 1
  dress-same root = λ i. relabelled_use (λ x. dressed-same x i) root

  -- ---- it is sound
  module _ (sound : IsSound f) where
    number-back : (k : ℕ) → IsNumberOf (length one.records) k → IsNumberOf (length f.records) k
    number-back k n = subst (λ count. IsNumberOf count k) count-one n

    -- the record with a number is one of the file, in version 1
    record-from : (k : ℕ) (r : Record) → IsNumberOf (length f.records) k → record_of one k ≡ Some r
        → (q : Record) × (record_of f k ≡ Some q) × (record_in q ≡ r)
    record-from k r n e =
        let low = n.0 in let high = n.1 in
        let at = at_place f.records (length f.records - k) (omega (arith, low, high)) in
        (at.0, at.1, same_Some (record_in at.0) r (sym (record-one k ∙ ap (option_map record_in) at.1) ∙ e))

    use-one : (k : ℕ) (parent : Kind) (u : FileUse) → IsUse f k parent u → IsUse one k parent u
    use-one k parent u is =
        let above = is.above in
        record {
          above = is.above;
          named = subst (λ count. u.number ≤ count) (sym count-one) is.named;
          in_order = λ r e. (let from = record-from u.number r (omega (arith, above), is.named) e in
              subst (λ (q : Record). IsBelow q.head.kind parent) from.2 (is.in_order from.0 from.1));
          location = is.location;
        }

    record-sound : (k : ℕ) (r : Record) → IsNumberOf (length one.records) k → record_of one k ≡ Some r
        → IsRecord one k r
    record-sound k r n e =
        let from = record-from k r (number-back k n) e in
        let own = sound.records k from.0 (number-back k n) from.1 in
        subst (IsRecord one k) from.2 (record {
          head = sound-in (sizes_of f) f.version from.0.head own.head;
          uses = All-weaker (IsUse f k from.0.head.kind) (IsUse one k from.0.head.kind)
              (use-one k from.0.head.kind) from.0.uses own.uses;
        })

    record-short : (r : Record) → AllByRecursion Short (spell_record f.version r)
        → AllByRecursion Short (spell_record 1 (record_in r))
    record-short r short =
        let rest : List (List ℕ) = flat_map spell_use r.uses ++ codes "*" ∷ [] in
        let flags : List (List ℕ) = spell_flags r.head.flags ∷ [] in
        let head = each-left Short (spell_head f.version r.head) rest short in
        each-append Short (spell_head 1 (head_in 1 r.head)) rest (
          head.0,
          each-append Short (spell_payload 1 (payload_in 1 r.head.payload)) flags
              (tokens-in Short f.version r.head.payload
              (each-left Short (spell_payload f.version r.head.payload) flags head.1))
              (each-right Short (spell_payload f.version r.head.payload) flags head.1),
        )
        (each-right Short (spell_head f.version r.head) rest short)

    records-short : (rs : List Record) → AllByRecursion Short (flat_map (spell_record f.version) rs)
        → AllByRecursion Short (flat_map (spell_record 1) (map record_in rs))
    records-short [] short = tt
    records-short (r ∷ rs) short =
        each-append Short (spell_record 1 (record_in r)) (flat_map (spell_record 1) (map record_in rs))
        (record-short r (each-left Short (spell_record f.version r) (flat_map (spell_record f.version) rs) short))
        (records-short rs (each-right Short (spell_record f.version r) (flat_map (spell_record f.version) rs) short))

    tokens-short : AllByRecursion Short (spell_file one)
    tokens-short =
        let shapes : List (List ℕ) = section (codes "TShapes") (spell_record f.version) f.records in
        let after = each-right Short (spell_tables f) (shapes ++ spell_use f.root) sound.tokens in
        let records = each-left Short shapes (spell_use f.root) after in
        each-append Short (spell_tables f) (section (codes "TShapes") (spell_record 1) one.records ++ spell_use f.root)
        (each-left Short (spell_tables f) (shapes ++ spell_use f.root) sound.tokens)
        (each-append Short (section (codes "TShapes") (spell_record 1) one.records) (spell_use f.root)
        (records.0, (subst (λ n. Short (decimal n)) (sym count-one) records.1.0, records-short f.records records.1.1))
        (each-right Short shapes (spell_use f.root) after))

    pub sound-one : IsSound one
    sound-one = record {
      version = inl refl;
      tokens = tokens-short;
      tables = record {
        countable = sound.tables.countable;
        locations = sound.tables.locations;
        curve2s = sound.tables.curve2s;
        curves = sound.tables.curves;
        polygons = sound.tables.polygons;
        polygons_on = sound.tables.polygons_on;
        surfaces = sound.tables.surfaces;
        meshes = sound.tables.meshes;
      };
      countable = subst (λ n. n < 10 ^ 18) (sym count-one) sound.countable;
      records = record-sound;
      depths = λ k n. subst (λ t. depth t ≤ 512) (sym (tree-same k)) (sound.depths k (number-back k n));
      root = subst (λ count. IsNumberOf count f.root.number) (sym count-one) sound.root;
      root_location = sound.root_location;
    }

  -- ---- a root can be written in version 1 too
  pub can-one : LocationsStay → (root : Use) → CanBeWritten f root → CanBeWritten one root
  can-one stay root can = record {
    origins = λ x m. elim (can.origins x m) [
      | inl none ↦ inl none
      | inr n ↦ inr (subst (λ count. IsNumberOf count (origin x)) (sym count-one) n)
    ];
    in_order =
        λ x u m k. subst (λ a. IsBelow a (head_for one x).kind) (sym (kind-one u.tree))
        (subst (IsBelow (head_for f u.tree).kind) (sym (kind-one x)) (can.in_order x u m k));
    words = can.words;
    root_word = can.root_word;
    shallow = can.shallow;
    countable = can.countable;
    few_words = subst (λ l. length l < 10 ^ 18) (sym (locations-same stay root)) can.few_words;
  }

-- ---- in the file's version or in version 1
module _ (stay : LocationsStay)
    (own : (f : File) (root : Use) → IsSound f → CanBeWritten f root
    → IsTextFor f root f.version (text_of f root f.version)) where
  text-one : (f : File) (root : Use) → IsSound f → CanBeWritten f root → IsTextFor f root 1 (text_of f root 1)
  text-one f root sound can =
      let made = own (file_in f) root (sound-one f sound) (can-one f stay root can) in
      let stands = made.spelled.2 in
      let whole : IsTextFor f root 1 (text_of (file_in f) root 1) =
      record {
        spelled = (
          made.spelled.0,
          made.spelled.1,
          record {
            dressed = stands.dressed ∙ dress-same f root;
            relabelled = stands.relabelled;
            version = stands.version;
            datums = stands.datums;
            shared = stands.shared;
          },
        );
        one = made.one;
      } in
      subst (IsTextFor f root 1) (text-same f stay root) whole

  pub text-in : (f : File) (root : Use) (version : ℕ) → IsSound f → IsOutputOf f.version version → CanBeWritten f root
      → IsTextFor f root version (text_of f root version)
  text-in f root version sound (inl same) can =
      subst (λ v. IsTextFor f root v (text_of f root v)) (sym same) (own f root sound can)
  text-in f root version sound (inr first) can =
      subst (λ v. IsTextFor f root v (text_of f root v)) (sym first) (text-one f root sound can)
