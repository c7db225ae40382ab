-- How many lines and tokens are written for a root over a file of few tokens.
use Rattle.std.proofs.Common.{◌≡◌, ◌≤◌, ◌-◌, refl, ap, subst, arith, inl, inr}
use Rattle.std.specs.Prelude.{ℕ, ◌+◌, ◌*◌, ◌^◌, Bool, true, false, if◌then◌else◌, Option, Some, None}
use Rattle.std.specs.Prelude.{List, [], ◌∷◌, ◌++◌, length, map, codes, Contains}
use Rattle.std.specs.List.{AllByRecursion, flat_map}
use Rattle.std.specs.Fmt.{decimal}
use Rattle.std.specs.Option.{option_map_or}
use Rattle.std.proofs.lemmas.Grind.{flat_map-append}
use Rattle.std.proofs.lemmas.List.{length-append, length-map}
use Rattle.std.proofs.lemmas.List.Folds.{flat_map-map}
use Rattle.lists.proofs.Members.{Contains-cases, Contains-none}
use Rattle.lists.proofs.Places.{Contains-at}
use Rattle.location_words.specs.declared.pair.Pair.{Pair}
use Rattle.location_table.specs.declared.entry.LocationEntry.{LocationEntry}
use Rattle.location_table.specs.declared.entry.LocationEntry.TheVariants.{Datum, Product}
use Rattle.location_table.specs.Locations.{factor, spell_factor, spell_location}
use Rattle.location_table.specs.Words.{datums_of, word_of_place}
use Rattle.location_table.specs.Written.{IsWordOver, product_of}
use Rattle.curve_tables.specs.Spelling.{spelling2, spelling3}
use Rattle.mesh_tables.specs.Spelling.{spell_mesh, spell_polygon, spell_polygon_on}
use Rattle.surface_tables.specs.Spelling.{spell_surface}
use Rattle.expansion_laws.specs.Trees.{Tree, Use, origin, uses}
use Rattle.expansion_laws.specs.Equality.{tree_eq}
use Rattle.expansion_laws.specs.Written.{flat}
use Rattle.tshape_data.specs.Flags.{spell_flags}
use Rattle.tshape_data.specs.Laws.{RenumberingKeepsParts}
use Rattle.tshape_data.specs.Lines.{head_lines}
use Rattle.tshape_data.specs.Locations.{renumbered_part, renumbered_payload}
use Rattle.tshape_data.specs.Parts.{payload_parts}
use Rattle.tshape_data.specs.Sound.{rep_count}
use Rattle.tshape_data.specs.Spelling.{part_text, spell_head, spell_payload}
use Rattle.tshape_data.specs.declared.head.Head.{Head}
use Rattle.tshape_data.specs.declared.head.Payload.{Payload}
use Rattle.tshape_data.specs.declared.head.Payload.TheVariants.{Nothing}
use Rattle.brep_file.specs.declared.records.Record.{Record}
use Rattle.brep_file.specs.declared.file.File.{File}
use Rattle.brep_file.specs.PlainRecords.{record_of, tree_of_record}
use Rattle.brep_file.specs.Sound.{IsWithinLimits, reps_in}
use Rattle.brep_file.specs.Spelling.{section, spell_file, spell_record, spell_tables, spell_use}
use Rattle.written_layout.specs.Layout.{file_lines, location_lines, record_lines, section_lines, shape_lines}
use Rattle.written_layout.specs.Layout.{Line, table_lines}
use Rattle.brep_writer.specs.Dress.{head_for, made_head, rebuilt}
use Rattle.brep_writer.specs.WrittenFile.{location_under, words_under, written_record, written_use}
use Rattle.written_locations.specs.Further.{further_words}
use Rattle.brep_writer.specs.OwnVersion.{written_file}
use Rattle.brep_writer.proofs.LayoutSizes.{spell_others}
use Rattle.brep_writer.proofs.LineCounts.{head-lines}
use Rattle.brep_writer.proofs.Weights.{flat_map-few, flat_map-part}

-- ---- records
reps-part : (rs : List Record) (r : Record) → Contains rs r → rep_count r.head.payload ≤ reps_in rs
reps-part [] r m = absurd (Contains-none r m)
reps-part (q ∷ rs) r m = elim (Contains-cases q r rs m) [
  | inl e ↦ subst (λ (z : Record). rep_count z.head.payload ≤ reps_in (q ∷ rs)) e (omega arith)
  | inr k ↦ (let rest = reps-part rs r k in omega (arith, rest))
]

-- ---- locations
datum-tokens : (entries : List LocationEntry)
    → length (flat_map spell_location (map Datum (datums_of entries))) ≤ length (flat_map spell_location entries)
datum-tokens [] = omega arith
datum-tokens (Datum texts ∷ entries) =
    let one = length-append (spell_location (Datum texts)) (flat_map spell_location (map Datum (datums_of entries))) in
    let all = length-append (spell_location (Datum texts)) (flat_map spell_location entries) in
    let rest = datum-tokens entries in
    omega (arith, one, all, rest)
datum-tokens (Product factors ∷ entries) =
    let all = length-append (spell_location (Product factors)) (flat_map spell_location entries) in
    let rest = datum-tokens entries in
    omega (arith, all, rest)

product-tokens : (w : List Pair) → length w ≤ 4096 → length (spell_location (product_of w)) ≤ 8194
product-tokens w few =
    let factors = map (λ (p : Pair). factor p.datum p.power) w in
    let size = length-append (flat_map spell_factor factors) (decimal 0 ∷ []) in
    let two = flat_map-few spell_factor 2 factors (λ f m. omega arith) in
    let count = length-map w (λ (p : Pair). factor p.datum p.power) in
    omega (arith, few, size, two, count)

word-tokens : (datums : ℕ) (words : List (List Pair)) → AllByRecursion (IsWordOver datums) words
    → length (flat_map spell_location (map product_of words)) ≤ 8194 * length words
word-tokens datums [] over = omega arith
word-tokens datums (w ∷ words) over =
    let size = length-append (spell_location (product_of w)) (flat_map spell_location (map product_of words)) in
    let one = product-tokens w over.0.held.few in let rest = word-tokens datums words over.1 in
    omega (arith, size, one, rest)

-- ---- heads
-- what holds of the data of records and of no data holds of the data under which a tree is written
data-perhaps : (P : Payload → Type 0) (same : Bool) (h : Head) → P h.payload
    → P (if same then h else rebuilt h).payload
data-perhaps P true h p = p
data-perhaps P false h p = p

data-chosen : (P : Payload → Type 0) (o : Option Record) (same : Bool) → P Nothing
    → ((r : Record) → o ≡ Some r → P r.head.payload) →
    P (option_map_or (λ (r : Record). if same then r.head else rebuilt r.head) o made_head).payload
data-chosen P None same none some = none
data-chosen P (Some r) same none some = data-perhaps P same r.head (some r refl)

-- a file with few tokens, within the limits
pub record IsSmallFile (f : File) : Type 0 where
  pub tokens : length (spell_file f) ≤ 134217728
  pub within : IsWithinLimits f

-- few records and locations are written for the root, and few uses in each record
pub record IsSmallRoot (f : File) (root : Use) : Type 0 where
  pub trees : length (flat root.tree) ≤ 2097152
  pub uses : (x : Tree) → Contains (flat root.tree) x → length (uses x) ≤ 16777216
  pub locations : length (written_file f root).locations ≤ 4194304

module _ (renumbering : RenumberingKeepsParts) (f : File) (small : IsSmallFile f) where
  record-few : (r : Record) → Contains f.records r → length (spell_record f.version r) ≤ 134217728
  record-few r m =
      let all = length-append (spell_tables f) (section (codes "TShapes") (spell_record f.version) f.records
      ++ spell_use f.root) in
      let shapes = length-append (section (codes "TShapes") (spell_record f.version) f.records) (spell_use f.root) in
      let part = flat_map-part (spell_record f.version) f.records r m in let few = small.tokens in
      omega (arith, all, shapes, part, few)

  abbrev IsFewData : Payload → Type 0
  IsFewData p = (length (payload_parts f.version p) ≤ 134217728) × (rep_count p ≤ 8388608)

  data-of_record : (r : Record) → Contains f.records r → IsFewData r.head.payload
  data-of_record r m =
      let whole = length-append (spell_head f.version r.head) (flat_map spell_use r.uses ++ codes "*" ∷ []) in
      let head = length-append (spell_payload f.version r.head.payload) (spell_flags r.head.flags ∷ []) in
      let parts = length-map (payload_parts f.version r.head.payload) part_text in
      let few = record-few r m in let reps = reps-part f.records r m in let limit = small.within.reps in
      (omega (arith, whole, head, parts, few), omega (arith, reps, limit))

  data-few : (x : Tree) → IsFewData (head_for f x).payload
  data-few x =
      data-chosen IsFewData (record_of f (origin x)) (tree_eq x (tree_of_record f (origin x)))
      (omega arith, omega arith)
      (λ r e. data-of_record r (Contains-at f.records (length f.records - origin x) r e))

  tables-few : length (spell_others f) ≤ 134217728
  tables-few =
      let all = length-append (spell_tables f) (section (codes "TShapes") (spell_record f.version) f.records
      ++ spell_use f.root) in
      let both = length-append (section (codes "Locations") spell_location f.locations) (spell_others f) in
      let few = small.tokens in
      omega (arith, all, both, few)

  places-few : length (flat_map spell_location f.locations) ≤ 134217728
  places-few =
      let all = length-append (spell_tables f) (section (codes "TShapes") (spell_record f.version) f.records
      ++ spell_use f.root) in
      let both = length-append (section (codes "Locations") spell_location f.locations) (spell_others f) in
      let few = small.tokens in
      omega (arith, all, both, few)

  -- ---- lines of tables
  with-section : {A : Type 0} (word : List ℕ) (spell : A → Line) (entries : List A) (others : List Line) (most : ℕ)
      → length entries ≤ 4194304 → length others ≤ most →
      length (section_lines word spell entries ++ others) ≤ 4194305 + most
  with-section word spell entries others most few rest =
      let size = length-append (section_lines word spell entries) others in let count = length-map entries spell in
      omega (arith, few, rest, size, count)

  table-lines : length (table_lines f) ≤ 25165830
  table-lines =
      let within = small.within in let last = within.meshes in let count = length-map f.meshes spell_mesh in
      let lines : length (table_lines f) ≤ 4194305 + 20971525 =
      with-section (codes "Curve2ds") spelling2 f.curve2s _ 20971525 within.curve2s
      (with-section (codes "Curves") spelling3 f.curves _ 16777220 within.curves
      (with-section (codes "Polygon3D") spell_polygon f.polygons _ 12582915 within.polygons
      (with-section (codes "PolygonOnTriangulations") spell_polygon_on f.polygons_on _ 8388610 within.polygons_on
      (with-section (codes "Surfaces") spell_surface f.surfaces
      (section_lines (codes "Triangulations") spell_mesh f.meshes) 4194305 within.surfaces
      (omega (arith, last, count)))))) in
      omega (arith, lines)

  module _ (root : Use) (few : IsSmallRoot f root)
      (over : AllByRecursion (IsWordOver (length (datums_of f.locations))) (further_words (words_under f root))) where
    abbrev trees : List Tree
    trees = flat root.tree

    abbrev location : List Pair → ℕ
    location = location_under f root

    abbrev made : File
    made = written_file f root

    abbrev further : List (List Pair)
    further = further_words (words_under f root)

    -- ---- records
    record-tokens : (x : Tree) → Contains trees x
        → length (spell_record f.version (written_record f location trees x)) ≤ 201326592
    record-tokens x m =
        let p = (head_for f x).payload in
        let renumber : ℕ → ℕ = λ n. location (word_of_place f.locations n) in
        let r = written_record f location trees x in
        let whole = length-append (spell_head f.version r.head) (flat_map spell_use r.uses ++ codes "*" ∷ []) in
        let head = length-append (spell_payload f.version r.head.payload) (spell_flags r.head.flags ∷ []) in
        let parts = length-map (payload_parts f.version (renumbered_payload renumber p)) part_text in
        let same = ap length (renumbering.parts f.version renumber p) in
        let kept = length-map (payload_parts f.version p) (renumbered_part renumber) in
        let used = length-append (flat_map spell_use r.uses) (codes "*" ∷ []) in
        let two = flat_map-few spell_use 2 r.uses (λ u k. omega arith) in
        let count = length-map (uses x) (written_use location trees) in
        let few_uses = few.uses x m in let few_parts = (data-few x).0 in
        omega (arith, whole, head, parts, same, kept, used, two, count, few_uses, few_parts)

    record-lines : (x : Tree) → length (record_lines f.version (written_record f location trees x)) ≤ 16777223
    record-lines x =
        let p = (head_for f x).payload in
        let renumber : ℕ → ℕ = λ n. location (word_of_place f.locations n) in
        let r = written_record f location trees x in
        let size = length-append (head_lines f.version r.head) ((flat_map spell_use r.uses ++ codes "*" ∷ []) ∷ []) in
        let head = head-lines f.version r.head in let count = renumbering.count renumber p in
        let few_reps = (data-few x).1 in
        omega (arith, size, head, count, few_reps)

    all-tokens : length (flat_map (spell_record f.version) made.records) ≤ length trees * 201326592
    all-tokens =
        let same = ap length (flat_map-map (spell_record f.version) (written_record f location trees) trees) in
        let few = flat_map-few (λ x. spell_record f.version (written_record f location trees x)) 201326592 trees
        record-tokens in
        omega (arith, same, few)

    all-lines : length (flat_map (record_lines f.version) made.records) ≤ length trees * 16777223
    all-lines =
        let same = ap length (flat_map-map (record_lines f.version) (written_record f location trees) trees) in
        let few = flat_map-few (λ x. record_lines f.version (written_record f location trees x)) 16777223 trees
        (λ x m. record-lines x) in
        omega (arith, same, few)

    -- ---- the whole file
    place-tokens : length (flat_map spell_location made.locations) ≤ 134217728 + 8194 * 4194304
    place-tokens =
        let datums = datums_of f.locations in
        let both = ap length (flat_map-append spell_location (map Datum datums) (map product_of further)) in
        let size = length-append (flat_map spell_location (map Datum datums))
        (flat_map spell_location (map product_of further)) in
        let of_datums = datum-tokens f.locations in let of_words = word-tokens (length datums) further over in
        let entries = length-append (map Datum datums) (map product_of further) in
        let count = length-map further product_of in
        let few_entries = few.locations in let few_places = places-few in
        omega (arith, both, size, of_datums, of_words, entries, count, few_entries, few_places)

    pub made-tokens : length (spell_file made) ≤ 2 ^ 50
    made-tokens =
        let all = length-append (spell_tables made) (section (codes "TShapes") (spell_record f.version) made.records
        ++ spell_use made.root) in
        let both = length-append (section (codes "Locations") spell_location made.locations) (spell_others made) in
        let shapes = length-append (section (codes "TShapes") (spell_record f.version) made.records)
        (spell_use made.root) in
        let others = tables-few in let places = place-tokens in let records = all-tokens in
        let few_trees = few.trees in
        omega (arith, all, both, shapes, others, places, records, few_trees)

    pub made-lines : length (file_lines made) ≤ 2 ^ 50
    made-lines =
        let all = length-append (location_lines made.locations ++ table_lines made) (shape_lines made) in
        let both = length-append (location_lines made.locations) (table_lines made) in
        let places = length-map made.locations spell_location in
        let shapes = length-append (flat_map (record_lines f.version) made.records) (spell_use made.root ∷ []) in
        let tables = table-lines in let records = all-lines in
        let few_entries = few.locations in let few_trees = few.trees in
        omega (arith, all, both, places, shapes, tables, records, few_entries, few_trees)
