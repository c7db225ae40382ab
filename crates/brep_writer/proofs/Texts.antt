-- The texts of plans.
use Rattle.std.proofs.Common.{◌≡◌, ◌<◌, ◌∙◌, refl, sym, ap, subst, inl, inr, arith}
use Rattle.std.specs.Prelude.{ℕ, ◌⊎◌, ◌≤◌, Some, List, ◌∷◌, ◌++◌, All, Contains, codes, length, map, slice_get}
use Rattle.std.specs.Prelude.{slice_index_or}
use Rattle.std.specs.List.{flat_map}
use Rattle.std.proofs.lemmas.List.{length-append, length-map}
use Rattle.std.proofs.lemmas.List.Elements.{All-contains_itself, All-weaker}
use Rattle.std.proofs.lemmas.List.Folds.{flat_map-map}
use Rattle.std.proofs.lemmas.Option.{slice_get-get_or}
use Rattle.lists.proofs.Places.{same_entry}
use Rattle.brep_tokens.specs.Tokens.{version_line}
use Rattle.brep_tokens.specs.Written.{line_text, lines_text}
use Rattle.expansion_laws.specs.Trees.{Tree, uses}
use Rattle.shape_pool.specs.declared.node.NodeId.{NodeId}
use Rattle.shape_pool.specs.declared.node.UseOf.{UseOf}
use Rattle.shape_pool.specs.Laws as pools
use Rattle.shape_pool.specs.Rows.{uses_at}
use Rattle.tshape_data.specs.Lines.{head_lines}
use Rattle.tshape_data.specs.Locations.{data_locations, renumbered_head}
use Rattle.tshape_data.specs.declared.head.Head.{Head}
use Rattle.brep_file.specs.declared.records.Record.{Record}
use Rattle.brep_file.specs.declared.file.File.{File}
use Rattle.brep_file.specs.Sound.{IsSound}
use Rattle.brep_file.specs.Spelling.{spell_use}
use Rattle.written_heads.specs.Named.{LocationsStay}
use Rattle.written_heads.specs.Versions.{IsOutputOf}
use Rattle.written_heads.specs.Words.{written_head}
use Rattle.written_layout.specs.Laws.{TextsHaveParts}
use Rattle.written_layout.specs.Layout.{file_lines, heading, locations_of, record_lines, spaced_use}
use Rattle.written_layout.specs.Layout.{text_before_records}
use Rattle.written_locations.specs.declared.written.WrittenLocations.{WrittenLocations}
use Rattle.written_locations.specs.Added.{IsAdded}
use Rattle.location_table.specs.Words.{datums_of}
use Rattle.location_table.specs.Written.{written_section}
use Rattle.brep_writer.specs.declared.plan.WritePlan.{WritePlan}
use Rattle.brep_writer.specs.Dress.{made_head}
use Rattle.brep_writer.specs.Plans.{plan_location, plan_root, plan_text, plan_trees, record_in, use_in_file}
use Rattle.brep_writer.specs.Plans.{uses_in_file, IsPlan}
use Rattle.brep_writer.specs.Sources.{data_in, head_in, tree_in, use_of}
use Rattle.brep_writer.specs.WrittenFile.{locations_under, written_file, written_record, written_use}
use Rattle.brep_writer.proofs.Heads.{uses-are}
use Rattle.brep_writer.proofs.Plans.{location-is, trees-are}

-- ---- items
pub item-is : {X : Type 0} (xs : List X) (k : ℕ) (x : X) → k < length xs → slice_get xs k ≡ Some x
    → x ≡ slice_index_or xs k x
item-is xs k x lt is = same_entry is (slice_get-get_or xs k x lt)

-- ---- the head of a compound that was made
pub made-text : (l : WrittenLocations) (version : ℕ) → codes "Co\n\n1101000\n" ≡ written_head l version made_head
made-text l version = refl

-- ---- versions
pub version-is : (f : File) (version : ℕ) → IsSound f → IsOutputOf f.version version → (version ≡ 1) ⊎ (version ≡ 2)
version-is f version sound (inl own) = elim sound.version [ inl one ↦ inl (own ∙ one) | inr two ↦ inr (own ∙ two) ]
version-is f version sound (inr one) = inl one

module _ (p : WritePlan) (plan : IsPlan p) where
  -- ---- the locations in a head that is written
  pub data-added : LocationsStay → (i : ℕ) → Contains p.order.numbers i → (h : Head)
      → h.payload ≡ (head_in p.source i).payload
      → All (IsAdded p.locations) (data_locations p.version h.payload)
  data-added stay i there h same =
      subst (All (IsAdded p.locations))
      (sym (stay p.version p.source.file.now.version h.payload
      ∙ ap (data_locations p.source.file.now.version) same))
      (All-weaker (Contains (data_in p.source i)) (IsAdded p.locations) (λ k m. plan.located.named i k there m)
      (data_in p.source i) (All-contains_itself (data_in p.source i)))

  pub data-within : LocationsStay → (h : Head)
      → All (λ (place : ℕ). place ≤ length p.locations.section.now)
      (data_locations p.source.file.now.version h.payload)
      → All (λ (place : ℕ). place ≤ length p.locations.section.now) (data_locations p.version h.payload)
  data-within stay h within =
      subst (All (λ (place : ℕ). place ≤ length p.locations.section.now))
      (stay p.source.file.now.version p.version h.payload) within

  -- ---- a record
  pub uses-text : pools.IsSound p.source.pool.now → (i : ℕ) → i < length p.source.pool.now
      → flat_map (λ (u : UseOf). spaced_use (use_in_file p u)) (uses_at p.source.pool.now i)
      ≡ flat_map spaced_use (uses_in_file p i)
  uses-text pool i lt =
      let W = written_use (plan_location p) (plan_trees p) in
      let us = uses_at p.source.pool.now i in
      sym (flat_map-map spaced_use W (uses (tree_in p.source i))
      ∙ ap (flat_map (λ u. spaced_use (W u))) (uses-are p.source pool i lt)
      ∙ flat_map-map (λ u. spaced_use (W u)) (use_of p.source) us)

  pub record-text : TextsHaveParts → (i : ℕ)
      → written_head p.locations p.version (head_in p.source i)
      ++ (flat_map spaced_use (uses_in_file p i) ++ codes "*\n")
      ≡ lines_text (record_lines p.version (record_in p i))
  record-text texts i =
      (λ j. lines_text (head_lines p.version (renumbered_head (λ k. location-is p plan k j) (head_in p.source i)))
      ++ (flat_map spaced_use (uses_in_file p i) ++ codes "*\n"))
      ∙ sym (texts.record_text p.version (record_in p i))

  -- ---- the whole text
  abbrev record_text_of : ℕ → List ℕ
  record_text_of i = lines_text (record_lines p.version (record_in p i))

  pub records-text : (ids : List NodeId) → map (λ (n : NodeId). n.0) ids ≡ p.order.numbers
      → flat_map (λ (n : NodeId). record_text_of n.0) ids ≡ flat_map record_text_of p.order.numbers
  records-text ids same =
      sym (flat_map-map record_text_of (λ (n : NodeId). n.0) ids) ∙ ap (flat_map record_text_of) same

  pub whole-text : TextsHaveParts → (ids : List NodeId) → map (λ (n : NodeId). n.0) ids ≡ p.order.numbers
      → text_before_records p.version p.source.file.now (locations_of p.locations)
      ++ (line_text (heading (codes "TShapes") (length ids))
      ++ (flat_map record_text_of p.order.numbers ++ line_text (spell_use (use_in_file p p.root))))
      ≡ plan_text p
  whole-text texts ids same =
      let f = p.source.file.now in
      let g = written_file f (plan_root p) p.version in
      let R : Tree → Record = written_record f (plan_location p) (plan_trees p) in
      let size : length ids ≡ length g.records =
      sym (length-map ids (λ (n : NodeId). n.0)) ∙ ap length same
      ∙ sym (length-map p.order.numbers (tree_in p.source)) ∙ ap length (trees-are p plan)
      ∙ sym (length-map (plan_trees p) R) in
      let lines : flat_map record_text_of p.order.numbers
      ≡ flat_map (λ (r : Record). lines_text (record_lines p.version r)) g.records =
      sym (flat_map-map (λ (x : Tree). lines_text (record_lines p.version (R x))) (tree_in p.source) p.order.numbers)
      ∙ ap (flat_map (λ (x : Tree). lines_text (record_lines p.version (R x)))) (trees-are p plan)
      ∙ sym (flat_map-map (λ (r : Record). lines_text (record_lines p.version r)) R (plan_trees p)) in
      let written : locations_of p.locations ≡ locations_under f (plan_root p) =
      λ j. written_section (datums_of (plan.located.over.section j)) (plan.located.words j) in
      (λ j. text_before_records p.version f (written j)
      ++ (line_text (heading (codes "TShapes") (size j)) ++ (lines j ++ line_text (spell_use (use_in_file p p.root)))))
      ∙ sym (texts.layout_text g)

-- a text isn't empty
pub some-text : (p : WritePlan) → 0 < length (plan_text p)
some-text p =
    let g = written_file p.source.file.now (plan_root p) p.version in
    let long = length-append (version_line g.version) (10 ∷ lines_text (file_lines g)) in
    omega (arith, long)
