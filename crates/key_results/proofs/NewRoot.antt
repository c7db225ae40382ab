-- The new root over the nodes of parts.
use Rattle.std.proofs.Common.{◌≡◌, ◌<◌, ◌+◌, ◌⊎◌, ℕ, List, map, ◌++◌, ◌∷◌, [], All, Contains, length}
use Rattle.std.proofs.Common.{arith, sym, ◌∙◌, ap, subst, refl, slice_get, slice_index_or, Some, inl, inr, take}
use Rattle.std.proofs.lemmas.List.{length-map, map-append}
use Rattle.std.proofs.lemmas.List.Elements.{All-contains}
use Rattle.std.proofs.lemmas.Option.{slice_get-get_or, get_or_from_slice_get, same_Some}
use Rattle.lists.proofs.Each.{All-from_members}
use Rattle.lists.proofs.Members.{Contains-map_cases}
use Rattle.lists.proofs.Places.{take-at}
use Rattle.orientation.specs.declared.turn.Turn.TheVariants.{Forward}
use Rattle.location_words.specs.declared.pair.Pair.{Pair}
use Rattle.expansion_laws.specs.Trees.{Tree, Use, a_single, tree_of}
use Rattle.expansion_laws.specs.Steps.{root_of}
use Rattle.expansion_laws.specs.Measures.{depth}
use Rattle.shape_pool.specs.declared.node.NodeId.{NodeId}
use Rattle.shape_pool.specs.declared.node.UseOf.{UseOf}
use Rattle.shape_pool.specs.Rows.{Row, use_by, tree_at, trees_of, most_depth, AllHeld, AllPlaced, HasPlaces}
use Rattle.shape_pool.specs.Laws.{IsSound, TellsBelow}
use Rattle.key_results.specs.declared.fault.ApplyFault.{ApplyFault}
use Rattle.key_results.specs.declared.fault.ApplyFault.TheVariants.{Limit, NoMemory}
use Rattle.key_results.specs.declared.fault.LimitKind.TheVariants.{FileBytes, ScriptBytes, ScriptLines}
use Rattle.key_results.specs.declared.fault.LimitKind.TheVariants.{Steps, Rank, Keys, WordPairs}
use Rattle.key_results.specs.declared.fault.LimitKind.TheVariants.{WordPower, Uses, Depth, Nodes, Pairs}
use Rattle.key_results.specs.declared.parts.Part.{Part}
use Rattle.key_results.specs.Parts.{use_of_part}
use Rattle.key_results.specs.Grown.{node_use, node_uses, IsNodeRefused, IsRootRefused, StandForParts}
use Rattle.key_results.proofs.GrownLaws.{depth-of-over, one-too-many}
use Rattle.key_results.proofs.GrownOwn.{uses-of-parts}
use Rattle.key_results.proofs.GrownFaults.{tree-listed}

-- ---- the uses of parts
pub uses-next : (d : NodeId) (nodes : List NodeId) (parts : List Part) (i : ℕ) (p : Part) (before after : List UseOf)
    (u : UseOf) →
    slice_get parts i ≡ Some p → after ≡ before ++ u ∷ [] → u ≡ node_use d nodes p →
    before ≡ node_uses d nodes (take i parts) →
    after ≡ node_uses d nodes (take (i + 1) parts)
uses-next d nodes parts i p before after u at e is h =
    e ∙ (λ j. h j ++ is j ∷ []) ∙ sym (map-append (node_use d nodes) (take i parts) (p ∷ [])) ∙
    ap (node_uses d nodes) (sym (take-at parts i p at))

-- what a place past a list is read as
abbrev pub no_id : NodeId
no_id = record { 0 = 0 }

abbrev pub no_part : Part
no_part = record { turn = Forward; place = record { 0 = 0 }; of = 0 }

pub uses-turn : (d : NodeId) (nodes : List NodeId) (parts : List Part) (i : ℕ) → i < length parts →
    All (λ (p : Part). p.of < length nodes) parts → (before after : List UseOf) →
    after ≡ before ++ node_use no_id nodes (slice_index_or parts i no_part) ∷ [] →
    before ≡ node_uses d nodes (take i parts) →
    after ≡ node_uses d nodes (take (i + 1) parts)
uses-turn d nodes parts i lt within before after e =
    let p = slice_index_or parts i no_part in
    let same : slice_index_or nodes p.of no_id ≡ slice_index_or nodes p.of d =
    get_or_from_slice_get nodes p.of (slice_index_or nodes p.of d) no_id
    (slice_get-get_or nodes p.of d (within i no_part lt)) in
    uses-next d nodes parts i p before after (node_use no_id nodes p) (slice_get-get_or parts i no_part lt) e
    (λ j. record { turn = p.turn; place = p.place; id = same j })

pub uses-held : (rows : List Row) (d : NodeId) (nodes : List NodeId) (parts : List Part) →
    All (λ (n : NodeId). n.0 < length rows) nodes →
    All (λ (p : Part). p.of < length nodes) parts → AllHeld rows (node_uses d nodes parts)
uses-held rows d nodes parts held within =
    All-from_members (λ (u : UseOf). u.id.0 < length rows) (node_uses d nodes parts)
    (λ u m. let c = Contains-map_cases (node_use d nodes) u parts m in
    subst (λ (u : UseOf). u.id.0 < length rows) c.2
    (held c.0.of d (All-contains (λ (p : Part). p.of < length nodes) parts c.0 within c.1)))

pub uses-placed : (n : ℕ) (d : NodeId) (nodes : List NodeId) (parts : List Part) →
    All (λ (p : Part). p.place.0 < n) parts →
    AllPlaced n (node_uses d nodes parts)
uses-placed n d nodes parts placed =
    All-from_members (λ (u : UseOf). u.place.0 < n) (node_uses d nodes parts)
    (λ u m. let c = Contains-map_cases (node_use d nodes) u parts m in
    subst (λ (u : UseOf). u.place.0 < n) c.2 (All-contains (λ (p : Part). p.place.0 < n) parts c.0 placed c.1))

-- ---- one result, or not
one-use : (word : ℕ → List Pair) (tree own : ℕ → Tree) (d : NodeId) (nodes : List NodeId) (parts : List Part)
    (only : UseOf) →
    length (node_uses d nodes parts) ≡ 1 → slice_get (node_uses d nodes parts) 0 ≡ Some only →
    map (use_by word tree) (node_uses d nodes parts) ≡ map (use_of_part word own) parts →
    use_by word tree only ≡ root_of (map (use_of_part word own) parts)
one-use word tree own d nodes [] only one at same = absurd (omega (arith, one))
one-use word tree own d nodes (p ∷ []) only one at same =
    ap (use_by word tree) (sym (same_Some (node_use d nodes p) only at)) ∙ ap root_of same
one-use word tree own d nodes (p ∷ q ∷ ps) only one at same =
    let more = length-map ps (node_use d nodes) in absurd (omega (arith, one, more))

not-one : (results : List Use) → (length results ≡ 1 → ⊥) → root_of results ≡ a_single Forward [] (tree_of 0 results)
not-one [] h = refl
not-one (r ∷ []) h = absurd (h refl)
not-one (r ∷ s ∷ rs) h = refl

module _ (rows : List Row) (word : ℕ → List Pair) (own : ℕ → Tree) (d : NodeId) (nodes : List NodeId)
    (parts : List Part)
    (within : All (λ (p : Part). p.of < length nodes) parts) (stand : StandForParts word rows parts nodes own) where
  same-uses : map (use_by word (tree_at word rows)) (node_uses d nodes parts) ≡ map (use_of_part word own) parts
  same-uses = uses-of-parts word (tree_at word rows) own d nodes parts (λ p c.
      stand p (slice_index_or nodes p.of d) c (slice_get-get_or nodes p.of d
      (All-contains (λ (p : Part). p.of < length nodes) parts p within c)))

  pub root-one : (uses : List UseOf) (only : UseOf) → uses ≡ node_uses d nodes parts → length uses ≡ 1 →
      slice_get uses 0 ≡ Some only →
      use_by word (tree_at word rows) only ≡ root_of (map (use_of_part word own) parts)
  root-one uses only e one at =
      one-use word (tree_at word rows) own d nodes parts only (ap length (sym e) ∙ one)
      (ap (λ us. slice_get us 0) (sym e) ∙ at) same-uses

  many : (uses : List UseOf) → uses ≡ node_uses d nodes parts → (length uses ≡ 1 → ⊥) →
      root_of (map (use_of_part word own) parts) ≡ a_single Forward [] (tree_of 0 (map (use_of_part word own) parts))
  many uses e none =
      not-one (map (use_of_part word own) parts) (λ one. none (ap length e ∙ length-map parts (node_use d nodes) ∙
      sym (length-map parts (use_of_part word own)) ∙ one))

  pub root-many : (uses : List UseOf) (new : List Row) (root : UseOf) → uses ≡ node_uses d nodes parts →
      (length uses ≡ 1 → ⊥) →
      word 0 ≡ [] → root.turn ≡ Forward → root.place.0 ≡ 0 →
      tree_at word new root.id.0 ≡ tree_of 0 (map (use_by word (tree_at word rows)) uses) →
      use_by word (tree_at word new) root ≡ root_of (map (use_of_part word own) parts)
  root-many uses new root e none idle turn place tree =
      (λ i. a_single (turn i) ((ap word place ∙ idle) i)
      ((tree ∙ ap (λ us. tree_of 0 (map (use_by word (tree_at word rows)) us)) e ∙ ap (tree_of 0) same-uses) i)) ∙
      sym (many uses e none)

  pub root-refused : IsSound rows → (n : ℕ) → TellsBelow n word → HasPlaces rows n →
      All (λ (n : NodeId). n.0 < length rows) nodes →
      All (λ (p : Part). p.place.0 < n) parts → (uses : List UseOf) → uses ≡ node_uses d nodes parts →
      (length uses ≡ 1 → ⊥) →
      (fault : ApplyFault) → IsNodeRefused rows 0 uses fault →
      IsRootRefused word rows (map (use_of_part word own) parts) fault
  root-refused sound n tells places held placed uses e none (Limit Nodes m) h =
      let tree : tree_of 0 (map (use_by word (tree_at word rows)) uses) ≡
      (root_of (map (use_of_part word own) parts)).tree =
      ap (λ us. tree_of 0 (map (use_by word (tree_at word rows)) us)) e ∙ ap (tree_of 0) same-uses ∙
      sym (ap (λ (u : Use). u.tree) (many uses e none)) in (
        one-too-many rows sound n word places tells
            (λ x. Contains (trees_of word rows) x ⊎ (x ≡ (root_of (map (use_of_part word own) parts)).tree)) 0 uses
            (subst (AllHeld rows) (sym e) (uses-held rows d nodes parts held within))
            (subst (AllPlaced n) (sym e) (uses-placed n d nodes parts placed)) h.1 h.2
            (λ i lt. inl (tree-listed word rows i lt)) (inr tree),
        h.3,
      )
  root-refused sound n tells places held placed uses e none (Limit Depth m) h =
      let tree : tree_of 0 (map (use_by word (tree_at word rows)) uses) ≡
      (root_of (map (use_of_part word own) parts)).tree =
      ap (λ us. tree_of 0 (map (use_by word (tree_at word rows)) us)) e ∙ ap (tree_of 0) same-uses ∙
      sym (ap (λ (u : Use). u.tree) (many uses e none)) in
      let deep = sym (depth-of-over rows sound word 0 uses) ∙ ap depth tree in
      (subst (λ (k : ℕ). most_depth < k) deep h.0, h.1 ∙ deep)
  root-refused sound n tells places held placed uses e none (Limit FileBytes m) h = h
  root-refused sound n tells places held placed uses e none (Limit ScriptBytes m) h = h
  root-refused sound n tells places held placed uses e none (Limit ScriptLines m) h = h
  root-refused sound n tells places held placed uses e none (Limit Steps m) h = h
  root-refused sound n tells places held placed uses e none (Limit Rank m) h = h
  root-refused sound n tells places held placed uses e none (Limit Keys m) h = h
  root-refused sound n tells places held placed uses e none (Limit WordPairs m) h = h
  root-refused sound n tells places held placed uses e none (Limit WordPower m) h = h
  root-refused sound n tells places held placed uses e none (Limit Uses m) h = h
  root-refused sound n tells places held placed uses e none (Limit Pairs m) h = h
  root-refused sound n tells places held placed uses e none NoMemory h = tt
