-- What is made of a step, among trees.
use Rattle.std.proofs.Common.{◌≡◌, ◌≤◌, ◌<◌, ◌∙◌, ◌⊎◌, ◌↔◌, ℕ, true, false, List, [], Contains, map, length}
use Rattle.std.proofs.Common.{arith, refl, sym, ap, subst, slice_get, Some, inl, inr}
use Rattle.std.specs.Prelude.{nat_lt}
use Rattle.std.proofs.lemmas.Bool.{ltb-true, ltb-false}
use Rattle.std.proofs.lemmas.List.{length-map}
use Rattle.std.proofs.lemmas.List.Elements.{All-contains}
use Rattle.std.proofs.lemmas.Option.{slice_get_within}
use Rattle.graph_walks.specs.Walks.{Reaches}
use Rattle.lists.specs.Distinct.{Counts}
use Rattle.lists.specs.Sameness.{is_empty}
use Rattle.lists.proofs.Cases.{by_test}
use Rattle.lists.proofs.Distinct.{length-le_from_distinct}
use Rattle.lists.proofs.Entries.{All-place}
use Rattle.lists.proofs.Members.{Contains-map, Contains-map_cases, Contains-none}
use Rattle.lists.proofs.Places.{at_place, Contains-at, place_of}
use Rattle.location_words.specs.declared.pair.Pair.{Pair}
use Rattle.location_words.specs.Pairs.{IsWord}
use Rattle.expansion_laws.specs.Trees.{Tree, Use, uses}
use Rattle.expansion_laws.specs.Contexts.{Context, bare}
use Rattle.expansion_laws.specs.Demands.{demands}
use Rattle.expansion_laws.specs.Graph.{IsRank}
use Rattle.expansion_laws.specs.Keys.{IsKey, IsKeyOfStep}
use Rattle.expansion_laws.specs.Measures.{OccursIn, StandsBelow}
use Rattle.expansion_laws.specs.Rewriting.{StepsTo}
use Rattle.expansion_laws.specs.Steps.{Step, root_of}
use Rattle.expansion_laws.specs.Subtrees.{SubtreesStand}
use Rattle.expansion_laws.specs.Visits.{IsImage, IsReplaced, IsVisit}
use Rattle.step_history.specs.History.{ListsPairs}
use Rattle.step_history.specs.Numbered.{tree_by}
use Rattle.shape_pool.specs.declared.node.NodeId.{NodeId}
use Rattle.shape_pool.specs.declared.node.UseOf.{UseOf}
use Rattle.shape_pool.specs.Calls.{Keeps}
use Rattle.shape_pool.specs.Laws.{ids_used, IsSound}
use Rattle.shape_pool.specs.Rows.{Row, tree_at, trees_of, use_by, uses_at}
use Rattle.key_results.specs.declared.derive.Outcome.TheVariants.{Joined}
use Rattle.key_results.specs.declared.derive.Visit.{Visit}
use Rattle.key_results.specs.declared.key.Key.{Key}
use Rattle.key_results.specs.declared.parts.Outgrowth.{Outgrowth}
use Rattle.key_results.specs.declared.parts.Part.{Part}
use Rattle.key_results.specs.declared.rewritten.Rewritten.{Rewritten}
use Rattle.key_results.specs.Derivations.{joined_by, results_at, results_of, AreLinked, AreVisitsHeld}
use Rattle.key_results.specs.Derived.{asked_by, DerivesResults, IsMetAs}
use Rattle.key_results.specs.Grown.{StandForOwn}
use Rattle.key_results.specs.Memos.{key_by}
use Rattle.key_results.specs.Pairs.{IsNodeOf, IsPairOf, IsUnseen}
use Rattle.key_results.specs.Parts.{own_at, AreOfOwn, ArePartsOfOwn}
use Rattle.key_results.specs.Results.{trees_of_results, AreTreesOfNodes, GiveResults}
use Rattle.reshape.specs.Deriving.{HaveLaws, IsDerivedStep}
use Rattle.reshape.specs.Limits.{groups, PassAll}
use Rattle.reshape.specs.Making.{IsMade}
use Rattle.reshape.proofs.AskLaws.{uses-at-tree}
use Rattle.reshape.proofs.CollectLaws.{context-by}
use Rattle.reshape.proofs.LimitLaws.{nodes-pass}
use Rattle.reshape.proofs.MadeLaws.{entry, met-there, nothing-mapped}
use Rattle.reshape.proofs.MakeTurns.{keeps-on, nodes-held}
use Rattle.reshape.proofs.OccurLaws.{length-trees, listed-tree, tree-listed}
use Rattle.reshape.proofs.OutcomeLaws.{act-cases, false-true, joined-results, joined-so, so-joined, so-stays, stays-so}
use Rattle.reshape.proofs.OwnLaws.{held-so-far, new_root, own-occurs, parts-stand, root-only, root-steps}
use Rattle.reshape.proofs.VisitLaws.{key-tree, key-visit, results-by-keys, visit-key, visit-results}

-- no more rises than there are keys
pub rises : (rows : List Row) (s : Step) (word : ℕ → List Pair) (root : Use) (visits : List Visit)
    (outgrowths : List Outgrowth) (parts : List Part) →
    IsDerivedStep rows s word root visits outgrowths parts → (n : ℕ) → Counts (IsKeyOfStep s root) n → length visits ≤ n
rises rows s word root visits outgrowths parts d n c =
    let keys = d.derived.keys in
    let whole = d.derived.are.whole in
    let le = length-le_from_distinct (map (key_by word rows) keys) c.0 whole.0 (λ k m. (c.1.1 k).0 ((whole.1 k).1 m)) in
    let a = length-map keys (key_by word rows) in
    let b = d.derived.derives.long in
    let e = c.2 in
    omega (arith, le, a, b, e)

module _ (old new : List Row) (sound_new : IsSound new) (s : Step) (word : ℕ → List Pair) (root : Use)
    (visits : List Visit)
    (outgrowths : List Outgrowth) (parts : List Part) (d : IsDerivedStep old s word root visits outgrowths parts)
    (linked : AreLinked visits)
    (told : DerivesResults s word old d.derived.keys visits) (laws : HaveLaws s) (rank : ℕ)
    (ranked : IsRank s root.tree rank) (identity : word 0 ≡ [])
    (is_word : IsWord root.word) (gives : GiveResults word (tree_at word old) s.rule.prune visits outgrowths)
    (visits_held : AreVisitsHeld old visits)
    (of_own : AreOfOwn outgrowths) (root_own : ArePartsOfOwn outgrowths parts) (subtrees : SubtreesStand)
    (made : Rewritten)
    (m : IsMade old new visits outgrowths parts made)
    (law : AreTreesOfNodes old new word s.rule.prune visits outgrowths m.nodes) where
  abbrev R : List (List Use)
  R = results_of word (tree_at word old) s.rule.prune visits

  abbrev keys : List Key
  keys = d.derived.keys

  abbrev first_root : Use
  first_root = new_root old s word root visits outgrowths parts d linked told laws rank ranked identity is_word gives

  abbrev last_root : Use
  last_root = use_by word (tree_at word new) made.root

  all-kept : Keeps old new
  all-kept = keeps-on old m.mid new m.are.kept m.kept

  -- ---- the new root
  root-same : last_root ≡ first_root
  root-same =
      m.root_is word (own_at R) identity
      (parts-stand old s word root visits outgrowths parts d linked told laws rank ranked identity is_word gives m.mid
      m.nodes m.are root_own) ∙
      ap root_of d.of_root

  pub steps : StepsTo s root last_root
  steps =
      subst (λ (u : Use). StepsTo s root u) (sym root-same)
      (root-steps old s word root visits outgrowths parts d linked told laws rank ranked identity is_word gives)

  -- ---- keys and visits
  key-at : (j : ℕ) (v : Visit) → slice_get visits j ≡ Some v → (k : Key) × (slice_get keys j ≡ Some k) × (k.id ≡ v.id)
  key-at j v e =
      let within = slice_get_within visits j v e in
      let long = d.derived.derives.long in
      let k = at_place keys j (omega (arith, within, long)) in
      (k.0, k.1, sym (d.derived.derives.each j k.0 v k.1 e).id)

  visit-at : (j : ℕ) (k : Key) → slice_get keys j ≡ Some k → (v : Visit) × (slice_get visits j ≡ Some v) × (k.id ≡ v.id)
  visit-at j k e =
      let within = slice_get_within keys j k e in
      let long = d.derived.derives.long in
      let v = at_place visits j (omega (arith, within, long)) in
      (v.0, v.1, sym (d.derived.derives.each j k v.0 e v.1).id)

  grown-at : (j : ℕ) (v : Visit) → slice_get visits j ≡ Some v → (o : Outgrowth) × (slice_get outgrowths j ≡ Some o)
  grown-at j v e =
      let within = slice_get_within visits j v e in
      let long = d.out.long in
      at_place outgrowths j (omega (arith, within, long))

  held-at : (j : ℕ) (v : Visit) → slice_get visits j ≡ Some v → v.id.0 < length old
  held-at j v e = All-place (λ (w : Visit). w.id.0 < length old) visits j v visits_held e

  -- the tree of a visit's node
  tree-of-visit : (j : ℕ) (v : Visit) (k : Key) → slice_get visits j ≡ Some v → k.id ≡ v.id →
      tree_at word old k.id.0 ≡ tree_at word new v.id.0
  tree-of-visit j v k e id =
      ap (λ (i : NodeId). tree_at word old i.0) id ∙ sym (all-kept.trees word v.id.0 (held-at j v e))

  met : (j : ℕ) (k : Key) (v : Visit) (x : Tree) (here : Context) → slice_get keys j ≡ Some k →
      slice_get visits j ≡ Some v →
      IsKey s x here (key_by word old k) → IsMetAs s x here v.outcome
  met j k v x here ek ev is =
      met-there old s word root visits d.derived linked told laws rank ranked identity
      is_word j k v x here (ek, ev, is)

  is-visit : (j : ℕ) (k : Key) → slice_get keys j ≡ Some k → IsKeyOfStep s root (key_by word old k)
  is-visit j k e =
      key-visit s word old keys visits root laws.stand laws.determined laws.have_keys rank ranked d.derived.are.whole
      identity told j k e

  has-key : (x : Tree) (here : Context) → IsVisit s root x here →
      (j : ℕ) × (k : Key) × (slice_get keys j ≡ Some k) × IsKey s x here (key_by word old k)
  has-key x here v =
      visit-key s word old keys visits root laws.stand laws.determined laws.have_keys rank ranked d.derived.are.whole
      identity told x here v

  at-key : (x : Tree) (here : Context) (k : Key) → IsKey s x here (key_by word old k) → tree_at word old k.id.0 ≡ x
  at-key x here k is =
      key-tree s word old keys visits root laws.stand laws.determined laws.have_keys rank ranked d.derived.are.whole
      identity told x here k is

  -- ---- the nodes of results
  stand-new : StandForOwn old new visits outgrowths m.nodes
  stand-new w k o n prune are eo en own =
      let within = slice_get_within outgrowths k o eo in
      let long = are.long in
      let v = at_place visits k (omega (arith, within, long)) in
      let held = (m.are.kinds k v.0 n v.1 en).0 in
      m.kept.trees w n.0 held ∙ m.are.stand w k o n prune are eo en own

  nodes-of : (k : ℕ) (o : Outgrowth) (y : Tree) → slice_get outgrowths k ≡ Some o →
      Contains (trees_of_results (results_at R k)) y ↔
      ((n : NodeId) × IsNodeOf m.nodes k o n × (tree_at word new n.0 ≡ y))
  nodes-of k o y e = law linked d.out of_own m.are.long stand-new k o y e

  node-held : (j : ℕ) (n : NodeId) → slice_get m.nodes j ≡ Some n → n.0 < length new
  node-held j n e =
      let h = All-place (λ (i : NodeId). i.0 < length m.mid) m.nodes j n
      (nodes-held old m.mid visits m.nodes m.are.long m.are.kinds) e in
      let g = m.kept.grows in
      omega (arith, h, g)

  -- ---- images
  image-told : (p : NodeId × NodeId) → IsPairOf visits outgrowths m.nodes true p →
      IsImage s root (tree_by word new p.0) (tree_by word new p.1)
  image-told p h =
      let j = h.0 in
      let v = h.1 in
      let k = key-at j v h.3 in
      let here = h.5 in
      let x = tree_by word new p.0 in
      let y = tree_by word new p.1 in
      let at : tree_at word old k.0.id.0 ≡ x = tree-of-visit j v k.0 h.3 k.2 ∙ ap (tree_by word new) (sym here.1) in
      inl
      ((results-by-keys s word old keys visits root laws.stand laws.determined laws.have_keys rank ranked
      d.derived.are.whole identity told x y).1
      (j, k.0, k.1, at, (nodes-of j h.2 y h.4).1 (p.1, here.2, refl)))

  stopped-told : (p : NodeId × NodeId) → p.1 ≡ p.0 → IsUnseen new visits p.0.0 →
      IsImage s root (tree_by word new p.0) (tree_by word new p.1)
  stopped-told p same h =
      let v = h.1.0 in
      let j = place_of visits v h.1.1 in
      let k = key-at j.0 v j.1 in
      let it = is-visit j.0 k.0 k.1 in
      let above = it.0 in
      let so = stays-so s above it.1 v.outcome (met j.0 k.0 v above it.1 k.1 j.1 it.3) h.1.2 in
      let here : above ≡ tree_at word new v.id.0 = sym (at-key above it.1 k.0 it.3) ∙ tree-of-visit j.0 v k.0 j.1 k.2 in
      let grows = all-kept.grows in
      let held = held-at j.0 v j.1 in
      let lt : v.id.0 < length new = omega (arith, held, grows) in
      let u = Contains-map_cases (λ (q : UseOf). q.id.0) h.0 (uses_at new v.id.0) h.1.3 in
      let used = subst (λ (l : List Use). Contains l (use_by word (tree_at word new) u.0))
      (sym (uses-at-tree new sound_new word v.id.0 lt))
      (Contains-map (use_by word (tree_at word new)) u.0 (uses_at new v.id.0) u.1) in
      let below = All-contains (λ (q : UseOf). q.id.0 < v.id.0) (uses_at new v.id.0) u.0
      (sound_new.uses_are_earlier v.id.0 lt) u.1 in
      let reach : Reaches (ids_used new) u.0.id.0 p.0.0 =
      subst (λ (i : ℕ). Reaches (ids_used new) i p.0.0) (sym u.2) h.2 in
      let occurs = sound_new.ids_of_subtrees.subtree word u.0.id.0 p.0.0 (omega (arith, below, lt)) reach in
      inr (
        ap (tree_by word new) same,
        (
          above,
          (it.1, it.2, so.0, so.1),
          subst (λ (z : Tree). StandsBelow (tree_by word new p.0) z) (sym here)
              (use_by word (tree_at word new) u.0, used, occurs),
        ),
      )

  image-listed : (x y : Tree) → IsImage s root x y →
      (p : NodeId × NodeId) × Contains made.images p × (tree_by word new p.0 ≡ x) × (tree_by word new p.1 ≡ y)
  image-listed x y h = elim h [
    | inl is ↦
        (let q =
        (results-by-keys s word old keys visits root laws.stand laws.determined laws.have_keys rank ranked
        d.derived.are.whole identity told
        x y).0 is in
        let v = visit-at q.0 q.1 q.2 in
        let o = grown-at q.0 v.0 v.1 in
        let n = (nodes-of q.0 o.0 y o.1).0 q.4 in
        let p : NodeId × NodeId = (v.0.id, n.0) in (
          p,
          (m.images_are p).1 (inl (q.0, v.0, o.0, v.1, o.1, (inl refl, refl, n.1))),
          sym (tree-of-visit q.0 v.0 q.1 v.1 v.2) ∙ q.3,
          n.2,
        ))
    | inr is ↦ (let above = is.1.0 in
        let stop = is.1.1 in
        let stands = is.1.2 in
        let q = has-key above stop.0 stop.1 in
        let v = visit-at q.0 q.1 q.2 in
        let stays = so-stays s above stop.0 v.0.outcome (met q.0 q.1 v.0 above stop.0 q.2 v.1 q.3) stop.2 stop.3 in
        let here : above ≡ tree_at word new v.0.id.0 =
        sym (at-key above stop.0 q.1 q.3) ∙ tree-of-visit q.0 v.0 q.1 v.1 v.2 in
        let grows = all-kept.grows in
        let held = held-at q.0 v.0 v.1 in
        let lt : v.0.id.0 < length new = omega (arith, held, grows) in
        let among = subst (λ (l : List Use). Contains l stands.0) (uses-at-tree new sound_new word v.0.id.0 lt)
        (subst (λ (z : Tree). Contains (uses z) stands.0) here stands.1) in
        let u = Contains-map_cases (use_by word (tree_at word new)) stands.0 (uses_at new v.0.id.0) among in
        let below = All-contains (λ (w : UseOf). w.id.0 < v.0.id.0) (uses_at new v.0.id.0) u.0
        (sound_new.uses_are_earlier v.0.id.0 lt) u.1 in
        let r = sound_new.ids_of_subtrees.reached word u.0.id.0 x (omega (arith, below, lt))
        (subst (λ (w : Use). OccursIn x w.tree) (sym u.2) stands.2) in
        let n : NodeId = record { 0 = r.0 } in (
          (n, n),
          (m.images_are (n, n)).1 (inr (
            refl,
            (
              u.0.id.0,
              (
                v.0,
                Contains-at visits q.0 v.0 v.1,
                stays,
                Contains-map (λ (w : UseOf). w.id.0) u.0 (uses_at new v.0.id.0) u.1,
              ),
              r.1,
            ),
          )),
          r.2,
          r.2 ∙ sym is.0,
        ))
  ]

  pub images : ListsPairs (tree_by word new) made.images (IsImage s root)
  images = (
    λ p c. elim ((m.images_are p).0 c) [ inl h ↦ image-told p h | inr h ↦ stopped-told p h.0 h.1 ],
    image-listed,
  )

  -- ---- what took the place of what was replaced
  -- after a remove nothing comes of a visit
  removed-none : (j : ℕ) (k : Key) (v : Visit) (x : Tree) (here : Context) → slice_get keys j ≡ Some k →
      slice_get visits j ≡ Some v →
      IsKey s x here (key_by word old k) → v.outcome ≡ Joined → demands s x here ≡ [] → results_at R j ≡ []
  removed-none j k v x here ek ev is joined none =
      let of = d.derived.derives.each j k v ek ev in
      let tree : tree_at word old k.id.0 ≡ x = at-key x here k is in
      let there = laws.stand.same_demands x here (key_by word old k) is in
      let asked : demands s x here ≡ map (asked_by s word old keys v.mover) v.links.items =
      there ∙ (λ i. demands s (sym tree i) (context-by word old k identity i)) ∙ of.asked in
      let links : v.links.items ≡ [] = nothing-mapped (asked_by s word old keys v.mover) v.links.items
      (sym asked ∙ none) in
      entry old s word root visits d.derived linked told laws rank ranked identity is_word
      j v ev ∙
      joined-results v.outcome s.rule.prune (is_empty v.links.items) (tree_at word old v.id.0)
      (joined_by word v.mover R v.links.items) joined ∙
      ap (joined_by word v.mover R) links

  replaced-told : (p : NodeId × NodeId) → IsPairOf visits outgrowths m.nodes false p →
      IsReplaced s root (tree_by word new p.0) (tree_by word new p.1)
  replaced-told p h =
      let j = h.0 in
      let v = h.1 in
      let k = key-at j v h.3 in
      let is = h.5 in
      let y = tree_by word new p.1 in
      let it = is-visit j k.0 k.1 in
      let x = it.0 in
      let here = it.1 in
      let at : x ≡ tree_by word new p.0 = sym (at-key x here k.0 it.3) ∙ tree-of-visit j v k.0 h.3 k.2 ∙
      ap (tree_by word new) (sym is.1) in
      let joined : v.outcome ≡ Joined = elim is.0 [ inl e ↦ absurd (false-true e) | inr e ↦ e ] in
      let r = joined-so s x here v.outcome (met j k.0 v x here k.1 h.3 it.3) joined in
      let among = (nodes-of j h.2 y h.4).1 (p.1, is.2, refl) in
      let results =
      visit-results s word old keys visits root laws.stand laws.determined laws.have_keys rank ranked
      d.derived.are.whole identity told x here j k.0 k.1 it.3 in
      subst (λ (z : Tree). IsReplaced s root z y) at
      (elim (act-cases s x here r.0 r.1) [
        | inl none ↦
            absurd
            (Contains-none y (subst (λ (l : List Use). Contains (trees_of_results l) y)
            (removed-none j k.0 v x here k.1 h.3 it.3 joined none) among))
        | inr by ↦ (here, r.0, by.0, results_at R j, it.2, r.1, by.1, results, among)
      ])

  replaced-listed : (x y : Tree) → IsReplaced s root x y →
      (p : NodeId × NodeId) × Contains made.replaced p × (tree_by word new p.0 ≡ x) × (tree_by word new p.1 ≡ y)
  replaced-listed x y h =
      let here = h.0 in
      let q = has-key x here h.4 in
      let v = visit-at q.0 q.1 q.2 in
      let o = grown-at q.0 v.0 v.1 in
      let joined = so-joined s x here v.0.outcome h.1 (met q.0 q.1 v.0 x here q.2 v.1 q.3) h.5 in
      let same = laws.determined here (bare x) h.3 (results_at R q.0) h.7
      (visit-results s word old keys visits root laws.stand laws.determined laws.have_keys rank ranked
      d.derived.are.whole identity told x here q.0 q.1 q.2 q.3) in
      let n = (nodes-of q.0 o.0 y o.1).0 (subst (λ (l : List Use). Contains (trees_of_results l) y) same h.8) in
      let p : NodeId × NodeId = (v.0.id, n.0) in (
        p,
        (m.replaced_are p).1 (q.0, v.0, o.0, v.1, o.1, (inr joined, refl, n.1)),
        sym (tree-of-visit q.0 v.0 q.1 v.1 v.2) ∙ at-key x here q.1 q.3,
        n.2,
      )

  pub replaced : ListsPairs (tree_by word new) made.replaced (IsReplaced s root)
  replaced = (λ p c. replaced-told p ((m.replaced_are p).0 c), replaced-listed)

  -- ---- the trees that are held
  held-told : (i : ℕ) → i < length new → Contains (trees_of word old) (tree_at word new i) ⊎
      OccursIn (tree_at word new i) last_root.tree
  held-told i lt =
      by_test (nat_lt i (length m.mid))
      (λ e. let a = ltb-true i (length m.mid) e in
      let same : tree_at word m.mid i ≡ tree_at word new i = sym (m.kept.trees word i a) in
      subst (λ (z : Tree). Contains (trees_of word old) z ⊎ OccursIn z last_root.tree) same
      (elim (held-so-far old s word root visits outgrowths parts d linked told laws rank ranked identity is_word gives
      m.mid m.nodes m.are i a) [
        | inl h ↦ inl h
        | inr own ↦ inr (subst (λ (u : Use). OccursIn (tree_at word m.mid i) u.tree) (sym root-same)
            (own-occurs old s word root visits outgrowths parts d linked told laws rank ranked identity is_word gives
            (tree_at word m.mid i) own))
      ]))
      (λ e. let a = ltb-false i (length m.mid) e in
      let is = m.root_more i (omega (arith, a)) lt in
      inr (subst (λ (k : ℕ). OccursIn (tree_at word new k) last_root.tree) (sym is) (subtrees.itself last_root.tree)))

  pub held : (x : Tree) → Contains (trees_of word new) x ↔ (Contains (trees_of word old) x ⊎ OccursIn x last_root.tree)
  held x = (
    λ c. let i = listed-tree word new x c in
        subst (λ (z : Tree). Contains (trees_of word old) z ⊎ OccursIn z last_root.tree) i.2 (held-told i.0 i.1),
    λ h. elim h [
      | inl c ↦ (let i = listed-tree word old x c in
          let lt = i.1 in
          let grows = all-kept.grows in
          subst (Contains (trees_of word new)) (all-kept.trees word i.0 i.1 ∙ i.2)
          (tree-listed word new i.0 (omega (arith, lt, grows))))
      | inr o ↦ (let r = sound_new.ids_of_subtrees.reached word made.root.id.0 x m.root_held o in
          let le = sound_new.ids_of_subtrees.held made.root.id.0 r.0 m.root_held r.1 in
          let lt = m.root_held in
          subst (Contains (trees_of word new)) r.2 (tree-listed word new r.0 (omega (arith, le, lt))))
    ],
  )

  -- ---- no limit is passed
  pub all-pass : PassAll (groups s root (trees_of word old))
  all-pass =
      let long = length-trees word new in
      let few = sound_new.few in
      let nodes = nodes-pass s root (trees_of word old) last_root
      (λ u h. root-only old s word root visits outgrowths parts d linked told laws rank ranked identity is_word gives u h ∙
      sym root-same) (trees_of word new) (λ x. (held x).1) (omega (arith, long, few)) in
      (d.passes.0, (d.passes.1.0, (d.passes.1.1.0, (d.passes.1.1.1.0, (nodes, tt)))))
