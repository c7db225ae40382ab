-- What a step makes, by its visits: the new root, and the words that are tested.
use Rattle.std.proofs.Common.{◌≡◌, ◌<◌, ◌∙◌, ◌∷◌, ℕ, Bool, List, [], All, Contains, map, length}
use Rattle.std.proofs.Common.{arith, refl, sym, ap, subst, slice_get, Some, None, inl, inr}
use Rattle.std.specs.Prelude.{if◌then◌else◌}
use Rattle.std.proofs.lemmas.List.Elements.{All-weaker}
use Rattle.std.proofs.lemmas.Option.{slice_get_within}
use Rattle.lists.specs.Sameness.{is_empty}
use Rattle.lists.proofs.Places.{at_place, place_of}
use Rattle.location_words.specs.declared.pair.Pair.{Pair}
use Rattle.location_words.specs.Faults.{fault_of}
use Rattle.location_words.specs.Laws.{LimitsTell}
use Rattle.location_words.specs.Pairs.{IsWord}
use Rattle.location_words.specs.Tables.{IsTable}
use Rattle.expansion_laws.specs.Trees.{Tree, Use, uses}
use Rattle.expansion_laws.specs.Contexts.{Context, at_root, bare, carried}
use Rattle.expansion_laws.specs.Requests.{match_of}
use Rattle.expansion_laws.specs.Steps.{Step, is_entered, root_of}
use Rattle.expansion_laws.specs.Demands.{demands, demands_by}
use Rattle.expansion_laws.specs.Rewriting.{Rewrites, StepsTo}
use Rattle.expansion_laws.specs.Graph.{IsRank}
use Rattle.expansion_laws.specs.Keys.{IsKey, IsKeyOfStep, Key as TreeKey, context_of}
use Rattle.expansion_laws.specs.StepMeasures.{IsWordMade}
use Rattle.shape_pool.specs.Rows.{Row, tree_at}
use Rattle.key_results.specs.declared.derive.Outcome.{Outcome}
use Rattle.key_results.specs.declared.derive.Outcome.TheVariants.{Stays, Rebuilt, Joined}
use Rattle.key_results.specs.declared.derive.Visit.{Visit}
use Rattle.key_results.specs.declared.key.Key.{Key}
use Rattle.key_results.specs.declared.parts.Outgrowth.{Outgrowth}
use Rattle.key_results.specs.declared.parts.Part.{Part}
use Rattle.key_results.specs.Derivations.{joined_by, made_of, results_at, results_of, AreLinked}
use Rattle.key_results.specs.Derived.{asked_by, DerivesResults, IsMetAs}
use Rattle.key_results.specs.Memos.{key_by, context_by}
use Rattle.key_results.specs.Parts.{own_at, use_of_part, words_of, AreHeldParts}
use Rattle.key_results.specs.Parts.{AreOutgrowths, IsHeldPart, IsJoinedWord}
use Rattle.key_results.specs.Words.{ReadsWords}
use Rattle.reshape.specs.Collecting.{IsDerivedBy}
use Rattle.reshape.specs.Deriving.{HaveLaws}
use Rattle.reshape.proofs.CollectLaws.{context-by}
use Rattle.reshape.proofs.RootLaws.{root-rewrites}
use Rattle.reshape.proofs.VisitLaws.{key-visit, visit-key, visit-results}
use Rattle.reshape.proofs.WordMadeLaws.{joined-made, made-word, small-parts}

-- how a request meets a visit is the same at a visit of one tree with the same match
met-at : (s : Step) (x y : Tree) (here there : Context) (o : Outcome) → x ≡ y →
    match_of s.requests x here ≡ match_of s.requests y there →
    IsMetAs s y there o → IsMetAs s x here o
met-at s x y here there Stays t m met = (m ∙ met.0, ap (is_entered s) t ∙ met.1)
met-at s x y here there Rebuilt t m met = (m ∙ met.0, ap (is_entered s) t ∙ met.1)
met-at s x y here there Joined t m met = (met.0, m ∙ met.1)

pub nothing-mapped : {X Y : Type 0} (f : X → Y) (xs : List X) → map f xs ≡ [] → xs ≡ []
nothing-mapped f [] e = refl
nothing-mapped f (x ∷ xs) e = absurd cc

-- a visit that stops asks for nothing
asks-nothing : (s : Step) (x : Tree) (here : Context) (o : Outcome) → IsMetAs s x here o → o ≡ Stays →
    demands s x here ≡ []
asks-nothing s x here Stays met e =
    ap (demands_by s x here) met.0 ∙ ap (λ (b : Bool). if b then uses x else []) met.1
asks-nothing s x here Rebuilt met e = absurd cc
asks-nothing s x here Joined met e = absurd cc

module _ (rows : List Row) (s : Step) (word : ℕ → List Pair) (root : Use) (visits : List Visit)
    (derived : IsDerivedBy rows s word root visits)
    (linked : AreLinked visits) (told : DerivesResults s word rows derived.keys visits) (laws : HaveLaws s) (rank : ℕ)
    (ranked : IsRank s root.tree rank)
    (identity : word 0 ≡ []) (is_word : IsWord root.word) where
  abbrev keys : List Key
  keys = derived.keys

  abbrev R : List (List Use)
  R = results_of word (tree_at word rows) s.rule.prune visits

  abbrev last : ℕ
  last = derived.are.last.0

  -- ---- the new root
  abbrev root_results : List Use
  root_results = map (carried root.turn root.word) (results_at R last)

  pub root-here : Rewrites s at_root root root_results
  root-here =
      let l = derived.are.last in
      root-rewrites s word rows laws.stand laws.carry identity root l.1 (results_at R last) is_word l.4
      (told l.0 l.1 l.3)

  pub root-made : StepsTo s root (root_of root_results)
  root-made = (root_results, root-here, refl)

  pub root-is : (new : Use) → StepsTo s root new → new ≡ root_of root_results
  root-is new steps = steps.2 ∙ ap root_of (laws.determined at_root root steps.0 root_results steps.1 root-here)

  -- ---- a key's visit
  abbrev IsVisitAt : ℕ → Key → Visit → Tree → Context → Type 0
  IsVisitAt j k v x here =
      (slice_get keys j ≡ Some k) × (slice_get visits j ≡ Some v) × IsKey s x here (key_by word rows k)

  pub met-there : (j : ℕ) (k : Key) (v : Visit) (x : Tree) (here : Context) → IsVisitAt j k v x here →
      IsMetAs s x here v.outcome
  met-there j k v x here at =
      let is = derived.derives.each j k v at.0 at.1 in
      let tree : x ≡ tree_at word rows k.id.0 = sym (ap (λ (q : TreeKey). q.tree) at.2.4) in
      let there : context_of (key_by word rows k) ≡ context_by word k = context-by word rows k identity in
      met-at s x (tree_at word rows k.id.0) here (context_by word k) v.outcome tree
      (laws.stand.same_match x here (key_by word rows k) at.2 ∙ (λ i. match_of s.requests (tree i) (there i))) is.met

  pub entry : (j : ℕ) (v : Visit) → slice_get visits j ≡ Some v →
      results_at R j ≡ made_of v.outcome s.rule.prune (is_empty v.links.items) (tree_at word rows v.id.0)
      (joined_by word v.mover R v.links.items)
  entry j v e = (laws.follow word (tree_at word rows) s.rule.prune).entry visits linked j v e

  -- ---- the words that are made
  module _ (outgrowths : List Outgrowth) (out : AreOutgrowths word R s.rule.prune visits outgrowths) (parts : List Part)
      (of_root : map (use_of_part word (own_at R)) parts ≡ root_results) (limits : LimitsTell)
      (table : List (List Pair)) (is_table : IsTable table)
      (reads : ReadsWords word table) (held : AreHeldParts (length table) outgrowths)
      (root_held : All (λ (p : Part). p.place.0 < length table) parts) where
    joined-small : (j : ℕ) (v : Visit) → slice_get visits j ≡ Some v → (w : List Pair) →
        Contains (words_of (joined_by word v.mover R v.links.items)) w →
        fault_of w ≡ None
    joined-small j v e w m =
        let within = slice_get_within visits j v e in
        let long = out.long in
        let o = at_place outgrowths j (omega (arith, within, long)) in
        let is = out.each j v o.0 e o.1 in
        small-parts limits table word is_table reads (own_at R) o.0.parts.items (joined_by word v.mover R v.links.items)
        is.parts
        (All-weaker (IsHeldPart j (length table)) (λ (p : Part). p.place.0 < length table) (λ p h. h.1) o.0.parts.items
        (held j o.0 o.1)) w m

    pub word-small : (w : List Pair) → IsWordMade s root w → fault_of w ≡ None
    word-small w made = elim made [
      | inl h ↦ (let x = h.0 in
          let here = h.1 in
          let q = visit-key s word rows keys visits root laws.stand laws.determined laws.have_keys rank ranked
          derived.are.whole identity told x here h.4 in
          let within = slice_get_within keys q.0 q.1 q.2 in
          let long = derived.derives.long in
          let v = at_place visits q.0 (omega (arith, within, long)) in
          let there = visit-results s word rows keys visits root laws.stand laws.determined laws.have_keys rank ranked
          derived.are.whole identity told x here q.0 q.1 q.2 q.3 in
          let same : h.2 ≡ results_at R q.0 = laws.determined here (bare x) h.2 (results_at R q.0) h.5 there in
          let among = subst (λ (l : List Use). Contains l h.3) (same ∙ entry q.0 v.0 v.1) h.6 in
          elim (made-word s x here v.0.outcome s.rule.prune (is_empty v.0.links.items) (tree_at word rows v.0.id.0)
          (joined_by word v.0.mover R v.0.links.items)
          h.3 w (met-there q.0 q.1 v.0 x here (q.2, v.1, q.3)) among h.7) [
            | inl none ↦ ap fault_of none
            | inr m ↦ joined-small q.0 v.0 v.1 w m
          ])
      | inr h ↦ (let same : h.0 ≡ root_results = laws.determined at_root root h.0 root_results h.1 root-here in
          small-parts limits table word is_table reads (own_at R) parts root_results (sym of_root) root_held w
          (subst (λ (l : List Use). Contains (words_of l) w) same h.2))
    ]

  -- and of each joined result, and of the root's
  pub joined-is-made : (w : List Pair) → IsJoinedWord word R visits w → IsWordMade s root w
  joined-is-made w h =
      let v = h.0 in
      let j = place_of visits v h.1 in
      let within = slice_get_within visits j.0 v j.1 in
      let long = derived.derives.long in
      let k = at_place keys j.0 (omega (arith, within, long)) in
      let own : IsKeyOfStep s root (key_by word rows k.0) =
      key-visit s word rows keys visits root laws.stand laws.determined laws.have_keys rank ranked derived.are.whole
      identity told j.0 k.0 k.1 in
      let x = own.0 in
      let here = own.1 in
      let is = derived.derives.each j.0 k.0 v k.1 j.1 in
      let none : v.outcome ≡ Stays → joined_by word v.mover R v.links.items ≡ [] =
      (λ e. let links : v.links.items ≡ [] = nothing-mapped (asked_by s word rows keys v.mover) v.links.items
      (sym is.asked ∙ asks-nothing s (tree_at word rows k.0.id.0) (context_by word k.0) v.outcome is.met e) in
      ap (joined_by word v.mover R) links) in
      let made = joined-made s x here v.outcome s.rule.prune (is_empty v.links.items) (tree_at word rows v.id.0)
      (joined_by word v.mover R v.links.items) w
      (met-there j.0 k.0 v x here (k.1, j.1, own.3)) none h.2 in
      let results = visit-results s word rows keys visits root laws.stand laws.determined laws.have_keys rank ranked
      derived.are.whole identity told x here j.0 k.0 k.1 own.3 in
      inl (
        x,
        here,
        results_at R j.0,
        made.0,
        own.2,
        results,
        subst (λ (l : List Use). Contains l made.0) (sym (entry j.0 v j.1)) made.1,
        made.2,
      )

  pub root-word-made : (w : List Pair) → Contains (words_of root_results) w → IsWordMade s root w
  root-word-made w m = inr (root_results, root-here, m)
