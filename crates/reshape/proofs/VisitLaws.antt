-- Visits by their keys: what is made of a visit of the step stands at the place of its key.
use Rattle.std.proofs.Common.{◌≡◌, ℕ, List, [], map, Contains, ◌↔◌, sym, ap, subst, ◌∙◌, slice_get, Some}
use Rattle.lists.specs.Distinct.{ListsEachOnce}
use Rattle.lists.proofs.Places.{place_of, Contains-at}
use Rattle.lists.proofs.Members.{Contains-map, Contains-map_cases}
use Rattle.location_words.specs.declared.pair.Pair.{Pair}
use Rattle.expansion_laws.specs.Trees.{Tree, Use}
use Rattle.expansion_laws.specs.Contexts.{Context}
use Rattle.expansion_laws.specs.Steps.{Step, kind}
use Rattle.expansion_laws.specs.Rewriting.{RelativeResults, StepsTo}
use Rattle.expansion_laws.specs.Measures.{OccursIn}
use Rattle.expansion_laws.specs.DerivedVisits.{VisitsResultsOccur}
use Rattle.expansion_laws.specs.Keeping.{AllFit, ResultsHaveTheKind}
use Rattle.expansion_laws.specs.RewritingLaws.{IsDetermined, KeysStandForVisits}
use Rattle.expansion_laws.specs.Visits.{IsVisit, IsResult}
use Rattle.expansion_laws.specs.Graph.{IsRank}
use Rattle.expansion_laws.specs.KeyReach.{VisitsHaveKeys}
use Rattle.expansion_laws.specs.Contexts.{bare}
use Rattle.expansion_laws.specs.Keys.{IsKey, IsKeyOfStep, Key as TreeKey}
use Rattle.shape_pool.specs.Rows.{Row, tree_at}
use Rattle.key_results.specs.declared.derive.Visit.{Visit}
use Rattle.key_results.specs.declared.key.Key.{Key}
use Rattle.key_results.specs.Memos.{key_by, context_by}
use Rattle.key_results.specs.Derivations.{results_at, results_of}
use Rattle.key_results.specs.Derived.{DerivesResults}
use Rattle.reshape.proofs.CollectLaws.{context-by}

module _ (s : Step) (word : ℕ → List Pair) (rows : List Row) (keys : List Key) (visits : List Visit) (root : Use)
    (stand : KeysStandForVisits s) (determined : IsDetermined s) (have : VisitsHaveKeys s) (n : ℕ)
    (rank : IsRank s root.tree n)
    (all : ListsEachOnce (map (key_by word rows) keys) (IsKeyOfStep s root)) (identity : word 0 ≡ [])
    (derives : DerivesResults s word rows keys visits) where
  abbrev R : List (List Use)
  R = results_of word (tree_at word rows) s.rule.prune visits

  -- each visit has a key that is listed
  pub visit-key : (x : Tree) (here : Context) → IsVisit s root x here →
      (j : ℕ) × (k : Key) × (slice_get keys j ≡ Some k) × IsKey s x here (key_by word rows k)
  visit-key x here v =
      let h = have n root x here rank v in
      let m = (all.1 h.0).0 (x, here, v, h.1) in
      let c = Contains-map_cases (key_by word rows) h.0 keys m in
      let p = place_of keys c.0 c.1 in
      (p.0, c.0, p.1, subst (IsKey s x here) (sym c.2) h.1)

  -- and each listed key is that of a visit
  pub key-visit : (j : ℕ) (k : Key) → slice_get keys j ≡ Some k → IsKeyOfStep s root (key_by word rows k)
  key-visit j k e = (all.1 (key_by word rows k)).1 (Contains-map (key_by word rows) k keys (Contains-at keys j k e))

  pub key-tree : (x : Tree) (here : Context) (k : Key) → IsKey s x here (key_by word rows k) →
      tree_at word rows k.id.0 ≡ x
  key-tree x here k is = ap (λ (q : TreeKey). q.tree) is.4

  -- the relative results of the visit are those at the place of its key
  pub visit-results : (x : Tree) (here : Context) (j : ℕ) (k : Key) → slice_get keys j ≡ Some k →
      IsKey s x here (key_by word rows k) →
      RelativeResults s x here (results_at R j)
  visit-results x here j k e is =
      (stand.same_results x here (key_by word rows k) (results_at R j) is).1
      (subst (λ c. RelativeResults s x c (results_at R j)) (sym (context-by word rows k identity))
      (subst (λ y. RelativeResults s y (context_by word k) (results_at R j)) (key-tree x here k is) (derives j k e)))

  -- so the trees of a visit's results are those at the places of keys of its tree
  pub results-by-keys : (x y : Tree) →
      IsResult s root x y ↔ ((j : ℕ) × (k : Key) × (slice_get keys j ≡ Some k) × (tree_at word rows k.id.0 ≡ x) ×
      Contains (map (λ r. r.tree) (results_at R j)) y)
  results-by-keys x y = (
    λ h. let q = visit-key x h.0 h.2 in
        let same = determined h.0 (bare x) h.1 (results_at R q.0) h.3 (visit-results x h.0 q.0 q.1 q.2 q.3) in
        (q.0, q.1, q.2, key-tree x h.0 q.1 q.3, subst (λ us. Contains (map (λ (r : Use). r.tree) us) y) same h.4),
    λ q. let v = key-visit q.0 q.1 q.2 in
        let at-x : v.0 ≡ x = sym (key-tree v.0 v.1 q.1 v.3) ∙ q.3 in
        let told = visit-results v.0 v.1 q.0 q.1 q.2 v.3 in (
          v.1,
          results_at R q.0,
          subst (λ z. IsVisit s root z v.1) at-x v.2,
          subst (λ z. RelativeResults s z v.1 (results_at R q.0)) at-x told,
          q.4,
        ),
  )

  -- each of them occurs in the new root
  pub results-occur : VisitsResultsOccur s → (new : Use) → StepsTo s root new → (j : ℕ) (k : Key) →
      slice_get keys j ≡ Some k → (u : Use) →
      Contains (results_at R j) u → OccursIn u.tree new.tree
  results-occur occur new steps j k e u c =
      let v = key-visit j k e in
      occur root new v.0 v.1 (results_at R j) u steps v.2 (visit-results v.0 v.1 j k e v.3) c

  -- and has the kind of the key's tree
  pub results-kind : AllFit s → ResultsHaveTheKind s → (j : ℕ) (k : Key) → slice_get keys j ≡ Some k → (u : Use) →
      Contains (results_at R j) u →
      kind s u.tree ≡ kind s (tree_at word rows k.id.0)
  results-kind fit same j k e u c =
      same fit (context_by word k) (bare (tree_at word rows k.id.0)) (results_at R j) (derives j k e) u c
