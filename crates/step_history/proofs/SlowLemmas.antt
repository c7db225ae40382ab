-- The lists of the slow history have just what the change's history does.
use Rattle.std.proofs.Common.{◌≡◌, refl, sym, ap, subst, inl, inr, ◌∙◌}
use Rattle.std.specs.Prelude.{◌↔◌, ◌<◌, ◌&&◌, not, nat_lt, ℕ, suc, Bool, true, Some, is_none, unwrap_or, List, [], map, filter, Contains}
use Rattle.std.specs.List.{flat_map}
use Rattle.std.proofs.lemmas.List.Elements.{Contains-append_left, Contains-append_right, Contains-append_cases}
use Rattle.lists.proofs.Tests.{list_any-contains, list_any-found, Contains-filter, Contains-filter_cases}
use Rattle.lists.proofs.Members.{Contains-flat_map, Contains-flat_map_cases, Contains-map, Contains-map_cases}
use Rattle.orientation.specs.declared.kind.Kind.{Kind}
use Rattle.orientation.specs.Kinds.{rank_of}
use Rattle.location_words.specs.Laws.{WordsAreAGroup}
use Rattle.expansion_laws.specs.Trees.{Tree, Use}
use Rattle.expansion_laws.specs.Equality.{tree_eq}
use Rattle.expansion_laws.specs.Measures.{OccursIn, StandsBelow}
use Rattle.expansion_laws.specs.Contexts.{Context, at_root, inside, bare}
use Rattle.expansion_laws.specs.Requests.{match_of}
use Rattle.expansion_laws.specs.Steps.{Step, kind, is_entered}
use Rattle.expansion_laws.specs.Rewriting.{results_within, RelativeResults}
use Rattle.expansion_laws.specs.RewritingLaws.{IsDetermined}
use Rattle.expansion_laws.specs.Visits.{IsVisit, IsStopped, IsResult, IsImage, IsReplaced}
use Rattle.expansion_laws.specs.WholeVisits.{is_whole, WholeListsHoldAll}
use Rattle.step_history.specs.History.{IsSupported, images_of, generated_of, history_of}
use Rattle.step_history.specs.Changes.{by_requests}
use Rattle.step_history.specs.SlowHistory.{is_supported, occurs, match_replaces, trees_below, all_visits, pairs_of, stops, kept_below, image_list, replaced_list, is_of_input, is_new, images_listed, came_new, generated_listed, lists_of, ListsHistory, SlowHistoryIsTheChanges}
use Rattle.step_history.proofs.ListLemmas.{EqualTreesTell, and-parts, and-both, not-of, not-true, supported-of, of-supported, occurs-of, of-occurs, below-of, of-below, lower-of, of-lower, replaces-of, of-replaces, none-of, false-of, modified-listed, gone-listed}

module _ (group : WordsAreAGroup) (hold : (s : Step) → WholeListsHoldAll s) (determined : (s : Step) → IsDetermined s) (s : Step) (n : ℕ) (root : Use)
    (whole : is_whole s n root.tree (inside at_root root) ≡ true) where
  visited : (v : Tree × Context) → Contains (all_visits s n root) v → IsVisit s root v.0 v.1
  visited v m = (hold s n root.tree v.0 (inside at_root root) v.1 whole (group.product_is_word [] root.word)).0.1 m

  listed : (x : Tree) (here : Context) → IsVisit s root x here → Contains (all_visits s n root) (x, here)
  listed x here l = (hold s n root.tree x (inside at_root root) here whole (group.product_is_word [] root.word)).0.0 l

  has-results : (x : Tree) (here : Context) → IsVisit s root x here → (a : List Use) × (results_within s (suc n) here (bare x) ≡ Some a)
  has-results x here l = (hold s n root.tree x (inside at_root root) here whole (group.product_is_word [] root.word)).1 l

  -- a visit's pairs are its tree with the trees of its results
  pairs-are : (x : Tree) (here : Context) (a : List Use) → results_within s (suc n) here (bare x) ≡ Some a → pairs_of s n root (x, here) ≡ map (λ r. (x, r.tree)) a
  pairs-are x here a e = ap (λ o. map (λ (r : Use). (x, r.tree)) (unwrap_or o [])) e

  pair-there : (x y : Tree) (here : Context) (results : List Use) → IsVisit s root x here → RelativeResults s x here results → Contains (map (λ r. r.tree) results) y →
      Contains (pairs_of s n root (x, here)) (x, y)
  pair-there x y here results l r m =
      let t = has-results x here l in
      let same : results ≡ t.0 = determined s here (bare x) results t.0 r (suc n, t.1) in
      let at = Contains-map_cases (λ (r : Use). r.tree) y results m in
      subst (λ ps. Contains {X = Tree × Tree} ps (x, y)) (sym (pairs-are x here t.0 t.1))
      (subst (λ z. Contains {X = Tree × Tree} (map (λ (r : Use). (x, r.tree)) t.0) (x, z)) at.2 (Contains-map (λ (r : Use). (x, r.tree)) at.0 t.0 (subst (λ l. Contains l at.0) same at.1)))

  pair-from : (v : Tree × Context) (x y : Tree) → IsVisit s root v.0 v.1 → Contains (pairs_of s n root v) (x, y) →
      (results : List Use) × RelativeResults s v.0 v.1 results × (v.0 ≡ x) × Contains (map (λ r. r.tree) results) y
  pair-from v x y l m =
      let t = has-results v.0 v.1 l in
      let at = Contains-map_cases (λ (r : Use). (v.0, r.tree)) (x, y) t.0 (subst (λ ps. Contains {X = Tree × Tree} ps (x, y)) (pairs-are v.0 v.1 t.0 t.1) m) in
      let same : at.0.tree ≡ y = ap (λ (p : Tree × Tree). p.1) at.2 in
      (t.0, (suc n, t.1), ap (λ (p : Tree × Tree). p.0) at.2, subst (λ z. Contains (map (λ (r : Use). r.tree) t.0) z) same (Contains-map (λ (r : Use). r.tree) at.0 t.0 at.1))

  result-listed : (x y : Tree) → IsResult s root x y → Contains (flat_map (pairs_of s n root) (all_visits s n root)) (x, y)
  result-listed x y i = Contains-flat_map (pairs_of s n root) (x, i.0) (x, y) (all_visits s n root) (listed x i.0 i.2) (pair-there x y i.0 i.1 i.2 i.3 i.4)

  listed-result : (x y : Tree) → Contains (flat_map (pairs_of s n root) (all_visits s n root)) (x, y) → IsResult s root x y
  listed-result x y m =
      let v = Contains-flat_map_cases (pairs_of s n root) (x, y) (all_visits s n root) m in
      let l = visited v.0 v.1 in
      let p = pair-from v.0 x y l v.2 in
      subst (λ z. IsResult s root z y) p.2 (v.0.1, p.0, l, p.1, p.3)

  -- a tree below a visit that stops is its own image
  below-listed : (x above : Tree) → IsStopped s root above → StandsBelow x above →
      Contains (flat_map (kept_below s n root) (filter (stops s n root) (all_visits s n root))) (x, x)
  below-listed x above h b =
      Contains-flat_map (kept_below s n root) (above, h.0) (x, x) (filter (stops s n root) (all_visits s n root))
      (Contains-filter (stops s n root) (all_visits s n root) (above, h.0) (listed above h.0 h.1)
      (and-both (is_none (match_of s.requests above h.0)) (not (is_entered s above)) (ap is_none h.2) (ap not h.3)))
      (Contains-map (λ (x : Tree). (x, x)) x (trees_below above) (of-below x above b))

  listed-below : (x y : Tree) → Contains (flat_map (kept_below s n root) (filter (stops s n root) (all_visits s n root))) (x, y) →
      (y ≡ x) × ((above : Tree) × IsStopped s root above × StandsBelow x above)
  listed-below x y m =
      let v = Contains-flat_map_cases (kept_below s n root) (x, y) (filter (stops s n root) (all_visits s n root)) m in
      let f = Contains-filter_cases (stops s n root) (all_visits s n root) v.0 v.1 in
      let t = and-parts (is_none (match_of s.requests v.0.0 v.0.1)) (not (is_entered s v.0.0)) f.1 in
      let a = Contains-map_cases (λ (x : Tree). (x, x)) (x, y) (trees_below v.0.0) v.2 in
      let first : a.0 ≡ x = ap (λ (p : Tree × Tree). p.0) a.2 in
      let second : a.0 ≡ y = ap (λ (p : Tree × Tree). p.1) a.2 in
      let stopped : IsStopped s root v.0.0 = (v.0.1, visited v.0 f.0, none-of (match_of s.requests v.0.0 v.0.1) t.0, false-of (is_entered s v.0.0) t.1) in
      (sym second ∙ first, (v.0.0, stopped, subst (λ z. StandsBelow z v.0.0) first (below-of a.0 v.0.0 a.1)))

  image-listed : (x y : Tree) → IsImage s root x y → Contains (image_list s n root) (x, y)
  image-listed x y (inl i) =
      Contains-append_left (flat_map (pairs_of s n root) (all_visits s n root)) (flat_map (kept_below s n root) (filter (stops s n root) (all_visits s n root))) (x, y)
      (result-listed x y i)
  image-listed x y (inr h) =
      subst (λ z. Contains {X = Tree × Tree} (image_list s n root) (x, z)) (sym h.0)
      (Contains-append_right (flat_map (pairs_of s n root) (all_visits s n root)) (flat_map (kept_below s n root) (filter (stops s n root) (all_visits s n root))) (x, x)
      (below-listed x h.1.0 h.1.1 h.1.2))

  listed-image : (x y : Tree) → Contains (image_list s n root) (x, y) → IsImage s root x y
  listed-image x y m = elim (Contains-append_cases (flat_map (pairs_of s n root) (all_visits s n root)) (flat_map (kept_below s n root) (filter (stops s n root) (all_visits s n root))) (x, y) m) [
    | inl k ↦ inl (listed-result x y k)
    | inr k ↦ inr (listed-below x y k)
  ]

  replaced-listed : (x y : Tree) → IsReplaced s root x y → Contains (replaced_list s n root) (x, y)
  replaced-listed x y i =
      Contains-flat_map (pairs_of s n root) (x, i.0) (x, y) (filter (λ v. match_replaces (match_of s.requests v.0 v.1)) (all_visits s n root))
      (Contains-filter (λ (v : Tree × Context). match_replaces (match_of s.requests v.0 v.1)) (all_visits s n root) (x, i.0) (listed x i.0 i.4) (of-replaces (match_of s.requests x i.0) i.1 i.2 i.5 i.6))
      (pair-there x y i.0 i.3 i.4 i.7 i.8)

  listed-replaced : (x y : Tree) → Contains (replaced_list s n root) (x, y) → IsReplaced s root x y
  listed-replaced x y m =
      let v = Contains-flat_map_cases (pairs_of s n root) (x, y) (filter (λ v. match_replaces (match_of s.requests v.0 v.1)) (all_visits s n root)) m in
      let f = Contains-filter_cases (λ (v : Tree × Context). match_replaces (match_of s.requests v.0 v.1)) (all_visits s n root) v.0 v.1 in
      let l = visited v.0 f.0 in
      let r = replaces-of (match_of s.requests v.0.0 v.0.1) f.1 in
      let p = pair-from v.0 x y l v.2 in
      subst (λ z. IsReplaced s root z y) p.2 (v.0.1, r.0, r.1, p.0, l, r.2, r.3, p.1, p.3)

-- ---- the lists of a history, from lists of its relations
module _ (tells : EqualTreesTell) (kind_of : Tree → Kind) (before after : Tree) (Image Replaced : Tree → Tree → Type 0) (imaged replaced : List (Tree × Tree))
    (to : (x y : Tree) → Image x y → Contains imaged (x, y)) (from : (x y : Tree) → Contains imaged (x, y) → Image x y)
    (to_replaced : (x y : Tree) → Replaced x y → Contains replaced (x, y))
    (from_replaced : (x y : Tree) → Contains replaced (x, y) → Replaced x y) where
  in_input : Tree → Bool
  in_input = is_of_input kind_of before after imaged replaced

  came : Tree → Tree → Bool
  came = came_new kind_of before after imaged replaced

  new : Tree → Bool
  new = is_new kind_of before after imaged replaced

  lower : Tree → Tree → Bool
  lower x t = nat_lt (rank_of (kind_of x)) (rank_of (kind_of t))

  input-of : (t : Tree) → in_input t ≡ true → IsSupported (kind_of t) × OccursIn t before
  unfolding in_input
  input-of t e = let p = and-parts (is_supported (kind_of t)) (occurs t before) e in (supported-of (kind_of t) p.0, (occurs-of tells) t before p.1)

  of-input : (t : Tree) → IsSupported (kind_of t) → OccursIn t before → in_input t ≡ true
  unfolding in_input
  of-input t k o = and-both (is_supported (kind_of t)) (occurs t before) (of-supported (kind_of t) k) ((of-occurs tells) t before o)

  -- an image of a tree that the input doesn't have, whichever it is
  new-of : (x : Tree) → new x ≡ true → (q : Tree) × (OccursIn q before → ⊥) × Image q x
  unfolding new
  new-of x e =
      let f = list_any-found (λ (q : Tree × Tree). tree_eq q.1 x && not (occurs q.0 before)) imaged e in
      let p = and-parts (tree_eq f.0.1 x) (not (occurs f.0.0 before)) f.2 in (
        f.0.0,
        (λ o. not-of (occurs f.0.0 before) p.1 ((of-occurs tells) f.0.0 before o)),
        subst (λ z. Image f.0.0 z) ((tells f.0.1 x).0 p.0) (from f.0.0 f.0.1 f.1),
      )

  of-new : (q x : Tree) → (OccursIn q before → ⊥) → Image q x → new x ≡ true
  unfolding new
  of-new q x h i =
      list_any-contains (λ (q : Tree × Tree). tree_eq q.1 x && not (occurs q.0 before)) (q, x) imaged (to q x i)
      (and-both (tree_eq x x) (not (occurs q before)) ((tells x x).1 refl) (not-true (occurs q before) (λ e. h ((occurs-of tells) q before e))))

  came-of : (t x : Tree) → came t x ≡ true → IsSupported (kind_of x) × (rank_of (kind_of x) < rank_of (kind_of t)) × (new x ≡ true)
  unfolding came new lower
  came-of t x e =
      let p = and-parts (is_supported (kind_of x)) (lower x t && new x) e in
      let q = and-parts (lower x t) (new x) p.1 in
      (supported-of (kind_of x) p.0, lower-of (rank_of (kind_of x)) (rank_of (kind_of t)) q.0, q.1)

  of-came : (t x : Tree) → IsSupported (kind_of x) → rank_of (kind_of x) < rank_of (kind_of t) → new x ≡ true → came t x ≡ true
  unfolding came new lower
  of-came t x k l n =
      and-both (is_supported (kind_of x)) (lower x t && new x) (of-supported (kind_of x) k)
      (and-both (lower x t) (new x) (of-lower (rank_of (kind_of x)) (rank_of (kind_of t)) l) n)

  images-same : (t x : Tree) → images_of kind_of before after Image Replaced t x ↔ Contains (images_listed kind_of before after imaged replaced) (t, x)
  unfolding in_input
  images-same t x = (there, back)
    where
      there : images_of kind_of before after Image Replaced t x → Contains (images_listed kind_of before after imaged replaced) (t, x)
      there h = Contains-filter (λ (p : Tree × Tree). in_input p.0) imaged (t, x) (to t x h.2) (of-input t h.0 h.1)

      back : Contains (images_listed kind_of before after imaged replaced) (t, x) → images_of kind_of before after Image Replaced t x
      back m =
          let f = Contains-filter_cases (λ (p : Tree × Tree). in_input p.0) imaged (t, x) m in
          let i = input-of t f.1 in (i.0, i.1, from t x f.0)

  below_came : Tree × Tree → List (Tree × Tree)
  below_came p = map (λ x. (p.0, x)) (filter (came p.0) (trees_below p.1))

  generated-to : (t x : Tree) → generated_of kind_of before after Image Replaced t x → Contains (generated_listed kind_of before after imaged replaced) (t, x)
  unfolding in_input came below_came
  generated-to t x h =
      Contains-flat_map below_came (t, h.0) (t, x) (filter (λ p. in_input p.0) replaced)
      (Contains-filter (λ (p : Tree × Tree). in_input p.0) replaced (t, h.0) (to_replaced t h.0 h.4) (of-input t h.2 h.3))
      (Contains-map (λ (x : Tree). (t, x)) x (filter (came t) (trees_below h.0))
      (Contains-filter (came t) (trees_below h.0) x (of-below x h.0 h.7) (of-came t x h.5 h.6 (of-new h.1 x h.8 h.9))))

  generated-from : (t x : Tree) → Contains (generated_listed kind_of before after imaged replaced) (t, x) → generated_of kind_of before after Image Replaced t x
  unfolding in_input came below_came
  generated-from t x m =
      let c = Contains-flat_map_cases below_came (t, x) (filter (λ p. in_input p.0) replaced) m in
      let f = Contains-filter_cases (λ (p : Tree × Tree). in_input p.0) replaced c.0 c.1 in
      let a = Contains-map_cases (λ (x : Tree). (c.0.0, x)) (t, x) (filter (came c.0.0) (trees_below c.0.1)) c.2 in
      let first : c.0.0 ≡ t = ap (λ (p : Tree × Tree). p.0) a.2 in
      let second : a.0 ≡ x = ap (λ (p : Tree × Tree). p.1) a.2 in
      let g = Contains-filter_cases (came c.0.0) (trees_below c.0.1) a.0 a.1 in
      let input = input-of c.0.0 f.1 in
      let parts = came-of c.0.0 a.0 g.1 in
      let image = new-of a.0 parts.2 in
      let found : generated_of kind_of before after Image Replaced c.0.0 a.0 = (
        c.0.1,
        image.0,
        input.0,
        input.1,
        from_replaced c.0.0 c.0.1 f.0,
        parts.0,
        parts.1,
        below-of a.0 c.0.1 g.0,
        image.1,
        image.2,
      ) in
      subst (λ z. generated_of kind_of before after Image Replaced t z) second
      (subst (λ z. generated_of kind_of before after Image Replaced z a.0) first found)

  pub listed-is : ListsHistory (lists_of kind_of before after imaged replaced) (history_of kind_of before after Image Replaced)
  listed-is = record {
    images = images-same;
    modified = (modified-listed tells) (images_of kind_of before after Image Replaced) (images_listed kind_of before after imaged replaced) images-same;
    generated = λ t x. (generated-to t x, generated-from t x);
    removed = (gone-listed tells) (images_of kind_of before after Image Replaced) (images_listed kind_of before after imaged replaced) images-same kind_of before after;
  }

module _ (tells : EqualTreesTell) (group : WordsAreAGroup) (hold : (s : Step) → WholeListsHoldAll s) (determined : (s : Step) → IsDetermined s) where
  pub slow-is : SlowHistoryIsTheChanges
  slow-is (by_requests s) n before after whole =
      listed-is tells (kind s) before.tree after.tree (IsImage s before) (IsReplaced s before) (image_list s n before) (replaced_list s n before)
      (image-listed group hold determined s n before whole) (listed-image group hold determined s n before whole) (replaced-listed group hold determined s n before whole) (listed-replaced group hold determined s n before whole)
