-- The lists of composed histories hold just what the relations do.
use Rattle.std.proofs.Common.{◌≡◌, refl, sym, ap, subst, inl, inr, ◌∙◌}
use Rattle.std.specs.Prelude.{◌↔◌, List, [], ◌∷◌, ◌++◌, map, filter, Contains}
use Rattle.std.proofs.lemmas.List.Elements.{Contains-append_left, Contains-append_right, Contains-append_cases}
use Rattle.lists.proofs.Tests.{Contains-filter, Contains-filter_cases}
use Rattle.lists.proofs.Members.{Contains-flat_map, Contains-flat_map_cases, Contains-map, Contains-map_cases, Contains-none}
use Rattle.orientation.specs.declared.kind.Kind.{Kind}
use Rattle.expansion_laws.specs.Trees.{Tree}
use Rattle.expansion_laws.specs.Equality.{tree_eq}
use Rattle.expansion_laws.specs.Measures.{subtrees, OccursIn}
use Rattle.step_history.specs.History.{History, IsSupported}
use Rattle.step_history.specs.Changes.{kind_in, history_by}
use Rattle.step_history.specs.SlowHistory.{HistoryLists, ListsHistory, SlowHistoryIsTheChanges, is_supported, slow_history}
use Rattle.step_history.specs.Composition.{Done, OneStepIsItsChange, followed_by, no_history, chained, history_after, then_listed, chained_listed, none_listed, slow_after, SlowHistoriesChain}
use Rattle.step_history.proofs.ListLemmas.{EqualTreesTell, supported-of, of-supported, modified-listed, gone-listed}

module _ (tells : EqualTreesTell) where
  then-to : (R S : List (Tree × Tree)) (t m x : Tree) → Contains R (t, m) → Contains S (m, x) → Contains (then_listed R S) (t, x)
  then-to R S t m x r s =
      Contains-flat_map (λ (p : Tree × Tree). map (λ q. (p.0, q.1)) (filter (λ q. tree_eq p.1 q.0) S)) (t, m) (t, x) R r
      (Contains-map (λ (q : Tree × Tree). (t, q.1)) (m, x) (filter (λ q. tree_eq m q.0) S) (Contains-filter (λ (q : Tree × Tree). tree_eq m q.0) S (m, x) s ((tells m m).1 refl)))

  then-from : (R S : List (Tree × Tree)) (t x : Tree) → Contains (then_listed R S) (t, x) → (m : Tree) × Contains R (t, m) × Contains S (m, x)
  then-from R S t x h =
      let c = Contains-flat_map_cases (λ (p : Tree × Tree). map (λ q. (p.0, q.1)) (filter (λ q. tree_eq p.1 q.0) S)) (t, x) R h in
      let a = Contains-map_cases (λ (q : Tree × Tree). (c.0.0, q.1)) (t, x) (filter (λ q. tree_eq c.0.1 q.0) S) c.2 in
      let f = Contains-filter_cases (λ (q : Tree × Tree). tree_eq c.0.1 q.0) S a.0 a.1 in
      let first : c.0.0 ≡ t = ap (λ (p : Tree × Tree). p.0) a.2 in
      let last : a.0.1 ≡ x = ap (λ (p : Tree × Tree). p.1) a.2 in
      let middle : a.0.0 ≡ c.0.1 = sym ((tells c.0.1 a.0.0).0 f.1) in
      let left : Contains {X = Tree × Tree} R (t, c.0.1) = subst (λ z. Contains {X = Tree × Tree} R (z, c.0.1)) first c.1 in
      let right : Contains {X = Tree × Tree} S (c.0.1, x) = subst (λ z. Contains {X = Tree × Tree} S (c.0.1, z)) last (subst (λ z. Contains {X = Tree × Tree} S (z, a.0.1)) middle f.0) in
      (c.0.1, left, right)

  module _ (kind_of : Tree → Kind) (first last : Tree) (la lb : HistoryLists) (a b : History) (h : ListsHistory la a) (g : ListsHistory lb b) where
    composed-to : (t x : Tree) → followed_by a.images b.images t x → Contains (then_listed la.images lb.images) (t, x)
    composed-to t x c = then-to la.images lb.images t c.0 x ((h.images t c.0).0 c.1) ((g.images c.0 x).0 c.2)

    composed-from : (t x : Tree) → Contains (then_listed la.images lb.images) (t, x) → followed_by a.images b.images t x
    composed-from t x m = let c = then-from la.images lb.images t x m in (c.0, (h.images t c.0).1 c.1, (g.images c.0 x).1 c.2)

    generated-to : (t x : Tree) → (chained kind_of first last a b).generated t x → Contains (chained_listed kind_of first last la lb).generated (t, x)
    generated-to t x (inl c) = Contains-append_left (then_listed la.images lb.generated) (then_listed la.generated lb.images ++ then_listed la.generated lb.generated) (t, x)
        (then-to la.images lb.generated t c.0 x ((h.images t c.0).0 c.1) ((g.generated c.0 x).0 c.2))
    generated-to t x (inr (inl c)) = Contains-append_right (then_listed la.images lb.generated) (then_listed la.generated lb.images ++ then_listed la.generated lb.generated) (t, x)
        (Contains-append_left (then_listed la.generated lb.images) (then_listed la.generated lb.generated) (t, x) (then-to la.generated lb.images t c.0 x ((h.generated t c.0).0 c.1) ((g.images c.0 x).0 c.2)))
    generated-to t x (inr (inr c)) = Contains-append_right (then_listed la.images lb.generated) (then_listed la.generated lb.images ++ then_listed la.generated lb.generated) (t, x)
        (Contains-append_right (then_listed la.generated lb.images) (then_listed la.generated lb.generated) (t, x) (then-to la.generated lb.generated t c.0 x ((h.generated t c.0).0 c.1) ((g.generated c.0 x).0 c.2)))

    generated-from : (t x : Tree) → Contains (chained_listed kind_of first last la lb).generated (t, x) → (chained kind_of first last a b).generated t x
    generated-from t x m = elim (Contains-append_cases (then_listed la.images lb.generated) (then_listed la.generated lb.images ++ then_listed la.generated lb.generated) (t, x) m) [
      | inl k ↦ (let c = then-from la.images lb.generated t x k in inl (c.0, (h.images t c.0).1 c.1, (g.generated c.0 x).1 c.2))
      | inr k ↦ elim (Contains-append_cases (then_listed la.generated lb.images) (then_listed la.generated lb.generated) (t, x) k) [
        | inl l ↦ (let c = then-from la.generated lb.images t x l in inr (inl (c.0, (h.generated t c.0).1 c.1, (g.images c.0 x).1 c.2)))
        | inr l ↦ (let c = then-from la.generated lb.generated t x l in inr (inr (c.0, (h.generated t c.0).1 c.1, (g.generated c.0 x).1 c.2)))
      ]
    ]

    images-same : (t x : Tree) → followed_by a.images b.images t x ↔ Contains (then_listed la.images lb.images) (t, x)
    images-same t x = (composed-to t x, composed-from t x)

    chain-listed : ListsHistory (chained_listed kind_of first last la lb) (chained kind_of first last a b)
    chain-listed = record {
      images = images-same;
      modified = (modified-listed tells) (followed_by a.images b.images) (then_listed la.images lb.images) images-same;
      generated = λ t x. (generated-to t x, generated-from t x);
      removed = (gone-listed tells) (followed_by a.images b.images) (then_listed la.images lb.images) images-same kind_of first last;
    }

  module _ (kind_of : Tree → Kind) (root : Tree) where
    none-to : (t x : Tree) → (no_history kind_of root).images t x → Contains (none_listed kind_of root).images (t, x)
    none-to t x h =
        subst (λ z. Contains {X = Tree × Tree} (map (λ t. (t, t)) (filter (λ t. is_supported (kind_of t)) (subtrees root))) (t, z)) h.0
        (Contains-map (λ (t : Tree). (t, t)) t (filter (λ t. is_supported (kind_of t)) (subtrees root))
        (Contains-filter (λ t. is_supported (kind_of t)) (subtrees root) t h.2 (of-supported (kind_of t) h.1)))

    none-from : (t x : Tree) → Contains (none_listed kind_of root).images (t, x) → (no_history kind_of root).images t x
    none-from t x m =
        let a = Contains-map_cases (λ (t : Tree). (t, t)) (t, x) (filter (λ t. is_supported (kind_of t)) (subtrees root)) m in
        let f = Contains-filter_cases (λ t. is_supported (kind_of t)) (subtrees root) a.0 a.1 in
        let first : a.0 ≡ t = ap (λ (p : Tree × Tree). p.0) a.2 in
        let second : a.0 ≡ x = ap (λ (p : Tree × Tree). p.1) a.2 in
        (sym first ∙ second, subst (λ z. IsSupported (kind_of z)) first (supported-of (kind_of a.0) f.1), subst (λ z. OccursIn z root) first f.0)

    none-is : ListsHistory (none_listed kind_of root) (no_history kind_of root)
    none-is = record {
      images = λ t x. (none-to t x, none-from t x);
      modified = (modified-listed tells) (no_history kind_of root).images (none_listed kind_of root).images (λ t x. (none-to t x, none-from t x));
      generated = λ t x. ((λ h. absurd h), (λ m. Contains-none (t, x) m));
      removed = λ t. ((λ h. absurd h), (λ m. Contains-none t m));
    }

  pub slow-chain : SlowHistoryIsTheChanges → SlowHistoriesChain
  slow-chain slow n kind_of first [] w = none-is kind_of first.tree
  slow-chain slow n kind_of first (d ∷ ds) w =
      chain-listed kind_of first.tree d.after.tree (slow_after n kind_of first ds) (slow_history d.change n d.before d.after) (history_after kind_of first ds) (history_by d.change d.before d.after)
      (slow-chain slow n kind_of first ds w.1) (slow d.change n d.before d.after w.0)

-- ---- one step
module _ (d : Done) where
  alone : History
  alone = history_after (kind_in d.change) d.before (d ∷ [])

  its_own : History
  its_own = history_by d.change d.before d.after

  images-alone : (t x : Tree) → alone.images t x → its_own.images t x
  unfolding alone its_own
  images-alone t x h = subst (λ z. its_own.images z x) (sym h.1.0) h.2

  generated-alone : (t x : Tree) → alone.generated t x → its_own.generated t x
  unfolding alone its_own
  generated-alone t x (inl h) = subst (λ z. its_own.generated z x) (sym h.1.0) h.2
  generated-alone t x (inr (inl h)) = absurd h.1
  generated-alone t x (inr (inr h)) = absurd h.1

pub one-step : OneStepIsItsChange
unfolding alone its_own
one-step d = record {
  images = λ t x. (images-alone d t x, (λ i. (t, (refl, i.0, i.1), i)));
  generated = λ t x. (generated-alone d t x, (λ g. inl (t, (refl, g.2, g.3), g)));
  removed = λ t. (
    (λ r. (r.0, r.1, (λ x i. r.2 x (t, (refl, i.0, i.1), i)), r.3)),
    (λ r. (r.0, r.1, (λ x c. r.2 x (images-alone d t x c)), r.3)),
  );
}
