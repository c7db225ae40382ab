-- Pairs in ascending order, parted by their first numbers.
use Rattle.std.proofs.Common.{◌≡◌, ◌≤◌, ◌<◌, ◌+◌, ◌-◌, ◌∙◌, refl, sym, ap, subst, arith, true≢false, ℕ, zero, suc}
use Rattle.std.proofs.Common.{nat_eq, nat_lt, drop, take, slice_index_or, length}
use Rattle.std.specs.Prelude.{Bool, true, false, cond, List, [], ◌∷◌, Some, slice_get}
use Rattle.std.specs.List.{AllByRecursion}
use Rattle.std.specs.List.Sorted.{IsNonDecreasingBy, IsPartitionPoint, IsStrictlySortedBy}
use Rattle.std.specs.Ordering.{nat_cmp, ordering_then}
use Rattle.std.specs.declared.cmp.Ordering.{Ordering}
use Rattle.std.specs.declared.cmp.Ordering.TheVariants.{Less, Equal, Greater}
use Rattle.std.proofs.lemmas.Bool.{eqb-true, ltb-true, ltb-false}
use Rattle.std.proofs.lemmas.Option.{get_or_from_slice_get, slice_get_within}
use Rattle.lists.proofs.Cases.{by_test}
use Rattle.lists.proofs.Places.{Contains-at, at_place, place_of, row-taken, taken-row}
use Rattle.shape_pool.specs.declared.node.NodeId.{NodeId}
use Rattle.step_history.specs.Numbered.{pair_cmp}
use Rattle.script_requests.specs.Named.{ArePairsOf, PartsAt}

abbrev Pairs : Type 0
Pairs = List (NodeId × NodeId)

-- ---- the first numbers don't fall
greater : (b e : Bool) (o : Ordering) → b ≡ false → e ≡ false →
    ordering_then (cond b Less (cond e Equal Greater)) o ≡ Less → ⊥
greater true e o f g h = absurd (true≢false f)
greater false true o f g h = absurd (true≢false g)
greater false false o f g h = absurd cc

first-le : (x y : ℕ) (o : Ordering) → ordering_then (nat_cmp x y) o ≡ Less → x ≤ y
first-le x y o e =
    by_test (nat_lt x y) (λ t. let a = ltb-true x y t in omega (arith, a))
    (λ f. by_test (nat_eq x y) (λ t. let a = eqb-true x y t in omega (arith, a))
    (λ g. absurd (greater (nat_lt x y) (nat_eq x y) o f g e)))

least : (p : NodeId × NodeId) (ps : Pairs) → AllByRecursion (λ q. pair_cmp p q ≡ Less) ps → (j : ℕ)
    (d : NodeId × NodeId) → j < length ps → p.0.0 ≤ (slice_index_or ps j d).0.0
least p [] a j d lt = absurd (omega (arith, lt))
least p (q ∷ ps) a zero d lt = first-le p.0.0 q.0.0 (nat_cmp p.1.0 q.1.0) a.0
least p (q ∷ ps) a (suc j) d lt = least p ps a.1 j d (omega (arith, lt))

pub rising : (ps : Pairs) → IsStrictlySortedBy pair_cmp ps → IsNonDecreasingBy (λ p. p.0.0) ps
unfolding IsStrictlySortedBy
rising [] s i j d le lt = absurd (omega (arith, lt))
rising (p ∷ ps) s zero zero d le lt = omega arith
rising (p ∷ ps) s zero (suc j) d le lt = least p ps s.0 j d (omega (arith, lt))
rising (p ∷ ps) s (suc i) zero d le lt = absurd (omega (arith, le))
rising (p ∷ ps) s (suc i) (suc j) d le lt = rising ps s.1 i j d (omega (arith, le)) (omega (arith, lt))

-- ---- parted by a test
pub parts : (test : ℕ → Bool) (P : ℕ → Type 0) → ((n : ℕ) → test n ≡ true → P n) →
    ((n : ℕ) → test n ≡ false → P n → ⊥) → (ps : Pairs) (at : ℕ) →
    IsPartitionPoint (λ (p : NodeId × NodeId). test p.0.0 ≡ true) (λ (p : NodeId × NodeId). test p.0.0 ≡ false) ps at →
    PartsAt P ps at
parts test P given refused ps at point = record {
  before =
      λ k p lt e. subst (λ (q : NodeId × NodeId). P q.0.0) (get_or_from_slice_get ps k p p e)
      (given (slice_index_or ps k p).0.0 (point.0 k p (omega arith) lt));
  after =
      λ k p le e h. refused (slice_index_or ps k p).0.0 (point.1 k p le (slice_get_within ps k p e))
      (subst (λ (q : NodeId × NodeId). P q.0.0) (sym (get_or_from_slice_get ps k p p e)) h);
}

-- ---- those between
row-dropped : (ps : Pairs) (n i : ℕ) → slice_get (drop n ps) i ≡ slice_get ps (n + i)
row-dropped ps zero i = let e : 0 + i ≡ i = omega arith in ap (λ n. slice_get ps n) (sym e)
row-dropped [] (suc n) i = refl
row-dropped (p ∷ ps) (suc n) i =
    let e : suc n + i ≡ suc (n + i) = omega arith in
    row-dropped ps n i ∙ ap (λ m. slice_get (p ∷ ps) m) (sym e)

not-lt : (x y : ℕ) → (x < y → ⊥) → y ≤ x
not-lt x y h =
    by_test (nat_lt x y) (λ t. absurd (h (ltb-true x y t))) (λ f. let g = ltb-false x y f in omega (arith, g))

not-le : (x y : ℕ) → (x ≤ y → ⊥) → y < x
not-le x y h =
    by_test (nat_lt y x) (λ t. let g = ltb-true y x t in omega (arith, g)) (λ f. absurd (h (ltb-false y x f)))

pub in-order : (ps : Pairs) (id from to : ℕ) → from ≤ length ps → PartsAt (λ n. n < id) ps from →
    PartsAt (λ n. n ≤ id) ps to → from ≤ to
in-order ps id from to within a b =
    not-lt to from
    (λ lt.
    let p = at_place ps to (omega (arith, lt, within)) in
    let x = a.before to p.0 lt p.1 in
    b.after to p.0 (omega arith) p.1 (omega (arith, x)))

pub between : (ps : Pairs) (id from to : ℕ) → PartsAt (λ n. n < id) ps from → PartsAt (λ n. n ≤ id) ps to →
    from ≤ to → ArePairsOf ps id (take (to - from) (drop from ps))
between ps id from to a b le p = (
  (λ m.
      let at = place_of (take (to - from) (drop from ps)) p m in
      let row = taken-row (drop from ps) (to - from) at.0 p at.1 in
      let own : slice_get ps (from + at.0) ≡ Some p = sym (row-dropped ps from at.0) ∙ row.0 in
      let lt = row.1 in
      let low = not-lt p.0.0 id (a.after (from + at.0) p (omega arith) own) in
      let high = b.before (from + at.0) p (omega (arith, lt, le)) own in
      (Contains-at ps (from + at.0) p own, omega (arith, low, high))),
  (λ h.
      let at = place_of ps p h.0 in
      let k = at.0 in
      let e = h.1 in
      let low = not-lt k from (λ lt. let x = a.before k p lt at.1 in omega (arith, x, e)) in
      let high = not-le to k (λ past. b.after k p past at.1 (omega (arith, e))) in
      let same : from + (k - from) ≡ k = omega (arith, low) in
      let own : slice_get (drop from ps) (k - from) ≡ Some p =
      row-dropped ps from (k - from) ∙ ap (λ n. slice_get ps n) same ∙ at.1 in
      Contains-at (take (to - from) (drop from ps)) (k - from) p
      (row-taken (drop from ps) (to - from) (k - from) p own (omega (arith, low, high)))),
)
