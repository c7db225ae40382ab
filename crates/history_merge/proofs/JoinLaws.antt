-- Sorted lists of pairs gone through side by side.
use Rattle.std.proofs.Common.{◌≡◌, ◌≤◌, ◌<◌, ◌+◌, ◌∙◌, refl, sym, ap, subst, arith, inl, inr, take, length, slice_get, slice_index_or, Some, nat_eq, nat_lt}
use Rattle.std.specs.Prelude.{◌↔◌, ℕ, zero, suc, cond, List, [], ◌∷◌, ◌++◌, Contains}
use Rattle.std.specs.List.Sorted.{IsStrictlySortedBy}
use Rattle.std.specs.Ordering.{nat_cmp, ordering_then}
use Rattle.std.specs.declared.cmp.Ordering.{Ordering}
use Rattle.std.specs.declared.cmp.Ordering.TheVariants.{Less, Equal, Greater}
use Rattle.std.proofs.lemmas.Bool.{eqb-true, ltb-true, ltb-false}
use Rattle.std.proofs.lemmas.List.{take_all}
use Rattle.std.proofs.lemmas.Option.{slice_get-get_or, slice_get_within, get_or_from_slice_get}
use Rattle.std.proofs.lemmas.List.Elements.{Contains-append_left, Contains-get_or, Contains-push, Contains-push_cases}
use Rattle.lists.proofs.Cases.{by_test}
use Rattle.lists.proofs.Each.{each-contains}
use Rattle.lists.proofs.Members.{Contains-none}
use Rattle.lists.proofs.Places.{Contains-at, place_of, row-taken, take-at, taken-row}
use Rattle.shape_pool.specs.declared.node.NodeId.{NodeId}
use Rattle.lists.specs.Gathering.{Adds}
use Rattle.step_history.specs.Numbered.{pair_cmp}
use Rattle.history_merge.specs.Joined.{AreBefore, IsFollowed, IsJoined, IsOnto}
use Rattle.lists.proofs.Gathering.{adds-nothing, adds-one}
use Rattle.history_merge.proofs.GatherLaws.{named_by}

abbrev pub any_pair : NodeId × NodeId
any_pair = (record { 0 = 0 }, record { 0 = 0 })

-- ---- sorted pairs
first-le : (a b : ℕ) (o : Ordering) → ordering_then (nat_cmp a b) o ≡ Less → a ≤ b
first-le a b o h = by_test (nat_lt a b)
    (λ t. let l = ltb-true a b t in omega (arith, l))
    (λ f. by_test (nat_eq a b)
    (λ t. let e = eqb-true a b t in omega (arith, e))
    (λ g. absurd (greater (ap (λ z. cond z Less (cond (nat_eq a b) Equal Greater)) f ∙ ap (λ z. cond z Equal Greater) g))))
  where
    greater : nat_cmp a b ≡ Greater → ⊥
    greater e = let k : Greater ≡ Less = sym (ap (λ z. ordering_then z o) e) ∙ h in absurd cc

pub rising : (xs : List (NodeId × NodeId)) → IsStrictlySortedBy pair_cmp xs → (i j : ℕ) (d : NodeId × NodeId) → i ≤ j → j < length xs →
    (slice_index_or xs i d).0.0 ≤ (slice_index_or xs j d).0.0
unfolding IsStrictlySortedBy
rising [] s i j d le lt = absurd (omega (arith, lt))
rising (x ∷ xs) s zero zero d le lt = omega arith
rising (x ∷ xs) s zero (suc j) d le lt =
    let y : NodeId × NodeId = slice_index_or xs j d in
    let h = each-contains (λ (z : NodeId × NodeId). pair_cmp x z ≡ Less) xs y s.0 (Contains-get_or xs j d (omega (arith, lt))) in
    first-le x.0.0 y.0.0 (nat_cmp x.1.0 y.1.0) h
rising (x ∷ xs) s (suc i) zero d le lt = absurd (omega (arith, le))
rising (x ∷ xs) s (suc i) (suc j) d le lt = rising xs s.1 i j d (omega (arith, le)) (omega (arith, lt))

-- the pair at a place, whatever stands in where there is none
at-place : (xs : List (NodeId × NodeId)) (i : ℕ) (x d : NodeId × NodeId) → slice_get xs i ≡ Some x → slice_index_or xs i x ≡ x
at-place xs i x d e = get_or_from_slice_get xs i x x e

same-place : (xs : List (NodeId × NodeId)) (i : ℕ) (c d : NodeId × NodeId) → i < length xs → slice_index_or xs i c ≡ slice_index_or xs i d
same-place [] i c d lt = absurd (omega (arith, lt))
same-place (x ∷ xs) zero c d lt = refl
same-place (x ∷ xs) (suc i) c d lt = same-place xs i c d (omega (arith, lt))

pub rising-any : (xs : List (NodeId × NodeId)) → IsStrictlySortedBy pair_cmp xs → (i j : ℕ) (c d : NodeId × NodeId) → i ≤ j → j < length xs →
    (slice_index_or xs i c).0.0 ≤ (slice_index_or xs j d).0.0
rising-any xs sorted i j c d le lt =
    subst (λ (z : NodeId × NodeId). z.0.0 ≤ (slice_index_or xs j d).0.0) (same-place xs i d c (omega (arith, le, lt))) (rising xs sorted i j d le lt)

-- ---- places before
pub before-none : (xs : List (NodeId × NodeId)) (m : ℕ) → AreBefore xs 0 m
before-none xs m i d lt = absurd (omega (arith, lt))

pub before-fewer : (xs : List (NodeId × NodeId)) (n k m : ℕ) → k ≤ n → AreBefore xs n m → AreBefore xs k m
before-fewer xs n k m le h i d lt = h i d (omega (arith, lt, le))

pub before-higher : (xs : List (NodeId × NodeId)) (n m k : ℕ) → m ≤ k → AreBefore xs n m → AreBefore xs n k
before-higher xs n m k le h i d lt = let a = h i d lt in omega (arith, a, le)

pub before-next : (xs : List (NodeId × NodeId)) (n m : ℕ) (d : NodeId × NodeId) → n < length xs → (slice_index_or xs n d).0.0 < m → AreBefore xs n m → AreBefore xs (n + 1) m
before-next xs n m d within lt h i e less = by_test (nat_lt i n)
    (λ t. h i e (ltb-true i n t))
    (λ f. let le = ltb-false i n f in
    let same : n ≡ i = omega (arith, le, less) in
    subst (λ k. (slice_index_or xs k e).0.0 < m) same (subst (λ (z : NodeId × NodeId). z.0.0 < m) (same-place xs n d e within) lt))

pub here-at : (xs : List (NodeId × NodeId)) (n m : ℕ) (d : NodeId × NodeId) → m ≤ (slice_index_or xs n d).0.0 → (e : NodeId × NodeId) → n < length xs → m ≤ (slice_index_or xs n e).0.0
here-at xs n m d le e within = subst (λ (z : NodeId × NodeId). m ≤ z.0.0) (same-place xs n d e within) le

-- ---- onto
member-place : (xs : List (NodeId × NodeId)) (n : ℕ) (x : NodeId × NodeId) → Contains (take n xs) x → (i : ℕ) × (slice_get xs i ≡ Some x) × (i < n)
member-place xs n x m = let p = place_of (take n xs) x m in let r = taken-row xs n p.0 x p.1 in (p.0, r.0, r.1)

pub onto-start : (xs : List (NodeId × NodeId)) (n : ℕ) (m f : NodeId) (out : List (NodeId × NodeId)) → AreBefore xs n m.0 → Adds (IsOnto (take n xs) m f) out out
onto-start xs n m f out before = adds-nothing (IsOnto (take n xs) m f) out (λ y p.
    (let x : NodeId × NodeId = (m, y.1) in
    let w = member-place xs n x p.1 in
    let lt = before w.0 x w.2 in
    let less : m.0 < m.0 = subst (λ (z : NodeId × NodeId). z.0.0 < m.0) (at-place xs w.0 x x w.1) lt in
    omega (arith, less)))

onto-next : (xs : List (NodeId × NodeId)) (v : NodeId × NodeId) (m f : NodeId) (a b c : List (NodeId × NodeId)) → v.0 ≡ m → Adds (IsOnto xs m f) a b →
    Adds (λ y. (f ≡ y.0) × (v.1 ≡ y.1)) b c → Adds (IsOnto (xs ++ v ∷ []) m f) a c
onto-next xs v m f a b c e first next y = (
  (λ k. elim ((next y).0 k) [
    | inl h ↦ elim ((first y).0 h) [ inl o ↦ inl o | inr p ↦ inr (p.0, Contains-append_left xs (v ∷ []) (m, y.1) p.1) ]
    | inr q ↦ inr (q.0, subst (λ (z : NodeId × NodeId). Contains (xs ++ v ∷ []) z) (λ i. (e i, q.1 i)) (Contains-push xs v))
  ]),
  (λ k. elim k [
    | inl o ↦ (next y).1 (inl ((first y).1 (inl o)))
    | inr p ↦ elim (Contains-push_cases xs v (m, y.1) p.1) [
      | inl h ↦ (next y).1 (inl ((first y).1 (inr (p.0, h))))
      | inr w ↦ (next y).1 (inr (p.0, ap (λ (z : NodeId × NodeId). z.1) w))
    ]
  ]),
)

pub onto-step : (xs : List (NodeId × NodeId)) (i : ℕ) (d : NodeId × NodeId) (m f : NodeId) (a b c : List (NodeId × NodeId)) → i < length xs →
    (slice_index_or xs i d).0.0 ≡ m.0 → Adds (IsOnto (take i xs) m f) a b → c ≡ b ++ (f, (slice_index_or xs i d).1) ∷ [] → Adds (IsOnto (take (i + 1) xs) m f) a c
onto-step xs i d m f a b c lt e first pushed =
    let v : NodeId × NodeId = slice_index_or xs i d in
    subst (λ l. Adds (IsOnto l m f) a c) (sym (take-at xs i v (slice_get-get_or xs i d lt)))
    (onto-next (take i xs) v m f a b c (named_by v.0 m e) first
    (adds-one (λ y. (f ≡ y.0) × (v.1 ≡ y.1)) b c (f, v.1) pushed (refl, refl) (λ y q. (let p = q.0 in let r = q.1 in (λ j. (p j, r j))))))

pub onto-all : (xs : List (NodeId × NodeId)) (i : ℕ) (m f : NodeId) (a b : List (NodeId × NodeId)) → length xs ≤ i → Adds (IsOnto (take i xs) m f) a b → Adds (IsOnto xs m f) a b
onto-all xs i m f a b le h = subst (λ l. Adds (IsOnto l m f) a b) (take_all i xs le) h

-- past the middle number there are no further pairs of it
pub onto-done : (xs : List (NodeId × NodeId)) (n i : ℕ) (d : NodeId × NodeId) (m f : NodeId) (a b : List (NodeId × NodeId)) → IsStrictlySortedBy pair_cmp xs → n ≤ i → i < length xs →
    ((e : NodeId × NodeId) → n < length xs → m.0 ≤ (slice_index_or xs n e).0.0) → ((slice_index_or xs i d).0.0 ≡ m.0 → ⊥) →
    Adds (IsOnto (take i xs) m f) a b → Adds (IsOnto xs m f) a b
onto-done xs n i d m f a b sorted le lt here other first y = (
  (λ k. elim ((first y).0 k) [ inl o ↦ inl o | inr p ↦ (let w = member-place xs i (m, y.1) p.1 in inr (p.0, Contains-at xs w.0 (m, y.1) w.1)) ]),
  (λ k. elim k [ inl o ↦ (first y).1 (inl o) | inr p ↦ (first y).1 (inr (p.0, taken p.1)) ]),
)
  where
    taken : Contains xs (m, y.1) → Contains (take i xs) (m, y.1)
    taken c =
        let x : NodeId × NodeId = (m, y.1) in
        let w = place_of xs x c in
        by_test (nat_lt w.0 i)
        (λ t. Contains-at (take i xs) w.0 x (row-taken xs i w.0 x w.1 (ltb-true w.0 i t)))
        (λ g. (let past = ltb-false w.0 i g in
        let own = slice_get_within xs w.0 x w.1 in
        let up = rising xs sorted i w.0 x past own in
        let up' : (slice_index_or xs i x).0.0 ≤ m.0 = subst (λ (z : NodeId × NodeId). (slice_index_or xs i x).0.0 ≤ z.0.0) (at-place xs w.0 x x w.1) up in
        let low = here x (omega (arith, le, lt)) in
        let mid = rising xs sorted n i x le lt in
        let e : (slice_index_or xs i d).0.0 ≡ (slice_index_or xs i x).0.0 = ap (λ (z : NodeId × NodeId). z.0.0) (same-place xs i d x lt) in
        absurd (other (omega (arith, up', low, mid, e)))))

-- ---- followed
pub followed-start : (s out : List (NodeId × NodeId)) → Adds (IsFollowed [] s) out out
followed-start s out = adds-nothing (IsFollowed [] s) out (λ y p. Contains-none (p.0, y.0) p.1)

followed-next : (xs s : List (NodeId × NodeId)) (v : NodeId × NodeId) (a b c : List (NodeId × NodeId)) → Adds (IsFollowed xs s) a b → Adds (IsOnto s v.0 v.1) b c →
    Adds (IsFollowed (xs ++ v ∷ []) s) a c
followed-next xs s v a b c first next y = (
  (λ k. elim ((next y).0 k) [
    | inl h ↦ elim ((first y).0 h) [ inl o ↦ inl o | inr p ↦ inr (p.0, Contains-append_left xs (v ∷ []) (p.0, y.0) p.1, p.2) ]
    | inr q ↦ inr (v.0, subst (λ z. Contains (xs ++ v ∷ []) (v.0, z)) q.0 (Contains-push xs v), q.1)
  ]),
  (λ k. elim k [
    | inl o ↦ (next y).1 (inl ((first y).1 (inl o)))
    | inr p ↦ elim (Contains-push_cases xs v (p.0, y.0) p.1) [
      | inl h ↦ (next y).1 (inl ((first y).1 (inr (p.0, h, p.2))))
      | inr w ↦ (next y).1 (inr (ap (λ (z : NodeId × NodeId). z.1) w, subst (λ z. Contains s (z, y.1)) (sym (ap (λ (z : NodeId × NodeId). z.0) w)) p.2))
    ]
  ]),
)

pub followed-step : (xs s : List (NodeId × NodeId)) (i : ℕ) (d : NodeId × NodeId) (a b c : List (NodeId × NodeId)) → i < length xs → Adds (IsFollowed (take i xs) s) a b →
    Adds (IsOnto s (slice_index_or xs i d).0 (slice_index_or xs i d).1) b c → Adds (IsFollowed (take (i + 1) xs) s) a c
followed-step xs s i d a b c lt first next =
    subst (λ l. Adds (IsFollowed l s) a c) (sym (take-at xs i (slice_index_or xs i d) (slice_get-get_or xs i d lt)))
    (followed-next (take i xs) s (slice_index_or xs i d) a b c first next)

pub followed-all : (xs s : List (NodeId × NodeId)) (i : ℕ) (a b : List (NodeId × NodeId)) → length xs ≤ i → Adds (IsFollowed (take i xs) s) a b → Adds (IsFollowed xs s) a b
followed-all xs s i a b le h = subst (λ l. Adds (IsFollowed l s) a b) (take_all i xs le) h

-- the same by lists of the same pairs
pub joined-by : (firsts seconds turned sorted a b : List (NodeId × NodeId)) → ((x y : NodeId) → Contains turned (x, y) ↔ Contains firsts (y, x)) →
    ((y : NodeId × NodeId) → Contains sorted y ↔ Contains seconds y) → Adds (IsFollowed turned sorted) a b → Adds (IsJoined firsts seconds) a b
joined-by firsts seconds turned sorted a b flip same adds y = (
  (λ k. elim ((adds y).0 k) [ inl o ↦ inl o | inr p ↦ inr (p.0, (flip p.0 y.0).0 p.1, (same (p.0, y.1)).0 p.2) ]),
  (λ k. elim k [ inl o ↦ (adds y).1 (inl o) | inr p ↦ (adds y).1 (inr (p.0, (flip p.0 y.0).1 p.1, (same (p.0, y.1)).1 p.2)) ]),
)
