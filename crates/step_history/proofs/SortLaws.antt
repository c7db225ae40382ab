-- Sorted lists without repeats have the members of the list.
use Rattle.std.proofs.Common.{◌≡◌, ◌∙◌, refl, sym, subst, arith, nat_eq, nat_lt}
use Rattle.std.specs.Prelude.{◌↔◌, ◌&&◌, ℕ, Bool, true, false, cond, List, Contains}
use Rattle.std.specs.Cmp.{IsEquivalence, and_equiv, on_equiv, nat_eq_equiv}
use Rattle.std.specs.List.{dedup}
use Rattle.std.specs.List.Sorted.{IsPermutation, IsSorted, IsStrictlySortedBy}
use Rattle.std.specs.Ordering.{is_eq, eq_by_cmp, nat_cmp, ordering_then}
use Rattle.std.specs.declared.cmp.Ordering.{Ordering}
use Rattle.std.specs.declared.cmp.Ordering.TheVariants.{Less, Equal, Greater}
use Rattle.std.proofs.lemmas.Bool.{eqb-true, ltb-true}
use Rattle.std.proofs.lemmas.Cmp.{nat_cmp_total, on_total, then_total}
use Rattle.std.proofs.lemmas.List.Kept.{Contains-dedup, Contains-from_dedup, IsStrictlySortedBy-dedup}
use Rattle.std.proofs.lemmas.List.Sorted.{Contains-permutation, IsPermutation-sym}
use Rattle.lists.proofs.Cases.{by_test}
use Rattle.shape_pool.specs.declared.node.NodeId.{NodeId}
use Rattle.step_history.specs.Numbered.{id_cmp, pair_cmp}
use Rattle.step_history.proofs.GatherLaws.{named_by}

pub same-members : {X : Type 0} {E : X → X → Bool} → IsEquivalence E → ((x y : X) → E x y ≡ true → x ≡ y) → (old mid new : List X) →
    IsPermutation old mid → new ≡ dedup E mid → (x : X) → Contains new x ↔ Contains old x
same-members {X} {E} laws exact old mid new moved is x = (
  (λ m. Contains-permutation mid old x (IsPermutation-sym old mid moved) (Contains-from_dedup E mid x (subst (λ l. Contains l x) is m))),
  (λ m. subst (λ l. Contains l x) (sym is) (Contains-dedup laws exact mid x (Contains-permutation old mid x moved m))),
)

-- ---- the tests and the orders agree
by_equal : (e : Bool) → is_eq (cond e Equal Greater) ≡ e
by_equal true = refl
by_equal false = refl

by_less : (b e : Bool) → (b ≡ true → e ≡ false) → is_eq (cond b Less (cond e Equal Greater)) ≡ e
by_less true e h = sym (h refl)
by_less false e h = by_equal e

less-apart : (x y : ℕ) → nat_lt x y ≡ true → nat_eq x y ≡ false
less-apart x y t = by_test (nat_eq x y) (λ e. let a = ltb-true x y t in let b = eqb-true x y e in absurd (omega (arith, a, b))) (λ f. f)

nat-ties : (x y : ℕ) → nat_eq x y ≡ eq_by_cmp nat_cmp x y
nat-ties x y = sym (by_less (nat_lt x y) (nat_eq x y) (less-apart x y))

then-ties : (o p : Ordering) → is_eq (ordering_then o p) ≡ (is_eq o && is_eq p)
then-ties Less p = refl
then-ties Equal p = refl
then-ties Greater p = refl

and-left : (a b : Bool) → (a && b) ≡ true → a ≡ true
and-left true b e = refl
and-left false b e = absurd cc

and-right : (a b : Bool) → (a && b) ≡ true → b ≡ true
and-right true b e = e
and-right false b e = absurd cc

-- ---- numbers
abbrev pub id_eq : NodeId → NodeId → Bool
id_eq a b = nat_eq a.0 b.0

pub ids-order : (mid new : List NodeId) → IsSorted id_cmp mid → new ≡ dedup id_eq mid → IsStrictlySortedBy id_cmp new
ids-order mid new sorted is =
    subst (IsStrictlySortedBy id_cmp) (sym is)
    (IsStrictlySortedBy-dedup {R = id_cmp} (on_total (λ (a : NodeId). a.0) nat_cmp_total) {E = id_eq} (λ x y. nat-ties x.0 y.0) mid sorted)

pub ids-same : (old mid new : List NodeId) → IsPermutation old mid → new ≡ dedup id_eq mid → (x : NodeId) → Contains new x ↔ Contains old x
ids-same = same-members {E = id_eq} (on_equiv (λ (a : NodeId). a.0) nat_eq_equiv) (λ x y t. named_by x y (eqb-true x.0 y.0 t))

-- ---- pairs
abbrev pub pair_eq : NodeId × NodeId → NodeId × NodeId → Bool
pair_eq p q = nat_eq p.0.0 q.0.0 && nat_eq p.1.0 q.1.0

pair-ties : (p q : NodeId × NodeId) → pair_eq p q ≡ eq_by_cmp pair_cmp p q
pair-ties p q =
    (λ i. nat-ties p.0.0 q.0.0 i && nat-ties p.1.0 q.1.0 i) ∙ sym (then-ties (nat_cmp p.0.0 q.0.0) (nat_cmp p.1.0 q.1.0))

pair-exact : (p q : NodeId × NodeId) → pair_eq p q ≡ true → p ≡ q
pair-exact p q t =
    let a = named_by p.0 q.0 (eqb-true p.0.0 q.0.0 (and-left (nat_eq p.0.0 q.0.0) (nat_eq p.1.0 q.1.0) t)) in
    let b = named_by p.1 q.1 (eqb-true p.1.0 q.1.0 (and-right (nat_eq p.0.0 q.0.0) (nat_eq p.1.0 q.1.0) t)) in
    (λ i. (a i, b i))

pub pairs-order : (mid new : List (NodeId × NodeId)) → IsSorted pair_cmp mid → new ≡ dedup pair_eq mid → IsStrictlySortedBy pair_cmp new
pairs-order mid new sorted is =
    subst (IsStrictlySortedBy pair_cmp) (sym is)
    (IsStrictlySortedBy-dedup {R = pair_cmp} (then_total (on_total (λ (p : NodeId × NodeId). p.0.0) nat_cmp_total) (on_total (λ (p : NodeId × NodeId). p.1.0) nat_cmp_total))
    {E = pair_eq} pair-ties mid sorted)

pub pairs-same : (old mid new : List (NodeId × NodeId)) → IsPermutation old mid → new ≡ dedup pair_eq mid → (x : NodeId × NodeId) → Contains new x ↔ Contains old x
pairs-same =
    same-members {E = pair_eq} (and_equiv (on_equiv (λ (p : NodeId × NodeId). p.0.0) nat_eq_equiv) (on_equiv (λ (p : NodeId × NodeId). p.1.0) nat_eq_equiv)) pair-exact
