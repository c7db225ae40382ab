-- Keys tell uses apart, and are put in order.
use Rattle.std.proofs.Common.{◌≡◌, ◌∙◌, refl, sym, ap, subst, ℕ, zero, suc, nat_eq, nat_lt}
use Rattle.std.specs.Prelude.{◌↔◌, ◌&&◌, Bool, true, false, cond, List, [], ◌∷◌, map, IsPermutation, IsSorted}
use Rattle.std.specs.Cmp.{IsTotalOrder}
use Rattle.std.specs.Cmp.Lexicographic.{pointwise}
use Rattle.std.specs.Ordering.{nat_cmp, ordering_then}
use Rattle.std.specs.declared.cmp.Ordering.{Ordering}
use Rattle.std.specs.declared.cmp.Ordering.TheVariants.{Less, Equal, Greater}
use Rattle.std.proofs.lemmas.Bool.{eqb-true, eq-eqb}
use Rattle.std.proofs.lemmas.Cmp.{nat_cmp_total, on_total, then_total}
use Rattle.std.proofs.lemmas.List.Sorted.{IsPermutation-map, IsPermutation-sym, IsPermutation-trans}
use Rattle.orientation.specs.declared.turn.Turn.{Turn}
use Rattle.orientation.specs.declared.turn.Turn.TheVariants.{Forward, Reversed, Internal, External}
use Rattle.shape_pool.specs.declared.node.UseOf.{UseOf}
use Rattle.shape_pool.specs.Rows.{Row}
use Rattle.sewing.specs.Asked.{ends_at, HaveSameEnds}
use Rattle.sewing.specs.Keys.{Key, key_cmp, key_of, keys_at, number_of}
use Rattle.sewing.proofs.SortedSame.{sorted-same}
use Rattle.sewing.proofs.Unmapped.{unmapped}

-- ---- the order of keys
equal-below : (b e : Bool) → cond b Less (cond e Equal Greater) ≡ Equal → e ≡ true
equal-below true e h = absurd cc
equal-below false true h = refl
equal-below false false h = absurd cc

nat-exact : (x y : ℕ) → nat_cmp x y ≡ Equal → x ≡ y
nat-exact x y h = eqb-true x y (equal-below (nat_lt x y) (nat_eq x y) h)

then-exact : (o p : Ordering) → ordering_then o p ≡ Equal → (o ≡ Equal) × (p ≡ Equal)
then-exact Less p h = absurd cc
then-exact Equal p h = (refl, h)
then-exact Greater p h = absurd cc

pub key-total : IsTotalOrder key_cmp
key-total =
    then_total
    (then_total (on_total (λ (k : Key). k.0) nat_cmp_total) (on_total (λ (k : Key). k.1) nat_cmp_total))
    (on_total (λ (k : Key). k.2) nat_cmp_total)

pub key-exact : (a b : Key) → key_cmp a b ≡ Equal → a ≡ b
key-exact a b h =
    let outer = then-exact (ordering_then (nat_cmp a.0 b.0) (nat_cmp a.1 b.1)) (nat_cmp a.2 b.2) h in
    let inner = then-exact (nat_cmp a.0 b.0) (nat_cmp a.1 b.1) outer.0 in
    let p = nat-exact a.0 b.0 inner.0 in
    let q = nat-exact a.1 b.1 inner.1 in
    let r = nat-exact a.2 b.2 outer.1 in
    (λ i. (p i, q i, r i))

-- ---- the test of keys
abbrev pub key_eq : Key → Key → Bool
key_eq a b = (nat_eq a.0 b.0 && nat_eq a.1 b.1) && nat_eq a.2 b.2

and-parts : (a b : Bool) → (a && b) ≡ true → (a ≡ true) × (b ≡ true)
and-parts true b e = (refl, e)
and-parts false b e = absurd cc

and-both : (a b : Bool) → a ≡ true → b ≡ true → (a && b) ≡ true
and-both a b e f = (λ i. e i && f i)

key_eq-exact : (a b : Key) → key_eq a b ≡ true → a ≡ b
key_eq-exact a b e =
    let outer = and-parts (nat_eq a.0 b.0 && nat_eq a.1 b.1) (nat_eq a.2 b.2) e in
    let inner = and-parts (nat_eq a.0 b.0) (nat_eq a.1 b.1) outer.0 in
    let p = eqb-true a.0 b.0 inner.0 in
    let q = eqb-true a.1 b.1 inner.1 in
    let r = eqb-true a.2 b.2 outer.1 in
    (λ i. (p i, q i, r i))

key_eq-itself : (a : Key) → key_eq a a ≡ true
key_eq-itself a =
    and-both (nat_eq a.0 a.0 && nat_eq a.1 a.1) (nat_eq a.2 a.2)
    (and-both (nat_eq a.0 a.0) (nat_eq a.1 a.1) (eq-eqb a.0 a.0 refl) (eq-eqb a.1 a.1 refl)) (eq-eqb a.2 a.2 refl)

pub keys-same : (xs ys : List Key) → pointwise key_eq xs ys ≡ true → xs ≡ ys
keys-same [] [] e = refl
keys-same [] (y ∷ ys) e = absurd cc
keys-same (x ∷ xs) [] e = absurd cc
keys-same (x ∷ xs) (y ∷ ys) e =
    let parts = and-parts (key_eq x y) (pointwise key_eq xs ys) e in
    let first = key_eq-exact x y parts.0 in
    let others = keys-same xs ys parts.1 in
    (λ i. first i ∷ others i)

pub keys-itself : (xs : List Key) → pointwise key_eq xs xs ≡ true
keys-itself [] = refl
keys-itself (x ∷ xs) = and-both (key_eq x x) (pointwise key_eq xs xs) (key_eq-itself x) (keys-itself xs)

-- ---- keys tell uses apart
turn_at : ℕ → Turn
turn_at zero = Forward
turn_at (suc zero) = Reversed
turn_at (suc (suc zero)) = Internal
turn_at (suc (suc (suc n))) = External

turn-back : (t : Turn) → turn_at (number_of t) ≡ t
unfolding turn_at
turn-back Forward = refl
turn-back Reversed = refl
turn-back Internal = refl
turn-back External = refl

use_at : Key → UseOf
use_at k = record { turn = turn_at k.0; place = record { 0 = k.1 }; id = record { 0 = k.2 } }

use-back : (u : UseOf) → use_at (key_of u) ≡ u
unfolding use_at
use-back u = let t = turn-back u.turn in (λ i. record { turn = t i; place = u.place; id = u.id })

pub use-exact : (u v : UseOf) → key_of u ≡ key_of v → u ≡ v
use-exact u v h = sym (use-back u) ∙ ap use_at h ∙ use-back v

keys-back : (us vs : List UseOf) → IsPermutation (map key_of us) (map key_of vs) → IsPermutation us vs
keys-back us vs p = unmapped key_of us vs (λ u v m n e. use-exact u v e) p

-- ---- ends are the same exactly where they are one list in order
pub ends-same : (rows : List Row) (first : ℕ) (sign : Turn) (second : ℕ) (own ends : List Key) →
    IsPermutation (keys_at rows Forward first) ends → IsSorted key_cmp ends →
    IsPermutation (keys_at rows sign second) own → IsSorted key_cmp own →
    (own ≡ ends) ↔ HaveSameEnds rows first sign second
ends-same rows first sign second own ends pe se po so =
    let a = keys_at rows Forward first in
    let b = keys_at rows sign second in (
      (λ e. keys-back (ends_at rows Forward first) (ends_at rows sign second)
          (IsPermutation-trans a own b (subst (λ l. IsPermutation a l) (sym e) pe) (IsPermutation-sym b own po))),
      (λ h. sorted-same key_cmp key-total key-exact own ends so se
          (IsPermutation-trans own b ends (IsPermutation-sym b own po)
          (IsPermutation-trans b a ends
          (IsPermutation-sym a b
          (IsPermutation-map key_of (ends_at rows Forward first) (ends_at rows sign second) h)) pe))),
    )
