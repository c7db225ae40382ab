-- Tables of words.
use Rattle.std.proofs.Common.{◌≡◌, ◌<◌, ℕ, arith, slice_index_or, slice_get, ap, sym, subst}
use Rattle.std.proofs.Common.{◌∙◌, List, [], ◌∷◌, ◌++◌, All, true, Some, Contains, position}
use Rattle.std.specs.List.{list_any, IsDistinct}
use Rattle.std.proofs.lemmas.Bool.{ltb-true, ltb-false}
use Rattle.std.specs.Prelude.{nat_lt, unwrap_or, ◌↔◌}
use Rattle.std.proofs.lemmas.List.{length-append, get_or_append_left}
use Rattle.std.proofs.lemmas.List.Elements.{All-push}
use Rattle.std.proofs.lemmas.List.Folds.{list_any_at}
use Rattle.std.proofs.lemmas.List.Quantifiers.{position-Some}
use Rattle.std.proofs.lemmas.Map.Made.{AllPairs-from_IsDistinct}
use Rattle.std.proofs.lemmas.Option.{slice_get_within, get_or_from_slice_get, slice_get-get_or}
use Rattle.location_words.specs.declared.pair.Pair.{Pair}
use Rattle.location_words.specs.Pairs.{pairs_eq, IsHeldWord}
use Rattle.location_words.specs.Equal.{pairs_decide}
use Rattle.location_words.specs.Tables.{entered, IsTable}
use Rattle.lists.proofs.Cases.{by_test}

abbrev pub Table : Type 0
Table = List (List Pair)

-- what is read by place
read-append : (t : Table) (w v : List Pair) (i : ℕ) → slice_get t i ≡ Some v → slice_get (t ++ w ∷ []) i ≡ Some v
read-append t w v i h =
    let lt = slice_get_within t i v h in
    slice_get-get_or (t ++ w ∷ []) i v (rw length-append (omega (arith, lt))) ∙
    ap Some (get_or_append_left t (w ∷ []) v i lt ∙ get_or_from_slice_get t i v v h)

pub entered-kept : (t : Table) (w v : List Pair) (i : ℕ) → slice_get t i ≡ Some v → slice_get (entered t w) i ≡ Some v
entered-kept t w v i h = by_test (list_any (pairs_eq w) t) (λ e. rw e h) (λ e. rw e (read-append t w v i h))

entered-words : (t : Table) (w : List Pair) → All IsHeldWord t → IsHeldWord w → All IsHeldWord (entered t w)
entered-words t w h k = by_test (list_any (pairs_eq w) t) (λ e. rw e h) (λ e. rw e (All-push IsHeldWord t w h k))

-- a word that is read at a place is found
pub found-at : (t : Table) (w : List Pair) (i : ℕ) → slice_get t i ≡ Some w → list_any (pairs_eq w) t ≡ true
found-at t w i h =
    list_any_at (pairs_eq w) t i w (slice_get_within t i w h)
    ((pairs_decide w (slice_index_or t i w)).1 (sym (get_or_from_slice_get t i w w h)))

pub found-contained : (t : Table) (w : List Pair) → Contains t w → list_any (pairs_eq w) t ≡ true
found-contained t w c = list_any_at (pairs_eq w) t c.0 w c.1 ((pairs_decide w (slice_index_or t c.0 w)).1 (sym c.2))

pub position-at : (t : Table) (w : List Pair) (i : ℕ) → position (pairs_eq w) t ≡ Some i → slice_get t i ≡ Some w
position-at t w i h =
    let p = position-Some (pairs_eq w) t i w h in
    slice_get-get_or t i w p.0 ∙ ap Some (sym ((pairs_decide w (slice_index_or t i w)).0 p.1))

-- no word has two places
pub distinct-places : (t : Table) → IsDistinct pairs_eq t → (i j : ℕ) (w : List Pair) → slice_get t i ≡ Some w →
    slice_get t j ≡ Some w → i ≡ j
distinct-places t d i j w h k =
    by_test (nat_lt i j)
    (λ e. absurd (apart i j w h k (ltb-true i j e)))
    (λ e. by_test (nat_lt j i)
    (λ f. absurd (apart j i w k h (ltb-true j i f)))
    (λ f. let a = ltb-false i j e in let b = ltb-false j i f in omega (arith, a, b)))
  where
    apart : (i j : ℕ) (w : List Pair) → slice_get t i ≡ Some w → slice_get t j ≡ Some w → i < j → ⊥
    apart i j w h k lt =
        AllPairs-from_IsDistinct pairs_decide t d i j w lt (slice_get_within t j w k)
        (get_or_from_slice_get t i w w h ∙ sym (get_or_from_slice_get t j w w k))

pub entered-table : (t n : Table) (w : List Pair) → n ≡ entered t w → IsTable t → IsHeldWord w → IsDistinct pairs_eq n →
    IsTable n
entered-table t n w e h k d = record {
  identity = subst (λ l. slice_get l 0 ≡ Some []) (sym e) (entered-kept t w [] 0 h.identity);
  words = subst (All IsHeldWord) (sym e) (entered-words t w h.words k);
  distinct = distinct-places n d;
}

pub same-number : (n : Table) (w : List Pair) (at : ℕ) → slice_get n at ≡ Some w → IsDistinct pairs_eq n →
    (i : ℕ) (v : List Pair) → slice_get n i ≡ Some v → (i ≡ at) ↔ (v ≡ w)
same-number n w at h d i v k = (
  λ e. some-same (sym k ∙ ap (slice_get n) e ∙ h),
  λ e. distinct-places n d i at w (k ∙ ap Some e) h,
)
  where
    some-same : {v w : List Pair} → Some v ≡ Some w → v ≡ w
    some-same {v} {w} e = ap (λ o. unwrap_or o v) e
