-- Live requests where one more is given, and the lists in which a table keeps them.
use Rattle.std.proofs.Common.{◌≡◌, ◌≢◌, ◌≤◌, ◌<◌, ◌+◌, ◌⊎◌, ℕ, zero, suc, Bool, true, false, List, ◌++◌}
use Rattle.std.proofs.Common.{◌∷◌, [], length, set, arith, sym, ◌∙◌, ap, subst, refl, slice_get}
use Rattle.std.proofs.Common.{slice_index_or, Option, Some, None, inl, inr, Vec, Global, true≢false, eq-eqb}
use Rattle.std.specs.Prelude.{nat_eq, nat_lt, filter, cond, not, ◌||◌, if◌then◌else◌}
use Rattle.std.specs.Prelude.{position, unwrap_or, Result, Ok, Err, OnOk, OnErr}
use Rattle.std.specs.List.{list_any, position_or_len}
use Rattle.std.proofs.lemmas.Bool.{eqb-true, ltb-false}
use Rattle.std.proofs.lemmas.List.{append-nil}
use Rattle.std.proofs.lemmas.List.Folds.{list_any-append}
use Rattle.std.proofs.lemmas.List.Elements.{filter-append}
use Rattle.std.proofs.lemmas.Option.{slice_get-get_or}
use Rattle.indexmap.specs.IndexSet.{insert_key}
use Rattle.requests.specs.declared.request.Request.{Request}
use Rattle.requests.specs.Numbered.{is_plain, is_for, from_last_plain, with_live, live_at}
use Rattle.requests.specs.Indexed.{items_of, list_at, place_of, listed_at, IsSpared}
use Rattle.lists.proofs.Cases.{by_test}
use Rattle.lists.proofs.Places.{at_place, slice_get-set, slice_get-set-other}

pub nat_eq-self : (n : ℕ) → nat_eq n n ≡ true
nat_eq-self n = eq-eqb n n refl

pub nat_eq-other : (i j : ℕ) → i ≢ j → nat_eq i j ≡ false
nat_eq-other i j n = by_test (nat_eq i j) (λ e. absurd (n (eqb-true i j e))) (λ e. e)

-- ---- one more request
from_last-push : (rs : List Request) (r : Request) → from_last_plain (rs ++ r ∷ []) ≡ with_live (from_last_plain rs) r
from_last-push [] r = go (is_plain r)
  where
    go : (b : Bool) → r ∷ [] ≡ (if b then r ∷ [] else r ∷ [])
    go true = refl
    go false = refl
from_last-push (x ∷ xs) r =
    go (list_any is_plain xs) (is_plain r) (list_any is_plain (xs ++ r ∷ [])) (from_last_plain xs)
    (from_last_plain (xs ++ r ∷ []))
    (list_any-append is_plain xs (r ∷ [])) (from_last-push xs r)
  where
    go : (a b d : Bool) (l m : List Request) → d ≡ (a || (b || false)) → m ≡ (if b then r ∷ [] else l ++ r ∷ []) →
        (if d then m else x ∷ (xs ++ r ∷ [])) ≡ (if b then r ∷ [] else (if a then l else x ∷ xs) ++ r ∷ [])
    go true true d l m e k = ap (λ t. if t then m else x ∷ (xs ++ r ∷ [])) e ∙ k
    go true false d l m e k = ap (λ t. if t then m else x ∷ (xs ++ r ∷ [])) e ∙ k
    go false true d l m e k = ap (λ t. if t then m else x ∷ (xs ++ r ∷ [])) e ∙ k
    go false false d l m e k = ap (λ t. if t then m else x ∷ (xs ++ r ∷ [])) e

pub live-source : (rs : List Request) (r : Request) →
    live_at (rs ++ r ∷ []) r.source.0 ≡ with_live (live_at rs r.source.0) r
live-source rs r =
    ap from_last_plain (filter-append (is_for r.source.0) rs (r ∷ []) ∙
    ap (λ (b : Bool). filter (is_for r.source.0) rs ++ (if b then r ∷ [] else [])) (nat_eq-self r.source.0)) ∙
    from_last-push (filter (is_for r.source.0) rs) r

pub live-others : (rs : List Request) (r : Request) (i : ℕ) → i ≢ r.source.0 → live_at (rs ++ r ∷ []) i ≡ live_at rs i
live-others rs r i n =
    ap from_last_plain (filter-append (is_for i) rs (r ∷ []) ∙
    ap (λ (b : Bool). filter (is_for i) rs ++ (if b then r ∷ [] else [])) (nat_eq-other r.source.0 i (λ e. n (sym e))) ∙
    append-nil (filter (is_for i) rs))

-- ---- places among the sources
pub place-le : (xs : List ℕ) (i : ℕ) → place_of xs i ≤ length xs
place-le [] i = omega arith
place-le (x ∷ xs) i = go (nat_eq i x) (place-le xs i)
  where
    go : (b : Bool) → place_of xs i ≤ length xs → cond (not b) (1 + place_of xs i) 0 ≤ suc (length xs)
    go true h = omega arith
    go false h = omega (arith, h)

place-found : (xs : List ℕ) (i : ℕ) → list_any (nat_eq i) xs ≡ true → place_of xs i < length xs
place-found [] i e = absurd cc
place-found (x ∷ xs) i e = go (nat_eq i x) e (place-found xs i)
  where
    go : (b : Bool) → (b || list_any (nat_eq i) xs) ≡ true →
        (list_any (nat_eq i) xs ≡ true → place_of xs i < length xs) →
        cond (not b) (1 + place_of xs i) 0 < suc (length xs)
    go true k rest = omega arith
    go false k rest = let h = rest k in omega (arith, h)

place-same : (xs : List ℕ) (i v : ℕ) → place_of xs i ≡ place_of xs v → place_of xs i < length xs → i ≡ v
place-same [] i v e h = absurd (omega arith)
place-same (x ∷ xs) i v e h = go (nat_eq i x) (nat_eq v x) refl refl e h (place-same xs i v)
  where
    go : (b d : Bool) → nat_eq i x ≡ b → nat_eq v x ≡ d →
        cond (not b) (1 + place_of xs i) 0 ≡ cond (not d) (1 + place_of xs v) 0 →
        cond (not b) (1 + place_of xs i) 0 < suc (length xs) →
        (place_of xs i ≡ place_of xs v → place_of xs i < length xs → i ≡ v) → i ≡ v
    go true true p q k l rest = eqb-true i x p ∙ sym (eqb-true v x q)
    go true false p q k l rest = absurd (omega (arith, k))
    go false true p q k l rest = absurd (omega (arith, k))
    go false false p q k l rest = rest (omega (arith, k)) (omega (arith, l))

place-push : (xs : List ℕ) (v : ℕ) → place_of (xs ++ v ∷ []) v ≡ place_of xs v
place-push [] v = ap (λ b. cond (not b) (1 + 0) 0) (nat_eq-self v)
place-push (x ∷ xs) v = go (nat_eq v x) (place-push xs v)
  where
    go : (b : Bool) → place_of (xs ++ v ∷ []) v ≡ place_of xs v →
        cond (not b) (1 + place_of (xs ++ v ∷ []) v) 0 ≡ cond (not b) (1 + place_of xs v) 0
    go true e = refl
    go false e = ap (λ (n : ℕ). 1 + n) e

place-push-other : (xs : List ℕ) (v i : ℕ) → i ≢ v →
    ((place_of xs i < length xs) × (place_of (xs ++ v ∷ []) i ≡ place_of xs i)) ⊎
    ((length xs ≤ place_of xs i) × (length xs < place_of (xs ++ v ∷ []) i))
place-push-other [] v i n =
    inr (omega arith, subst (λ b. 0 < cond (not b) (1 + 0) 0) (sym (nat_eq-other i v n)) (omega arith))
place-push-other (x ∷ xs) v i n = go (nat_eq i x) (place-push-other xs v i n)
  where
    go : (b : Bool) →
        ((place_of xs i < length xs) × (place_of (xs ++ v ∷ []) i ≡ place_of xs i)) ⊎
        ((length xs ≤ place_of xs i) × (length xs < place_of (xs ++ v ∷ []) i)) →
        ((cond (not b) (1 + place_of xs i) 0 < suc (length xs)) ×
        (cond (not b) (1 + place_of (xs ++ v ∷ []) i) 0 ≡ cond (not b) (1 + place_of xs i) 0)) ⊎
        ((suc (length xs) ≤ cond (not b) (1 + place_of xs i) 0) ×
        (suc (length xs) < cond (not b) (1 + place_of (xs ++ v ∷ []) i) 0))
    go true rest = inl (omega arith, refl)
    go false rest = elim rest [
      | inl h ↦ inl (let a = h.0 in omega (arith, a), ap (λ (m : ℕ). 1 + m) h.1)
      | inr h ↦ inr (let a = h.0 in omega (arith, a), let b = h.1 in omega (arith, b))
    ]

-- what an insertion does to places: the number has its own, and another number has its own or is no source
record Moves (xs ys : List ℕ) (v : ℕ) : Type 0 where
  own : place_of ys v ≡ place_of xs v
  within : place_of xs v < length ys
  longer : length xs ≤ length ys
  by_one : length ys ≤ suc (length xs)
  apart : (i : ℕ) → i ≢ v → place_of ys i ≢ place_of xs v
  others : (i : ℕ) → i ≢ v → (place_of ys i ≡ place_of xs i) ⊎
      ((length xs ≤ place_of ys i) × (length xs ≤ place_of xs i))

stays : (xs : List ℕ) (v : ℕ) → list_any (nat_eq v) xs ≡ true → Moves xs xs v
stays xs v e = record {
  own = refl;
  within = place-found xs v e;
  longer = omega arith;
  by_one = omega arith;
  apart = λ i n k. n (place-same xs i v k (let h = place-found xs v e in omega (arith, h, k)));
  others = λ i n. inl refl;
}

length-push : (xs : List ℕ) (v : ℕ) → length (xs ++ v ∷ []) ≡ suc (length xs)
length-push [] v = refl
length-push (x ∷ xs) v = ap suc (length-push xs v)

goes_last : (xs : List ℕ) (v : ℕ) → Moves xs (xs ++ v ∷ []) v
goes_last xs v =
    let long = length-push xs v in let p = place-le xs v in record {
      own = place-push xs v;
      within = omega (arith, long, p);
      longer = omega (arith, long);
      by_one = omega (arith, long);
      apart = λ i n k. elim (place-push-other xs v i n) [
        | inl h ↦ n (place-same xs i v (sym h.1 ∙ k) h.0)
        | inr h ↦ let a = h.1 in absurd (omega (arith, a, p, k))
      ];
      others =
          λ i n.
          elim (place-push-other xs v i n) [ inl h ↦ inl h.1 | inr h ↦ inr (let a = h.1 in omega (arith, a), h.0) ];
    }

moves : (xs : List ℕ) (v : ℕ) → Moves xs (insert_key nat_eq xs v) v
moves xs v = go (list_any (nat_eq v) xs) refl
  where
    go : (b : Bool) → list_any (nat_eq v) xs ≡ b → Moves xs (if b then xs else xs ++ v ∷ []) v
    go true e = stays xs v e
    go false e = goes_last xs v

-- the lists where the one of a number is exchanged, once the number is a source
pub record IsNoted (xs ys : List ℕ) (live new : List (Vec Request Global)) (v : ℕ) (l : List Request) : Type 0 where
  pub spared : IsSpared ys new
  pub own : listed_at ys new v ≡ l
  pub others : (i : ℕ) → i ≢ v → listed_at ys new i ≡ listed_at xs live i

pub noted : (xs : List ℕ) (live : List (Vec Request Global)) (v : ℕ) (x : Vec Request Global) → IsSpared xs live →
    length xs < length live →
    IsNoted xs (insert_key nat_eq xs v) live (set live (place_of xs v) x) v x.items
noted xs live v x spared room =
    let m = moves xs v in
    let ys : List ℕ = insert_key nat_eq xs v in
    let p : ℕ = place_of xs v in
    let within : p < length live = let h = place-le xs v in omega (arith, h, room) in
    let other : (k : ℕ) → p ≢ k → list_at (set live p x) k ≡ list_at live k =
    λ k n. ap items_of (slice_get-set-other live p k x n) in record {
      spared = record {
        long = let a = m.by_one in let b = length-set live p x in omega (arith, a, b, room);
        empty =
            λ k h. other k (λ e. let a = m.within in omega (arith, a, e, h)) ∙
            spared.empty k (let a = m.longer in omega (arith, a, h));
      };
      own = ap (list_at (set live p x)) m.own ∙ ap items_of (let r = at_place live p within in slice_get-set live p x r.0 r.1);
      others = λ i n. other (place_of ys i) (λ e. m.apart i n (sym e)) ∙ elim (m.others i n) [
        | inl e ↦ ap (list_at live) e
        | inr h ↦ spared.empty (place_of ys i) h.0 ∙ sym (spared.empty (place_of xs i) h.1)
      ];
    }
  where
    length-set : {X : Type 0} (l : List X) (i : ℕ) (a : X) → length (set l i a) ≡ length l
    length-set [] i a = refl
    length-set (y ∷ l) zero a = refl
    length-set (y ∷ l) (suc i) a = ap suc (length-set l i a)

-- an empty list more at the end
pub list_at-spare : (live : List (Vec Request Global)) (none : Vec Request Global) → none.items ≡ [] → (k : ℕ) →
    list_at (live ++ none ∷ []) k ≡ list_at live k
list_at-spare [] none e zero = e
list_at-spare [] none e (suc k) = refl
list_at-spare (l ∷ live) none e zero = refl
list_at-spare (l ∷ live) none e (suc k) = list_at-spare live none e k

-- the same where a list more was made first
pub noted-as : (xs ys : List ℕ) (old live : List (Vec Request Global)) (v place : ℕ) (x : Vec Request Global) →
    IsSpared xs old → length xs < length live →
    ys ≡ insert_key nat_eq xs v → place ≡ place_of xs v → ((k : ℕ) → list_at live k ≡ list_at old k) →
    IsNoted xs ys old (set live place x) v x.items
noted-as xs ys old live v place x spared room keys at same =
    let made : IsSpared xs live = record { long = omega (arith, room); empty = λ k h. same k ∙ spared.empty k h } in
    let n = noted xs live v x made room in
    subst (λ (zs : List ℕ). IsNoted xs zs old (set live place x) v x.items) (sym keys)
    (subst (λ (p : ℕ). IsNoted xs (insert_key nat_eq xs v) old (set live p x) v x.items) (sym at)
    (record { spared = n.spared; own = n.own; others = λ i d. n.others i d ∙ same (place_of xs i) }))

pub list_at-is : (live : List (Vec Request Global)) (k : ℕ) (x : Vec Request Global) → k < length live →
    x ≡ slice_index_or live k x →
    list_at live k ≡ x.items
list_at-is live k x h e = ap items_of (slice_get-get_or live k x h ∙ ap Some (sym e))

pub nat_eq-apart : (i j : ℕ) → nat_eq i j ≡ false → i ≢ j
nat_eq-apart i j e k = true≢false (sym (nat_eq-self j) ∙ ap (λ n. nat_eq n j) (sym k) ∙ e)

pub position-some : {X : Type 0} (p : X → Bool) (xs : List X) (k : ℕ) → position p xs ≡ Some k →
    k ≡ position_or_len p xs
position-some p xs k e = go (nat_lt (position_or_len p xs) (length xs)) e
  where
    go : (b : Bool) → cond b (Some (position_or_len p xs)) None ≡ Some k → k ≡ position_or_len p xs
    go true h = sym (ap (λ o. unwrap_or o k) h)
    go false h = absurd cc

pub position-none : {X : Type 0} (p : X → Bool) (xs : List X) → position p xs ≡ None → length xs ≤ position_or_len p xs
position-none p xs e = go (nat_lt (position_or_len p xs) (length xs)) refl e
  where
    go : (b : Bool) → nat_lt (position_or_len p xs) (length xs) ≡ b → cond b (Some (position_or_len p xs)) None ≡ None →
        length xs ≤ position_or_len p xs
    go true h k = absurd cc
    go false h k = ltb-false (position_or_len p xs) (length xs) h

pub on_ok : {A E P Q : Type 0} (r : Result A E) → (P → Q) → OnOk r P → OnOk r Q
on_ok (Ok x) f p = f p
on_ok (Err e) f p = tt

pub on_err : {A E P Q : Type 0} (r : Result A E) → (P → Q) → OnErr r P → OnErr r Q
on_err (Ok x) f p = tt
on_err (Err e) f p = f p
