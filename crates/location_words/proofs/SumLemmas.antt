-- One more pair onto the pairs so far.
use Rattle.std.proofs.Common.{◌≡◌, ◌+◌, ◌^◌, ◌≤◌, ◌<◌, ℕ, zero, suc, map, reverse, length, arith}
use Rattle.std.proofs.Common.{slice_index_or, ap, sym, subst, ◌∙◌, refl, List, [], ◌∷◌, ◌++◌, All, ℤ}
use Rattle.std.proofs.Common.{pos, negsuc, ◌+ℤ◌, to_z, of_z, w64, FitsSigned, true, false, eq-eqb}
use Rattle.std.proofs.Common.{ne_eqb, ltb-true, cond, Bool, ◌-◌, take, drop, append_assoc, Some, None}
use Rattle.std.specs.Prelude.{nat_abs, ltb}
use Rattle.std.specs.Int.{w128}
use lib.IntN.{sub_ℕ}
use Rattle.std.proofs.lemmas.Int.{ints, to_z-of_z}
use Rattle.std.specs.List.{fold}
use Rattle.std.proofs.lemmas.List.Sums.{fold-append}
use Rattle.std.proofs.lemmas.List.{map-append, reverse-append, reverse-reverse, take_more, take_all, take-append-drop}
use Rattle.std.proofs.lemmas.List.Elements.{All-nil, All-cons, All-head, All-tail, All-push, All-weaker}
use Rattle.std.proofs.Math.Seq.{get_or-append_seam}
use Rattle.std.proofs.Math.ListN.{get_or-append}
use Rattle.std.proofs.lemmas.List.{length-append}
use Rattle.location_words.specs.declared.pair.Pair.{Pair}
use Rattle.location_words.specs.declared.sum.Wide.{Wide}
use Rattle.location_words.specs.Sums.{as_pair, from_last}
use Rattle.location_words.specs.Pairs.{pair, is_zero, taken_onto, norm, most_power, AllSmall}
use Rattle.location_words.specs.Faults.{large_power}
use Rattle.location_words.proofs.WordLaws.{norm-norm}
use Rattle.location_words.proofs.FaultLemmas.{large-append, large-none}

pub from_last-push : (rest : List Wide) (q : Wide) → from_last (rest ++ q ∷ []) ≡ as_pair q ∷ from_last rest
from_last-push rest q =
    ap reverse (map-append as_pair rest (q ∷ [])) ∙ reverse-append (map as_pair rest) (as_pair q ∷ [])

pub not_zero-bits64 : (z : ℤ) → (of_z w64 z ≡ 0 → ⊥) → is_zero z ≡ false
not_zero-bits64 (pos zero) h = absurd (h refl)
not_zero-bits64 (pos (suc n)) h = refl
not_zero-bits64 (negsuc n) h = refl

pub not_zero-bits128 : (z : ℤ) → (of_z w128 z ≡ 0 → ⊥) → is_zero z ≡ false
not_zero-bits128 (pos zero) h = absurd (h refl)
not_zero-bits128 (pos (suc n)) h = refl
not_zero-bits128 (negsuc n) h = refl

pub fits-wide : (z : ℤ) → nat_abs z ≤ 2 ^ 126 + 2 ^ 63 → FitsSigned w128 z
fits-wide (pos n) h = omega (arith, ints)
fits-wide (negsuc n) h = omega (arith, ints)

pub fits-small : (z : ℤ) → nat_abs z ≤ 2 ^ 40 → FitsSigned w64 z
fits-small (pos n) h = omega (arith, ints)
fits-small (negsuc n) h = omega (arith, ints)

nat_abs-sub : (a b : ℕ) → nat_abs (sub_ℕ a b) ≤ a + b
nat_abs-sub a b = go (ltb a b) refl
  where
    go : (t : Bool) → ltb a b ≡ t → nat_abs (cond t (negsuc (b - suc a)) (pos (a - b))) ≤ a + b
    go true e = let lt = ltb-true a b e in omega arith
    go false e = omega arith

pub nat_abs-add : (a b : ℤ) (m n : ℕ) → nat_abs a ≤ m → nat_abs b ≤ n → nat_abs (a +ℤ b) ≤ m + n
nat_abs-add (pos a) (pos b) m n h k = omega arith
nat_abs-add (pos a) (negsuc b) m n h k = omega (arith, nat_abs-sub a (suc b))
nat_abs-add (negsuc a) (pos b) m n h k = omega (arith, nat_abs-sub b (suc a))
nat_abs-add (negsuc a) (negsuc b) m n h k = omega arith

pub nat_abs-64 : (z : ℤ) → FitsSigned w64 z → nat_abs z ≤ 2 ^ 63
nat_abs-64 (pos n) f = omega (arith, ints)
nat_abs-64 (negsuc n) f = omega (arith, ints)

pub All-last : (P : Wide → Type 0) (xs : List Wide) (x : Wide) → All P (xs ++ x ∷ []) → P x
All-last P xs x h = rw get_or-append_seam at (h (length xs) x (rw length-append (omega arith)))

pub All-front : (P : Wide → Type 0) (xs ys : List Wide) → All P (xs ++ ys) → All P xs
All-front P xs ys h k d lt = rw (get_or-append xs ys d k lt) at (h k d (rw length-append (omega arith)))

pub taken-sum : (rest old new : List Wide) (last q : Wide) (p : Pair) → old ≡ rest ++ last ∷ [] → new ≡ rest ++ q ∷ [] →
    is_zero p.power ≡ false → last.datum ≡ p.datum →
    q.datum ≡ last.datum → q.power ≡ last.power +ℤ p.power → is_zero (last.power +ℤ p.power) ≡ false →
    from_last new ≡ taken_onto (from_last old) p
taken-sum rest old new last q p o n z s d e y =
    ap from_last n ∙ from_last-push rest q ∙ (λ j. pair (d j) (e j) ∷ from_last rest) ∙
    sym (ap (λ l. taken_onto l p) (ap from_last o ∙ from_last-push rest last) ∙
    rw (z, eq-eqb last.datum p.datum s, y) refl)

pub taken-other : (rest old mid new : List Wide) (last q : Wide) (p : Pair) → old ≡ rest ++ last ∷ [] →
    mid ≡ rest ++ last ∷ [] → new ≡ mid ++ q ∷ [] → is_zero p.power ≡ false →
    (last.datum ≡ p.datum → ⊥) → q.datum ≡ p.datum → q.power ≡ p.power → from_last new ≡ taken_onto (from_last old) p
taken-other rest old mid new last q p o m n z s d e =
    ap from_last n ∙ from_last-push mid q ∙ (λ j. pair (d j) (e j) ∷ (ap from_last m ∙ from_last-push rest last) j) ∙
    sym (ap (λ l. taken_onto l p) (ap from_last o ∙ from_last-push rest last) ∙
    rw (z, ne_eqb last.datum p.datum s) refl)

-- the bound after one more pair
pub grown-sum : (rest old new : List Wide) (last q : Wide) (z : ℤ) → old ≡ rest ++ last ∷ [] → new ≡ rest ++ q ∷ [] →
    q.power ≡ last.power +ℤ z →
    (n : ℕ) → All (λ q. nat_abs q.power ≤ n) old → All (λ q. nat_abs q.power ≤ n + nat_abs z) new
grown-sum rest old new last q z o m e n h =
    let h' : All (λ q. nat_abs q.power ≤ n) (rest ++ last ∷ []) = subst (λ l. All (λ q. nat_abs q.power ≤ n) l) o h in
    let top : nat_abs q.power ≤ n + nat_abs z = rw e
    (nat_abs-add last.power z n (nat_abs z) (All-last (λ q. nat_abs q.power ≤ n) rest last h') (omega arith)) in
    subst (λ l. All (λ q. nat_abs q.power ≤ n + nat_abs z) l) (sym m)
    (All-push (λ q. nat_abs q.power ≤ n + nat_abs z) rest q
    (All-weaker (λ q. nat_abs q.power ≤ n) (λ q. nat_abs q.power ≤ n + nat_abs z) (λ q k. omega arith) rest
    (All-front (λ q. nat_abs q.power ≤ n) rest (last ∷ []) h')) top)

pub grown-other : (old new : List Wide) (q : Wide) (z : ℤ) → new ≡ old ++ q ∷ [] → q.power ≡ z → (n : ℕ) →
    All (λ q. nat_abs q.power ≤ n) old → All (λ q. nat_abs q.power ≤ n + nat_abs z) new
grown-other old new q z m e n h =
    let top : nat_abs q.power ≤ n + nat_abs z = rw e (omega arith) in
    subst (λ l. All (λ q. nat_abs q.power ≤ n + nat_abs z) l) (sym m)
    (All-push (λ q. nat_abs q.power ≤ n + nat_abs z) old q
    (All-weaker (λ q. nat_abs q.power ≤ n) (λ q. nat_abs q.power ≤ n + nat_abs z) (λ q k. omega arith) old h) top)

-- the sum as the code computes it
pub computed-sum : (a p : ℤ) → nat_abs a ≤ 2 ^ 126 → FitsSigned w64 p →
    to_z w128 (of_z w128 (to_z w128 (of_z w128 a) +ℤ to_z w128 (of_z w128 (to_z w64 (of_z w64 p))))) ≡ a +ℤ p
computed-sum a p h f =
    let b = nat_abs-64 p f in
    let fa : FitsSigned w128 a = fits-wide a (omega arith) in
    let fp : FitsSigned w128 p = fits-wide p (omega arith) in
    let fs : FitsSigned w128 (a +ℤ p) = fits-wide (a +ℤ p) (nat_abs-add a p (2 ^ 126) (2 ^ 63) h b) in
    rw (to_z-of_z w64 p f, to_z-of_z w128 a fa, to_z-of_z w128 p fp, to_z-of_z w128 (a +ℤ p) fs) refl

pub computed-one : (p : ℤ) → FitsSigned w64 p → to_z w128 (of_z w128 (to_z w64 (of_z w64 p))) ≡ p
computed-one p f =
    let b = nat_abs-64 p f in
    let fp : FitsSigned w128 p = fits-wide p (omega arith) in
    rw (to_z-of_z w64 p f, to_z-of_z w128 p fp) refl

pub computed-inner : (a p : ℤ) → nat_abs a ≤ 2 ^ 126 → FitsSigned w64 p →
    to_z w128 (of_z w128 a) +ℤ to_z w128 (of_z w128 (to_z w64 (of_z w64 p))) ≡ a +ℤ p
computed-inner a p h f =
    let b = nat_abs-64 p f in
    let fa : FitsSigned w128 a = fits-wide a (omega arith) in
    let fp : FitsSigned w128 p = fits-wide p (omega arith) in
    rw (to_z-of_z w64 p f, to_z-of_z w128 a fa, to_z-of_z w128 p fp) refl

pub fold-more : (start ps : List Pair) (i : ℕ) (d : Pair) → i < length ps →
    fold taken_onto start (take (i + 1) ps) ≡ taken_onto (fold taken_onto start (take i ps)) (slice_index_or ps i d)
fold-more start ps i d lt = ap (fold taken_onto start) (take_more ps i d lt) ∙
    fold-append taken_onto start (take i ps) (slice_index_or ps i d ∷ [])

-- what was taken onto nothing is the reduced list
pub reduced-norm : (start items : List Wide) (l : List Pair) → start ≡ [] →
    from_last items ≡ fold taken_onto (from_last start) l → map as_pair items ≡ norm l
reduced-norm start items l s e =
    sym (reverse-reverse (map as_pair items)) ∙ ap reverse (e ∙ ap (λ x. fold taken_onto (from_last x) l) s)

pub reduced-word : (items : List Wide) (l : List Pair) → map as_pair items ≡ norm l →
    norm (map as_pair items) ≡ map as_pair items
reduced-word items l e = ap norm e ∙ norm-norm l ∙ sym e

pub length-pairs : (items : List Wide) → length (map as_pair items) ≡ length items
length-pairs [] = refl
length-pairs (q ∷ items) = ap suc (length-pairs items)

-- a power as the code reads and narrows it
pub wide-size : (z : ℤ) → nat_abs z ≤ 2 ^ 126 → nat_abs (to_z w128 (of_z w128 z)) ≡ nat_abs z
wide-size z h =
    let f : FitsSigned w128 z = fits-wide z (omega arith) in
    rw (to_z-of_z w128 z f) refl

pub narrowed-power : (z : ℤ) → nat_abs z ≤ 2 ^ 40 → to_z w64 (of_z w64 (to_z w128 (of_z w128 z))) ≡ z
narrowed-power z h =
    let f : FitsSigned w128 z = fits-wide z (omega arith) in
    let g : FitsSigned w64 z = fits-small z h in
    rw (to_z-of_z w128 z f, to_z-of_z w64 z g) refl

-- ---- the innermost power past the limit, after the pairs before it
split-pairs : (items : List Wide) (i : ℕ) (d : Wide) → i < length items →
    map as_pair items ≡ map as_pair (take i items) ++ as_pair (slice_index_or items i d) ∷
    map as_pair (drop (i + 1) items)
split-pairs items i d lt =
    ap (map as_pair) (sym (take-append-drop (i + 1) items) ∙
    ap (λ l. l ++ drop (i + 1) items) (take_more items i d lt) ∙
    append_assoc (take i items) (slice_index_or items i d ∷ []) (drop (i + 1) items)) ∙
    map-append as_pair (take i items) (slice_index_or items i d ∷ drop (i + 1) items)

pub large-at : (items : List Wide) (i : ℕ) (d : Wide) (size : ℕ) → i < length items →
    All (λ q. nat_abs q.power ≤ 2 ^ 126) items → AllSmall (map as_pair (take i items)) →
    size ≡ nat_abs (to_z w128 (of_z w128 (slice_index_or items i d).power)) → most_power < size →
    large_power (map as_pair items) ≡ Some size
large-at items i d size lt fits small s big =
    let s' = s ∙ wide-size (slice_index_or items i d).power (fits i d lt) in
    ap large_power (split-pairs items i d lt) ∙
    large-append (map as_pair (take i items)) (map as_pair (drop (i + 1) items)) (as_pair (slice_index_or items i d))
    small (subst (λ n. most_power < n) s' big) ∙
    ap Some (sym s')

pub small-more : (items : List Wide) (i : ℕ) (d : Wide) (size : ℕ) → i < length items →
    All (λ q. nat_abs q.power ≤ 2 ^ 126) items → AllSmall (map as_pair (take i items)) →
    size ≡ nat_abs (to_z w128 (of_z w128 (slice_index_or items i d).power)) → size ≤ most_power →
    AllSmall (map as_pair (take (i + 1) items))
small-more items i d size lt fits small s few =
    let s' = s ∙ wide-size (slice_index_or items i d).power (fits i d lt) in
    subst AllSmall
    (sym (ap (map as_pair) (take_more items i d lt) ∙
    map-append as_pair (take i items) (slice_index_or items i d ∷ [])))
    (All-push (λ p. nat_abs p.power ≤ most_power) (map as_pair (take i items)) (as_pair (slice_index_or items i d))
    small (subst (λ n. n ≤ most_power) s' few))

pub small-all : (items : List Wide) (i : ℕ) → length items ≤ i → AllSmall (map as_pair (take i items)) →
    large_power (map as_pair items) ≡ None
small-all items i all small =
    ap (λ l. large_power (map as_pair l)) (sym (take_all i items all)) ∙ large-none (map as_pair (take i items)) small

pub small-pairs : (items : List Wide) → AllSmall (map as_pair items) →
    All (λ (q : Wide). nat_abs q.power ≤ 2 ^ 40) items
small-pairs [] h = All-nil (λ (q : Wide). nat_abs q.power ≤ 2 ^ 40)
small-pairs (q ∷ items) h =
    All-cons (λ (q : Wide). nat_abs q.power ≤ 2 ^ 40) q items
    (All-head (λ p. nat_abs p.power ≤ most_power) (as_pair q) (map as_pair items) h)
    (small-pairs items (All-tail (λ p. nat_abs p.power ≤ most_power) (as_pair q) (map as_pair items) h))

pub narrowed-more : (items : List Wide) (i : ℕ) (d : Wide) (old new : List Pair) → i < length items →
    All (λ (q : Wide). nat_abs q.power ≤ 2 ^ 40) items → old ≡ map as_pair (take i items) →
    new ≡ old ++ pair (slice_index_or items i d).datum
    (to_z w64 (of_z w64 (to_z w128 (of_z w128 (slice_index_or items i d).power)))) ∷ [] →
    new ≡ map as_pair (take (i + 1) items)
narrowed-more items i d old new lt small o n =
    n ∙
    (λ j. o j ++ pair (slice_index_or items i d).datum
    (narrowed-power (slice_index_or items i d).power (small i d lt) j) ∷ []) ∙
    sym (ap (map as_pair) (take_more items i d lt) ∙ map-append as_pair (take i items) (slice_index_or items i d ∷ []))
