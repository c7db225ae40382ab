-- High shapes noted for low ones.
use Rattle.std.proofs.Common.{◌≡◌, ◌∙◌, ◌≤◌, ◌+◌, refl, sym, ap, subst, arith, inl, inr, true≢false}
use Rattle.std.specs.Prelude.{◌↔◌, ◌||◌, ◌&&◌, ℕ, zero, suc, nat_eq, not, Bool, true, false, if◌then◌else◌, List, [], ◌∷◌, ◌++◌, map, take, length, Contains, Some, slice_get, unwrap_or}
use Rattle.std.specs.List.{filter, list_any, sum_by, position}
use Rattle.std.proofs.Common.{set, get_or}
use Rattle.std.proofs.lemmas.Option.{slice_get-get_or, slice_get_within}
use Rattle.std.proofs.lemmas.List.Quantifiers.{position-Some}
use Rattle.std.proofs.lemmas.List.Sums.{sum_by-set}
use Rattle.lists.proofs.Places.{same_entry}
use Rattle.location_words.specs.declared.pair.Pair.{Pair}
use Rattle.shape_pool.specs.Rows.{Row}
use Rattle.std.proofs.lemmas.Bool.{eqb-true}
use Rattle.std.proofs.Common.{eq-eqb}
use Rattle.std.proofs.lemmas.List.{length-append}
use Rattle.std.proofs.lemmas.List.Folds.{list_any-append}
use Rattle.std.proofs.lemmas.List.Elements.{Contains-push_cases}
use Rattle.std.proofs.lemmas.Grind.{common_steps}
use Rattle.std.proofs.Common.{append_assoc}
use Rattle.lists.specs.Distinct.{IsDistinct}
use Rattle.lists.proofs.Cases.{by_test}
use Rattle.lists.proofs.Members.{Contains-here, Contains-there, Contains-map, Contains-none}
use Rattle.lists.proofs.Places.{take-at, Contains-at, place_of, taken-row}
use Rattle.lists.proofs.Tests.{list_any-contains, list_any-found}
use Rattle.subshape_maps.specs.declared.shape.ShapeAt.{ShapeAt}
use Rattle.subshape_maps.specs.declared.above.AboveOne.{AboveOne}
use Rattle.subshape_maps.specs.Shapes.{shape_eq, first_places, first_places_after}
use Rattle.subshape_maps.specs.Numbered.{at_eq, shape_by, occurrences_by, Meets}
use Rattle.subshape_maps.proofs.FirstPlaces.{append-none, more-distinct}
use Rattle.subshape_maps.proofs.MetLemmas.{ShapesAreTold}
use Rattle.lists.proofs.Entries.{slice_get-mapped}
use Rattle.subshape_maps.specs.declared.fault.MapFault.{MapFault}
use Rattle.subshape_maps.specs.declared.fault.MapFault.TheVariants.{Word, Keys, Pairs, NoMemory}
use Rattle.location_words.specs.Tables.{IsTable}
use Rattle.shape_pool.specs.Rows.{HasPlaces}
use Rattle.shape_pool.specs.Laws.{IsSound}
use Rattle.std.specs.Prelude.{drop}
use Rattle.std.proofs.lemmas.List.{length-map, take-append-drop}
use Rattle.std.proofs.lemmas.List.Elements.{filter-append}
use Rattle.subshape_maps.specs.Shapes.{Shape, occurrences_of}
use Rattle.subshape_maps.specs.Numbered.{shapes_by, IsHeldAt, AreHeld, Grows}
use Rattle.orientation.specs.declared.kind.Kind.{Kind}
use Rattle.shape_pool.specs.declared.node.UseOf.{UseOf}
use Rattle.lists.proofs.Members.{Contains-map_cases}
use Rattle.lists.proofs.Tests.{Contains-filter_cases}
use Rattle.shape_pool.specs.Rows.{HaveKinds}
use Rattle.subshape_maps.specs.Numbered.{root_at, IsMap}
use Rattle.subshape_maps.specs.Refusals.{AreMet}
use Rattle.subshape_maps.proofs.NumberLemmas.{shapes-stay, held-stay}
use Rattle.subshape_maps.specs.Above.{above_of, pairs_by, IsAboveMap, IsDueAbove, a_row, an_above, above_by, with_high, noted, all_noted, is_among, is_above_at, rows_of, stands_above, counted, pairs_of, Above, HaveLows, IsPastPairs}
use Rattle.subshape_maps.proofs.FirstPlaces.{more-cases, more-in}
use Rattle.subshape_maps.proofs.NumberLemmas.{any-same, same-tests, shape-stays, still-held, places-stay, same_test}
use Rattle.subshape_maps.proofs.ListLemmas.{filter-mapped, one-kept, one-dropped}

-- ---- numbered shapes are one where their numbers are
and-left : (a b : Bool) → (a && b) ≡ true → a ≡ true
and-left true b e = refl
and-left false b e = absurd cc

and-right : (a b : Bool) → (a && b) ≡ true → b ≡ true
and-right true b e = e
and-right false b e = absurd cc

pub at-told : (a b : ShapeAt) → (at_eq a b ≡ true) ↔ (a ≡ b)
at-told a b = (
  (λ e.
      let id = eqb-true a.id.0 b.id.0 (and-left (nat_eq a.id.0 b.id.0) (nat_eq a.word.0 b.word.0) e) in
      let word = eqb-true a.word.0 b.word.0 (and-right (nat_eq a.id.0 b.id.0) (nat_eq a.word.0 b.word.0) e) in
      λ i. record { id = record { 0 = id i }; word = record { 0 = word i } }),
  (λ e. rw (eq-eqb a.id.0 b.id.0 (ap (λ (s : ShapeAt). s.id.0) e), eq-eqb a.word.0 b.word.0 (ap (λ (s : ShapeAt). s.word.0) e)) refl),
)

pub apart : (a b : ShapeAt) → (a ≡ b → ⊥) → at_eq a b ≡ false
apart a b n = by_test (at_eq a b) (λ e. absurd (n ((at-told a b).0 e))) (λ e. e)

pub same-at : (a b : ShapeAt) → a ≡ b → at_eq a b ≡ true
same-at a b e = (at-told a b).1 e

-- ---- maps that agree
pub map-agree : {X Y : Type 0} (f g : X → Y) (xs : List X) → ((x : X) → Contains xs x → f x ≡ g x) → map f xs ≡ map g xs
map-agree f g [] h = refl
map-agree f g (x ∷ xs) h =
    ap (λ y. y ∷ map f xs) (h x (Contains-here x xs)) ∙ ap (λ l. g x ∷ l) (map-agree f g xs (λ y m. h y (Contains-there x y xs m)))

pub map-itself : {X : Type 0} (f : X → X) (xs : List X) → ((x : X) → Contains xs x → f x ≡ x) → map f xs ≡ xs
map-itself f [] h = refl
map-itself f (x ∷ xs) h = ap (λ y. y ∷ map f xs) (h x (Contains-here x xs)) ∙ ap (λ l. x ∷ l) (map-itself f xs (λ y m. h y (Contains-there x y xs m)))

pub map-twice : {X Y Z : Type 0} (g : Y → Z) (f : X → Y) (xs : List X) → map g (map f xs) ≡ map (λ x. g (f x)) xs
map-twice g f [] = refl
map-twice g f (x ∷ xs) = ap (λ l. g (f x) ∷ l) (map-twice g f xs)

-- ---- one low shape
pub none-noted : (at h : ShapeAt) (rows : List AboveOne) → (Contains (map (λ (r : AboveOne). r.low) rows) at → ⊥) → noted at h rows ≡ rows
none-noted at h rows n = map-itself (λ (r : AboveOne). if at_eq r.low at then with_high h r else r) rows
    (λ r m. rw (apart r.low at (λ e. n (subst (λ s. Contains (map (λ (r : AboveOne). r.low) rows) s) e (Contains-map (λ (r : AboveOne). r.low) r rows m)))) refl)

pub noted-at : (at h : ShapeAt) (rows : List AboveOne) (k : ℕ) (r : AboveOne) → IsDistinct (map (λ (r : AboveOne). r.low) rows) → slice_get rows k ≡ Some r → r.low ≡ at →
    set rows k (with_high h r) ≡ noted at h rows
noted-at at h [] k r d e is = absurd cc
noted-at at h (r0 ∷ rows) zero r d e is =
    let same : r0 ≡ r = ap (λ o. unwrap_or o r0) e in
    let hit : at_eq r0.low at ≡ true = same-at r0.low at (ap (λ (s : AboveOne). s.low) same ∙ is) in
    let rest = none-noted at h rows (λ m. d.0 (subst (λ s. Contains (map (λ (q : AboveOne). q.low) rows) s) (sym (ap (λ (s : AboveOne). s.low) same ∙ is)) m)) in
    rw hit (ap (λ (s : AboveOne). with_high h s ∷ rows) (sym same) ∙ ap (λ l. with_high h r0 ∷ l) (sym rest))
noted-at at h (r0 ∷ rows) (suc k) r d e is =
    let there : Contains (map (λ (q : AboveOne). q.low) rows) at = subst (λ s. Contains (map (λ (q : AboveOne). q.low) rows) s) is (Contains-map (λ (q : AboveOne). q.low) r rows (Contains-at rows k r e)) in
    let miss : at_eq r0.low at ≡ false = apart r0.low at (λ f. d.0 (subst (λ s. Contains (map (λ (q : AboveOne). q.low) rows) s) (sym f) there)) in
    rw miss (ap (λ l. r0 ∷ l) (noted-at at h rows k r d.1 e is))

-- ---- many
lows-kept : (p : ShapeAt → Bool) (h : ShapeAt) (rows : List AboveOne) → map (λ (r : AboveOne). r.low) (map (λ (r : AboveOne). if p r.low then with_high h r else r) rows) ≡ map (λ (r : AboveOne). r.low) rows
lows-kept p h [] = refl
lows-kept p h (r ∷ rows) = by_test (p r.low)
    (λ e. rw e (ap (λ l. r.low ∷ l) (lows-kept p h rows)))
    (λ e. rw e (ap (λ l. r.low ∷ l) (lows-kept p h rows)))

pub still-lows : (keys : List ShapeAt) (h : ShapeAt) (index : List ShapeAt) (rows : List AboveOne) → HaveLows index rows → HaveLows index (all_noted keys h rows)
still-lows keys h index rows l = record { lows_are = lows-kept (is_among keys h) h rows ∙ l.lows_are; once = l.once }

or-none : (b : Bool) → (b || false) ≡ b
or-none true = refl
or-none false = refl

from-taken : {X : Type 0} (xs : List X) (n : ℕ) (y : X) → Contains (take n xs) y → Contains xs y
from-taken xs n y m = let r = place_of (take n xs) y m in Contains-at xs r.0 y (taken-row xs n r.0 y r.1).0

-- distinct things aren't among those before them
not-before : (keys : List ShapeAt) (i : ℕ) (x : ShapeAt) → IsDistinct keys → slice_get keys i ≡ Some x → list_any (at_eq x) (take i keys) ≡ false
not-before [] i x d e = absurd cc
not-before (k ∷ keys) zero x d e = refl
not-before (k ∷ keys) (suc i) x d e =
    let miss : at_eq x k ≡ false = apart x k (λ f. d.0 (subst (λ s. Contains keys s) f (Contains-at keys i x e))) in
    rw miss (not-before keys i x d.1 e)

-- one key more, which is the high shape itself or another
among-more : (keys : List ShapeAt) (i : ℕ) (x h l : ShapeAt) → slice_get keys i ≡ Some x → is_among (take (i + 1) keys) h l ≡ ((list_any (at_eq l) (take i keys) || at_eq l x) && not (at_eq l h))
among-more keys i x h l e =
    ap (λ (ks : List ShapeAt). list_any (at_eq l) ks && not (at_eq l h)) (take-at keys i x e) ∙
    ap (λ b. b && not (at_eq l h)) (list_any-append (at_eq l) (take i keys) (x ∷ []) ∙ ap (λ b. list_any (at_eq l) (take i keys) || b) (or-none (at_eq l x)))

-- where the key is another, the high shape is noted for it
pub more-noted : (keys : List ShapeAt) (i : ℕ) (x h : ShapeAt) (rows : List AboveOne) → IsDistinct keys → slice_get keys i ≡ Some x → (x ≡ h → ⊥) →
    noted x h (all_noted (take i keys) h rows) ≡ all_noted (take (i + 1) keys) h rows
more-noted keys i x h rows d e n =
    map-twice (λ (r : AboveOne). if at_eq r.low x then with_high h r else r) (λ (r : AboveOne). if is_among (take i keys) h r.low then with_high h r else r) rows ∙
    map-agree _ _ rows (λ r m. step r)
  where
    other : not (at_eq x h) ≡ true
    other = ap not (apart x h n)

    step : (r : AboveOne) → (if at_eq (if is_among (take i keys) h r.low then with_high h r else r).low x then with_high h (if is_among (take i keys) h r.low then with_high h r else r) else (if is_among (take i keys) h r.low then with_high h r else r)) ≡
        (if is_among (take (i + 1) keys) h r.low then with_high h r else r)
    step r = by_test (at_eq r.low x)
        (λ t.
        let same : r.low ≡ x = (at-told r.low x).0 t in
        let none : list_any (at_eq r.low) (take i keys) ≡ false = subst (λ s. list_any (at_eq s) (take i keys) ≡ false) (sym same) (not-before keys i x d e) in
        let far : not (at_eq r.low h) ≡ true = subst (λ s. not (at_eq s h) ≡ true) (sym same) other in
        let was : is_among (take i keys) h r.low ≡ false = rw none refl in
        let now : is_among (take (i + 1) keys) h r.low ≡ true = among-more keys i x h r.low e ∙ rw (none, t, far) refl in
        rw (was, now) (rw t refl))
        (λ t.
        let now : is_among (take (i + 1) keys) h r.low ≡ is_among (take i keys) h r.low = among-more keys i x h r.low e ∙ rw t (ap (λ b. b && not (at_eq r.low h)) (or-none (list_any (at_eq r.low) (take i keys)))) in
        by_test (is_among (take i keys) h r.low)
        (λ k. rw (now ∙ k, k) (rw t refl))
        (λ k. rw (now ∙ k, k) (rw t refl)))

-- where the key is the high shape itself, nothing is noted
pub same-noted : (keys : List ShapeAt) (i : ℕ) (x h : ShapeAt) (rows : List AboveOne) → slice_get keys i ≡ Some x → x ≡ h → all_noted (take i keys) h rows ≡ all_noted (take (i + 1) keys) h rows
same-noted keys i x h rows e same = map-agree _ _ rows (λ r m. ap (λ b. if b then with_high h r else r) (sym (now r.low)))
  where
    now : (l : ShapeAt) → is_among (take (i + 1) keys) h l ≡ is_among (take i keys) h l
    now l = among-more keys i x h l e ∙ subst (λ s. ((list_any (at_eq l) (take i keys) || at_eq l s) && not (at_eq l h)) ≡ (list_any (at_eq l) (take i keys) && not (at_eq l h))) (sym same)
        (by-both (list_any (at_eq l) (take i keys)) (at_eq l h))
      where
        by-both : (a b : Bool) → ((a || b) && not b) ≡ (a && not b)
        by-both true true = refl
        by-both true false = refl
        by-both false true = refl
        by-both false false = refl

pub none-among : (h : ShapeAt) (rows : List AboveOne) → rows ≡ all_noted [] h rows
none-among h rows = sym (map-itself (λ (r : AboveOne). if is_among [] h r.low then with_high h r else r) rows (λ r m. refl))

-- ---- how many pairs
pub counted-at : (h : ShapeAt) (rows : List AboveOne) (k : ℕ) (r : AboveOne) → slice_get rows k ≡ Some r → counted (set rows k (with_high h r)) ≡ counted rows + 1
counted-at h rows k r e =
    let within = slice_get_within rows k r e in
    let a = sum_by-set (λ (q : AboveOne). length q.high) rows k (with_high h r) r within in
    let b = same_entry (slice_get-get_or rows k r within) e in
    let c = ap (λ (q : AboveOne). length q.high) b in
    let d = length-append r.high (h ∷ []) in
    omega (arith, a, c, d)

sum-cons : {X : Type 0} (f : X → ℕ) (x : X) (xs : List X) → sum_by f (x ∷ xs) ≡ f x + sum_by f xs
sum-cons f x xs = grind (arith, common_steps)

pub counted-more : (p q : ShapeAt → Bool) (h : ShapeAt) (rows : List AboveOne) → ((l : ShapeAt) → p l ≡ true → q l ≡ true) →
    counted (map (λ (r : AboveOne). if p r.low then with_high h r else r) rows) ≤ counted (map (λ (r : AboveOne). if q r.low then with_high h r else r) rows)
counted-more p q h [] imp = omega arith
counted-more p q h (r ∷ rows) imp =
    let rest = counted-more p q h rows imp in
    let a = sum-cons (λ (s : AboveOne). length s.high) (if p r.low then with_high h r else r) (map (λ (s : AboveOne). if p s.low then with_high h s else s) rows) in
    let b = sum-cons (λ (s : AboveOne). length s.high) (if q r.low then with_high h r else r) (map (λ (s : AboveOne). if q s.low then with_high h s else s) rows) in
    let c : length (if p r.low then with_high h r else r).high ≤ length (if q r.low then with_high h r else r).high =
    by_test (p r.low)
    (λ t. let k = imp r.low t in rw (t, k) (omega arith))
    (λ t. rw t (by_test (q r.low) (λ k. rw k (omega (arith, length-append r.high (h ∷ [])))) (λ k. rw k (omega arith)))) in
    omega (arith, rest, a, b, c)

-- where one high shape is noted beyond the limit, so are all
pub counted-whole : (keys : List ShapeAt) (i : ℕ) (x h : ShapeAt) (rows : List AboveOne) → slice_get keys i ≡ Some x →
    counted (all_noted (take (i + 1) keys) h rows) ≤ counted (all_noted keys h rows)
counted-whole keys i x h rows e = counted-more (is_among (take (i + 1) keys) h) (is_among keys h) h rows (λ l t.
    let a = and-left (list_any (at_eq l) (take (i + 1) keys)) (not (at_eq l h)) t in
    let b = and-right (list_any (at_eq l) (take (i + 1) keys)) (not (at_eq l h)) t in
    let r = list_any-found (at_eq l) (take (i + 1) keys) a in
    let k : list_any (at_eq l) keys ≡ true = list_any-contains (at_eq l) r.0 keys (from-taken keys (i + 1) r.0 r.1) r.2 in
    rw (k, b) refl)

-- the low shape at a place
pub place-is : (rows : List AboveOne) (keys : List ShapeAt) (at : ShapeAt) (k : ℕ) (r : AboveOne) → map (λ (q : AboveOne). q.low) rows ≡ keys → position (at_eq at) keys ≡ Some k →
    slice_get rows k ≡ Some r → r.low ≡ at
place-is rows keys at k r lows p e =
    let f = position-Some (at_eq at) keys k at p in
    let low : slice_get keys k ≡ Some r.low = subst (λ l. slice_get l k ≡ Some r.low) lows (slice_get-mapped (λ (q : AboveOne). q.low) rows k r e) in
    same_entry low (slice_get-get_or keys k at f.0) ∙ sym ((at-told at (get_or keys k at)).0 f.1)

-- ---- numbers that stand for distinct shapes are distinct
distinct-below : {X Y : Type 0} (f : X → Y) (xs : List X) → IsDistinct (map f xs) → IsDistinct xs
distinct-below f [] d = tt
distinct-below f (x ∷ xs) d = ((λ m. d.0 (Contains-map f x xs m)), distinct-below f xs d.1)

pub met-distinct : ShapesAreTold → (old new : List (List Pair)) (rows : List Row) (seen : List ShapeAt) (at : ShapeAt) → Meets old new rows [] seen at → IsDistinct seen
met-distinct told old new rows seen at m =
    distinct-below (shape_by new rows) seen (subst (λ l. IsDistinct l) (sym m.shapes) (more-distinct shape_eq told [] (occurrences_by old rows at) tt))

pub indexed-is : (xs : List ShapeAt) → IsDistinct xs → first_places at_eq xs ≡ xs
indexed-is xs d = go [] xs (λ x m n. Contains-none x n) d
  where
    go : (met xs : List ShapeAt) → ((x : ShapeAt) → Contains xs x → Contains met x → ⊥) → IsDistinct xs → first_places_after at_eq met xs ≡ met ++ xs
    go met [] n d = sym (append-none met)
    go met (x ∷ xs) n d =
        let fresh : list_any (at_eq x) met ≡ false = by_test (list_any (at_eq x) met)
        (λ t. let r = list_any-found (at_eq x) met t in absurd (n x (Contains-here x xs) (subst (λ s. Contains met s) (sym ((at-told x r.0).0 r.2)) r.1)))
        (λ t. t) in
        let rest = go (met ++ x ∷ []) xs (λ y m k. elim (Contains-push_cases met x y k) [
          | inl h ↦ n y (Contains-there x y xs m) h
          | inr e ↦ d.0 (subst (λ s. Contains xs s) (sym e) m)
        ]) d.1 in
        let glued : (met ++ x ∷ []) ++ xs ≡ met ++ (x ∷ xs) = simp append_assoc in
        rw fresh (rest ∙ glued)

-- what is past the limit stays past it
pub past-more : (m n : ℕ) (fault : MapFault) → m ≤ n → IsPastPairs m fault → IsPastPairs n fault
past-more m n (Word f) h p = p
past-more m n (Keys k) h p = p
past-more m n (Pairs k) h p = ((let q = p.0 in omega (arith, h, q)), p.1)
past-more m n NoMemory h p = p

-- the rows without high shapes, and with one more
pub alone-rows : (table : List (List Pair)) (rows : List Row) (lows : List ShapeAt) → map (λ (s : ShapeAt). a_row s []) lows ≡ rows_of table rows lows []
alone-rows table rows lows = refl

pub rows-lows : (table : List (List Pair)) (rows : List Row) (lows highs : List ShapeAt) → map (λ (r : AboveOne). r.low) (rows_of table rows lows highs) ≡ lows
rows-lows table rows lows highs = map-twice (λ (r : AboveOne). r.low) (λ l. a_row l (filter (is_above_at table rows l) highs)) lows ∙ map-itself (λ l. l) lows (λ l m. refl)

pub counted-none : (table : List (List Pair)) (rows : List Row) (lows : List ShapeAt) → 0 ≡ counted (rows_of table rows lows [])
counted-none table rows [] = refl
counted-none table rows (l ∷ lows) =
    let rest = counted-none table rows lows in
    let a = sum-cons (λ (r : AboveOne). length r.high) (a_row l []) (rows_of table rows lows []) in
    omega (arith, rest, a)

filter-taken : (p : ShapeAt → Bool) (n : ℕ) (xs : List ShapeAt) → length (filter p (take n xs)) ≤ length (filter p xs)
filter-taken p n xs =
    let a = ap (λ l. length (filter p l)) (sym (take-append-drop n xs)) in
    let b = ap length (filter-append p (take n xs) (drop n xs)) in
    let c = length-append (filter p (take n xs)) (filter p (drop n xs)) in
    omega (arith, a, b, c)

pub counted-taken : (table : List (List Pair)) (rows : List Row) (lows highs : List ShapeAt) (n : ℕ) → counted (rows_of table rows lows (take n highs)) ≤ counted (rows_of table rows lows highs)
counted-taken table rows [] highs n = omega arith
counted-taken table rows (l ∷ lows) highs n =
    let rest = counted-taken table rows lows highs n in
    let a = sum-cons (λ (r : AboveOne). length r.high) (a_row l (filter (is_above_at table rows l) (take n highs))) (rows_of table rows lows (take n highs)) in
    let b = sum-cons (λ (r : AboveOne). length r.high) (a_row l (filter (is_above_at table rows l) highs)) (rows_of table rows lows highs) in
    let c = filter-taken (is_above_at table rows l) n highs in
    omega (arith, rest, a, b, c)

-- ---- one high shape more
any-first : (told : ShapesAreTold) (s : Shape) (xs : List Shape) → list_any (shape_eq s) (first_places shape_eq xs) ≡ list_any (shape_eq s) xs
any-first told s xs = same_test (list_any (shape_eq s) (first_places shape_eq xs)) (list_any (shape_eq s) xs)
    (λ e.
    let r = list_any-found (shape_eq s) (first_places shape_eq xs) e in
    elim (more-cases shape_eq told [] xs r.0 r.1) [ inl h ↦ absurd (Contains-none r.0 h) | inr h ↦ list_any-contains (shape_eq s) r.0 xs h r.2 ])
    (λ e.
    let r = list_any-found (shape_eq s) xs e in
    list_any-contains (shape_eq s) r.0 (first_places shape_eq xs) (more-in shape_eq told [] xs r.0 r.1) r.2)

module _ (rows : List Row) (sound : IsSound rows) (told : ShapesAreTold) (table : List (List Pair)) (t : IsTable table) (places : HasPlaces rows (length table)) where
  among-is : (mid new : List (List Pair)) (h l : ShapeAt) (keys : List ShapeAt) → Grows table mid → Grows mid new → IsTable new → IsHeldAt table rows h → IsHeldAt table rows l →
      Meets mid new rows [] keys h → is_among keys h l ≡ is_above_at table rows l h
  among-is mid new h l keys g k tn hh hl met =
      let far : Grows table new = λ i w e. k i w (g i w e) in
      let here : shape_by new rows l ≡ shape_by table rows l = shape-stays table new far rows sound places l hl in
      let there : shape_by mid rows h ≡ shape_by table rows h = shape-stays table mid g rows sound places h hh in
      let held : IsHeldAt new rows l = (hl.0, still-held table new far l.word.0 hl.1) in
      let a = any-same rows sound told new tn (places-stay table new far rows places) keys l met.held held in
      let b : list_any (at_eq l) keys ≡ list_any (shape_eq (shape_by table rows l)) (occurrences_of (shape_by table rows h)) =
      a ∙ (λ i. list_any (shape_eq (here i)) (met.shapes i)) ∙ any-first told (shape_by table rows l) (occurrences_by mid rows h) ∙
      ap (λ (s : Shape). list_any (shape_eq (shape_by table rows l)) (occurrences_of s)) there in
      let c = same-tests rows sound told table t places l h hl hh in
      λ i. b i && not (c i)

  pub high-noted : (mid new : List (List Pair)) (lows highs : List ShapeAt) (i : ℕ) (h : ShapeAt) (keys : List ShapeAt) → Grows table mid → Grows mid new → IsTable new →
      AreHeld table rows lows → AreHeld table rows highs → slice_get highs i ≡ Some h → Meets mid new rows [] keys h →
      all_noted keys h (rows_of table rows lows (take i highs)) ≡ rows_of table rows lows (take (i + 1) highs)
  high-noted mid new lows highs i h keys g k tn hl hh e met =
      map-twice (λ (r : AboveOne). if is_among keys h r.low then with_high h r else r) (λ l. a_row l (filter (is_above_at table rows l) (take i highs))) lows ∙
      map-agree _ _ lows (λ l m. step l (among-is mid new h l keys g k tn (hh h (Contains-at highs i h e)) (hl l m) met))
    where
      step : (l : ShapeAt) → is_among keys h l ≡ is_above_at table rows l h →
          (if is_among keys h l then with_high h (a_row l (filter (is_above_at table rows l) (take i highs))) else a_row l (filter (is_above_at table rows l) (take i highs))) ≡
          a_row l (filter (is_above_at table rows l) (take (i + 1) highs))
      step l same = by_test (is_above_at table rows l h)
          (λ f. rw (same ∙ f) (ap (a_row l) (sym (one-kept (is_above_at table rows l) highs i h e f))))
          (λ f. rw (same ∙ f) (ap (a_row l) (sym (one-dropped (is_above_at table rows l) highs i h e f))))

-- ---- what the rows stand for
pub above-is : (table : List (List Pair)) (rows : List Row) (lows highs : List ShapeAt) (ml mh : List Shape) → shapes_by table rows lows ≡ ml → shapes_by table rows highs ≡ mh →
    map (above_by table rows) (rows_of table rows lows highs) ≡ map (λ s. an_above s (filter (stands_above s) mh)) ml
above-is table rows lows highs ml mh el eh =
    map-twice (above_by table rows) (λ l. a_row l (filter (is_above_at table rows l) highs)) lows ∙
    map-agree _ _ lows (λ l m. ap (an_above (shape_by table rows l)) (filter-mapped (is_above_at table rows l) (stands_above (shape_by table rows l)) (shape_by table rows) highs (λ h k. refl) ∙ ap (filter (stands_above (shape_by table rows l))) eh)) ∙
    sym (map-twice (λ s. an_above s (filter (stands_above s) mh)) (shape_by table rows) lows) ∙
    ap (map (λ s. an_above s (filter (stands_above s) mh))) el

pub counted-is : (table : List (List Pair)) (rows : List Row) (above : List AboveOne) → counted above ≡ pairs_of (map (above_by table rows) above)
counted-is table rows [] = refl
counted-is table rows (r ∷ above) =
    let rest = counted-is table rows above in
    let a = sum-cons (λ (q : AboveOne). length q.high) r above in
    let b = sum-cons (λ (q : Above). length q.high) (above_by table rows r) (map (above_by table rows) above) in
    let c = length-map r.high (shape_by table rows) in
    omega (arith, rest, a, b, c)

pub differ : (a b : ShapeAt) (r : Bool) → r ≡ not (at_eq a b) → r ≡ true → a ≡ b → ⊥
differ a b r is t e = true≢false (sym t ∙ is ∙ ap not (same-at a b e))

pub alike : (a b : ShapeAt) (r : Bool) → r ≡ not (at_eq a b) → r ≡ false → a ≡ b
alike a b r is f = (at-told a b).0 (by-test (at_eq a b) (sym is ∙ f))
  where
    by-test : (t : Bool) → not t ≡ false → t ≡ true
    by-test true e = refl
    by-test false e = absurd (true≢false e)

-- ---- the whole
pub kept-held : (table : List (List Pair)) (rows : List Row) (p : ShapeAt → Bool) (seen shapes : List ShapeAt) → AreHeld table rows seen → shapes ≡ filter p seen → AreHeld table rows shapes
kept-held table rows p seen shapes h is s m = h s (Contains-filter_cases p seen s (subst (λ (l : List ShapeAt). Contains l s) is m)).0

pub due-above : (shapes : List Shape) (m n : ℕ) (fault : MapFault) → AreMet [] shapes → m ≡ n → IsPastPairs m fault → IsDueAbove shapes n fault
due-above shapes m n (Word f) met e p = absurd p
due-above shapes m n (Keys k) met e p = absurd p
due-above shapes m n (Pairs k) met e p = (met, (let q = p.0 in omega (arith, e, q)), p.1)
due-above shapes m n NoMemory met e p = tt

module _ (rows : List Row) (sound : IsSound rows) (mid new : List (List Pair)) (grows : Grows mid new) (places : HasPlaces rows (length mid)) (root : UseOf) (low high : Kind)
    (lows highs : List ShapeAt) (ml : IsMap mid rows root (Some low) lows) (mh : IsMap mid rows root (Some high) highs) where
  pub pairs-are : (old : List (List Pair)) → Grows old mid → HasPlaces rows (length old) → IsHeldAt old rows (root_at root) → (kind : ℕ → Kind) → HaveKinds rows kind →
      counted (rows_of mid rows lows highs) ≡ pairs_by old rows root kind low high
  pairs-are old g pl h kind kinds =
      counted-is mid rows (rows_of mid rows lows highs) ∙ ap pairs_of (above-is mid rows lows highs _ _ (ml.map_is kind kinds) (mh.map_is kind kinds)) ∙
      ap (λ (s : Shape). pairs_of (above_of kind low high s.word s.tree)) (shape-stays old mid g rows sound pl (root_at root) h)

  stays-above : (r : AboveOne) → Contains (rows_of mid rows lows highs) r → above_by new rows r ≡ above_by mid rows r
  stays-above r m =
      let c = Contains-map_cases (λ l. a_row l (filter (is_above_at mid rows l) highs)) r lows m in
      let l : ShapeAt = c.0 in
      let one = shape-stays mid new grows rows sound places l (ml.held l c.1) in
      let many = shapes-stay mid new grows rows sound places (filter (is_above_at mid rows l) highs) (kept-held mid rows (is_above_at mid rows l) highs _ mh.held refl) in
      subst (λ (q : AboveOne). above_by new rows q ≡ above_by mid rows q) c.2 (λ i. an_above (one i) (many i))

  pub ancestors-are : (above : List AboveOne) → IsHeldAt mid rows (root_at root) → above ≡ rows_of mid rows lows highs → IsAboveMap new rows root low high above
  ancestors-are above h is = record {
    lows_held = λ r m.
        let c = Contains-map_cases (λ l. a_row l (filter (is_above_at mid rows l) highs)) r lows (subst (λ (l : List AboveOne). Contains l r) is m) in
        let k = ml.held c.0 c.1 in
        subst (λ (q : AboveOne). IsHeldAt new rows q.low) c.2 (k.0, still-held mid new grows c.0.word.0 k.1);
    highs_held = λ r m.
        let c = Contains-map_cases (λ l. a_row l (filter (is_above_at mid rows l) highs)) r lows (subst (λ (l : List AboveOne). Contains l r) is m) in
        subst (λ (q : AboveOne). AreHeld new rows q.high) c.2
        (held-stay mid new grows rows sound places (filter (is_above_at mid rows c.0) highs) (kept-held mid rows (is_above_at mid rows c.0) highs _ mh.held refl));
    above_is = λ kind kinds.
        ap (map (above_by new rows)) is ∙ map-agree (above_by new rows) (above_by mid rows) (rows_of mid rows lows highs) stays-above ∙
        above-is mid rows lows highs _ _ (ml.map_is kind kinds) (mh.map_is kind kinds) ∙
        ap (λ (s : Shape). above_of kind low high s.word s.tree) (sym (shape-stays mid new grows rows sound places (root_at root) h));
  }
