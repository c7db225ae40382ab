-- One end more, and one node more that is gone through.
use Rattle.std.proofs.Common.{◌≡◌, ◌<◌, ◌≤◌, ◌+◌, ℕ, zero, suc, Bool, true, List, map, ◌++◌, ◌∷◌, [], All, Contains}
use Rattle.std.proofs.Common.{length, arith, refl, sym, ◌∙◌, ap, subst, Some, slice_get, nat_eq}
use Rattle.std.specs.Prelude.{if◌then◌else◌}
use Rattle.std.proofs.lemmas.Bool.{eqb-true}
use Rattle.std.specs.List.{list_any, range_with_len}
use Rattle.std.proofs.lemmas.List.FromFn.{length-range_with_len, get_or-range_with_len}
use Rattle.std.proofs.lemmas.List.{append-nil, get_or_append_left, map-append, append_assoc, length-append}
use Rattle.std.proofs.lemmas.List.Elements.{All-contains, All-nil, All-push, Contains-get_or}
use Rattle.std.proofs.lemmas.Option.{slice_get_within, get_or_from_slice_get}
use Rattle.lists.specs.Distinct.{IsDistinct}
use Rattle.lists.proofs.Cases.{same_or_not}
use Rattle.lists.proofs.Distinct.{IsDistinct-push, length-le_from_distinct}
use Rattle.lists.proofs.Each.{All-from_members}
use Rattle.lists.proofs.Tests.{list_any-contains}
use Rattle.indexmap.specs.IndexSet.{insert_key}
use Rattle.graph_walks.specs.Graph.{ends_of, AddsEnd}
use Rattle.shape_pool.specs.Rows.{Row}
use Rattle.requests.specs.Numbered.{Table}
use Rattle.requests.specs.Readings.{ends_at}
use Rattle.requests.specs.Reached.{met_at, AreMet, HasOneMore, IsGoneThrough}
use Rattle.lists.proofs.Cases.{by_test}
use Rattle.lists.proofs.Entries.{All-rest}
use Rattle.requests.proofs.LiveLaws.{nat_eq-self}

-- ---- numbers that were met keep their places
met-kept : (met more : List ℕ) (p : ℕ) → p < length met → met_at (met ++ more) p ≡ met_at met p
met-kept met more p h = get_or_append_left met more 0 p h

named-kept : (met more places : List ℕ) → All (λ p. p < length met) places →
    map (met_at (met ++ more)) places ≡ map (met_at met) places
named-kept met more [] all = refl
named-kept met more (p ∷ places) all =
    λ i. met-kept met more p (all 0 p (omega arith)) i ∷ named-kept met more places (All-rest (λ q. q < length met) p places all) i

wider : (met more places : List ℕ) → All (λ p. p < length met) places → All (λ p. p < length (met ++ more)) places
wider met more places all =
    let long = length-append met more in
    All-from_members (λ p. p < length (met ++ more)) places
    (λ p m. let h = All-contains (λ p. p < length met) places p all m in omega (arith, h, long))

-- one number is met, if it wasn't
pub inserted : (n x : ℕ) (met : List ℕ) → AreMet n met → x < n →
    (more : List ℕ) × (insert_key nat_eq met x ≡ met ++ more) × AreMet n (insert_key nat_eq met x)
inserted n x met are_met h = by_test (list_any (nat_eq x) met)
    (λ t. let same : insert_key nat_eq met x ≡ met = ap (λ (b : Bool). if b then met else met ++ x ∷ []) t in
    ([], same ∙ sym nothing, subst (AreMet n) (sym same) are_met))
    (λ f. let same : insert_key nat_eq met x ≡ met ++ x ∷ [] = ap (λ (b : Bool). if b then met else met ++ x ∷ []) f in (
      x ∷ [],
      same,
      subst (AreMet n) (sym same) (record {
        distinct = IsDistinct-push met x are_met.distinct
            (λ m. absurd (let t = list_any-contains (nat_eq x) x met m (nat_eq-self x) in cc));
        held = All-push (λ y. y < n) met x are_met.held h;
      }),
    ))
  where
    nothing : met ++ [] ≡ met
    nothing = append-nil met

-- ---- one end more
pub one-end : (n x place k : ℕ) (ends met : List ℕ) (graph : List (List ℕ)) (met' : List ℕ) (graph' : List (List ℕ)) (met'' : List ℕ)
    (graph'' : List (List ℕ)) → HasOneMore n ends met graph met' graph' → x < n → met'' ≡ insert_key nat_eq met' x →
    slice_get met'' place ≡ Some k → nat_eq x k ≡ true → AddsEnd graph' graph'' place →
    HasOneMore n (ends ++ x ∷ []) met graph met'' graph''
one-end n x place k ends met graph met' graph' met'' graph'' one h keys at same adds =
    let more = inserted n x met' one.are_met h in
    let long : met'' ≡ met' ++ more.0 = keys ∙ more.1 in
    let here : met_at met'' place ≡ x = get_or_from_slice_get met'' place k 0 at ∙ sym (eqb-true x k same) in
    let within : All (λ p. p < length met'') one.places = subst (λ m. All (λ p. p < length m) one.places) (sym long) (wider met' more.0 one.places one.within) in
    record {
      places = one.places ++ place ∷ [];
      added = adds graph one.places one.added;
      named = map-append (met_at met'') one.places (place ∷ []) ∙
          (λ i. (ap (λ m. map (met_at m) one.places) long ∙ named-kept met' more.0 one.places one.within ∙ one.named) i ++ here i ∷ []);
      within = All-push (λ p. p < length met'') one.places place within (slice_get_within met'' place k at);
      more = one.more ++ more.0;
      grown = long ∙ ap (λ m. m ++ more.0) one.grown ∙ append_assoc met one.more more.0;
      are_met = subst (AreMet n) (sym keys) more.2;
    }

-- ---- one node more
ends-left : (graph more : List (List ℕ)) (p : ℕ) → p < length graph → ends_of (graph ++ more) p ≡ ends_of graph p
ends-left [] more p h = absurd (omega (arith, h))
ends-left (ends ∷ graph) more zero h = refl
ends-left (ends ∷ graph) more (suc p) h = ends-left graph more p (omega (arith, h))

ends-last : (graph : List (List ℕ)) (places : List ℕ) → ends_of (graph ++ places ∷ []) (length graph) ≡ places
ends-last [] places = refl
ends-last (ends ∷ graph) places = ends-last graph places

pub ends-within : (n : ℕ) (graph : List (List ℕ)) → All (λ ends. All (λ p. p < n) ends) graph → (p : ℕ) →
    All (λ q. q < n) (ends_of graph p)
ends-within n [] h p = All-nil (λ q. q < n)
ends-within n (ends ∷ graph) h zero = h 0 ends (omega arith)
ends-within n (ends ∷ graph) h (suc p) = ends-within n graph (All-rest (λ ends. All (λ q. q < n) ends) ends graph h) p

pub one-node : (rows : List Row) (t : Table) (root : ℕ) (met : List ℕ) (graph : List (List ℕ)) (met' : List ℕ) (graph' : List (List ℕ)) →
    IsGoneThrough rows t root met graph → length graph < length met →
    HasOneMore (length rows) (ends_at rows t (met_at met (length graph))) met graph met' graph' →
    IsGoneThrough rows t root met' graph' × (length graph' ≡ length graph + 1)
one-node rows t root met graph met' graph' gone left one =
    let longer = ap length one.grown in
    let sum = length-append met one.more in
    let count : length graph' ≡ length graph + 1 = ap length one.added ∙ length-append graph (one.places ∷ []) in
    let kept : (p : ℕ) → p < length met → met_at met' p ≡ met_at met p =
    λ p h. ap (λ m. met_at m p) one.grown ∙ met-kept met one.more p h in
    let some = gone.some in (
      record {
        some = omega (arith, some, longer, sum);
        first = kept 0 some ∙ gone.first;
        are_met = one.are_met;
        few = omega (arith, count, left, longer, sum);
        within = subst (λ g. All (λ ends. All (λ p. p < length met') ends) g) (sym one.added)
            (All-push (λ ends. All (λ p. p < length met') ends) graph one.places
            (All-from_members (λ ends. All (λ p. p < length met') ends) graph
            (λ ends m. subst (λ l. All (λ p. p < length l) ends) (sym one.grown)
            (wider met one.more ends (All-contains (λ ends. All (λ p. p < length met) ends) graph ends gone.within m))))
            one.within);
        ends = λ p h. same_or_not p (length graph)
            (λ e. ap (ends_at rows t) (ap (met_at met') e ∙ kept (length graph) left) ∙ sym one.named ∙
            sym (ap (map (met_at met')) (ap (ends_of graph') e ∙ ap (λ g. ends_of g (length graph)) one.added ∙ ends-last graph one.places)))
            (λ n. let below : p < length graph = omega (arith, h, count, n) in
            ap (ends_at rows t) (kept p (omega (arith, below, left))) ∙ gone.ends p below ∙
            sym (ap (map (met_at met')) (ap (λ g. ends_of g p) one.added ∙ ends-left graph (one.places ∷ []) p below) ∙
            ap (λ m. map (met_at m) (ends_of graph p)) one.grown ∙
            named-kept met one.more (ends_of graph p) (ends-within (length met) graph gone.within p)));
      },
      count,
    )

-- in a list that has each number once, numbers tell their places
pub places-told : (met : List ℕ) → IsDistinct met → (p q : ℕ) → p < length met → q < length met → met_at met p ≡ met_at met q → p ≡ q
places-told [] d p q h k e = absurd (omega (arith, h))
places-told (x ∷ met) d zero zero h k e = refl
places-told (x ∷ met) d zero (suc q) h k e =
    absurd (d.0 (subst (Contains met) (sym e) (Contains-get_or met q 0 (omega (arith, k)))))
places-told (x ∷ met) d (suc p) zero h k e =
    absurd (d.0 (subst (Contains met) e (Contains-get_or met p 0 (omega (arith, h)))))
places-told (x ∷ met) d (suc p) (suc q) h k e = ap suc (places-told met d.1 p q (omega (arith, h)) (omega (arith, k)) e)

-- numbers that were met are no more than there are
pub few-met : (n : ℕ) (met : List ℕ) → AreMet n met → length met ≤ n
few-met n met are_met =
    let long = length-range_with_len 0 n in
    let few = length-le_from_distinct met (range_with_len 0 n) are_met.distinct
    (λ x m. let h = All-contains (λ y. y < n) met x are_met.held m in
    let zero_on : 0 + x ≡ x = omega arith in
    (x, omega (arith, h, long), get_or-range_with_len 0 n x x h ∙ zero_on)) in
    omega (arith, few, long)
