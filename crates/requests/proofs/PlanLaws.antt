-- A plan has each node once, and is one of its step.
use Rattle.std.proofs.Common.{◌≡◌, ◌<◌, ℕ, zero, suc, Bool, List, map, ◌∷◌, [], Contains, length, arith, sym, ◌∙◌, ap}
use Rattle.std.proofs.Common.{subst, take, slice_index_or, inl, inr, reverse, nat_eq, ◌++◌}
use Rattle.std.specs.Prelude.{if◌then◌else◌, drop, position, IfSome, Option, None, Some, slice_get}
use Rattle.std.specs.List.{list_any}
use Rattle.std.proofs.lemmas.Bool.{eqb-true}
use Rattle.std.proofs.lemmas.List.{append-nil, drop_all, reverse-reverse, take_all}
use Rattle.std.proofs.lemmas.List.Quantifiers.{position-Some}
use Rattle.std.proofs.lemmas.Option.{slice_get-get_or}
use Rattle.std.proofs.lemmas.List.Elements.{All-contains, Contains-get_or}
use Rattle.lists.specs.Distinct.{IsDistinct}
use Rattle.lists.proofs.Distinct.{IsDistinct-push}
use Rattle.lists.proofs.Members.{Contains-cases, Contains-here, Contains-there, Contains-map, Contains-map_cases}
use Rattle.lists.proofs.Members.{Contains-none, Contains-reversed, reverse-cons}
use Rattle.lists.proofs.Tests.{list_any-found}
use Rattle.indexmap.specs.IndexSet.{insert_key}
use Rattle.graph_walks.specs.Graph.{ends_of}
use Rattle.graph_walks.specs.Search.{IsOrderFrom}
use Rattle.graph_walks.specs.Walks.{IsFinishOrder}
use Rattle.requests.specs.Reached.{met_at}
use Rattle.lists.proofs.Cases.{by_test}
use Rattle.requests.proofs.ReachedLaws.{places-told}

finish-distinct : (edges : ℕ → List ℕ) (l : List ℕ) → IsFinishOrder edges l → IsDistinct l
finish-distinct edges [] o = tt
finish-distinct edges (x ∷ l) o = (o.1, finish-distinct edges l o.2)

reverse-distinct : (l : List ℕ) → IsDistinct l → IsDistinct (reverse l)
reverse-distinct [] d = tt
reverse-distinct (x ∷ l) d =
    subst IsDistinct (sym (reverse-cons x l))
    (IsDistinct-push (reverse l) x (reverse-distinct l d.1) (λ m. d.0 (Contains-reversed x l m)))

order-distinct : (edges : ℕ → List ℕ) (order : List ℕ) → IsFinishOrder edges (reverse order) → IsDistinct order
order-distinct edges order o =
    subst IsDistinct (reverse-reverse order) (reverse-distinct (reverse order) (finish-distinct edges (reverse order) o))

mapped-distinct : (met : List ℕ) → IsDistinct met → (order : List ℕ) → ((p : ℕ) → Contains order p → p < length met) →
    IsDistinct order → IsDistinct (map (met_at met) order)
mapped-distinct met d [] within o = tt
mapped-distinct met d (p ∷ order) within o = (
  (λ m. (let from = Contains-map_cases (met_at met) (met_at met p) order m in
      o.0 (subst (Contains order) (places-told met d from.0 p (within from.0 (Contains-there p from.0 order from.1))
      (within p (Contains-here p order)) from.2) from.1))),
  mapped-distinct met d order (λ q m. within q (Contains-there p q order m)) o.1,
)

-- the numbers of an order of finishing
pub numbers-distinct : (met : List ℕ) (graph : List (List ℕ)) (order : List ℕ) → IsDistinct met → length graph ≡ length met →
    IsOrderFrom graph 0 order → IsDistinct (map (met_at met) order)
numbers-distinct met graph order d e found =
    mapped-distinct met d order
    (λ p m. (let h = All-contains (λ p. p < length graph) order p found.nodes m in omega (arith, e, h)))
    (order-distinct (ends_of graph) order found.finishes)

-- the next number isn't among those before it
next-apart : (f : ℕ → ℕ) (order : List ℕ) (k : ℕ) → IsDistinct (map f order) → k < length order →
    Contains (map f (take k order)) (f (slice_index_or order k 0)) → ⊥
next-apart f [] k d h m = absurd (omega (arith, h))
next-apart f (p ∷ order) zero d h m = Contains-none (f p) m
next-apart f (p ∷ order) (suc k) d h m = elim (Contains-cases (f p) (f (slice_index_or order k 0)) (map f (take k order)) m) [
  | inl e ↦ d.0 (subst (Contains (map f order)) (sym e)
      (Contains-map f (slice_index_or order k 0) order (Contains-get_or order k 0 (omega (arith, h)))))
  | inr l ↦ next-apart f order k d.1 (omega (arith, h)) l
]

pub next-new : (f : ℕ → ℕ) (order keys : List ℕ) (k : ℕ) → IsDistinct (map f order) → k < length order →
    keys ≡ map f (take k order) →
    insert_key nat_eq keys (f (slice_index_or order k 0)) ≡ keys ++ f (slice_index_or order k 0) ∷ []
next-new f order keys k d h e =
    let x = f (slice_index_or order k 0) in
    by_test (list_any (nat_eq x) keys)
    (λ t. (let found = list_any-found (nat_eq x) keys t in
    absurd (next-apart f order k d h
    (subst (λ l. Contains l x) e (subst (Contains keys) (sym (eqb-true x found.0 found.2)) found.1)))))
    (λ n. ap (λ (b : Bool). if b then keys else keys ++ x ∷ []) n)

-- ---- a number is found at its place
pub found-at : (found : Option ℕ) (x : ℕ) (keys ids : List ℕ) → found ≡ position (nat_eq x) keys → keys ≡ ids →
    IfSome found (λ at. slice_get ids at ≡ Some x)
found-at None x keys ids e same = tt
found-at (Some at) x keys ids e same =
    let there = position-Some (nat_eq x) keys at 0 (sym e) in
    subst (λ l. slice_get l at ≡ Some x) same
    (slice_get-get_or keys at 0 there.0 ∙ ap Some (sym (eqb-true x (slice_index_or keys at 0) there.1)))

-- ---- marks that are written back whole
pub written-back : {X : Type 0} (n : ℕ) (after before : List X) → n ≡ length before → length after ≡ length before →
    take n (after ++ drop (length after) before) ≡ after
written-back n after before is long =
    ap (λ l. take n (after ++ l)) (drop_all (length after) before (omega (arith, long))) ∙
    ap (take n) (append-nil after) ∙ take_all n after (omega (arith, is, long))
