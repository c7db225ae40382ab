-- What results weigh together.
use Rattle.std.proofs.Common.{◌≡◌, ◌≤◌, ◌<◌, ◌+◌, ℕ, zero, suc, Bool, true}
use Rattle.std.proofs.Common.{false, List, map, ◌++◌, ◌∷◌, [], All, length, take}
use Rattle.std.proofs.Common.{arith, sym, ◌∙◌, ap, subst, refl, slice_get, slice_index_or, Some, if◌then◌else◌}
use Rattle.std.specs.Prelude.{min, max, ◌&&◌, not, sum}
use Rattle.std.specs.List.{flat_map}
use Rattle.std.proofs.lemmas.List.{length-append, append-nil, length-map}
use Rattle.std.proofs.lemmas.Option.{slice_get-get_or}
use Rattle.std.proofs.lemmas.Grind.{flat_map-append}
use Rattle.lists.specs.Sameness.{is_empty}
use Rattle.lists.proofs.Places.{take-at}
use Rattle.location_words.specs.declared.pair.Pair.{Pair}
use Rattle.expansion_laws.specs.Trees.{Tree, Use, origin, tree_of, list_of, uses_of}
use Rattle.expansion_laws.specs.Measures.{depth, uses_depth}
use Rattle.expansion_laws.specs.Contexts.{bare}
use Rattle.expansion_laws.specs.StepMeasures.{uses_below}
use Rattle.key_results.specs.declared.derive.Link.{Link}
use Rattle.key_results.specs.declared.derive.Outcome.TheVariants.{Rebuilt}
use Rattle.key_results.specs.declared.weighing.Weight.{Weight}
use Rattle.key_results.specs.declared.words.Mover.{Mover}
use Rattle.key_results.specs.Derivations.{most_told, deepest, linked, joined_by, results_at, made_of, size_made}
use Rattle.key_results.specs.Weights.{weight}

pub mins : (a b m : ℕ) → min (min a m + min b m) m ≡ min (a + b) m
mins a b m = omega arith

deepest-append : (a b : List Use) → deepest (a ++ b) ≡ max (deepest a) (deepest b)
deepest-append [] b = omega arith
deepest-append (u ∷ us) b = let h = deepest-append us b in omega (arith, h)

deepest-linked : (word : ℕ → List Pair) (m : Mover) (l : Link) (us : List Use) →
    deepest (map (linked word m l) us) ≡ deepest us
deepest-linked word m l [] = refl
deepest-linked word m l (u ∷ us) = ap (max (depth u.tree)) (deepest-linked word m l us)

weight-linked : (word : ℕ → List Pair) (m : Mover) (l : Link) (us : List Use) →
    weight (map (linked word m l) us) ≡ weight us
weight-linked word m l us =
    λ i. record { results = min (length-map us (linked word m l) i) most_told; depth = deepest-linked word m l us i }

both-lengths : (a b : List Use) (m : ℕ) → min (min (length a) m + min (length b) m) m ≡ min (length (a ++ b)) m
both-lengths a b m = mins (length a) (length b) m ∙ ap (λ n. min n m) (sym (length-append a b))

pub weight-both : (a b : List Use) (x y w : Weight) → x ≡ weight a → y ≡ weight b →
    w.results ≡ min (x.results + y.results) most_told →
    w.depth ≡ max x.depth y.depth → w ≡ weight (a ++ b)
weight-both a b x y w ex ey r d =
    let results : w.results ≡ min (length (a ++ b)) most_told =
    r ∙ (λ i. min ((ex i).results + (ey i).results) most_told) ∙ both-lengths a b most_told in
    let depths : w.depth ≡ deepest (a ++ b) = d ∙ (λ i. max (ex i).depth (ey i).depth) ∙ sym (deepest-append a b) in
    λ i. record { results = results i; depth = depths i }

weight-at : (results : List (List Use)) (k : ℕ) (d : Weight) → k < length (map weight results) →
    slice_index_or (map weight results) k d ≡ weight (results_at results k)
weight-at [] k d lt = absurd (omega arith)
weight-at (r ∷ rs) zero d lt = refl
weight-at (r ∷ rs) (suc k) d lt = weight-at rs k d (omega arith)

joined-more : (word : ℕ → List Pair) (m : Mover) (results : List (List Use)) (links : List Link) (i : ℕ) (l : Link) →
    slice_get links i ≡ Some l →
    joined_by word m results (take (i + 1) links) ≡
    joined_by word m results (take i links) ++ map (linked word m l) (results_at results l.key)
joined-more word m results links i l e =
    let f : Link → List Use = (λ l. map (linked word m l) (results_at results l.key)) in
    ap (flat_map f) (take-at links i l e) ∙ flat_map-append f (take i links) (l ∷ []) ∙
    ap (λ r. flat_map f (take i links) ++ r) (append-nil (f l))

-- one link more
pub joined-next : (weights : List Weight) (links : List Link) (i : ℕ) (d : Link) (dw : Weight)
    (results : List (List Use)) (word : ℕ → List Pair) (m : Mover)
    (sum next : Weight) → i < length links → All (λ (l : Link). l.key < length weights) links →
    weights ≡ map weight results →
    sum ≡ weight (joined_by word m results (take i links)) →
    next.results ≡ min (sum.results + (slice_index_or weights (slice_index_or links i d).key dw).results) most_told →
    next.depth ≡ max sum.depth (slice_index_or weights (slice_index_or links i d).key dw).depth →
    next ≡ weight (joined_by word m results (take (i + 1) links))
joined-next weights links i d dw results word m sum next lt within e before r dp =
    let l = slice_index_or links i d in
    let in-weights : l.key < length (map weight results) =
    subst (λ (ws : List Weight). l.key < length ws) e (within i d lt) in
    let own : slice_index_or weights l.key dw ≡ weight (map (linked word m l) (results_at results l.key)) =
    ap (λ ws. slice_index_or ws l.key dw) e ∙ weight-at results l.key dw in-weights ∙
    sym (weight-linked word m l (results_at results l.key)) in
    weight-both (joined_by word m results (take i links)) (map (linked word m l) (results_at results l.key)) sum
    (slice_index_or weights l.key dw) next before own r dp ∙
    ap weight (sym (joined-more word m results links i l (slice_get-get_or links i d lt)))

pub joined-deep : (weights : List Weight) (links : List Link) (i : ℕ) (d : Link) (dw : Weight) (n : ℕ)
    (sum next : Weight) → i < length links →
    All (λ (l : Link). l.key < length weights) links → All (λ (w : Weight). w.depth ≤ n) weights → sum.depth ≤ n →
    next.depth ≡ max sum.depth (slice_index_or weights (slice_index_or links i d).key dw).depth → next.depth ≤ n
joined-deep weights links i d dw n sum next lt within all before e =
    let a = all (slice_index_or links i d).key dw (within i d lt) in omega (arith, a, before, e)

-- ---- what is made of them
uses-depth : (us : List Use) → uses_depth (uses_of us) ≡ deepest us
uses-depth [] = refl
uses-depth (u ∷ us) = ap (max (depth u.tree)) (uses-depth us)

pub list-of-uses : (us : List Use) → list_of (uses_of us) ≡ us
list-of-uses [] = refl
list-of-uses (u ∷ us) = ap (λ l. u ∷ l) (list-of-uses us)

pub weight-rebuilt : (b : Bool) (x : Tree) (parts : List Use) (below : Weight) → b ≡ false → below ≡ weight parts →
    (record { results = 1; depth = below.depth + 1 }) ≡ weight (if b then [] else bare (tree_of (origin x) parts) ∷ [])
weight-rebuilt true x parts below e w = absurd cc
weight-rebuilt false x parts below e w =
    let deep : below.depth + 1 ≡ max (suc (uses_depth (uses_of parts))) 0 =
    (let a = uses-depth parts in let d : below.depth ≡ deepest parts = ap (λ (v : Weight). v.depth) w in
    omega (arith, a, d)) in
    λ i. record { results = 1; depth = deep i }

no-parts : (p n : Bool) (parts : List Use) → (p && not n && is_empty parts) ≡ true → length parts ≡ 0
no-parts p n [] e = refl
no-parts true true (u ∷ us) e = absurd cc
no-parts true false (u ∷ us) e = absurd cc
no-parts false n (u ∷ us) e = absurd cc

one-below : (x : Tree) (parts : List Use) → uses_below (bare (tree_of (origin x) parts) ∷ []) ≡ length parts
one-below x parts = let a = ap length (list-of-uses parts) in omega (arith, a)

size-if : (b : Bool) (x : Tree) (parts : List Use) (below own : Weight) (n : ℕ) → (b ≡ true → length parts ≡ 0) →
    below ≡ weight parts →
    own ≡ weight (if b then [] else bare (tree_of (origin x) parts) ∷ []) →
    n ≡ min (own.results + below.results) most_told →
    n ≡ min (size_made Rebuilt (if b then [] else bare (tree_of (origin x) parts) ∷ [])) most_told
size-if true x parts below own n none eb eo e =
    e ∙ (λ i. min ((eo i).results + (eb i).results) most_told) ∙
    ap (λ k. min (min 0 most_told + min k most_told) most_told) (none refl)
size-if false x parts below own n none eb eo e =
    e ∙ (λ i. min ((eo i).results + (eb i).results) most_told) ∙ mins 1 (length parts) most_told ∙
    ap (λ k. min (1 + k) most_told) (sym (one-below x parts))

pub size-rebuilt : (prune bare_of : Bool) (x : Tree) (parts : List Use) (below own : Weight) (n : ℕ) →
    below ≡ weight parts →
    own ≡ weight (made_of Rebuilt prune bare_of x parts) → n ≡ min (own.results + below.results) most_told →
    n ≡ min (size_made Rebuilt (made_of Rebuilt prune bare_of x parts)) most_told
size-rebuilt prune bare_of x parts below own n =
    size-if (prune && not bare_of && is_empty parts) x parts below own n (no-parts prune bare_of parts)
