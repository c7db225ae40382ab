-- One more factor of a product of several words.
use Rattle.std.proofs.Common.{◌≡◌, ◌+◌, ◌-◌, ◌<◌, ◌≤◌, ℕ, drop, map, length, reverse, arith}
use Rattle.std.proofs.Common.{slice_index_or, ap, sym, ◌∙◌, refl, List, [], ◌∷◌, ◌++◌, sum_by}
use Rattle.std.specs.List.{fold}
use Rattle.std.proofs.lemmas.List.{drop_more, reverse-reverse}
use Rattle.std.proofs.lemmas.List.Sums.{fold-append, sum_by-cons, sum_by-take-drop}
use Rattle.location_words.specs.declared.pair.Pair.{Pair}
use Rattle.location_words.specs.declared.sum.Wide.{Wide}
use Rattle.location_words.specs.Pairs.{norm, taken_onto}
use Rattle.location_words.specs.Sums.{as_pair, from_last}
use Rattle.location_words.specs.Products.{product}
use Rattle.location_words.proofs.WordLaws.{norm-norm}

pub product-word : (ws : List (List Pair)) → norm (product ws) ≡ product ws
product-word [] = refl
product-word (w ∷ ws) = norm-norm (product ws ++ w)

-- pairs taken onto those of a word make the product
taken-word : (w l : List Pair) → norm w ≡ w → reverse (fold taken_onto (reverse w) l) ≡ norm (w ++ l)
taken-word w l h =
    let start : reverse w ≡ fold taken_onto [] w = sym (ap reverse h) ∙ reverse-reverse (fold taken_onto [] w) in
    ap reverse (ap (λ x. fold taken_onto x l) start ∙ sym (fold-append taken_onto [] w l))

pub product-more : {X : Type 0} (f : X → List Pair) (xs : List X) (i : ℕ) (d : X) (x : X) (old new : List Wide) →
    i < length xs → x ≡ slice_index_or xs (length xs - 1 - i) d →
    map as_pair old ≡ product (map f (drop (length xs - i) xs)) →
    from_last new ≡ fold taken_onto (from_last old) (f x) →
    map as_pair new ≡ product (map f (drop (length xs - (i + 1)) xs))
product-more f xs i d x old new lt at o n =
    let here : length xs - (i + 1) ≡ length xs - 1 - i = omega arith in
    let next : length xs - 1 - i + 1 ≡ length xs - i = omega arith in
    let within : length xs - 1 - i < length xs = omega arith in
    let more = ap (λ k. drop k xs) here ∙ drop_more xs (length xs - 1 - i) d within ∙
    (λ j. sym at j ∷ drop (next j) xs) in
    sym (reverse-reverse (map as_pair new)) ∙
    ap reverse (n ∙ ap (λ l. fold taken_onto (reverse l) (f x)) o) ∙
    taken-word (product (map f (drop (length xs - i) xs))) (f x) (product-word (map f (drop (length xs - i) xs))) ∙
    sym (ap (λ l. product (map f l)) more)

pub sum-more : {X : Type 0} (f : X → ℕ) (xs : List X) (i : ℕ) (d : X) (x : X) → i < length xs →
    x ≡ slice_index_or xs (length xs - 1 - i) d →
    sum_by f (drop (length xs - (i + 1)) xs) ≡ f x + sum_by f (drop (length xs - i) xs)
sum-more f xs i d x lt at =
    let here : length xs - (i + 1) ≡ length xs - 1 - i = omega arith in
    let next : length xs - 1 - i + 1 ≡ length xs - i = omega arith in
    let within : length xs - 1 - i < length xs = omega arith in
    ap (sum_by f) (ap (λ k. drop k xs) here ∙ drop_more xs (length xs - 1 - i) d within ∙
    (λ j. sym at j ∷ drop (next j) xs)) ∙
    sum_by-cons f x (drop (length xs - i) xs)

pub sum-part : {X : Type 0} (f : X → ℕ) (xs : List X) (k : ℕ) → sum_by f (drop k xs) ≤ sum_by f xs
sum-part f xs k = omega (arith, sum_by-take-drop f xs k)
