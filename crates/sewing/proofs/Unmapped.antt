-- Lists have the same things where what is mapped from them does, by a map that tells their things apart.
use Rattle.std.proofs.Common.{◌≡◌, ◌∙◌, refl, sym, ap, subst, arith, ℕ, get_or, set, length, map}
use Rattle.std.specs.Prelude.{List, [], ◌∷◌, Contains, IsPermutation}
use Rattle.std.specs.List.{swap}
use Rattle.std.proofs.lemmas.List.{map-set, length-map}
use Rattle.std.proofs.Math.ListN.{get_or-map}
use Rattle.std.proofs.lemmas.List.Sorted.{Contains-permutation, IsPermutation-keeps, IsPermutation-refl}
use Rattle.std.proofs.lemmas.List.Sorted.{IsPermutation-swap, IsPermutation-sym, IsPermutation-trans}
use Rattle.lists.proofs.Members.{Contains-here, Contains-there}

abbrev rest_of : {X : Type 0} → List X → List X
rest_of [] = []
rest_of (x ∷ xs) = xs

module _ {X Y : Type 0} (f : X → Y) where
  map-swap : (l : List X) (i j : ℕ) → map f (swap l i j) ≡ swap (map f l) i j
  map-swap [] i j = refl
  map-swap (d ∷ ys) i j =
      let l = d ∷ ys in
      map-set f (set l i (get_or l j d)) j (get_or l i d)
      ∙ (λ t. set ((map-set f l i (get_or l j d) ∙ ap (set (map f l) i) (sym (get_or-map f l j d))) t) j
      (sym (get_or-map f l i d) t))

  -- lists are equal where their maps are
  equal : (xs ys : List X) → ((a b : X) → Contains xs a → Contains ys b → f a ≡ f b → a ≡ b) → map f xs ≡ map f ys →
      xs ≡ ys
  equal [] [] tells e = refl
  equal [] (y ∷ ys) tells e = absurd cc
  equal (x ∷ xs) [] tells e = absurd cc
  equal (x ∷ xs) (y ∷ ys) tells e =
      let first : x ≡ y = tells x y (Contains-here x xs) (Contains-here y ys) (ap (λ l. get_or l 0 (f x)) e) in
      let others : xs ≡ ys =
      equal xs ys (λ a b m n. tells a b (Contains-there x a xs m) (Contains-there y b ys n)) (ap rest_of e) in
      (λ i. first i ∷ others i)

  -- what is mapped from a list and put in another order is mapped from that list in another order
  moved : (xs : List X) (zs : List Y) → IsPermutation (map f xs) zs →
      (ys : List X) × IsPermutation xs ys × (map f ys ≡ zs)
  moved xs =
      IsPermutation-keeps (map f xs) (λ zs. (ys : List X) × IsPermutation xs ys × (map f ys ≡ zs))
      (xs, IsPermutation-refl xs, refl)
      (λ l i j p q h.
      let long : length h.0 ≡ length l = sym (length-map h.0 f) ∙ ap length h.2 in
      let swapped : IsPermutation h.0 (swap h.0 i j) =
      IsPermutation-swap h.0 (swap h.0 i j) i j (omega (arith, long, p)) (omega (arith, long, q)) refl in (
        swap h.0 i j,
        IsPermutation-trans xs h.0 (swap h.0 i j) h.1 swapped,
        map-swap h.0 i j ∙ ap (λ k. swap k i j) h.2,
      ))

  pub unmapped : (xs ys : List X) → ((a b : X) → Contains xs a → Contains ys b → f a ≡ f b → a ≡ b) →
      IsPermutation (map f xs) (map f ys) → IsPermutation xs ys
  unmapped xs ys tells p =
      let m = moved xs (map f ys) p in
      subst (λ l. IsPermutation xs l)
      (equal m.0 ys (λ a b c. tells a b (Contains-permutation m.0 xs a (IsPermutation-sym xs m.0 m.1) c)) m.2) m.1
