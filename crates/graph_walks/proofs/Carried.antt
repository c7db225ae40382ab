-- A search among numbers is one among the things that the numbers stand for.
use Rattle.std.proofs.Common.{◌≡◌, refl, sym, ◌∙◌, ap, subst, inl, inr}
use Rattle.std.specs.Prelude.{Option, Some, List, [], ◌∷◌, ◌++◌, map, reverse, Contains}
use Rattle.std.specs.Option.{option_map}
use Rattle.std.proofs.lemmas.List.{map-append, reverse-append}
use Rattle.lists.proofs.Members.{Contains-cases, Contains-here, Contains-map, Contains-none, Contains-there}
use Rattle.graph_walks.specs.Walks.{Searches, SearchesEach, closes, enters, no_more, finds, passes, IsFinishOrder}

module _ {X Y : Type 0} (f : X → Y) where
  pub Contains-from_map : (xs : List X) (y : Y) → Contains (map f xs) y → (x : X) × Contains xs x × (f x ≡ y)
  Contains-from_map [] y m = absurd (Contains-none y m)
  Contains-from_map (x ∷ xs) y m = elim (Contains-cases (f x) y (map f xs) m) [
    | inl e ↦ (x, Contains-here x xs, e)
    | inr k ↦ let r = Contains-from_map xs y k in (r.0, Contains-there x r.0 xs r.1, r.2)
  ]

  map-reverse : (xs : List X) → map f (reverse xs) ≡ reverse (map f xs)
  map-reverse [] = refl
  map-reverse (x ∷ xs) = ap (map f) (reverse-append (x ∷ []) xs) ∙ map-append f (reverse xs) (x ∷ []) ∙
      ap (λ l. l ++ f x ∷ []) (map-reverse xs) ∙ sym (reverse-append (f x ∷ []) (map f xs))

  module _ (ends : X → List X) (edges : Y → List Y) (is_held : X → Type 0)
      (tells : (x y : X) → is_held x → is_held y → f x ≡ f y → x ≡ y)
      (same : (x : X) → is_held x → edges (f x) ≡ map f (ends x))
      (inside : (x y : X) → is_held x → Contains (ends x) y → is_held y) where
    mutual
      pub searches-carried : {path : List X} {x : X} {found : Option (List X)} → Searches ends path x found →
          ((y : X) → Contains path y → is_held y) → is_held x →
          Searches edges (map f path) (f x) (option_map (map f) found)
      searches-carried {path = path} {x = x} (closes newer older e) held h =
          subst (λ w. Searches edges (map f path) (f x) (Some w))
          (ap (λ l. f x ∷ l ++ f x ∷ []) (sym (map-reverse newer)) ∙
          sym (ap (λ l. f x ∷ l) (map-append f (reverse newer) (x ∷ []))))
          (closes (map f newer) (map f older) (ap (map f) e ∙ map-append f newer (x ∷ older)))
      searches-carried {path = path} {x = x} {found = found} (enters n s) held h =
          enters (λ y m k. let o = Contains-from_map path y m in n o.0 o.1 (tells o.0 x (held o.0 o.1) h (o.2 ∙ k)))
          (subst (λ l. SearchesEach edges (f x ∷ map f path) l (option_map (map f) found)) (sym (same x h))
          (each-carried s (λ y m. elim (Contains-cases x y path m) [ inl e ↦ subst is_held e h | inr k ↦ held y k ])
          (λ y m. inside x y h m)))

      each-carried : {path xs : List X} {found : Option (List X)} → SearchesEach ends path xs found →
          ((y : X) → Contains path y → is_held y) → ((y : X) → Contains xs y → is_held y) →
          SearchesEach edges (map f path) (map f xs) (option_map (map f) found)
      each-carried no_more held h = no_more
      each-carried (finds {x = x} {xs = xs} s) held h = finds (searches-carried s held (h x (Contains-here x xs)))
      each-carried (passes {x = x} {xs = xs} s t) held h =
          passes (searches-carried s held (h x (Contains-here x xs)))
          (each-carried t held (λ y m. h y (Contains-there x y xs m)))

    -- an order of finishing among numbers is one among what they stand for
    pub order-carried : (l : List X) → IsFinishOrder ends l → ((x : X) → Contains l x → is_held x) →
        IsFinishOrder edges (map f l)
    order-carried [] o held = tt
    order-carried (x ∷ l) o held = (
      (λ y m.
          let r = Contains-from_map (ends x) y (subst (λ e. Contains e y) (same x (held x (Contains-here x l))) m) in
          subst (λ v. Contains (map f l) v) r.2 (Contains-map f r.0 l (o.0 r.0 r.1))),
      (λ m. let r = Contains-from_map l (f x) m in
          o.1
          (subst (λ v. Contains l v) (tells r.0 x (held r.0 (Contains-there x r.0 l r.1)) (held x (Contains-here x l))
          r.2) r.1)),
      order-carried l o.2 (λ y m. held y (Contains-there x y l m)),
    )
