-- Lists with each thing at its first place alone.
use Rattle.std.proofs.Common.{◌≡◌, ◌∙◌, ◌↔◌, ◌≤◌, ◌⊎◌, refl, sym, ap, subst, arith, inl, inr, true≢false}
use Rattle.std.specs.Prelude.{Bool, true, false, List, [], ◌∷◌, ◌++◌, length, Contains}
use Rattle.std.specs.List.{filter, list_any}
use Rattle.std.proofs.lemmas.List.{length-append}
use Rattle.std.proofs.lemmas.List.Elements.{Contains-append_left, Contains-append_right, Contains-push_cases, filter-append}
use Rattle.lists.specs.Distinct.{IsDistinct}
use Rattle.lists.proofs.Cases.{by_test}
use Rattle.lists.proofs.Distinct.{IsDistinct-push}
use Rattle.lists.proofs.Members.{Contains-here, Contains-there, Contains-cases, Contains-none}
use Rattle.lists.proofs.Tests.{list_any-contains, list_any-found, Contains-filter, Contains-filter_cases}
use Rattle.subshape_maps.specs.Shapes.{with_new, first_places_after}

pub append-none : {X : Type 0} (xs : List X) → xs ++ [] ≡ xs
append-none [] = refl
append-none (x ∷ xs) = ap (λ l. x ∷ l) (append-none xs)

pub with-cases : {X : Type 0} (eq : X → X → Bool) (met : List X) (x y : X) → Contains (with_new eq met x) y → Contains met y ⊎ (x ≡ y)
with-cases eq met x y m = by_test (list_any (eq x) met) (λ e. inl (rw e at m)) (λ e. Contains-push_cases met x y (rw e at m))

module _ {X : Type 0} (eq : X → X → Bool) (tells : (x y : X) → (eq x y ≡ true) ↔ (x ≡ y)) where
  -- ---- one thing more
  is-held : (met : List X) (x : X) → list_any (eq x) met ≡ true → Contains met x
  is-held met x e = let r = list_any-found (eq x) met e in subst (λ z. Contains met z) (sym ((tells x r.0).0 r.2)) r.1

  isnt-held : (met : List X) (x : X) → list_any (eq x) met ≡ false → Contains met x → ⊥
  isnt-held met x e m = true≢false (sym (list_any-contains (eq x) x met m ((tells x x).1 refl)) ∙ e)

  pub with-known : (met : List X) (x : X) → Contains met x → with_new eq met x ≡ met
  with-known met x m = let e = list_any-contains (eq x) x met m ((tells x x).1 refl) in rw e refl

  pub with-left : (met : List X) (x y : X) → Contains met y → Contains (with_new eq met x) y
  with-left met x y m = by_test (list_any (eq x) met) (λ e. rw e m) (λ e. rw e (Contains-append_left met (x ∷ []) y m))

  pub with-here : (met : List X) (x : X) → Contains (with_new eq met x) x
  with-here met x = by_test (list_any (eq x) met) (λ e. rw e (is-held met x e)) (λ e. rw e (Contains-append_right met (x ∷ []) x (Contains-here x [])))

  with-distinct : (met : List X) (x : X) → IsDistinct met → IsDistinct (with_new eq met x)
  with-distinct met x d = by_test (list_any (eq x) met) (λ e. rw e d) (λ e. rw e (IsDistinct-push met x d (isnt-held met x e)))

  with-grows : (met : List X) (x : X) → length met ≤ length (with_new eq met x)
  with-grows met x = by_test (list_any (eq x) met) (λ e. rw e (omega arith)) (λ e. rw e (omega (arith, length-append met (x ∷ []))))

  -- ---- many things more
  pub more-left : (met xs : List X) (y : X) → Contains met y → Contains (first_places_after eq met xs) y
  more-left met [] y m = m
  more-left met (x ∷ xs) y m = more-left (with_new eq met x) xs y (with-left met x y m)

  pub more-in : (met xs : List X) (y : X) → Contains xs y → Contains (first_places_after eq met xs) y
  more-in met [] y m = absurd (Contains-none y m)
  more-in met (x ∷ xs) y m = elim (Contains-cases x y xs m) [
    | inl e ↦ more-left (with_new eq met x) xs y (subst (λ z. Contains (with_new eq met x) z) e (with-here met x))
    | inr k ↦ more-in (with_new eq met x) xs y k
  ]

  pub more-cases : (met xs : List X) (y : X) → Contains (first_places_after eq met xs) y → Contains met y ⊎ Contains xs y
  more-cases met [] y m = inl m
  more-cases met (x ∷ xs) y m = elim (more-cases (with_new eq met x) xs y m) [
    | inl k ↦ elim (with-cases eq met x y k) [ inl h ↦ inl h | inr e ↦ inr (subst (λ z. Contains (x ∷ xs) z) e (Contains-here x xs)) ]
    | inr k ↦ inr (Contains-there x y xs k)
  ]

  pub more-known : (met xs : List X) → ((y : X) → Contains xs y → Contains met y) → first_places_after eq met xs ≡ met
  more-known met [] h = refl
  more-known met (x ∷ xs) h =
      ap (λ m. first_places_after eq m xs) (with-known met x (h x (Contains-here x xs))) ∙ more-known met xs (λ y m. h y (Contains-there x y xs m))

  pub more-distinct : (met xs : List X) → IsDistinct met → IsDistinct (first_places_after eq met xs)
  more-distinct met [] d = d
  more-distinct met (x ∷ xs) d = more-distinct (with_new eq met x) xs (with-distinct met x d)

  pub more-grows : (met xs : List X) → length met ≤ length (first_places_after eq met xs)
  more-grows met [] = omega arith
  more-grows met (x ∷ xs) = let a = with-grows met x in let b = more-grows (with_new eq met x) xs in omega (arith, a, b)

  -- ---- those that pass a test
  with-passing : (p : X → Bool) (met : List X) (x : X) → p x ≡ true → filter p (with_new eq met x) ≡ with_new eq (filter p met) x
  with-passing p met x h = by_test (list_any (eq x) met)
      (λ e. rw e (sym (with-known (filter p met) x (Contains-filter p met x (is-held met x e) h))))
      (λ e. rw e (filter-append p met (x ∷ []) ∙ ap (λ l. filter p met ++ l) (rw h refl) ∙ sym (fresh e)))
    where
      fresh : list_any (eq x) met ≡ false → with_new eq (filter p met) x ≡ filter p met ++ x ∷ []
      fresh e = by_test (list_any (eq x) (filter p met))
          (λ f. let r = list_any-found (eq x) (filter p met) f in absurd (isnt-held met x e (subst (λ z. Contains met z) (sym ((tells x r.0).0 r.2)) (Contains-filter_cases p met r.0 r.1).0)))
          (λ f. rw f refl)

  with-failing : (p : X → Bool) (met : List X) (x : X) → p x ≡ false → filter p (with_new eq met x) ≡ filter p met
  with-failing p met x h = by_test (list_any (eq x) met) (λ e. rw e refl)
      (λ e. rw e (filter-append p met (x ∷ []) ∙ ap (λ l. filter p met ++ l) (rw h refl) ∙ append-none (filter p met)))

  pub more-passing : (p : X → Bool) (met xs : List X) → filter p (first_places_after eq met xs) ≡ first_places_after eq (filter p met) (filter p xs)
  more-passing p met [] = refl
  more-passing p met (x ∷ xs) = by_test (p x)
      (λ h. rw h (more-passing p (with_new eq met x) xs ∙ ap (λ m. first_places_after eq m (filter p xs)) (with-passing p met x h)))
      (λ h. rw h (more-passing p (with_new eq met x) xs ∙ ap (λ m. first_places_after eq m (filter p xs)) (with-failing p met x h)))
