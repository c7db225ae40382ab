-- Lists that have each thing once.
use Rattle.std.proofs.Common.{◌≤◌, inl, inr, sym, ap, subst, arith}
use Rattle.std.specs.Prelude.{Bool, List, [], ◌∷◌, ◌++◌, length, Contains}
use Rattle.std.specs.List.{filter}
use Rattle.std.proofs.lemmas.List.{length-append}
use Rattle.std.proofs.lemmas.List.Elements.{Contains-append_left, Contains-append_right}
use Rattle.std.proofs.lemmas.List.Elements.{Contains-append_cases, Contains-push_cases}
use Rattle.lists.specs.Distinct.{IsDistinct}
use Rattle.lists.proofs.Cases.{by_test}
use Rattle.lists.proofs.Members.{Contains-here, Contains-there, Contains-cases, Contains-none, split_by}
use Rattle.lists.proofs.Tests.{Contains-filter_cases}

pub IsDistinct-push : {X : Type 0} (xs : List X) (x : X) → IsDistinct xs → (Contains xs x → ⊥) →
    IsDistinct (xs ++ x ∷ [])
IsDistinct-push [] x d h = (Contains-none x, tt)
IsDistinct-push (y ∷ xs) x d h = (
  (λ m. elim (Contains-push_cases xs x y m) [
    | inl k ↦ d.0 k
    | inr e ↦ h (subst (λ z. Contains (y ∷ xs) z) (sym e) (Contains-here y xs))
  ]),
  IsDistinct-push xs x d.1 (λ m. h (Contains-there y x xs m)),
)

pub IsDistinct-filter : {X : Type 0} (p : X → Bool) (xs : List X) → IsDistinct xs → IsDistinct (filter p xs)
IsDistinct-filter p [] d = tt
IsDistinct-filter p (y ∷ xs) d = by_test (p y)
    (λ f. rw f ((λ m. d.0 (Contains-filter_cases p xs y m).0), IsDistinct-filter p xs d.1))
    (λ f. rw f (IsDistinct-filter p xs d.1))

-- distinct things that all stand in a list are no more than it has
pub length-le_from_distinct : {X : Type 0} (xs ys : List X) → IsDistinct xs →
    ((x : X) → Contains xs x → Contains ys x) → length xs ≤ length ys
length-le_from_distinct [] ys d h = omega arith
length-le_from_distinct (x ∷ xs) ys d h =
    let s = split_by ys x (h x (Contains-here x xs)) in
    let rest = length-le_from_distinct xs (s.0 ++ s.1) d.1
    (λ z m.
    elim (Contains-append_cases s.0 (x ∷ s.1) z (subst (λ l. Contains l z) s.2 (h z (Contains-there x z xs m)))) [
      | inl k ↦ Contains-append_left s.0 s.1 z k
      | inr k ↦ elim (Contains-cases x z s.1 k) [
        | inl e ↦ absurd (d.0 (subst (λ v. Contains xs v) (sym e) m))
        | inr l ↦ Contains-append_right s.0 s.1 z l
      ]
    ]) in
    let a = ap length s.2 in let b = length-append s.0 (x ∷ s.1) in let c = length-append s.0 s.1 in
    omega (arith, rest, a, b, c)
