-- Numbers that are met, each once, thing by thing.
use Rattle.std.proofs.Common.{◌≡◌, ◌≤◌, ◌<◌, ◌+◌, refl, sym, subst, inl, inr, ℕ, take, slice_index_or, length}
use Rattle.std.specs.Prelude.{◌↔◌, List, [], ◌∷◌, ◌++◌, Contains}
use Rattle.std.proofs.lemmas.List.{take_all}
use Rattle.std.proofs.lemmas.List.Elements.{Contains-append_left, Contains-push, Contains-push_cases}
use Rattle.std.proofs.lemmas.Option.{slice_get-get_or}
use Rattle.lists.specs.Distinct.{IsDistinct}
use Rattle.lists.proofs.Distinct.{IsDistinct-push}
use Rattle.lists.proofs.Gathering.{adds-nothing, adds-one}
use Rattle.lists.proofs.Members.{Contains-none}
use Rattle.lists.proofs.Places.{take-at}
use Rattle.step_history.specs.Gathering.{IsNoted}
use Rattle.shape_pool.specs.declared.node.NodeId.{NodeId}
use Rattle.script_requests.specs.Named.{id_of, ArePairsOf, IsImageOfNumber, IsRelated, IsSecond, MeetsToo}

-- ---- one number
pub met-already : (old : List ℕ) (x : ℕ) → Contains old x → MeetsToo (λ i. x ≡ i) old old
met-already old x m = (
  (λ d. d),
  (λ y. ((λ k. inl k), (λ h. elim h [ inl k ↦ k | inr e ↦ subst (λ z. Contains old z) e m ]))),
)

pub met-now : (old new : List ℕ) (x : ℕ) → (Contains old x → ⊥) → IsNoted old x new → MeetsToo (λ i. x ≡ i) old new
met-now old new x none (inl n) = absurd (none n.0)
met-now old new x none (inr e) = (
  (λ d. subst (λ l. IsDistinct l) (sym e) (IsDistinct-push old x d none)),
  adds-one (λ i. x ≡ i) old new x e refl (λ y q. q),
)

-- ---- in other words
pub meets-as : (P Q : ℕ → Type 0) (old new : List ℕ) → ((j : ℕ) → P j ↔ Q j) → MeetsToo P old new → MeetsToo Q old new
meets-as P Q old new same h = (
  h.0,
  (λ y. (
    (λ m. elim ((h.1 y).0 m) [ inl k ↦ inl k | inr p ↦ inr ((same y).0 p) ]),
    (λ k. (h.1 y).1 (elim k [ inl o ↦ inl o | inr q ↦ inr ((same y).1 q) ])),
  )),
)

-- ---- thing by thing
module _ {X : Type 0} (R : X → ℕ → Type 0) where
  pub meets-none : (ys : List ℕ) → MeetsToo (IsRelated R []) ys ys
  meets-none ys = ((λ d. d), adds-nothing (IsRelated R []) ys (λ y h. Contains-none h.0 h.1))

  meets-next : (xs : List X) (x : X) (first old new : List ℕ) → MeetsToo (IsRelated R xs) first old →
      MeetsToo (R x) old new → MeetsToo (IsRelated R (xs ++ x ∷ [])) first new
  meets-next xs x first old new g a = (
    (λ d. a.0 (g.0 d)),
    (λ y. (
      (λ m. elim ((a.1 y).0 m) [
        | inl k ↦ elim ((g.1 y).0 k) [
          | inl o ↦ inl o
          | inr h ↦ inr (h.0, Contains-append_left xs (x ∷ []) h.0 h.1, h.2)
        ]
        | inr r ↦ inr (x, Contains-push xs x, r)
      ]),
      (λ k. (a.1 y).1 (elim k [
        | inl o ↦ inl ((g.1 y).1 (inl o))
        | inr h ↦ elim (Contains-push_cases xs x h.0 h.1) [
          | inl l ↦ inl ((g.1 y).1 (inr (h.0, l, h.2)))
          | inr e ↦ inr (subst (λ z. R z y) (sym e) h.2)
        ]
      ])),
    )),
  )

  pub meets-step : (xs : List X) (i : ℕ) (d : X) (first old new : List ℕ) → i < length xs →
      MeetsToo (IsRelated R (take i xs)) first old → MeetsToo (R (slice_index_or xs i d)) old new →
      MeetsToo (IsRelated R (take (i + 1) xs)) first new
  meets-step xs i d first old new lt g a =
      subst (λ l. MeetsToo (IsRelated R l) first new)
      (sym (take-at xs i (slice_index_or xs i d) (slice_get-get_or xs i d lt)))
      (meets-next (take i xs) (slice_index_or xs i d) first old new g a)

  pub meets-all : (xs : List X) (i : ℕ) (first new : List ℕ) → length xs ≤ i →
      MeetsToo (IsRelated R (take i xs)) first new → MeetsToo (IsRelated R xs) first new
  meets-all xs i first new le h = subst (λ l. MeetsToo (IsRelated R l) first new) (take_all i xs le) h

-- ---- pairs of a number
pub seconds-are : (pairs own : List (NodeId × NodeId)) (id : ℕ) → ArePairsOf pairs id own → (j : ℕ) →
    IsRelated IsSecond own j ↔ IsImageOfNumber pairs id j
seconds-are pairs own id of j = (
  (λ h.
      let k = (of h.0).0 h.1 in
      let a : h.0.0.0 ≡ id = k.1 in
      let b : h.0.1.0 ≡ j = h.2 in
      let e : h.0 ≡ (id_of id, id_of j) = (λ i. (id_of (a i), id_of (b i))) in
      subst (λ p. Contains pairs p) e k.0),
  (λ m. ((id_of id, id_of j), (of (id_of id, id_of j)).1 (m, refl), refl)),
)
