-- What is gathered thing by thing.
use Rattle.std.proofs.Common.{◌≡◌, ◌∙◌, sym, ap, subst, inl, inr, true≢false, IsTrue, take, slice_index_or, ◌≤◌, ◌<◌, ◌+◌}
use Rattle.std.specs.Prelude.{◌↔◌, ℕ, Bool, false, List, [], ◌∷◌, ◌++◌, Contains, length}
use Rattle.std.proofs.lemmas.List.{take_all}
use Rattle.std.proofs.lemmas.Option.{slice_get-get_or}
use Rattle.std.proofs.lemmas.List.Elements.{Contains-append_left, Contains-push, Contains-push_cases}
use Rattle.lists.specs.Gathering.{Adds, Gathers}
use Rattle.lists.proofs.Members.{Contains-none}
use Rattle.lists.proofs.Places.{take-at}

-- ---- one more
pub adds-nothing : {Y : Type 0} (P : Y → Type 0) (ys : List Y) → ((y : Y) → P y → ⊥) → Adds P ys ys
adds-nothing P ys none y = ((λ m. inl m), (λ h. elim h [ inl m ↦ m | inr p ↦ absurd (none y p) ]))

pub adds-one : {Y : Type 0} (P : Y → Type 0) (old new : List Y) (x : Y) → new ≡ old ++ x ∷ [] → P x → ((y : Y) → P y → x ≡ y) → Adds P old new
adds-one {Y} P old new x e p only y = (
  (λ m. elim (Contains-push_cases old x y (subst (λ l. Contains l y) e m)) [ inl k ↦ inl k | inr f ↦ inr (subst P f p) ]),
  (λ h. subst (λ l. Contains l y) (sym e) (elim h [
    | inl k ↦ Contains-append_left old (x ∷ []) y k
    | inr q ↦ subst (λ z. Contains (old ++ x ∷ []) z) (only y q) (Contains-push old x)
  ])),
)

-- ---- item by item
module _ {X Y : Type 0} (R : X → Y → Type 0) where
  pub gathers-none : (ys : List Y) → ys ≡ [] → Gathers R [] ys
  gathers-none ys e y = ((λ m. absurd (Contains-none y (subst (λ l. Contains l y) e m))), (λ h. absurd (Contains-none h.0 h.1)))

  pub gathers-next : (xs : List X) (x : X) (old new : List Y) → Gathers R xs old → Adds (R x) old new → Gathers R (xs ++ x ∷ []) new
  gathers-next xs x old new g a y = (
    (λ m. elim ((a y).0 m) [
      | inl k ↦ (let h = (g y).0 k in (h.0, Contains-append_left xs (x ∷ []) h.0 h.1, h.2))
      | inr r ↦ (x, Contains-push xs x, r)
    ]),
    (λ h. (a y).1 (elim (Contains-push_cases xs x h.0 h.1) [ inl k ↦ inl ((g y).1 (h.0, k, h.2)) | inr e ↦ inr (subst (λ z. R z y) (sym e) h.2) ])),
  )

  pub gathers-step : (xs : List X) (i : ℕ) (d : X) (old new : List Y) → i < length xs → Gathers R (take i xs) old → Adds (R (slice_index_or xs i d)) old new →
      Gathers R (take (i + 1) xs) new
  gathers-step xs i d old new lt g a =
      subst (λ l. Gathers R l new) (sym (take-at xs i (slice_index_or xs i d) (slice_get-get_or xs i d lt)))
      (gathers-next (take i xs) (slice_index_or xs i d) old new g a)

  pub gathers-all : (xs : List X) (i : ℕ) (ys : List Y) → length xs ≤ i → Gathers R (take i xs) ys → Gathers R xs ys
  gathers-all xs i ys le g = subst (λ l. Gathers R l ys) (take_all i xs le) g

  -- by the members alone
  pub gathers-out : (xs : List X) (ys zs : List Y) → Gathers R xs ys → ((y : Y) → Contains zs y ↔ Contains ys y) → Gathers R xs zs
  gathers-out xs ys zs g e y = ((λ m. (g y).0 ((e y).0 m)), (λ h. (e y).1 ((g y).1 h)))

  pub gathers-in : (xs ws : List X) (ys : List Y) → Gathers R ws ys → ((x : X) → Contains ws x ↔ Contains xs x) → Gathers R xs ys
  gathers-in xs ws ys g e y = (
    (λ m. let h = (g y).0 m in (h.0, (e h.0).0 h.1, h.2)),
    (λ h. (g y).1 (h.0, (e h.0).1 h.1, h.2)),
  )

-- ---- tests
pub refused : {P : Type 0} {b : Bool} → IsTrue b ↔ P → b ≡ false → P → ⊥
refused h e p = true≢false (sym (h.1 p) ∙ e)
