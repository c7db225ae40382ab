-- The steps of a visit.
use Rattle.std.proofs.Common.{◌≡◌, ◌<◌, ◌≤◌, ◌+◌, refl, sym, subst, ◌∙◌, ap, suc, zero, add-one, take_all, length}
use Rattle.std.specs.Prelude.{ℕ, Bool, true, false, ◌↔◌, Some, List, [], ◌∷◌, ◌++◌, All, map, take, slice_get, Contains}
use Rattle.std.specs.Prelude.{unwrap_or}
use Rattle.std.proofs.lemmas.List.{map-append}
use Rattle.std.proofs.lemmas.List.Elements.{All-contains}
use Rattle.expansion_laws.specs.Trees.{Tree, uses}
use Rattle.expansion_laws.specs.Equality.{tree_eq}
use Rattle.expansion_laws.specs.Written.{completed}
use Rattle.written_order.specs.Numbering.{completed_all, Completes, CompletesAll}
use Rattle.written_order.proofs.Trees.{any_at, any_none, completed-done, completed-new}
use Rattle.written_order.proofs.Trees.{completed_all-push, completed_uses-all}

by_test : {P : Type 0} (b : Bool) → (b ≡ true → P) → (b ≡ false → P) → P
by_test {P} b holds fails = elim b as (λ v. b ≡ v → P) [ true ↦ holds | false ↦ fails ] refl

abbrev pub TestTells : Type 0
TestTells = (x y : Tree) → (tree_eq x y ≡ true) ↔ (x ≡ y)

take-next : (xs : List ℕ) (i x : ℕ) → slice_get xs i ≡ Some x → take (suc i) xs ≡ take i xs ++ x ∷ []
take-next [] i x e = absurd cc
take-next (y ∷ xs) zero x e = ap (λ o. unwrap_or o y ∷ []) e
take-next (y ∷ xs) (suc i) x e = ap (λ ys. y ∷ ys) (take-next xs i x e)

take-one : (xs : List ℕ) (i x : ℕ) → slice_get xs i ≡ Some x → take (i + 1) xs ≡ take i xs ++ x ∷ []
take-one xs i x e = rw add-one (take-next xs i x e)

subst_number : (numbers : List ℕ) (i k : ℕ) → i ≡ k → Contains numbers k → Contains numbers i
subst_number numbers i k e there = subst (λ m. Contains numbers m) (sym e) there

module _ (test : TestTells) (n : ℕ) (used : ℕ → List ℕ) where
  -- nothing happens at a number that is there
  pub visit_done : (i : ℕ) (numbers : List ℕ) → Contains numbers i → Completes n used i numbers numbers
  visit_done i numbers there tree tell =
      sym (completed-done (tree i) (map tree numbers)
      (any_at tree (tree i) numbers i there ((test (tree i) (tree i)).1 refl)))

  -- the number itself, after all that it uses
  pub visit_end : (i : ℕ) (numbers after : List ℕ) (at : ℕ) → i < n → All (λ k. k < n) numbers
      → (Contains numbers i → ⊥) → length (used i) ≤ at → CompletesAll n used (take at (used i)) numbers after
      → Completes n used i numbers (after ++ i ∷ [])
  visit_end i numbers after at lt held new le given tree tell =
      let c : CompletesAll n used (used i) numbers after =
      subst (λ is. CompletesAll n used is numbers after) (take_all at (used i) le) given in
      let other : (k : ℕ) → Contains numbers k → tree_eq (tree i) (tree k) ≡ false =
      λ k there. by_test (tree_eq (tree i) (tree k))
      (λ e. absurd (new (subst_number numbers i k (tell.apart i k lt (All-contains (λ m. m < n) numbers k held there)
      ((test (tree i) (tree k)).0 e)) there)))
      (λ e. e) in
      map-append tree after (i ∷ [])
      ∙ ap (λ ts. ts ++ tree i ∷ [])
      (c tree tell ∙ ap (λ ts. completed_all ts (map tree numbers)) (sym (tell.below i lt))
      ∙ sym (completed_uses-all (uses (tree i)) (map tree numbers)))
      ∙ sym (completed-new (tree i) (map tree numbers) (any_none tree (tree i) numbers other))

  -- one more that is used
  pub visit_use : (is : List ℕ) (at i : ℕ) (before middle after : List ℕ) → slice_get is at ≡ Some i
      → CompletesAll n used (take at is) before middle → Completes n used i middle after
      → CompletesAll n used (take (at + 1) is) before after
  visit_use is at i before middle after e first last tree tell =
      last tree tell ∙ ap (completed (tree i)) (first tree tell)
      ∙ sym (completed_all-push (map tree (take at is)) (tree i) (map tree before))
      ∙ ap (λ ts. completed_all ts (map tree before))
      (sym (map-append tree (take at is) (i ∷ [])) ∙ ap (map tree) (sym (take-one is at i e)))
