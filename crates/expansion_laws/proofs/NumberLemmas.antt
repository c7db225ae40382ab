-- The number of a tree among those written: it finds the tree, and the tree's place finds it.
use Rattle.std.proofs.Common.{◌≡◌, ◌-◌, refl, sym, ◌∙◌, ap, subst, arith, inl, inr}
use Rattle.std.specs.Prelude.{ℕ, zero, suc, true, if◌then◌else◌, Some, List, [], ◌∷◌, length, Contains, slice_get}
use Rattle.std.proofs.lemmas.Option.{same_Some}
use Rattle.lists.specs.Distinct.{IsDistinct}
use Rattle.lists.proofs.Places.{Contains-at}
use Rattle.lists.proofs.Members.{Contains-cases, Contains-none}
use Rattle.lists.proofs.Cases.{by_test}
use Rattle.expansion_laws.specs.Trees.{Tree}
use Rattle.expansion_laws.specs.Equality.{tree_eq}
use Rattle.expansion_laws.specs.Expansion.{IsNumberOf}
use Rattle.expansion_laws.specs.Written.{number_in}
use Rattle.expansion_laws.proofs.TreeEquality.{tree_eq-itself, tree_eq-same}

-- the tree stands at this number, counted from the end
abbrev pub HasNumber : List Tree → Tree → ℕ → Type 0
HasNumber trees x n = IsNumberOf (length trees) n × (slice_get trees (length trees - n) ≡ Some x)

pub number_in-has : (trees : List Tree) (x : Tree) → Contains trees x → HasNumber trees x (number_in trees x)
number_in-has [] x m = absurd (Contains-none x m)
number_in-has (y ∷ ys) x m = by_test (tree_eq x y)
    (λ e. subst (λ b. HasNumber (y ∷ ys) x (if b then suc (length ys) else number_in ys x)) (sym e)
    (let none : suc (length ys) - suc (length ys) ≡ 0 = omega arith in
    ((omega arith, omega arith), ap (slice_get (y ∷ ys)) none ∙ ap Some (sym (tree_eq-same x y e)))))
    (λ e. subst (λ b. HasNumber (y ∷ ys) x (if b then suc (length ys) else number_in ys x)) (sym e)
    (let later : Contains ys x = elim (Contains-cases y x ys m) [
      | inl same ↦ (let f : tree_eq x y ≡ true = subst (λ z. tree_eq x z ≡ true) (sym same) (tree_eq-itself x) in
          absurd cc)
      | inr k ↦ k
    ] in
    let r = number_in-has ys x later in
    let low = r.0.0 in let high = r.0.1 in
    let back : suc (length ys) - number_in ys x ≡ suc (length ys - number_in ys x) = omega (arith, low, high) in
    ((low, omega (arith, high)), ap (slice_get (y ∷ ys)) back ∙ r.1)))

pub number_in-at : (trees : List Tree) → IsDistinct trees → (k : ℕ) (x : Tree) → IsNumberOf (length trees) k →
    slice_get trees (length trees - k) ≡ Some x → number_in trees x ≡ k
number_in-at [] d k x n e = absurd (let low = n.0 in let high = n.1 in omega (arith, low, high))
number_in-at (y ∷ ys) d k x n e = go (suc (length ys) - k) refl e (number_in-at ys d.1)
  where
    go : (i : ℕ) → i ≡ suc (length ys) - k → slice_get (y ∷ ys) i ≡ Some x →
        ((k : ℕ) (x : Tree) → IsNumberOf (length ys) k → slice_get ys (length ys - k) ≡ Some x → number_in ys x ≡ k) →
        number_in (y ∷ ys) x ≡ k
    go zero i_is e again =
        let high = n.1 in
        let test : tree_eq x y ≡ true = subst (λ z. tree_eq x z ≡ true) (sym (same_Some y x e)) (tree_eq-itself x) in
        subst (λ b. (if b then suc (length ys) else number_in ys x) ≡ k) (sym test) (omega (arith, high, i_is))
    go (suc i) i_is e again = by_test (tree_eq x y)
        (λ test. absurd (d.0 (subst (λ z. Contains ys z) (tree_eq-same x y test) (Contains-at ys i x e))))
        (λ test. subst (λ b. (if b then suc (length ys) else number_in ys x) ≡ k) (sym test)
        (let low = n.0 in
        let there : length ys - k ≡ i = omega (arith, i_is) in
        again k x (low, omega (arith, i_is)) (ap (slice_get ys) there ∙ e)))
