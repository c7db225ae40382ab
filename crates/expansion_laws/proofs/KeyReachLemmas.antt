-- Whether a place or a turn is reached is decided along the walks from a tree, where these are bounded.
use Rattle.std.proofs.Common.{◌≡◌, refl, sym, subst, arith, inl, inr, ◌∙◌}
use Rattle.std.specs.Prelude.{◌⊎◌, ◌↔◌, ◌||◌, ℕ, zero, suc, Bool, true, false, List, [], ◌∷◌, Contains, IsTrue}
use Rattle.lists.proofs.Members.{Contains-cases, Contains-here, Contains-none, Contains-there}
use Rattle.graph_walks.specs.Walks.{itself, along, IsRankBound}
use Rattle.expansion_laws.specs.Trees.{Tree}
use Rattle.expansion_laws.specs.Contexts.{Context}
use Rattle.expansion_laws.specs.Steps.{Step}
use Rattle.expansion_laws.specs.Graph.{edges, Reaches}
use Rattle.expansion_laws.specs.Keys.{asks_place, asks_turn, Key, key, IsKey}
use Rattle.expansion_laws.specs.KeyReach.{RankedTreesHaveOneKey, VisitsHaveKeys, ReachGoesByEnds}
use Rattle.expansion_laws.proofs.UnconditionalLemmas.{visited-reached}

pub either-first : (a b : Bool) → a ≡ true → (a || b) ≡ true
either-first true b e = refl
either-first false b e = absurd cc

pub either-second : (a b : Bool) → b ≡ true → (a || b) ≡ true
either-second true b e = refl
either-second false b e = e

pub either-cases : (a b : Bool) → (a || b) ≡ true → (a ≡ true) ⊎ (b ≡ true)
either-cases true b e = inl refl
either-cases false b e = inr e

module _ (s : Step) (asks : Tree → Bool) where
  abbrev Asked : Tree → Type 0
  Asked x = (y : Tree) × Reaches s x y × (asks y ≡ true)

  abbrev IsToldAt : Tree → Type 0
  IsToldAt x = (b : Bool) × (IsTrue b ↔ Asked x)

  -- a tree asks it itself, or an end of one of its edges leads to it
  pub asked-cases : {x y : Tree} → Reaches s x y → asks y ≡ true →
      (asks x ≡ true) ⊎ ((z : Tree) × Contains (edges s x) z × Asked z)
  asked-cases itself e = inl e
  asked-cases {y = y} (along z m r) e = inr (z, m, (y, r, e))

  pub asked-back : (x : Tree) → (asks x ≡ true) ⊎ ((z : Tree) × Contains (edges s x) z × Asked z) → Asked x
  asked-back x (inl e) = (x, itself, e)
  asked-back x (inr h) = (h.2.0, along h.0 h.1 h.2.1, h.2.2)

  told-any : (xs : List Tree) → ((y : Tree) → Contains xs y → IsToldAt y) →
      (b : Bool) × (IsTrue b ↔ ((y : Tree) × Contains xs y × Asked y))
  told-any [] each = (false, ((λ e. absurd cc), (λ h. absurd (Contains-none h.0 h.1))))
  told-any (x ∷ xs) each =
      let one = each x (Contains-here x xs) in
      let rest = told-any xs (λ y m. each y (Contains-there x y xs m)) in (
        one.0 || rest.0,
        (
          (λ e. elim (either-cases one.0 rest.0 e) [
            | inl f ↦ (x, Contains-here x xs, one.1.0 f)
            | inr f ↦ (let r = rest.1.0 f in (r.0, Contains-there x r.0 xs r.1, r.2))
          ]),
          (λ h. elim (Contains-cases x h.0 xs h.1) [
            | inl same ↦ either-first one.0 rest.0 (one.1.1 (subst (λ z. Asked z) (sym same) h.2))
            | inr k ↦ either-second one.0 rest.0 (rest.1.1 (h.0, k, h.2))
          ]),
        ),
      )

  told-here : (x : Tree) → ((y : Tree) → Contains (edges s x) y → IsToldAt y) → IsToldAt x
  told-here x each =
      let any = told-any (edges s x) each in (
        asks x || any.0,
        (
          (λ e. elim (either-cases (asks x) any.0 e) [
            | inl f ↦ asked-back x (inl f)
            | inr f ↦ asked-back x (inr (any.1.0 f))
          ]),
          (λ h. elim (asked-cases h.1 h.2) [
            | inl f ↦ either-first (asks x) any.0 f
            | inr g ↦ either-second (asks x) any.0 (any.1.1 g)
          ]),
        ),
      )

  below-bound : (n : ℕ) (x y : Tree) → IsRankBound (edges s) x (suc n) → Contains (edges s x) y →
      IsRankBound (edges s) y n
  below-bound n x y h m walk w = let a = h (y ∷ walk) (m, w) in omega (arith, a)

  -- where no walk is longer it is told
  pub told-at : (n : ℕ) (x : Tree) → IsRankBound (edges s) x n → IsToldAt x
  told-at zero x h = told-here x (λ y m. absurd (let a = h (y ∷ []) (m, tt) in omega (arith, a)))
  told-at (suc n) x h = told-here x (λ y m. told-at n y (below-bound n x y h m))

same-test : (a b : Bool) → (IsTrue a → IsTrue b) → (IsTrue b → IsTrue a) → a ≡ b
same-test true true h g = refl
same-test true false h g = absurd (let e = h refl in cc)
same-test false true h g = absurd (let e = g refl in cc)
same-test false false h g = refl

-- what a tree reaches has no longer walks
reached-bound : (s : Step) {x y : Tree} → Reaches s x y → (n : ℕ) → IsRankBound (edges s) x n →
    IsRankBound (edges s) y n
reached-bound s itself n h = h
reached-bound s {x = x} (along z m r) n h =
    reached-bound s r n (λ walk w. let a = h (z ∷ walk) (m, w) in omega (arith, a))

module _ (s : Step) where
  key-within : (n : ℕ) (x : Tree) (here : Context) → IsRankBound (edges s) x n → (k : Key) × IsKey s x here k
  key-within n x here h =
      let place = told-at s (asks_place s) n x h in
      let turn = told-at s (asks_turn s) n x h in
      (key place.0 turn.0 x here, (place.0, turn.0, place.1, turn.1, refl))

  pub one-key : (x : Tree) (here : Context) (k l : Key) → IsKey s x here k → IsKey s x here l → l ≡ k
  one-key x here k l h g =
      let word = same-test g.0 h.0 (λ t. h.2.1 (g.2.0 t)) (λ t. g.2.1 (h.2.0 t)) in
      let turn = same-test g.1 h.1 (λ t. h.3.1 (g.3.0 t)) (λ t. g.3.1 (h.3.0 t)) in
      g.4 ∙ (λ i. key (word i) (turn i) x here) ∙ sym h.4

pub ranked-keys : (s : Step) → RankedTreesHaveOneKey s
ranked-keys s n x here rank = let k = key-within s n x here rank.1 in (k.0, k.1, λ l h. one-key s x here k.0 l k.1 h)

pub visits-keys : (s : Step) → VisitsHaveKeys s
visits-keys s n root x here rank v = key-within s n x here (reached-bound s (visited-reached s root x here v) n rank.1)

pub reach-by-ends : (s : Step) → ReachGoesByEnds s
reach-by-ends s = record {
  place = λ x. ((λ h. asked-cases s (asks_place s) h.1 h.2), asked-back s (asks_place s) x);
  turn = λ x. ((λ h. asked-cases s (asks_turn s) h.1 h.2), asked-back s (asks_turn s) x);
}
