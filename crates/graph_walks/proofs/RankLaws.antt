-- Ranks along an order of finishing.
use Rattle.std.proofs.Common.{◌≡◌, ◌≤◌, ◌<◌, ◌+◌, refl, sym, ◌∙◌, ap, subst, arith, inl, inr}
use Rattle.std.specs.Prelude.{ℕ, zero, suc, ◌⊎◌, List, [], ◌∷◌, length, Contains, max}
use Rattle.graph_walks.specs.Walks.{IsRank, IsRankBound, IsFinishOrder, rank_over}
use Rattle.std.proofs.Common.{take, drop, ◌++◌, slice_index_or, All, set}
use Rattle.std.specs.Prelude.{reverse}
use Rattle.std.proofs.lemmas.List.{reverse-append, take-append-drop, drop_more}
use Rattle.std.proofs.lemmas.List.{take_more, get_or-set_same, get_or-set_other}
use Rattle.std.proofs.lemmas.List.Elements.{Contains-append_left, Contains-append_right}
use Rattle.std.proofs.lemmas.List.Elements.{All-set, All-contains, Contains-push_cases}
use Rattle.lists.proofs.Members.{Contains-cases, Contains-first, Contains-here}
use Rattle.lists.proofs.Members.{Contains-none, Contains-reverse, Contains-reversed, Contains-there}
use Rattle.lists.proofs.Cases.{same_or_not}

pub by_order : {P : Type 0} (m n : ℕ) → (m ≤ n → P) → (n ≤ m → P) → P
by_order zero n f g = f (omega arith)
by_order (suc m) zero f g = g (omega arith)
by_order (suc m) (suc n) f g = by_order m n (λ h. f (omega (arith, h))) (λ h. g (omega (arith, h)))

module _ {X : Type 0} (edges : X → List X) where
  reached : (rank : X → ℕ) (ys : List X) (y : X) → Contains ys y → suc (rank y) ≤ rank_over rank ys
  reached rank [] y m = absurd (Contains-none y m)
  reached rank (z ∷ ys) y m = elim (Contains-cases z y ys m) [
    | inl e ↦ (let a = ap rank e in omega (arith, a))
    | inr k ↦ (let a = reached rank ys y k in omega (arith, a))
  ]

  greatest : (rank : X → ℕ) (ys : List X) → (rank_over rank ys ≡ 0) ⊎
      ((y : X) × Contains ys y × (rank_over rank ys ≡ suc (rank y)))
  greatest rank [] = inl refl
  greatest rank (z ∷ ys) = elim (greatest rank ys) [
    | inl e ↦ inr (z, Contains-here z ys, omega (arith, e))
    | inr g ↦ by_order (suc (rank z)) (rank_over rank ys)
        (λ le. inr (g.0, Contains-there z g.0 ys g.1, (let a = g.2 in omega (arith, a, le))))
        (λ le. inr (z, Contains-here z ys, omega (arith, le)))
  ]

  pub rank-bound : (rank : X → ℕ) (x : X) → ((y : X) → Contains (edges x) y → IsRankBound edges y (rank y)) →
      IsRankBound edges x (rank_over rank (edges x))
  rank-bound rank x each [] w = omega arith
  rank-bound rank x each (y ∷ walk) w =
      let a = each y w.0 walk w.1 in let b = reached rank (edges x) y w.0 in omega (arith, a, b)

  pub rank-next : (rank : X → ℕ) (x : X) → ((y : X) → Contains (edges x) y → IsRank edges y (rank y)) →
      IsRank edges x (rank_over rank (edges x))
  rank-next rank x each = (
    elim (greatest rank (edges x)) [
      | inl e ↦ ([], tt, sym e)
      | inr g ↦ (let r = each g.0 g.1 in (g.0 ∷ r.0.0, (g.1, r.0.1), ap suc r.0.2 ∙ sym g.2))
    ],
    rank-bound rank x (λ y m. (each y m).1),
  )

push-through : {X : Type 0} (a : List X) (x : X) (b : List X) → a ++ x ∷ [] ++ b ≡ a ++ x ∷ b
push-through [] x b = refl
push-through (y ∷ a) x b = ap (λ l. y ∷ l) (push-through a x b)

-- a prefix of an order of finishing holds the ends of the edges of what comes next
module _ {X : Type 0} (edges : X → List X) where
  finish-later : (a b : List X) → IsFinishOrder edges (a ++ b) → IsFinishOrder edges b
  finish-later [] b o = o
  finish-later (x ∷ a) b o = finish-later a b o.2

  -- a thing of the order, after the ones before it
  finish-at : (order : List X) (k : ℕ) (d : X) → IsFinishOrder edges (reverse order) → k < length order →
      IsFinishOrder edges (slice_index_or order k d ∷ reverse (take k order))
  finish-at order k d o lt =
      let x : X = slice_index_or order k d in
      let parts : order ≡ take k order ++ x ∷ drop (k + 1) order = sym (take-append-drop k order) ∙
      ap (λ l. take k order ++ l) (drop_more order k d lt) in
      let turned : reverse order ≡ reverse (drop (k + 1) order) ++ x ∷ [] ++ reverse (take k order) = ap reverse parts ∙
      reverse-append (take k order) (x ∷ drop (k + 1) order) ∙
      ap (λ l. l ++ reverse (take k order)) (reverse-append (x ∷ []) (drop (k + 1) order)) in
      finish-later (reverse (drop (k + 1) order)) (x ∷ reverse (take k order))
      (subst (IsFinishOrder edges) (turned ∙ push-through (reverse (drop (k + 1) order)) x (reverse (take k order))) o)

  pub ends-before : (order : List X) (k : ℕ) (d : X) → IsFinishOrder edges (reverse order) → k < length order → (y : X) →
      Contains (edges (slice_index_or order k d)) y → Contains (take k order) y
  ends-before order k d o lt y m = Contains-reversed y (take k order) ((finish-at order k d o lt).0 y m)

  -- and not that thing itself
  pub once-before : (order : List X) (k : ℕ) (d : X) → IsFinishOrder edges (reverse order) → k < length order →
      Contains (take k order) (slice_index_or order k d) → ⊥
  once-before order k d o lt m =
      (finish-at order k d o lt).1 (Contains-reverse (slice_index_or order k d) (take k order) m)

-- ranks by a list
rank-more : (rank : ℕ → ℕ) (ys : List ℕ) (y : ℕ) →
    rank_over rank (ys ++ y ∷ []) ≡ max (rank_over rank ys) (suc (rank y))
rank-more rank [] y = omega arith
rank-more rank (z ∷ ys) y = let a = rank-more rank ys y in omega (arith, a)

pub rank-step : (rank : ℕ → ℕ) (ys : List ℕ) (i d : ℕ) → i < length ys →
    rank_over rank (take (i + 1) ys) ≡ max (rank_over rank (take i ys)) (suc (rank (slice_index_or ys i d)))
rank-step rank ys i d lt =
    ap (rank_over rank) (take_more ys i d lt) ∙ rank-more rank (take i ys) (slice_index_or ys i d)

pub rank-small : (rank : ℕ → ℕ) (n : ℕ) (ys : List ℕ) → ((y : ℕ) → Contains ys y → rank y ≤ n) →
    rank_over rank ys ≤ n + 1
rank-small rank n [] h = omega arith
rank-small rank n (y ∷ ys) h =
    let a = h y (Contains-here y ys) in let b = rank-small rank n ys (λ z m. h z (Contains-there y z ys m)) in
    omega (arith, a, b)

pub rank-same : (rank rank' : ℕ → ℕ) (ys : List ℕ) → ((y : ℕ) → Contains ys y → rank' y ≡ rank y) →
    rank_over rank' ys ≡ rank_over rank ys
rank-same rank rank' [] h = refl
rank-same rank rank' (y ∷ ys) h =
    λ i. max (suc (h y (Contains-here y ys) i)) (rank-same rank rank' ys (λ z m. h z (Contains-there y z ys m)) i)

pub rank-told : (edges : ℕ → List ℕ) (order ranks : List ℕ) (i r : ℕ) → i < length order →
    IsFinishOrder edges (reverse order) →
    slice_index_or order i 0 < length ranks →
    r ≡ rank_over (λ y. slice_index_or ranks y 0) (edges (slice_index_or order i 0)) →
    ((y : ℕ) → Contains (take i order) y → IsRank edges y (slice_index_or ranks y 0)) →
    (y : ℕ) → Contains (take (i + 1) order) y → IsRank edges y
    (slice_index_or (set ranks (slice_index_or order i 0) r) y 0)
rank-told edges order ranks i r lt o held is told y m =
    let x : ℕ = slice_index_or order i 0 in
    let now : IsRank edges x r = subst (IsRank edges x) (sym is)
    (rank-next edges (λ y. slice_index_or ranks y 0) x (λ z k. told z (ends-before edges order i 0 o lt z k))) in
    same_or_not x y
    (λ e. subst (λ z. IsRank edges z (slice_index_or (set ranks x r) z 0)) e
    (subst (IsRank edges x) (sym (get_or-set_same ranks x r 0 held)) now))
    (λ ne. elim (Contains-push_cases (take i order) x y (subst (λ l. Contains l y) (take_more order i 0 lt) m)) [
      | inl k ↦ subst (IsRank edges y) (sym (get_or-set_other ranks x y r 0 (λ e. ne (sym e)))) (told y k)
      | inr e ↦ absurd (ne e)
    ])

pub rank-grows : (ranks ys : List ℕ) (i x r : ℕ) → All (λ (k : ℕ). k ≤ i) ranks → All (λ (y : ℕ). y < length ranks) ys →
    r ≡ rank_over (λ y. slice_index_or ranks y 0) ys → All (λ (k : ℕ). k ≤ i + 1) (set ranks x r)
rank-grows ranks ys i x r h w e =
    All-set (λ (k : ℕ). k ≤ i + 1) ranks x r
    (let a = rank-small (λ y. slice_index_or ranks y 0) i ys
    (λ y m. h y 0 (All-contains (λ (y : ℕ). y < length ranks) ys y w m)) in
    omega (arith, a, e)) (λ k d l. let a = h k d l in omega arith)

-- ---- the nodes that the order doesn't have
pub rest-zero : (ranks : List ℕ) (y : ℕ) → All (λ (r : ℕ). r ≤ 0) ranks → slice_index_or ranks y 0 ≡ 0
rest-zero [] y h = refl
rest-zero (r ∷ ranks) zero h = let a = h 0 0 (omega arith) in omega (arith, a)
rest-zero (r ∷ ranks) (suc y) h = rest-zero ranks y (λ k d lt. h (suc k) d (omega (arith, lt)))

pub others-kept : (order ranks : List ℕ) (i r : ℕ) → i < length order →
    ((y : ℕ) → (Contains (take i order) y → ⊥) → slice_index_or ranks y 0 ≡ 0) →
    (y : ℕ) → (Contains (take (i + 1) order) y → ⊥) → slice_index_or (set ranks (slice_index_or order i 0) r) y 0 ≡ 0
others-kept order ranks i r lt h y apart =
    let x : ℕ = slice_index_or order i 0 in
    let among : Contains (take i order ++ x ∷ []) y → ⊥ =
    λ m. apart (subst (λ l. Contains l y) (sym (take_more order i 0 lt)) m) in
    get_or-set_other ranks x y r 0
    (λ e. among (Contains-append_right (take i order) (x ∷ []) y (Contains-first x y [] (sym e)))) ∙
    h y (λ m. among (Contains-append_left (take i order) (x ∷ []) y m))
