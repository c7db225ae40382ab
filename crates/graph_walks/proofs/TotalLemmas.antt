-- Where only so many things are reached, a search ends: with a first cycle, or with none, and then there is no cycle
-- and a rank.
use Rattle.std.proofs.Common.{◌≡◌, ◌≢◌, ◌≤◌, refl, sym, ◌∙◌, ap, subst, arith, inl, inr}
use Rattle.std.proofs.lemmas.List.{length-append}
use Rattle.std.proofs.lemmas.List.Elements.{Contains-append_left, Contains-append_right, Contains-append_cases}
use Rattle.std.specs.Prelude.{ℕ, zero, suc, max, ◌⊎◌, Bool, true, false, Option, None}
use Rattle.std.specs.Prelude.{Some, List, [], ◌∷◌, ◌++◌, length, reverse, Contains}
use Rattle.lists.proofs.Members.{split_by, Contains-cases, Contains-here, Contains-none, Contains-there}
use Rattle.graph_walks.specs.Walks.{Reaches, itself, along, IsWalkFrom, HasCycle, IsRank, Searches}
use Rattle.graph_walks.specs.Walks.{SearchesEach, closes, enters, no_more, finds, passes, IsFirstCycle}
use Rattle.graph_walks.proofs.RankLaws.{by_order}

module _ {X : Type 0} (edges : X → List X) where
  -- ---- nothing found
  each-of : {path xs : List X} {found : Option (List X)} → SearchesEach edges path xs found → found ≡ None → (y : X) →
      Contains xs y →
      Searches edges path y None
  each-of no_more e y m = absurd (Contains-none y m)
  each-of (finds s) e y m = absurd cc
  each-of {path = path} (passes {x = x} {xs = xs} s t) e y m =
      elim (Contains-cases x y xs m) [
        | inl same ↦ subst (λ v. Searches edges path v None) same s
        | inr k ↦ each-of t e y k
      ]

  opened : {path : List X} {x : X} {found : Option (List X)} → Searches edges path x found → found ≡ None →
      ((y : X) → Contains path y → y ≢ x) × ((y : X) → Contains (edges x) y → Searches edges (x ∷ path) y None)
  opened (closes newer older e) f = absurd cc
  opened (enters h t) f = (h, each-of t f)

  onward : {x z : X} → Reaches edges x z → (path : List X) → Searches edges path x None →
      (longer : List X) × Searches edges longer z None × ((p : X) → Contains path p → Contains longer p)
  onward itself path s = (path, s, λ p m. m)
  onward {x = x} (along y m r) path s =
      let o = onward r (x ∷ path) ((opened s refl).1 y m) in
      (o.0, o.1, λ p k. o.2 p (Contains-there x p path k))

  pub none-found : (root : X) → Searches edges [] root None → HasCycle edges root → ⊥
  none-found root s c =
      let first = onward c.2 [] s in
      let second = onward c.4 (c.0 ∷ first.0) ((opened first.1 refl).1 c.1 c.3) in
      (opened second.1 refl).0 c.0 (second.2 c.0 (Contains-here c.0 first.0)) refl

  -- ---- a rank
  Over : List X → Type 0
  Over xs = (n : ℕ) × ((y : X) → Contains xs y → (walk : List X) → IsWalkFrom edges y walk → suc (length walk) ≤ n) ×
      ((n ≡ 0) ⊎ ((y : X) × (walk : List X) × Contains xs y × IsWalkFrom edges y walk × (suc (length walk) ≡ n)))

  rank-over : (x : X) → Over (edges x) → (n : ℕ) × IsRank edges x n
  unfolding Over
  rank-over x o = (o.0, (longest o.2, bound))
    where
      longest : (o.0 ≡ 0) ⊎ ((y : X) × (walk : List X) × Contains (edges x) y × IsWalkFrom edges y walk ×
          (suc (length walk) ≡ o.0)) →
          (walk : List X) × IsWalkFrom edges x walk × (length walk ≡ o.0)
      longest (inl e) = ([], tt, sym e)
      longest (inr h) = (h.0 ∷ h.1, (h.2, h.3), h.4)

      bound : (walk : List X) → IsWalkFrom edges x walk → length walk ≤ o.0
      bound [] w = omega arith
      bound (y ∷ walk) w = o.1 y w.0 walk w.1

  over-none : Over []
  unfolding Over
  over-none = (0, (λ y m. absurd (Contains-none y m)), inl refl)

  over-more : (x : X) (xs : List X) → (n : ℕ) × IsRank edges x n → Over xs → Over (x ∷ xs)
  unfolding Over
  over-more x xs r o = (
    max (suc r.0) o.0,
    (λ y m walk w. elim (Contains-cases x y xs m) [
      | inl e ↦ (let a = r.1.1 walk (subst (λ v. IsWalkFrom edges v walk) (sym e) w) in omega (arith, a))
      | inr k ↦ (let a = o.1 y k walk w in omega (arith, a))
    ]),
    by_order (suc r.0) o.0
        (λ le. elim o.2 [
          | inl e ↦ absurd (omega (arith, le, e))
          | inr h ↦ inr (h.0, h.1, Contains-there x h.0 xs h.2, h.3, (let a = h.4 in omega (arith, a, le)))
        ])
        (λ le. inr (x, r.1.0.0, Contains-here x xs, r.1.0.1, (let a = r.1.0.2 in omega (arith, a, le)))),
  )

  mutual
    rank-of : {path : List X} {x : X} {found : Option (List X)} → Searches edges path x found → found ≡ None →
        (n : ℕ) × IsRank edges x n
    rank-of (closes newer older e) f = absurd cc
    rank-of {x = x} (enters h t) f = rank-over x (ranks-of t f)

    ranks-of : {path xs : List X} {found : Option (List X)} → SearchesEach edges path xs found → found ≡ None → Over xs
    ranks-of no_more f = over-none
    ranks-of (finds s) f = absurd cc
    ranks-of (passes {x = x} {xs = xs} s t) f = over-more x xs (rank-of s refl) (ranks-of t f)

  -- ---- the search ends
  module _ (same : X → X → Bool) (tells : (x y : X) → same x y ≡ true → x ≡ y) (told : (x : X) → same x x ≡ true) where
    find-split : (path : List X) (x : X) →
        ((newer : List X) × (older : List X) × (path ≡ newer ++ x ∷ older)) ⊎ ((y : X) → Contains path y → y ≢ x)
    find-split [] x = inr (λ y m e. Contains-none y m)
    find-split (p ∷ path) x = go (same p x) refl (find-split path x)
      where
        go : (b : Bool) → same p x ≡ b →
            ((newer : List X) × (older : List X) × (path ≡ newer ++ x ∷ older)) ⊎ ((y : X) → Contains path y → y ≢ x) →
            ((newer : List X) × (older : List X) × (p ∷ path ≡ newer ++ x ∷ older)) ⊎
            ((y : X) → Contains (p ∷ path) y → y ≢ x)
        go true e rest = inl ([], path, ap (λ v. v ∷ path) (tells p x e))
        go false e (inl s) = inl (p ∷ s.0, s.1, ap (λ l. p ∷ l) s.2)
        go false e (inr h) = inr (λ y m f. elim (Contains-cases p y path m) [
          | inl g ↦ (let t = subst (λ v. same v x ≡ true) (sym (g ∙ f)) (told x) in cc)
          | inr k ↦ h y k f
        ])

    each-total : (path xs : List X) → ((y : X) → Contains xs y →
        (found : Option (List X)) × Searches edges path y found) →
        (found : Option (List X)) × SearchesEach edges path xs found
    each-total path [] h = (None, no_more)
    each-total path (x ∷ xs) h =
        go (h x (Contains-here x xs)) (each-total path xs (λ y m. h y (Contains-there x y xs m)))
      where
        go : (found : Option (List X)) × Searches edges path x found →
            (found : Option (List X)) × SearchesEach edges path xs found →
            (found : Option (List X)) × SearchesEach edges path (x ∷ xs) found
        go (None, s) rest = (rest.0, passes s rest.1)
        go (Some walk, s) rest = (Some walk, finds s)

    Left : List X → List X → X → Type 0
    Left left path x = (y : X) → Reaches edges x y → Contains left y ⊎ Contains path y

    -- what is left after one is taken out
    left-less : (left path : List X) (x : X) (a b : List X) → left ≡ a ++ x ∷ b → Left left path x → (y : X) →
        Contains (edges x) y →
        Left (a ++ b) (x ∷ path) y
    unfolding Left
    left-less left path x a b e h y m z r = elim (h z (along y m r)) [
      | inl k ↦ elim (Contains-append_cases a (x ∷ b) z (subst (λ l. Contains l z) e k)) [
        | inl g ↦ inl (Contains-append_left a b z g)
        | inr g ↦ elim (Contains-cases x z b g) [
          | inl f ↦ inr (subst (λ v. Contains (x ∷ path) v) f (Contains-here x path))
          | inr l ↦ inl (Contains-append_right a b z l)
        ]
      ]
      | inr k ↦ inr (Contains-there x z path k)
    ]

    step-total : (path : List X) (x : X) (left : List X) →
        ((newer : List X) × (older : List X) × (path ≡ newer ++ x ∷ older)) ⊎ ((y : X) → Contains path y → y ≢ x) →
        Contains left x ⊎ Contains path x →
        (Contains left x → (y : X) → Contains (edges x) y →
        (found : Option (List X)) × Searches edges (x ∷ path) y found) →
        (found : Option (List X)) × Searches edges path x found
    step-total path x left (inl s) m next = (Some (x ∷ reverse s.0 ++ x ∷ []), closes s.0 s.1 s.2)
    step-total path x left (inr apart) (inr m) next = absurd (apart x m refl)
    step-total path x left (inr apart) (inl m) next =
        let e = each-total (x ∷ path) (edges x) (next m) in (e.0, enters apart e.1)

    first-of : (left path : List X) (x : X) → Left left path x → Contains left x ⊎ Contains path x
    unfolding Left
    first-of left path x h = h x itself

    total-from : (n : ℕ) (left path : List X) (x : X) → length left ≤ n → Left left path x →
        (found : Option (List X)) × Searches edges path x found
    total-from zero left path x le h =
        step-total path x left (find-split path x) (first-of left path x h)
        (λ m. absurd (let a = m.1 in omega (arith, a, le)))
    total-from (suc n) left path x le h = step-total path x left (find-split path x) (first-of left path x h) (λ m y k.
        (let s = split_by left x m in
        let a = ap length s.2 in let b = length-append s.0 (x ∷ s.1) in let c = length-append s.0 s.1 in
        total-from n (s.0 ++ s.1) (x ∷ path) y (omega (arith, a, b, c, le)) (left-less left path x s.0 s.1 s.2 h y k)))

    left-all : (all : List X) (x : X) → ((y : X) → Reaches edges x y → Contains all y) → Left all [] x
    unfolding Left
    left-all all x h y r = inl (h y r)

    -- where all that is reached stands in a list, there is a first cycle, or no cycle and a rank
    pub cycle-or-rank : (all : List X) (root : X) → ((y : X) → Reaches edges root y → Contains all y) →
        ((walk : List X) × IsFirstCycle edges root walk) ⊎ ((HasCycle edges root → ⊥) × ((n : ℕ) × IsRank edges root n))
    cycle-or-rank all root h = go (total-from (length all) all [] root (omega arith) (left-all all root h))
      where
        go : (found : Option (List X)) × Searches edges [] root found →
            ((walk : List X) × IsFirstCycle edges root walk) ⊎
            ((HasCycle edges root → ⊥) × ((n : ℕ) × IsRank edges root n))
        go (None, s) = inr (none-found root s, rank-of s refl)
        go (Some walk, s) = inl (walk, s)
