-- Laws of walks, finish orders and the search.
use Rattle.std.proofs.Common.{◌≡◌, refl, sym, subst, inl, inr}
use Rattle.std.proofs.lemmas.List.{reverse-append}
use Rattle.std.specs.Prelude.{Option, None, Some, List, [], ◌∷◌, ◌++◌, reverse, Contains}
use Rattle.lists.proofs.Members.{Contains-cases, Contains-here, Contains-none, Contains-there}
use Rattle.graph_walks.specs.Walks.{Reaches, itself, along, IsWalkFrom, IsCycle, HasCycle, Searches, SearchesEach}
use Rattle.graph_walks.specs.Walks.{closes, enters, no_more, finds, passes, IsFirstCycle, IsFinishOrder}

module _ {X : Type 0} (edges : X → List X) where
  each-none : (path xs : List X) → ((y : X) → Contains xs y → Searches edges path y None) →
      SearchesEach edges path xs None
  each-none path [] h = no_more
  each-none path (x ∷ xs) h =
      passes (h x (Contains-here x xs)) (each-none path xs (λ y m. h y (Contains-there x y xs m)))

  -- a search of a finished thing, under a path of things that aren't finished, finds nothing
  pub finds_none : (l : List X) → IsFinishOrder edges l → (path : List X) →
      ((y : X) → Contains path y → Contains l y → ⊥) → (x : X) →
      Contains l x → Searches edges path x None
  finds_none [] o path h x m = absurd (Contains-none x m)
  finds_none (z ∷ l) o path h x m =
      elim (Contains-cases z x l m) [
        | inl e ↦ subst (λ v. Searches edges path v None) e (enters
            (λ y k same. h y k (subst (λ v. Contains (z ∷ l) v) (sym same) (Contains-here z l)))
            (each-none (z ∷ path) (edges z) (λ y k. finds_none l o.2 (z ∷ path)
            (λ v a b. elim (Contains-cases z v path a) [
              | inl f ↦ o.1 (subst (λ u. Contains l u) (sym f) b)
              | inr g ↦ h v g (Contains-there z v l b)
            ])
            y (o.0 y k))))
        | inr k ↦ finds_none l o.2 path (λ y a b. h y a (Contains-there z y l b)) x k
      ]

  closed-order : (l : List X) → IsFinishOrder edges l → (x y : X) → Contains l x → Contains (edges x) y → Contains l y
  closed-order [] o x y m e = absurd (Contains-none x m)
  closed-order (z ∷ l) o x y m e =
      elim (Contains-cases z x l m) [
        | inl f ↦ Contains-there z y l (o.0 y (subst (λ v. Contains (edges v) y) (sym f) e))
        | inr k ↦ Contains-there z y l (closed-order l o.2 x y k e)
      ]

  -- what finished things reach is finished
  pub stays : (l : List X) → IsFinishOrder edges l → {x y : X} → Reaches edges x y → Contains l x → Contains l y
  stays l o itself m = m
  stays l o (along {x = x} y e r) m = stays l o r (closed-order l o x y m e)

  -- where things can be finished there is no cycle
  pub no_cycle : (l : List X) → IsFinishOrder edges l → (root : X) → Contains l root → HasCycle edges root → ⊥
  no_cycle [] o root m c = Contains-none root m
  no_cycle (z ∷ l) o root m c =
      elim (Contains-cases z c.0 l (stays (z ∷ l) o c.2 m)) [
        | inl f ↦
            o.1
            (subst (λ v. Contains l v) (sym f) (stays l o.2 c.4
            (o.0 c.1 (subst (λ v. Contains (edges v) c.1) (sym f) c.3))))
        | inr k ↦ no_cycle l o.2 c.0 k (c.0, c.1, itself, c.3, c.4)
      ]

  pub reaches-further : {x y z : X} → Reaches edges x y → Contains (edges y) z → Reaches edges x z
  reaches-further {z = z} itself e = along z e itself
  reaches-further (along y m r) e = along y m (reaches-further r e)

  module _ (root : X) where
    -- the path, given from its last thing, leads from the root to x
    LeadsTo : List X → X → Type 0
    LeadsTo [] x = root ≡ x
    LeadsTo (p ∷ path) x = Contains (edges p) x × LeadsTo path p

    reached : (path : List X) (x : X) → LeadsTo path x → Reaches edges root x
    unfolding LeadsTo
    reached [] x e = subst (λ v. Reaches edges root v) e itself
    reached (p ∷ path) x h = reaches-further (reached path p h.1) h.0

    back : (newer older : List X) (x z : X) → LeadsTo (newer ++ x ∷ older) z →
        (y : X) × Contains (edges x) y × Reaches edges y z
    unfolding LeadsTo
    back [] older x z h = (z, h.0, itself)
    back (p ∷ newer) older x z h = let b = back newer older x p h.1 in (b.0, b.1, reaches-further b.2 h.0)

    below : (path : List X) (x : X) → LeadsTo path x → (y : X) → Contains (edges x) y → LeadsTo (x ∷ path) y
    unfolding LeadsTo
    below path x h y m = (m, h)

    start : LeadsTo [] root
    unfolding LeadsTo
    start = refl

    mutual
      cycle-of : {path : List X} {x : X} {found : Option (List X)} → Searches edges path x found → (walk : List X) →
          found ≡ Some walk →
          LeadsTo path x → HasCycle edges root
      cycle-of {path = path} {x = x} (closes newer older e) walk f l =
          let b = back newer older x x (subst (λ p. LeadsTo p x) e l) in
          (x, b.0, reached path x l, b.1, b.2)
      cycle-of {path = path} {x = x} (enters h s) walk f l = cycle-each s walk f (below path x l)

      cycle-each : {path xs : List X} {found : Option (List X)} → SearchesEach edges path xs found → (walk : List X) →
          found ≡ Some walk →
          ((y : X) → Contains xs y → LeadsTo path y) → HasCycle edges root
      cycle-each no_more walk f l = absurd cc
      cycle-each (finds {x = x} {xs = xs} {walk = w} s) walk f l = cycle-of s w refl (l x (Contains-here x xs))
      cycle-each (passes {x = x} {xs = xs} s t) walk f l = cycle-each t walk f (λ y m. l y (Contains-there x y xs m))

    -- where the search finds a walk there is a cycle
    pub first_is_cycle : (walk : List X) → IsFirstCycle edges root walk → HasCycle edges root
    first_is_cycle walk s = cycle-of s walk refl start

    -- the things of the path are reached, and so is each thing of the walk
    on_path : (path : List X) (x : X) → LeadsTo path x → (p : X) → Contains path p → Reaches edges root p
    unfolding LeadsTo
    on_path [] x h p m = absurd (Contains-none p m)
    on_path (q ∷ path) x h p m = elim (Contains-cases q p path m) [
      | inl e ↦ subst (λ v. Reaches edges root v) e (reached path q h.1)
      | inr k ↦ on_path path q h.1 p k
    ]

    walk-push : (x : X) (l : List X) (p z : X) → IsWalkFrom edges x (l ++ p ∷ []) → Contains (edges p) z →
        IsWalkFrom edges x ((l ++ p ∷ []) ++ z ∷ [])
    walk-push x [] p z w m = (w.0, (m, tt))
    walk-push x (y ∷ l) p z w m = (w.0, walk-push y l p z w.1 m)

    forth : (newer older : List X) (x z : X) → LeadsTo (newer ++ x ∷ older) z →
        IsWalkFrom edges x (reverse newer ++ z ∷ [])
    unfolding LeadsTo
    forth [] older x z h = (h.0, tt)
    forth (p ∷ newer) older x z h =
        subst (λ l. IsWalkFrom edges x (l ++ z ∷ [])) (sym (reverse-append (p ∷ []) newer))
        (walk-push x (reverse newer) p z (forth newer older x p h.1) h.0)

    mutual
      closed-of : {path : List X} {x : X} {found : Option (List X)} → Searches edges path x found → (walk : List X) →
          found ≡ Some walk →
          LeadsTo path x → IsCycle edges root walk
      closed-of {path = path} {x = x} (closes newer older e) walk f l =
          let same : x ∷ reverse newer ++ x ∷ [] ≡ walk = cc in
          (x, reverse newer, sym same, reached path x l, forth newer older x x (subst (λ p. LeadsTo p x) e l))
      closed-of {path = path} {x = x} (enters h s) walk f l = closed-each s walk f (below path x l)

      closed-each : {path xs : List X} {found : Option (List X)} → SearchesEach edges path xs found → (walk : List X) →
          found ≡ Some walk → ((y : X) → Contains xs y → LeadsTo path y) → IsCycle edges root walk
      closed-each no_more walk f l = absurd cc
      closed-each (finds {x = x} {xs = xs} {walk = w} s) walk f l = let same : w ≡ walk = cc in
          subst (IsCycle edges root) same (closed-of s w refl (l x (Contains-here x xs)))
      closed-each (passes {x = x} {xs = xs} s t) walk f l = closed-each t walk f (λ y m. l y (Contains-there x y xs m))

    -- the walk that the search finds is a cycle that the root reaches
    pub closed : (walk : List X) → IsFirstCycle edges root walk → IsCycle edges root walk
    closed walk s = closed-of s walk refl start

    -- what a walk goes through is reached
    pub walk-reached : (x : X) (walk : List X) → Reaches edges root x → IsWalkFrom edges x walk → (z : X) →
        Contains walk z →
        Reaches edges root z
    walk-reached x [] r w z m = absurd (Contains-none z m)
    walk-reached x (y ∷ walk) r w z m = elim (Contains-cases y z walk m) [
      | inl e ↦ subst (λ v. Reaches edges root v) e (reaches-further r w.0)
      | inr k ↦ walk-reached y walk (reaches-further r w.0) w.1 z k
    ]

    pub cycle-reached : (walk : List X) → IsCycle edges root walk → (z : X) → Contains walk z → Reaches edges root z
    cycle-reached walk c z m = elim (Contains-cases c.0 z (c.1 ++ c.0 ∷ []) (subst (λ l. Contains l z) c.2 m)) [
      | inl e ↦ subst (λ v. Reaches edges root v) e c.3
      | inr k ↦ walk-reached c.0 (c.1 ++ c.0 ∷ []) c.3 c.4 z k
    ]
