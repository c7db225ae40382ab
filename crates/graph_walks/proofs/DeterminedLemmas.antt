-- A search finds one thing, and a thing has one rank.
use Rattle.std.proofs.Common.{◌≡◌, ◌≢◌, refl, sym, ◌∙◌, ap, subst, arith}
use Rattle.std.specs.Prelude.{ℕ, Option, None, Some, List, [], ◌∷◌, ◌++◌, reverse, Contains}
use Rattle.std.proofs.lemmas.List.Elements.{Contains-append_right}
use Rattle.lists.specs.Distinct.{IsDistinct}
use Rattle.lists.proofs.Members.{Contains-here}
use Rattle.graph_walks.specs.Walks.{itself, IsWalkFrom, IsCycle, HasCycle, IsRank, Searches, SearchesEach}
use Rattle.graph_walks.specs.Walks.{closes, enters, no_more, finds, passes, WalksAreDetermined}
use Rattle.graph_walks.proofs.WalkLaws.{no_cycle, closed, walk-reached}

heads : {X : Type 0} {x y : X} {xs ys : List X} → x ∷ xs ≡ y ∷ ys → x ≡ y
heads e = cc

tails : {X : Type 0} {x y : X} {xs ys : List X} → x ∷ xs ≡ y ∷ ys → xs ≡ ys
tails e = cc

module _ {X : Type 0} where
  among : (newer : List X) (x : X) (older : List X) → Contains (newer ++ x ∷ older) x
  among newer x older = Contains-append_right newer (x ∷ older) x (Contains-here x older)

  -- a list that has each thing once is split at a thing in one way
  split-one : (a a' : List X) (x : X) (b b' : List X) → IsDistinct (a ++ x ∷ b) → a ++ x ∷ b ≡ a' ++ x ∷ b' → a ≡ a'
  split-one [] [] x b b' d e = refl
  split-one [] (y ∷ a') x b b' d e = absurd (d.0 (subst (λ l. Contains l x) (sym (tails e)) (among a' x b')))
  split-one (y ∷ a) [] x b b' d e = absurd (d.0 (subst (λ v. Contains (a ++ x ∷ b) v) (sym (heads e)) (among a x b)))
  split-one (y ∷ a) (z ∷ a') x b b' d e = λ i. heads e i ∷ split-one a a' x b b' d.1 (tails e) i

module _ {X : Type 0} (edges : X → List X) where
  after-closing : (path : List X) (x : X) (b : Option (List X)) → IsDistinct path → Searches edges path x b →
      (newer older : List X) →
      path ≡ newer ++ x ∷ older → Some (x ∷ reverse newer ++ x ∷ []) ≡ b
  after-closing path x b d (closes newer' older' e') newer older e =
      ap (λ l. Some (x ∷ reverse l ++ x ∷ [])) (split-one newer newer' x older older' (subst IsDistinct e d)
      (sym e ∙ e'))
  after-closing path x b d (enters h t) newer older e =
      absurd (h x (subst (λ l. Contains l x) (sym e) (among newer x older)) refl)

  after-entering : (path : List X) (x : X) (b : Option (List X)) → IsDistinct path → Searches edges path x b →
      ((y : X) → Contains path y → y ≢ x) → (a : Option (List X)) →
      ((b : Option (List X)) → IsDistinct (x ∷ path) → SearchesEach edges (x ∷ path) (edges x) b → a ≡ b) → a ≡ b
  after-entering path x b d (closes newer older e) h a ih =
      absurd (h x (subst (λ l. Contains l x) (sym e) (among newer x older)) refl)
  after-entering path x b d (enters h' t) h a ih = ih b ((λ m. h x m refl), d) t

  when-none : {path : List X} {b : Option (List X)} → SearchesEach edges path [] b → None ≡ b
  when-none no_more = refl

  when-found : (path : List X) (x : X) (xs : List X) (b : Option (List X)) → SearchesEach edges path (x ∷ xs) b →
      (w : List X) →
      ((o : Option (List X)) → Searches edges path x o → Some w ≡ o) → Some w ≡ b
  when-found path x xs b (finds {walk = v} t) w ih = ih (Some v) t
  when-found path x xs b (passes t u) w ih = absurd (let e = ih None t in cc)

  when-passed : (path : List X) (x : X) (xs : List X) (b : Option (List X)) → SearchesEach edges path (x ∷ xs) b →
      (a : Option (List X)) →
      ((o : Option (List X)) → Searches edges path x o → None ≡ o) →
      ((o : Option (List X)) → SearchesEach edges path xs o → a ≡ o) → a ≡ b
  when-passed path x xs b (finds {walk = v} t) a ih jh = absurd (let e = ih (Some v) t in cc)
  when-passed path x xs b (passes {found = f} t u) a ih jh = jh f u

  mutual
    one-search : {path : List X} {x : X} {a : Option (List X)} → Searches edges path x a → (b : Option (List X)) →
        IsDistinct path →
        Searches edges path x b → a ≡ b
    one-search {path = path} {x = x} (closes newer older e) b d s = after-closing path x b d s newer older e
    one-search {path = path} {x = x} {a = a} (enters h t) b d s =
        after-entering path x b d s h a (λ b d r. one-each t b d r)

    one-each : {path xs : List X} {a : Option (List X)} → SearchesEach edges path xs a → (b : Option (List X)) →
        IsDistinct path →
        SearchesEach edges path xs b → a ≡ b
    one-each no_more b d s = when-none s
    one-each {path = path} (finds {x = x} {xs = xs} {walk = w} t) b d s =
        when-found path x xs b s w (λ o r. one-search t o d r)
    one-each {path = path} (passes {x = x} {xs = xs} {found = f} t u) b d s =
        when-passed path x xs b s f (λ o r. one-search t o d r) (λ o r. one-each u o d r)

  one-rank : (root : X) (m n : ℕ) → IsRank edges root m → IsRank edges root n → m ≡ n
  one-rank root m n h g = let a = g.1 h.0.0 h.0.1 in let b = h.1 g.0.0 g.0.1 in omega (arith, a, b, h.0.2, g.0.2)

  -- a walk of one edge or more back to its start
  cycle-there : (root : X) (walk : List X) → IsCycle edges root walk → HasCycle edges root
  cycle-there root walk c = go c.1 c.4
    where
      go : (between : List X) → IsWalkFrom edges c.0 (between ++ c.0 ∷ []) → HasCycle edges root
      go [] w = (c.0, c.0, c.3, w.0, itself)
      go (y ∷ between) w =
          (c.0, y, c.3, w.0, walk-reached edges y y (between ++ c.0 ∷ []) itself w.1 c.0 (among between c.0 []))

  pub determined : WalksAreDetermined edges
  determined = record {
    one_search = λ path x a b d s t. one-search s b d t;
    one_first_cycle = λ root a b s t. some-one (one-search s (Some b) tt t);
    first_is_cycle = λ root walk s. closed edges root walk s;
    has_cycle = cycle-there;
    one_rank = one-rank;
    no_cycle_in_order = λ order root o m. no_cycle edges order o root m;
  }
    where
      some-one : {a b : List X} → Some a ≡ Some b → a ≡ b
      some-one e = cc
