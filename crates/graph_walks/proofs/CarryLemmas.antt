-- Reach and ranks among things are those among what they stand for.
use Rattle.std.proofs.Common.{◌≡◌, refl, sym, ◌∙◌, ap, subst, arith}
use Rattle.std.proofs.lemmas.List.{length-map}
use Rattle.std.specs.Prelude.{ℕ, Bool, true, List, [], ◌∷◌, map, length, Contains}
use Rattle.lists.proofs.Members.{Contains-map}
use Rattle.graph_walks.specs.Walks.{Reaches, itself, along, IsWalkFrom, IsRank, StandsFor, Carries}
use Rattle.graph_walks.proofs.Carried.{Contains-from_map}

module _ {X Y : Type 0} (f : X → Y) (ends : X → List X) (edges : Y → List Y) (is_held : X → Bool)
    (stands : StandsFor f ends edges is_held) where
  there : (x y : X) → is_held x ≡ true → Contains (ends x) y → Contains (edges (f x)) (f y)
  there x y h m = subst (λ l. Contains l (f y)) (sym (stands.ends_are x h)) (Contains-map f y (ends x) m)

  back : (x : X) (z : Y) → is_held x ≡ true → Contains (edges (f x)) z → (y : X) × Contains (ends x) y × (f y ≡ z)
  back x z h m = Contains-from_map f (ends x) z (subst (λ l. Contains l z) (stands.ends_are x h) m)

  reach-carried : {x y : X} → Reaches ends x y → is_held x ≡ true → Reaches edges (f x) (f y)
  reach-carried itself h = itself
  reach-carried {x = x} (along y m r) h = along (f y) (there x y h m) (reach-carried r (stands.held x y h m))

  reach-back : {z w : Y} → Reaches edges z w → (x : X) → is_held x ≡ true → f x ≡ z →
      (y : X) × Reaches ends x y × (f y ≡ w)
  reach-back itself x h e = (x, itself, e)
  reach-back (along y m r) x h e =
      let one = back x y h (subst (λ v. Contains (edges v) y) (sym e) m) in
      let rest = reach-back r one.0 (stands.held x one.0 h one.1) one.2 in
      (rest.0, along one.0 one.1 rest.1, rest.2)

  walk-carried : (x : X) (walk : List X) → is_held x ≡ true → IsWalkFrom ends x walk →
      IsWalkFrom edges (f x) (map f walk)
  walk-carried x [] h w = tt
  walk-carried x (y ∷ walk) h w = (there x y h w.0, walk-carried y walk (stands.held x y h w.0) w.1)

  walk-back : (walk : List Y) (x : X) → is_held x ≡ true → IsWalkFrom edges (f x) walk →
      (own : List X) × IsWalkFrom ends x own × (map f own ≡ walk)
  walk-back [] x h w = ([], tt, refl)
  walk-back (z ∷ walk) x h w =
      let one = back x z h w.0 in
      let rest = walk-back walk one.0 (stands.held x one.0 h one.1)
      (subst (λ v. IsWalkFrom edges v walk) (sym one.2) w.1) in
      (one.0 ∷ rest.0, (one.1, rest.1), λ i. one.2 i ∷ rest.2 i)

  rank-carried : (x : X) (n : ℕ) → is_held x ≡ true → IsRank ends x n → IsRank edges (f x) n
  rank-carried x n h r = (
    (map f r.0.0, walk-carried x r.0.0 h r.0.1, length-map r.0.0 f ∙ r.0.2),
    (λ walk w. let own = walk-back walk x h w in let a = r.1 own.0 own.1 in let b = length-map own.0 f in
        let e = ap length own.2 in
        omega (arith, a, b, e)),
  )

  rank-back : (x : X) (n : ℕ) → is_held x ≡ true → IsRank edges (f x) n → IsRank ends x n
  rank-back x n h r =
      let own = walk-back r.0.0 x h r.0.1 in
      let b = length-map own.0 f in let e = ap length own.2 in (
        (own.0, own.1, omega (arith, b, e, r.0.2)),
        (λ walk w. let a = r.1 (map f walk) (walk-carried x walk h w) in let d = length-map walk f in
            omega (arith, a, d)),
      )

  pub carries : Carries f ends edges is_held
  carries = record {
    reach = λ x y h r. reach-carried r h;
    reach_back = λ x z h r. reach-back r x h refl;
    rank = λ x n h. (rank-carried x n h, rank-back x n h);
  }
