-- What is picked on walks below what took the place of a number.
use Rattle.std.proofs.Common.{◌≡◌, ◌∙◌, ◌<◌, ◌≤◌, ◌+◌, refl, sym, ap, subst, arith, inl, inr, take, drop, length, slice_index_or, All}
use Rattle.std.specs.Prelude.{◌↔◌, ◌⊎◌, ℕ, IsTrue, List, [], ◌∷◌, ◌++◌, nat_lt, Contains}
use Rattle.std.proofs.Math.Seq.{drop-append_seam}
use Rattle.std.proofs.lemmas.Bool.{ltb-true, ltb-false}
use Rattle.std.proofs.lemmas.List.{take_all, length-append}
use Rattle.std.proofs.lemmas.Option.{slice_get-get_or}
use Rattle.std.proofs.lemmas.List.Elements.{All-contains, Contains-append_left, Contains-append_cases, Contains-push, Contains-push_cases}
use Rattle.lists.proofs.Cases.{by_test}
use Rattle.lists.proofs.Each.{All-from_members}
use Rattle.lists.proofs.Members.{Contains-none}
use Rattle.lists.proofs.Places.{take-at}
use Rattle.graph_walks.specs.Walks.{along}
use Rattle.orientation.specs.Kinds.{rank_of}
use Rattle.orientation.specs.Rules.{is_above}
use Rattle.shape_pool.specs.declared.node.NodeId.{NodeId}
use Rattle.shape_pool.specs.Rows.{Row, kind_at}
use Rattle.shape_pool.specs.Laws.{ids_used, IsSound}
use Rattle.step_history.specs.History.{IsSupported}
use Rattle.step_history.specs.Numbered.{ArePairsHeld}
use Rattle.lists.specs.Gathering.{Adds}
use Rattle.step_history.specs.Gathering.{CameNew, IsMadeOf, IsPair, IsPicked, IsWalk, Meets}
use Rattle.step_history.proofs.GatherLaws.{named_by}
use Rattle.step_history.proofs.WalkLaws.{closed-reaches}

pub lower-is : (m n : ℕ) → IsTrue (nat_lt m n) → m < n
lower-is m n t = ltb-true m n t

pub is-lower : (m n : ℕ) → m < n → IsTrue (nat_lt m n)
is-lower m n lt = by_test (nat_lt m n) (λ t. t) (λ f. let le = ltb-false m n f in absurd (omega (arith, le, lt)))

pub pairs-held : (rows : List Row) (xs ys : List (NodeId × NodeId)) → ArePairsHeld rows xs → ((y : NodeId × NodeId) → Contains ys y ↔ Contains xs y) → ArePairsHeld rows ys
pairs-held rows xs ys held same =
    All-from_members (λ (p : NodeId × NodeId). (p.0.0 < length rows) × (p.1.0 < length rows)) ys
    (λ y m. All-contains (λ (p : NodeId × NodeId). (p.0.0 < length rows) × (p.1.0 < length rows)) xs y held ((same y).0 m))

module _ (rows : List Row) (fresh : List ℕ) where
  pub came-is : (t s : ℕ) → IsSupported (kind_at rows s) → IsTrue (is_above (kind_at rows s) (kind_at rows t)) → Contains fresh s → CameNew rows fresh t s
  came-is t s a b m = record { supported = a; lower = lower-is (rank_of (kind_at rows s)) (rank_of (kind_at rows t)) b; fresh_one = m }

  pub is-came : (t i s : ℕ) → i ≡ s → CameNew rows fresh t s → IsSupported (kind_at rows i) × IsTrue (is_above (kind_at rows i) (kind_at rows t)) × Contains fresh i
  is-came t i s e came =
      subst (λ z. IsSupported (kind_at rows z) × IsTrue (is_above (kind_at rows z) (kind_at rows t)) × Contains fresh z) (sym e)
      (came.supported, is-lower (rank_of (kind_at rows s)) (rank_of (kind_at rows t)) came.lower, came.fresh_one)

  -- ---- one by one
  pub picked-none : (from : NodeId) (out : List (NodeId × NodeId)) → Adds (IsPicked rows fresh from []) out out
  picked-none from out y = ((λ m. inl m), (λ h. elim h [ inl m ↦ m | inr p ↦ absurd (Contains-none y.1.0 p.1) ]))

  picked-next : (from : NodeId) (xs : List ℕ) (x : ℕ) (a b c : List (NodeId × NodeId)) → Adds (IsPicked rows fresh from xs) a b → Adds (IsPair rows fresh from x) b c →
      Adds (IsPicked rows fresh from (xs ++ x ∷ [])) a c
  picked-next from xs x a b c first next y = (
    (λ m. elim ((next y).0 m) [
      | inl k ↦ elim ((first y).0 k) [ inl o ↦ inl o | inr p ↦ inr (p.0, Contains-append_left xs (x ∷ []) y.1.0 p.1, p.2) ]
      | inr q ↦ inr (q.0, subst (λ z. Contains (xs ++ x ∷ []) z) q.1 (Contains-push xs x), q.2)
    ]),
    (λ h. elim h [
      | inl o ↦ (next y).1 (inl ((first y).1 (inl o)))
      | inr p ↦ elim (Contains-push_cases xs x y.1.0 p.1) [ inl k ↦ (next y).1 (inl ((first y).1 (inr (p.0, k, p.2)))) | inr e ↦ (next y).1 (inr (p.0, e, p.2)) ]
    ]),
  )

  pub picked-step : (from : NodeId) (xs : List ℕ) (i : ℕ) (a b c : List (NodeId × NodeId)) → i < length xs → Adds (IsPicked rows fresh from (take i xs)) a b →
      Adds (IsPair rows fresh from (slice_index_or xs i 0)) b c → Adds (IsPicked rows fresh from (take (i + 1) xs)) a c
  picked-step from xs i a b c lt first next =
      subst (λ l. Adds (IsPicked rows fresh from l) a c) (sym (take-at xs i (slice_index_or xs i 0) (slice_get-get_or xs i 0 lt)))
      (picked-next from (take i xs) (slice_index_or xs i 0) a b c first next)

  pub picked-all : (from : NodeId) (xs : List ℕ) (i : ℕ) (a b : List (NodeId × NodeId)) → length xs ≤ i → Adds (IsPicked rows fresh from (take i xs)) a b →
      Adds (IsPicked rows fresh from xs) a b
  picked-all from xs i a b le h = subst (λ l. Adds (IsPicked rows fresh from l) a b) (take_all i xs le) h

  -- ---- a walk
  pub walk-anew : (from : NodeId) (met : List ℕ) (out : List (NodeId × NodeId)) → met ≡ [] → IsWalk rows fresh from met out
  walk-anew from met out e = record {
    closed = λ i j m k. absurd (Contains-none i (subst (λ l. Contains l i) e m));
    listed = λ s m k. absurd (Contains-none s.0 (subst (λ l. Contains l s.0) e m));
  }

  pub walk-turned : (was from : NodeId) (old met : List ℕ) (out : List (NodeId × NodeId)) → IsWalk rows fresh was old out →
      (met ≡ []) ⊎ ((met ≡ old) × (was.0 ≡ from.0)) → IsWalk rows fresh from met out
  walk-turned was from old met out walk (inl e) = walk-anew from met out e
  walk-turned was from old met out walk (inr h) =
      subst (λ l. IsWalk rows fresh from l out) (sym h.0) (subst (λ f. IsWalk rows fresh f old out) (named_by was from h.1) walk)

  module _ (input : List ℕ) (p : NodeId × NodeId) (met new : List ℕ) (out made : List (NodeId × NodeId)) (walk : IsWalk rows fresh p.0 met out)
      (m : Meets rows (ids_used rows p.1.0) met new) (n : ℕ) (e : n ≡ length met) where
    pub since-more : drop n new ≡ m.more
    since-more = ap (λ k. drop k new) e ∙ ap (drop (length met)) m.grows ∙ drop-append_seam met m.more

    pub since-fits : n ≤ length new
    since-fits = let a = ap length m.grows in let b = length-append met m.more in omega (arith, a, b, e)

    pub since-held : IsSound rows → p.1.0 < length rows → All (λ i. i < length rows) (drop n new)
    since-held sound held = subst (λ l. All (λ i. i < length rows) l) (sym since-more) (All-from_members (λ i. i < length rows) m.more (λ i k.
        (let r = m.reached i k in
        let le = sound.ids_of_subtrees.held p.1.0 i held (along r.0 r.1 r.2) in
        omega (arith, le, held))))

    module _ (picked : Adds (IsPicked rows fresh p.0 (drop n new)) out made) where
      more-picked : Adds (IsPicked rows fresh p.0 m.more) out made
      more-picked = subst (λ l. Adds (IsPicked rows fresh p.0 l) out made) since-more picked

      listed : (s : NodeId) → Contains new s.0 → CameNew rows fresh p.0.0 s.0 → Contains made (p.0, s)
      listed s k came = elim (Contains-append_cases met m.more s.0 (subst (λ l. Contains l s.0) m.grows k)) [
        | inl h ↦ (more-picked (p.0, s)).1 (inl (walk.listed s h came))
        | inr h ↦ (more-picked (p.0, s)).1 (inr (refl, h, came))
      ]

      pub made-walk : IsWalk rows fresh p.0 new made
      made-walk = record { closed = m.closed; listed = listed }

      pub made-adds : IsSupported (kind_at rows p.0.0) → Contains input p.0.0 → Adds (IsMadeOf rows input fresh p) out made
      made-adds supported inside y = (
        (λ k. elim ((more-picked y).0 k) [ inl o ↦ inl o | inr q ↦ (let r = m.reached y.1.0 q.1 in inr (q.0, supported, inside, (r.0, r.1, r.2), q.2)) ]),
        (λ h. elim h [
          | inl o ↦ (more-picked y).1 (inl o)
          | inr q ↦
              (let stands = q.3 in
              let k = closed-reaches rows new m.closed stands.2 (m.all stands.0 stands.1) in
              let came = q.4 in
              subst (λ z. Contains made (z, y.1)) q.0 (listed y.1 k came))
        ]),
      )
