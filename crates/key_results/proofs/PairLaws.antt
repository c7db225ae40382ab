-- Pairs of a visited node and a node of a result.
use Rattle.std.proofs.Common.{◌≡◌, ◌≤◌, ◌<◌, ◌+◌, ◌⊎◌, ◌↔◌, ℕ, Bool, true, List, ◌++◌, ◌∷◌, [], Contains, length, take}
use Rattle.std.proofs.Common.{arith, sym, ◌∙◌, ap, subst, slice_get, Some, inl, inr}
use Rattle.std.specs.Prelude.{nat_lt}
use Rattle.std.proofs.lemmas.List.{take_all}
use Rattle.std.proofs.lemmas.List.Elements.{Contains-append_left, Contains-append_right, Contains-push_cases}
use Rattle.std.proofs.lemmas.Option.{slice_get_within}
use Rattle.std.proofs.lemmas.Bool.{ltb-true, ltb-false}
use Rattle.lists.proofs.Cases.{by_test}
use Rattle.lists.proofs.Members.{Contains-here, Contains-none}
use Rattle.lists.proofs.Places.{same_entry, take-at}
use Rattle.shape_pool.specs.declared.node.NodeId.{NodeId}
use Rattle.key_results.specs.declared.derive.Outcome.TheVariants.{Joined}
use Rattle.key_results.specs.declared.derive.Visit.{Visit}
use Rattle.key_results.specs.declared.parts.Part.{Part}
use Rattle.key_results.specs.declared.parts.Outgrowth.{Outgrowth}
use Rattle.key_results.specs.Pairs.{IsNodeOf, IsPairHere, IsPairOf}

-- before a place, or there
by-place : {P : Type 0} (k i : ℕ) → (k < i → P) → (k ≡ i → P) → k < i + 1 → P
by-place k i f g h =
    by_test (nat_lt k i) (λ e. f (ltb-true k i e)) (λ e. let past = ltb-false k i e in g (omega (arith, past, h)))

-- ---- one thing more
pub pushed-has : {X : Type 0} (before after : List X) (q p : X) → after ≡ before ++ q ∷ [] → Contains after p →
    Contains before p ⊎ (q ≡ p)
pushed-has before after q p e m = Contains-push_cases before q p (subst (λ l. Contains l p) e m)

pub pushed-kept : {X : Type 0} (before after : List X) (q p : X) → after ≡ before ++ q ∷ [] → Contains before p →
    Contains after p
pushed-kept before after q p e m = subst (λ l. Contains l p) (sym e) (Contains-append_left before (q ∷ []) p m)

pub pushed-last : {X : Type 0} (before after : List X) (q : X) → after ≡ before ++ q ∷ [] → Contains after q
pushed-last before after q e =
    subst (λ l. Contains l q) (sym e) (Contains-append_right before (q ∷ []) q (Contains-here q []))

pub pair-more : {X A : Type 0} (before after : List X) (q : X) → A → after ≡ before ++ q ∷ [] → (p : X) →
    Contains after p ↔ (Contains before p ⊎ (A × (q ≡ p)))
pair-more before after q a e p = (
  λ m. elim (pushed-has before after q p e m) [ inl c ↦ inl c | inr s ↦ inr (a, s) ],
  λ k. elim k [
    | inl c ↦ pushed-kept before after q p e c
    | inr d ↦ subst (Contains after) d.1 (pushed-last before after q e)
  ],
)

-- ---- what is the same where a fact holds, and where it doesn't
pub so-more : {M B A C : Type 0} → A → M ↔ (B ⊎ C) → M ↔ (B ⊎ (A × C))
so-more a h = (
  λ m. elim (h.0 m) [ inl b ↦ inl b | inr c ↦ inr (a, c) ],
  λ k. elim k [ inl b ↦ h.1 (inl b) | inr c ↦ h.1 (inr c.1) ],
)

pub no-more : {B A C : Type 0} → (A → ⊥) → B ↔ (B ⊎ (A × C))
no-more none = (λ b. inl b, λ k. elim k [ inl b ↦ b | inr c ↦ absurd (none c.0) ])

pub iff-on : {A B C : Type 0} → A ↔ B → B ↔ C → A ↔ C
iff-on f g = (λ a. g.0 (f.0 a), λ c. f.1 (g.1 c))

pub iff-left : {A B C D : Type 0} → A ↔ (B ⊎ C) → B ↔ D → A ↔ (D ⊎ C)
iff-left f g = (
  λ a. elim (f.0 a) [ inl b ↦ inl (g.0 b) | inr c ↦ inr c ],
  λ k. elim k [ inl d ↦ f.1 (inl (g.1 d)) | inr c ↦ f.1 (inr c) ],
)

-- ---- the pairs of a node and of the nodes of a key
module _ (id : NodeId) (nodes : List NodeId) (key : ℕ) (o : Outgrowth) (first : List (NodeId × NodeId)) where
  pub own-pair : (after : List (NodeId × NodeId)) (n : NodeId) → o.own ≡ true → slice_get nodes key ≡ Some n →
      after ≡ first ++ (id, n) ∷ [] →
      (p : NodeId × NodeId) → Contains after p ↔ (Contains first p ⊎ ((p.0 ≡ id) × IsNodeOf nodes key o p.1))
  own-pair after n own at e p = (
    λ m. elim (pushed-has first after (id, n) p e m) [
      | inl c ↦ inl c
      | inr same ↦ inr (
        sym (ap (λ (q : NodeId × NodeId). q.0) same),
        inl (own, at ∙ ap (λ (q : NodeId × NodeId). Some q.1) same),
      )
    ],
    λ h. elim h [
      | inl c ↦ pushed-kept first after (id, n) p e c
      | inr c ↦ (elim c.1 [
        | inl d ↦ (let same : n ≡ p.1 = same_entry at d.1 in
            let pair : (id, n) ≡ p = (λ i. (sym c.0 i, same i)) in
            subst (Contains after) pair (pushed-last first after (id, n) e))
        | inr d ↦ absurd (d.0 own)
      ])
    ],
  )

  -- the pairs of the parts so far
  abbrev pub IsPartPair : List Part → NodeId × NodeId → Type 0
  IsPartPair parts p = (p.0 ≡ id) × (q : Part) × Contains parts q × (slice_get nodes q.of ≡ Some p.1)

  pub part-pair : (before after : List (NodeId × NodeId)) (parts : List Part) (i : ℕ) (q : Part) (n : NodeId) →
      slice_get parts i ≡ Some q →
      slice_get nodes q.of ≡ Some n → after ≡ before ++ (id, n) ∷ [] →
      ((p : NodeId × NodeId) → Contains before p ↔ (Contains first p ⊎ IsPartPair (take i parts) p)) →
      (p : NodeId × NodeId) → Contains after p ↔ (Contains first p ⊎ IsPartPair (take (i + 1) parts) p)
  part-pair before after parts i q n at node e h p =
      let took = take-at parts i q at in (
        λ m. elim (pushed-has before after (id, n) p e m) [
          | inl c ↦ (elim ((h p).0 c) [
            | inl d ↦ inl d
            | inr d ↦
                inr (
                  d.0,
                  d.1,
                  subst (λ l. Contains l d.1) (sym took)
                      (Contains-append_left (take i parts) (q ∷ []) d.1 d.2),
                  d.3,
                )
          ])
          | inr same ↦ inr (
            sym (ap (λ (r : NodeId × NodeId). r.0) same),
            q,
            subst (λ l. Contains l q) (sym took) (Contains-append_right (take i parts) (q ∷ []) q (Contains-here q [])),
            node ∙ ap (λ (r : NodeId × NodeId). Some r.1) same,
          )
        ],
        λ k. elim k [
          | inl d ↦ pushed-kept before after (id, n) p e ((h p).1 (inl d))
          | inr d ↦ (elim (Contains-push_cases (take i parts) q d.1 (subst (λ l. Contains l d.1) took d.2)) [
            | inl c ↦ pushed-kept before after (id, n) p e ((h p).1 (inr (d.0, d.1, c, d.3)))
            | inr c ↦ (let same : n ≡ p.1 = same_entry node (ap (λ (r : Part). slice_get nodes r.of) c ∙ d.3) in
                let pair : (id, n) ≡ p = (λ j. (sym d.0 j, same j)) in
                subst (Contains after) pair (pushed-last before after (id, n) e))
          ])
        ],
      )

  pub no-part : (p : NodeId × NodeId) → Contains first p ↔ (Contains first p ⊎ IsPartPair [] p)
  no-part p = (λ m. inl m, λ h. elim h [ inl m ↦ m | inr d ↦ absurd (Contains-none d.1 d.2) ])

  pub all-parts : (after : List (NodeId × NodeId)) (i : ℕ) → (o.own ≡ true → ⊥) → length o.parts.items ≤ i →
      ((p : NodeId × NodeId) → Contains after p ↔ (Contains first p ⊎ IsPartPair (take i o.parts.items) p)) →
      (p : NodeId × NodeId) → Contains after p ↔ (Contains first p ⊎ ((p.0 ≡ id) × IsNodeOf nodes key o p.1))
  all-parts after i none past h p =
      let all = take_all i o.parts.items past in (
        λ m. elim ((h p).0 m) [
          | inl d ↦ inl d
          | inr d ↦ inr (d.0, inr (none, (d.1, subst (λ l. Contains l d.1) all d.2, d.3)))
        ],
        λ k. elim k [
          | inl d ↦ (h p).1 (inl d)
          | inr d ↦ (elim d.1 [
            | inl b ↦ absurd (none b.0)
            | inr b ↦ (h p).1 (inr (d.0, b.1.0, subst (λ l. Contains l b.1.0) (sym all) b.1.1, b.1.2))
          ])
        ],
      )

-- ---- the pairs of a visit
module _ (v : Visit) (k : ℕ) (o : Outgrowth) (nodes : List NodeId) (all : Bool) (first : List (NodeId × NodeId))
    (p : NodeId × NodeId) where
  pub here-more : (after : List (NodeId × NodeId)) → (all ≡ true) ⊎ (v.outcome ≡ Joined) →
      Contains after p ↔ (Contains first p ⊎ ((p.0 ≡ v.id) × IsNodeOf nodes k o p.1)) →
      Contains after p ↔ (Contains first p ⊎ IsPairHere v k o nodes all p)
  here-more after a h = (
    λ m. elim (h.0 m) [ inl b ↦ inl b | inr c ↦ inr (a, c.0, c.1) ],
    λ d. elim d [ inl b ↦ h.1 (inl b) | inr c ↦ h.1 (inr (c.1, c.2)) ],
  )

  pub here-none : ((all ≡ true) ⊎ (v.outcome ≡ Joined) → ⊥) →
      Contains first p ↔ (Contains first p ⊎ IsPairHere v k o nodes all p)
  here-none none = (λ b. inl b, λ d. elim d [ inl b ↦ b | inr c ↦ absurd (none c.0) ])

-- ---- the pairs of the visits so far
module _ (visits : List Visit) (outgrowths : List Outgrowth) (nodes : List NodeId) (all : Bool) where
  abbrev pub IsPairBefore : ℕ → NodeId × NodeId → Type 0
  IsPairBefore i p =
      (k : ℕ) × (v : Visit) × (o : Outgrowth) × (k < i) × (slice_get visits k ≡ Some v) ×
      (slice_get outgrowths k ≡ Some o) ×
      IsPairHere v k o nodes all p

  pub pairs-next : (before after : List (NodeId × NodeId)) (i : ℕ) (v : Visit) (o : Outgrowth) →
      slice_get visits i ≡ Some v →
      slice_get outgrowths i ≡ Some o →
      ((p : NodeId × NodeId) → Contains after p ↔ (Contains before p ⊎ IsPairHere v i o nodes all p)) →
      ((p : NodeId × NodeId) → Contains before p ↔ IsPairBefore i p) →
      (p : NodeId × NodeId) → Contains after p ↔ IsPairBefore (i + 1) p
  pairs-next before after i v o at has more h p = (
    λ m. elim ((more p).0 m) [
      | inl c ↦ (let d = (h p).0 c in let lt = d.3 in (d.0, d.1, d.2, omega (arith, lt), d.4, d.5, d.6))
      | inr c ↦ (i, v, o, omega arith, at, has, c)
    ],
    λ d. by-place d.0 i (λ lt. (more p).1 (inl ((h p).1 (d.0, d.1, d.2, lt, d.4, d.5, d.6))))
        (λ e. let a : d.1 ≡ v = same_entry d.4 (ap (slice_get visits) e ∙ at) in
        let b : d.2 ≡ o = same_entry d.5 (ap (slice_get outgrowths) e ∙ has) in
        (more p).1 (inr (subst (λ j. IsPairHere v j o nodes all p) e
        (subst (λ w. IsPairHere w d.0 o nodes all p) a (subst (λ w. IsPairHere d.1 d.0 w nodes all p) b d.6)))))
        (let lt = d.3 in omega (arith, lt)),
  )

  pub no-pair : (after : List (NodeId × NodeId)) → after ≡ [] → (p : NodeId × NodeId) →
      Contains after p ↔ IsPairBefore 0 p
  no-pair after e p = (
    λ m. absurd (Contains-none p (subst (λ l. Contains l p) e m)),
    λ d. let lt = d.3 in absurd (omega (arith, lt)),
  )

  pub all-pairs : (after : List (NodeId × NodeId)) (i : ℕ) → length visits ≤ i →
      ((p : NodeId × NodeId) → Contains after p ↔ IsPairBefore i p) → (p : NodeId × NodeId) →
      Contains after p ↔ IsPairOf visits outgrowths nodes all p
  all-pairs after i past h p = (
    λ m. let d = (h p).0 m in (d.0, d.1, d.2, d.4, d.5, d.6),
    λ d.
        (h p).1 (d.0, d.1, d.2, (let lt = slice_get_within visits d.0 d.1 d.3 in omega (arith, lt, past)), d.3, d.4, d.5),
  )
