-- Which origins are loaded, and under which numbers.
use Rattle.std.proofs.Common.{◌≡◌, ◌≤◌, ◌<◌, ◌⊎◌, ℕ, zero, suc, List, ◌++◌, ◌∷◌, [], length, take, arith, sym, ◌∙◌}
use Rattle.std.proofs.Common.{ap, subst, Option, Some, None, inl, inr, nat_eq, false, eqb-true, eq-eqb, true≢false}
use Rattle.std.specs.Prelude.{nat_lt}
use Rattle.std.proofs.lemmas.Bool.{ltb-true, ltb-false}
use Rattle.std.proofs.lemmas.Option.{slice_get_within}
use Rattle.lists.proofs.Places.{row-taken, same_entry, slice_get-kept, slice_get-last, slice_get-push, taken-row}
use Rattle.lists.proofs.Cases.{by_test}
use Rattle.shape_pool.specs.declared.node.NodeId.{NodeId}
use Rattle.shape_pool.specs.Rows.{Row}
use Rattle.shape_pool.specs.Calls.{IsOf, IsLoaded, IsLoadedAs, KeepsLoaded, KeepsLoadedBelow, IsLoadedToo}
use Rattle.shape_pool.proofs.RowLaws.{entry, origin-entry}

-- ---- the first number of an origin
FirstOf : List Row → ℕ → Type 0
FirstOf rows o = ((i : ℕ) × IsOf rows o i × ((j : ℕ) → IsOf rows o j → i ≤ j)) ⊎ ((j : ℕ) → IsOf rows o j → ⊥)

first-of : (rows : List Row) (o : ℕ) → FirstOf rows o
unfolding FirstOf
first-of [] o = inr (λ j h. let a = h.0 in absurd (omega (arith, a)))
first-of (r ∷ rows) o = by_test (nat_eq r.origin o)
    (λ e. inl (0, (omega arith, eqb-true r.origin o e), λ j h. omega arith))
    (λ e. elim (first-of rows o) [
      | inl f ↦ inl (suc f.0, ((let a = f.1.0 in omega (arith, a)), f.1.1), λ j h. later e j h (λ k g. f.2 k g))
      | inr n ↦ inr (λ j h. never e j h n)
    ])
  where
    not_here : nat_eq r.origin o ≡ false → IsOf (r ∷ rows) o 0 → ⊥
    not_here e h = true≢false (sym (eq-eqb r.origin o h.1) ∙ e)

    later : nat_eq r.origin o ≡ false → (j : ℕ) → IsOf (r ∷ rows) o j → {i : ℕ} → ((k : ℕ) → IsOf rows o k → i ≤ k) →
        suc i ≤ j
    later e zero h f = absurd (not_here e h)
    later e (suc j) h f = let a = h.0 in let b = f j (omega (arith, a), h.1) in omega (arith, b)

    never : nat_eq r.origin o ≡ false → (j : ℕ) → IsOf (r ∷ rows) o j → ((k : ℕ) → IsOf rows o k → ⊥) → ⊥
    never e zero h f = not_here e h
    never e (suc j) h f = let a = h.0 in f j (omega (arith, a), h.1)

pub loaded-first : (rows : List Row) (o : ℕ) → IsLoaded rows o → (i : ℕ) × IsLoadedAs rows o i
unfolding FirstOf
loaded-first rows o l = elim (first-of rows o) [
  | inl f ↦ (f.0, (l.0, f.1, f.2))
  | inr n ↦ absurd (n l.1 l.2)
]

-- ---- numbers that are noted
abbrev pub IsNoted : List Row → (ℕ → Option NodeId) → Type 0
IsNoted rows loaded = (o i : ℕ) → IsLoadedAs rows o i → (n : NodeId) × (loaded o ≡ Some n) × (n.0 ≡ i)

module _ (rows : List Row) (loaded : ℕ → Option NodeId) (noted : IsNoted rows loaded) (o : ℕ) where
  pub noted-none : loaded o ≡ None → ¬ IsLoaded rows o
  noted-none e l =
      let f = loaded-first rows o l in
      let n = noted o f.0 f.1 in absurd cc

  at-first : (n : NodeId) → loaded o ≡ Some n → (l : IsLoaded rows o) → IsLoadedAs rows o n.0
  at-first n e l =
      let f = loaded-first rows o l in
      let m = noted o f.0 f.1 in
      subst (IsLoadedAs rows o) (sym m.2 ∙ ap (λ (x : NodeId). x.0) (same_entry m.1 e)) f.1

  pub noted-stale : (n : NodeId) → loaded o ≡ Some n → (IsOf rows o n.0 → ⊥) → ¬ IsLoaded rows o
  noted-stale n e not l = not (at-first n e l).1

  pub noted-some : (n : NodeId) → loaded o ≡ Some n → 1 ≤ o → IsOf rows o n.0 → IsLoadedAs rows o n.0
  noted-some n e pos is = at-first n e (pos, n.0, is)

-- ---- one row more
module _ (old : List Row) (r : Row) where
  of-kept : (o i : ℕ) → IsOf old o i → IsOf (old ++ r ∷ []) o i
  of-kept o i h =
      let e = slice_get-kept old (r ∷ []) i _ (entry old i h.0) in
      (slice_get_within (old ++ r ∷ []) i _ e, origin-entry (old ++ r ∷ []) i e ∙ h.1)

  of-last : IsOf (old ++ r ∷ []) r.origin (length old)
  of-last =
      let e = slice_get-last old r in
      (slice_get_within (old ++ r ∷ []) (length old) r e, origin-entry (old ++ r ∷ []) (length old) e)

  of-push : (o i : ℕ) → IsOf (old ++ r ∷ []) o i → IsOf old o i ⊎ ((i ≡ length old) × (r.origin ≡ o))
  of-push o i h = elim (slice_get-push old r _ i (entry (old ++ r ∷ []) i h.0)) [
    | inl f ↦ inl (slice_get_within old i _ f, origin-entry old i f ∙ h.1)
    | inr f ↦ inr (f.0, ap (λ (x : Row). x.origin) f.1 ∙ h.1)
  ]

  -- of an origin that is none, or is held already
  module _ (was : (r.origin ≡ 0) ⊎ ((j : ℕ) × IsOf old r.origin j)) where
    still : (o i : ℕ) → IsLoadedAs (old ++ r ∷ []) o i → IsLoadedAs old o i
    still o i l = elim (of-push o i l.1) [
      | inl h ↦ (l.0, h, λ m g. l.2 m (of-kept o m g))
      | inr h ↦ elim was [
        | inl z ↦ (let pos = l.0 in let e = h.1 in absurd (omega (arith, pos, e, z)))
        | inr w ↦
            (let g : IsOf old o w.0 = subst (λ q. IsOf old q w.0) h.1 w.1 in
            let le = l.2 w.0 (of-kept o w.0 g) in let lt = g.0 in let e = h.0 in absurd (omega (arith, le, lt, e)))
      ]
    ]

    before-too : (o i : ℕ) → IsLoadedAs old o i → IsLoadedAs (old ++ r ∷ []) o i
    before-too o i l = (
      l.0,
      of-kept o i l.1,
      λ m g. elim (of-push o m g) [
        | inl h ↦ l.2 m h
        | inr h ↦ (let lt = l.1.0 in let e = h.0 in omega (arith, lt, e))
      ],
    )

    still-loaded : (o : ℕ) → IsLoaded (old ++ r ∷ []) o → IsLoaded old o
    still-loaded o l = let f = loaded-first (old ++ r ∷ []) o l in let k = still o f.0 f.1 in (k.0, f.0, k.1)

    pub keeps-loaded : KeepsLoaded old (old ++ r ∷ [])
    keeps-loaded = record {
      loaded = λ o. (still-loaded o, λ l. (l.0, l.1, of-kept o l.1 l.2));
      loaded_as = λ o i. (still o i, before-too o i);
    }

  -- of an origin that isn't loaded
  module _ (fresh : IsLoaded old r.origin → ⊥) (pos : 0 < r.origin) where
    or-last : (o i : ℕ) → IsLoadedAs (old ++ r ∷ []) o i → ((o ≡ r.origin) × (i ≡ length old)) ⊎ IsLoadedAs old o i
    or-last o i l = elim (of-push o i l.1) [
      | inl h ↦ inr (l.0, h, λ m g. l.2 m (of-kept o m g))
      | inr h ↦ inl (sym h.1, h.0)
    ]

    last-as : IsLoadedAs (old ++ r ∷ []) r.origin (length old)
    last-as = (
      pos,
      of-last,
      λ m g. elim (of-push r.origin m g) [
        | inl h ↦ absurd (fresh (pos, m, h))
        | inr h ↦ (let e = h.0 in omega (arith, e))
      ],
    )

    before-as : (o i : ℕ) → IsLoadedAs old o i → IsLoadedAs (old ++ r ∷ []) o i
    before-as o i l = (
      l.0,
      of-kept o i l.1,
      λ m g. elim (of-push o m g) [
        | inl h ↦ l.2 m h
        | inr h ↦ (let lt = l.1.0 in let e = h.0 in omega (arith, lt, e))
      ],
    )

    as-either : (o i : ℕ) → ((o ≡ r.origin) × (i ≡ length old)) ⊎ IsLoadedAs old o i → IsLoadedAs (old ++ r ∷ []) o i
    as-either o i c = elim c [
      | inl e ↦ subst (λ q. IsLoadedAs (old ++ r ∷ []) q i) (sym e.0)
          (subst (IsLoadedAs (old ++ r ∷ []) r.origin) (sym e.1) last-as)
      | inr l ↦ before-as o i l
    ]

    loaded-either : (o : ℕ) → IsLoaded (old ++ r ∷ []) o → (o ≡ r.origin) ⊎ IsLoaded old o
    loaded-either o l = elim (of-push o l.1 l.2) [
      | inl h ↦ inr (l.0, l.1, h)
      | inr h ↦ inl (sym h.1)
    ]

    either-loaded : (o : ℕ) → (o ≡ r.origin) ⊎ IsLoaded old o → IsLoaded (old ++ r ∷ []) o
    either-loaded o c = elim c [
      | inl e ↦ subst (IsLoaded (old ++ r ∷ [])) (sym e) (pos, length old, of-last)
      | inr l ↦ (l.0, l.1, of-kept o l.1 l.2)
    ]

    pub loaded-too : IsLoadedToo old (old ++ r ∷ []) r.origin (length old)
    loaded-too = record {
      loaded = λ o. (loaded-either o, either-loaded o);
      loaded_as = λ o i. (or-last o i, as-either o i);
    }

pub keeps-loaded-itself : (rows : List Row) → KeepsLoaded rows rows
keeps-loaded-itself rows = record { loaded = λ o. (λ l. l, λ l. l); loaded_as = λ o i. (λ l. l, λ l. l) }

-- ---- the first rows alone
module _ (rows : List Row) (m : ℕ) where
  of-taken : (o i : ℕ) → IsOf (take m rows) o i → IsOf rows o i × (i < m)
  of-taken o i h =
      let f = taken-row rows m i _ (entry (take m rows) i h.0) in
      ((slice_get_within rows i _ f.0, origin-entry rows i f.0 ∙ h.1), f.1)

  of-below : (o i : ℕ) → IsOf rows o i → i < m → IsOf (take m rows) o i
  of-below o i h lt =
      let e = row-taken rows m i _ (entry rows i h.0) lt in
      (slice_get_within (take m rows) i _ e, origin-entry (take m rows) i e ∙ h.1)

  as-taken : (o i : ℕ) → IsLoadedAs (take m rows) o i → IsLoadedAs rows o i × (i < m)
  as-taken o i l =
      let f = of-taken o i l.1 in
      let lt = f.1 in (
        (
          l.0,
          f.0,
          λ j g. by_test (nat_lt j m)
              (λ e. l.2 j (of-below o j g (ltb-true j m e)))
              (λ e. let b = ltb-false j m e in omega (arith, b, lt)),
        ),
        f.1,
      )

  as-below : (o i : ℕ) → IsLoadedAs rows o i × (i < m) → IsLoadedAs (take m rows) o i
  as-below o i h = (h.0.0, of-below o i h.0.1 h.1, λ j g. h.0.2 j (of-taken o j g).0)

  loaded-below : (o : ℕ) → IsLoaded (take m rows) o → (i : ℕ) × IsLoadedAs rows o i × (i < m)
  loaded-below o l = let f = loaded-first (take m rows) o l in let k = as-taken o f.0 f.1 in (f.0, k.0, k.1)

  below-loaded : (o : ℕ) → (i : ℕ) × IsLoadedAs rows o i × (i < m) → IsLoaded (take m rows) o
  below-loaded o h = let k = as-below o h.0 (h.1, h.2) in (k.0, h.0, k.1)

  pub keeps-loaded-below : KeepsLoadedBelow m rows (take m rows)
  keeps-loaded-below = record {
    loaded = λ o. (loaded-below o, below-loaded o);
    loaded_as = λ o i. (as-taken o i, as-below o i);
  }
