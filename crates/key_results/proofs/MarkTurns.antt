-- Marks of numbers, and what stands below stopped visits.
use Rattle.std.proofs.Common.{◌≡◌, ◌≤◌, ◌<◌, ◌+◌, ◌⊎◌, ◌↔◌, ℕ, zero, suc, Bool, true}
use Rattle.std.proofs.Common.{false, List, ◌∷◌, [], Contains, length, take, set}
use Rattle.std.proofs.Common.{arith, sym, ◌∙◌, ap, subst, slice_get, slice_index_or, Some, inl, inr}
use Rattle.std.specs.Prelude.{replicate}
use Rattle.std.proofs.lemmas.Bool.{cases_lt}
use Rattle.std.proofs.lemmas.List.{take_all}
use Rattle.std.proofs.lemmas.List.Elements.{All-contains, Contains-append_left}
use Rattle.std.proofs.lemmas.List.Elements.{Contains-append_right, Contains-push_cases}
use Rattle.std.proofs.lemmas.Option.{slice_get-get_or, slice_get_within}
use Rattle.lists.proofs.Cases.{same_or_not}
use Rattle.lists.proofs.Members.{Contains-here, Contains-none, Contains-map_cases}
use Rattle.lists.proofs.Places.{at_place, same_entry, slice_get-set_same, slice_get-set-other, take-at}
use Rattle.graph_walks.specs.Walks.{Reaches, itself, along}
use Rattle.shape_pool.specs.declared.node.NodeId.{NodeId}
use Rattle.shape_pool.specs.declared.node.UseOf.{UseOf}
use Rattle.shape_pool.specs.Rows.{Row, uses_at}
use Rattle.shape_pool.specs.Laws.{ids_used, UsesAreEarlier}
use Rattle.key_results.specs.declared.derive.Outcome.TheVariants.{Stays}
use Rattle.key_results.specs.declared.derive.Visit.{Visit}
use Rattle.key_results.specs.Pairs.{IsMarked, IsUnseen, IsUsedByStopped}

-- what is read of a mark
pub mark-read : (marks : List Bool) (i : ℕ) → i < length marks → slice_index_or marks i false ≡ true → IsMarked marks i
mark-read marks i lt e = slice_get-get_or marks i false lt ∙ ap Some e

pub mark-missing : (marks : List Bool) (i : ℕ) → i < length marks → slice_index_or marks i false ≡ false →
    IsMarked marks i → ⊥
mark-missing marks i lt e m =
    let wrong : false ≡ true = sym e ∙ same_entry (slice_get-get_or marks i false lt) m in absurd cc

-- fresh marks
pub fresh : (n i : ℕ) → IsMarked (replicate n false) i → ⊥
fresh zero i m = cc
fresh (suc n) zero m = cc
fresh (suc n) (suc i) m = fresh n i m

-- ---- one mark more
pub mark-set : (marks : List Bool) (j : ℕ) → j < length marks → (i : ℕ) →
    IsMarked (set marks j true) i ↔ (IsMarked marks i ⊎ (j ≡ i))
mark-set marks j lt i =
    let b = at_place marks j lt in (
      λ m. same_or_not j i (λ e. inr e) (λ n. inl (sym (slice_get-set-other marks j i true n) ∙ m)),
      λ h. elim h [
        | inl m ↦ same_or_not j i (λ e. slice_get-set_same marks j i true b.0 b.1 e)
            (λ n. slice_get-set-other marks j i true n ∙ m)
        | inr e ↦ slice_get-set_same marks j i true b.0 b.1 e
      ],
    )

pub used-next : (first before after : List Bool) (ids : List ℕ) (at j : ℕ) → slice_get ids at ≡ Some j →
    ((i : ℕ) → IsMarked after i ↔ (IsMarked before i ⊎ (j ≡ i))) →
    ((i : ℕ) → IsMarked before i ↔ (IsMarked first i ⊎ Contains (take at ids) i)) →
    (i : ℕ) → IsMarked after i ↔ (IsMarked first i ⊎ Contains (take (at + 1) ids) i)
used-next first before after ids at j e more h i =
    let took = take-at ids at j e in (
      λ m. elim ((more i).0 m) [
        | inl b ↦ (elim ((h i).0 b) [
          | inl a ↦ inl a
          | inr c ↦ inr (subst (λ l. Contains l i) (sym took) (Contains-append_left (take at ids) (j ∷ []) i c))
        ])
        | inr same ↦ inr (subst (λ l. Contains l i) (sym took)
            (Contains-append_right (take at ids) (j ∷ []) i (subst (Contains (j ∷ [])) same (Contains-here j []))))
      ],
      λ k. elim k [
        | inl a ↦ (more i).1 (inl ((h i).1 (inl a)))
        | inr c ↦ (elim (Contains-push_cases (take at ids) j i (subst (λ l. Contains l i) took c)) [
          | inl d ↦ (more i).1 (inl ((h i).1 (inr d)))
          | inr same ↦ (more i).1 (inr same)
        ])
      ],
    )

pub used-none : (first : List Bool) (i : ℕ) → IsMarked first i ↔ (IsMarked first i ⊎ Contains [] i)
used-none first i = (λ m. inl m, λ h. elim h [ inl m ↦ m | inr c ↦ absurd (Contains-none i c) ])

pub used-all : (first after : List Bool) (ids : List ℕ) (at : ℕ) → length ids ≤ at →
    ((i : ℕ) → IsMarked after i ↔ (IsMarked first i ⊎ Contains (take at ids) i)) → (i : ℕ) →
    IsMarked after i ↔ (IsMarked first i ⊎ Contains ids i)
used-all first after ids at past h i =
    subst (λ l. IsMarked after i ↔ (IsMarked first i ⊎ Contains l i)) (take_all at ids past) (h i)

-- ---- the visits so far
pub stopped-next : (rows : List Row) (visits : List Visit) (first before after : List Bool) (at : ℕ) (v : Visit) →
    slice_get visits at ≡ Some v →
    ((i : ℕ) → IsMarked after i ↔ (IsMarked before i ⊎ ((v.outcome ≡ Stays) × Contains (ids_used rows v.id.0) i))) →
    ((i : ℕ) → IsMarked before i ↔ (IsMarked first i ⊎ IsUsedByStopped rows (take at visits) i)) →
    (i : ℕ) → IsMarked after i ↔ (IsMarked first i ⊎ IsUsedByStopped rows (take (at + 1) visits) i)
stopped-next rows visits first before after at v e more h i =
    let took = take-at visits at v e in (
      λ m. elim ((more i).0 m) [
        | inl b ↦ (elim ((h i).0 b) [
          | inl a ↦ inl a
          | inr c ↦
              inr (
                c.0,
                subst (λ l. Contains l c.0) (sym took) (Contains-append_left (take at visits) (v ∷ []) c.0 c.1),
                c.2,
                c.3,
              )
        ])
        | inr u ↦
            inr (
              v,
              subst (λ l. Contains l v) (sym took) (Contains-append_right (take at visits) (v ∷ []) v
                  (Contains-here v [])),
              u.0,
              u.1,
            )
      ],
      λ k. elim k [
        | inl a ↦ (more i).1 (inl ((h i).1 (inl a)))
        | inr c ↦ (elim (Contains-push_cases (take at visits) v c.0 (subst (λ l. Contains l c.0) took c.1)) [
          | inl d ↦ (more i).1 (inl ((h i).1 (inr (c.0, d, c.2, c.3))))
          | inr same ↦
              (more i).1
              (inr (subst (λ (w : Visit). (w.outcome ≡ Stays) × Contains (ids_used rows w.id.0) i) (sym same) (c.2, c.3)))
        ])
      ],
    )

pub stopped-none : (rows : List Row) (first : List Bool) (i : ℕ) →
    IsMarked first i ↔ (IsMarked first i ⊎ IsUsedByStopped rows [] i)
stopped-none rows first i = (λ m. inl m, λ h. elim h [ inl m ↦ m | inr c ↦ absurd (Contains-none c.0 c.1) ])

pub stopped-all : (rows : List Row) (visits : List Visit) (first after : List Bool) (at : ℕ) → length visits ≤ at →
    ((i : ℕ) → IsMarked after i ↔ (IsMarked first i ⊎ IsUsedByStopped rows (take at visits) i)) →
    (i : ℕ) → IsMarked after i ↔ (IsMarked first i ⊎ IsUsedByStopped rows visits i)
stopped-all rows visits first after at past h i =
    subst (λ l. IsMarked after i ↔ (IsMarked first i ⊎ IsUsedByStopped rows l i)) (take_all at visits past) (h i)

-- ---- from the highest number down
-- The marks are of numbers that stand below stopped visits, and of all that these use. Of the numbers gone through each
-- marked one has marked what it uses, and has given its pair.
pub record IsSeenTo (rows : List Row) (visits : List Visit) (first : List (NodeId × NodeId)) (done : ℕ)
    (marks : List Bool)
    (given : List (NodeId × NodeId)) : Type 0 where
  pub long : length marks ≡ length rows
  pub sound : (i : ℕ) → IsMarked marks i → IsUnseen rows visits i
  pub used : (i : ℕ) → IsUsedByStopped rows visits i → IsMarked marks i
  pub closed : (i u : ℕ) → IsMarked marks i → length rows ≤ i + done → Contains (ids_used rows i) u → IsMarked marks u
  pub pairs : (p : NodeId × NodeId) →
      Contains given p ↔ (Contains first p ⊎ ((p.1 ≡ p.0) × IsMarked marks p.0.0 × (length rows ≤ p.0.0 + done)))

reaches-on : {X : Type 0} (edges : X → List X) (x y z : X) → Reaches edges x y → Contains (edges y) z →
    Reaches edges x z
reaches-on edges x y z itself m = along z m itself
reaches-on edges x y z (along w c r) m = along w c (reaches-on edges w y z r m)

used-below : (rows : List Row) → UsesAreEarlier rows → (i u : ℕ) → i < length rows → Contains (ids_used rows i) u →
    u < i
used-below rows earlier i u lt m =
    let c = Contains-map_cases (λ (v : UseOf). v.id.0) u (uses_at rows i) m in
    subst (λ (n : ℕ). n < i) c.2 (All-contains (λ (v : UseOf). v.id.0 < i) (uses_at rows i) c.0 (earlier i lt) c.1)

module _ (rows : List Row) (earlier : UsesAreEarlier rows) (visits : List Visit) (first : List (NodeId × NodeId)) where
  pub seen-next : (done : ℕ) (marks marks' : List Bool) (pairs pairs' : List (NodeId × NodeId)) (id : NodeId) →
      id.0 + (done + 1) ≡ length rows →
      length marks' ≡ length marks →
      ((i : ℕ) → IsMarked marks' i ↔ (IsMarked marks i ⊎ (IsMarked marks id.0 × Contains (ids_used rows id.0) i))) →
      ((p : NodeId × NodeId) → Contains pairs' p ↔ (Contains pairs p ⊎ (IsMarked marks id.0 × ((id, id) ≡ p)))) →
      IsSeenTo rows visits first done marks pairs → IsSeenTo rows visits first (done + 1) marks' pairs'
  seen-next done marks marks' pairs pairs' id here long marked more before =
      let at : id.0 < length rows = omega (arith, here) in
      let same-above : (i : ℕ) → id.0 ≤ i → IsMarked marks' i → IsMarked marks i =
      (λ i le m. elim ((marked i).0 m) [
        | inl b ↦ b
        | inr c ↦ (let lt = used-below rows earlier id.0 i at c.1 in absurd (omega (arith, le, lt)))
      ]) in
      record {
        long = long ∙ before.long;
        sound = λ i m. elim ((marked i).0 m) [
          | inl b ↦ before.sound i b
          | inr c ↦ (let u = before.sound id.0 c.0 in (u.0, u.1, reaches-on (ids_used rows) u.0 id.0 i u.2 c.1))
        ];
        used = λ i h. (marked i).1 (inl (before.used i h));
        closed = λ i u m le c.
            let b = same-above i (omega (arith, le, here)) m in
            elim (cases_lt id.0 i) [
              | inl lt ↦ (marked u).1 (inl (before.closed i u b (omega (arith, lt, here)) c))
              | inr ge ↦ (let e : i ≡ id.0 = omega (arith, ge, le, here) in
                  (marked u).1 (inr (subst (IsMarked marks) e b, subst (λ k. Contains (ids_used rows k) u) e c)))
            ];
        pairs = λ p. (
          λ m. elim ((more p).0 m) [
            | inl c ↦ (elim ((before.pairs p).0 c) [
              | inl d ↦ inl d
              | inr d ↦ (let le = d.2 in inr (d.0, (marked p.0.0).1 (inl d.1), omega (arith, le)))
            ])
            | inr c ↦ inr (
              ap (λ (q : NodeId × NodeId). q.1) (sym c.1) ∙ ap (λ (q : NodeId × NodeId). q.0) c.1,
              subst (λ (q : NodeId × NodeId). IsMarked marks' q.0.0) c.1 ((marked id.0).1 (inl c.0)),
              subst (λ (q : NodeId × NodeId). length rows ≤ q.0.0 + (done + 1)) c.1 (omega (arith, here)),
            )
          ],
          λ k. elim k [
            | inl d ↦ (more p).1 (inl ((before.pairs p).1 (inl d)))
            | inr d ↦ (
                let le = d.2 in
                let b = same-above p.0.0 (omega (arith, le, here)) d.1 in
                elim (cases_lt id.0 p.0.0) [
                  | inl lt ↦ (more p).1 (inl ((before.pairs p).1 (inr (d.0, b, omega (arith, lt, here)))))
                  | inr ge ↦ (
                      let e : id.0 ≡ p.0.0 = omega (arith, ge, le, here) in
                      let same : id ≡ p.0 = (λ j. record { 0 = e j }) in
                      (more p).1 (inr (subst (IsMarked marks) (sym e) b, λ j. (same j, (same ∙ sym d.0) j))))
                ])
          ],
        );
      }

  -- all marks are gone through: what is marked stands below stopped visits, and all that does is marked
  reached-marked : (done : ℕ) (marks : List Bool) (pairs : List (NodeId × NodeId)) → length rows ≤ done →
      IsSeenTo rows visits first done marks pairs →
      (u i : ℕ) → Reaches (ids_used rows) u i → IsMarked marks u → IsMarked marks i
  reached-marked done marks pairs past seen u i itself m = m
  reached-marked done marks pairs past seen u i (along w c r) m =
      reached-marked done marks pairs past seen w i r (seen.closed u w m (omega (arith, past)) c)

  pub seen-all : (done : ℕ) (marks : List Bool) (pairs : List (NodeId × NodeId)) → length rows ≤ done →
      IsSeenTo rows visits first done marks pairs →
      (p : NodeId × NodeId) → Contains pairs p ↔ (Contains first p ⊎ ((p.1 ≡ p.0) × IsUnseen rows visits p.0.0))
  seen-all done marks pairs past seen p = (
    λ m. elim ((seen.pairs p).0 m) [
      | inl c ↦ inl c
      | inr c ↦ inr (c.0, seen.sound p.0.0 c.1)
    ],
    λ h. elim h [
      | inl c ↦ (seen.pairs p).1 (inl c)
      | inr c ↦ (let u = c.1 in
          (seen.pairs p).1 (inr (
            c.0,
            reached-marked done marks pairs past seen u.0 p.0.0 u.2 (seen.used u.0 u.1),
            omega (arith, past),
          )))
    ],
  )

pub seen-none : (rows : List Row) (visits : List Visit) (first : List (NodeId × NodeId)) (empty marks : List Bool) →
    length marks ≡ length rows →
    ((i : ℕ) → IsMarked empty i → ⊥) → ((i : ℕ) →
    IsMarked marks i ↔ (IsMarked empty i ⊎ IsUsedByStopped rows visits i)) →
    IsSeenTo rows visits first 0 marks first
seen-none rows visits first empty marks long none marked = record {
  long = long;
  sound = λ i m. elim ((marked i).0 m) [ inl b ↦ absurd (none i b) | inr u ↦ (i, u, itself) ];
  used = λ i u. (marked i).1 (inr u);
  closed = λ i u m le c. let lt = slice_get_within marks i true m in absurd (omega (arith, lt, le, long));
  pairs = λ p. (
    λ m. inl m,
    λ h. elim h [
      | inl m ↦ m
      | inr d ↦ (let lt = slice_get_within marks p.0.0 true d.1 in let le = d.2 in absurd (omega (arith, lt, le, long)))
    ],
  );
}
