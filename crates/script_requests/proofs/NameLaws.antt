-- The numbers of a name, version by version.
use Rattle.std.proofs.Common.{◌≡◌, ◌≤◌, ◌+◌, ◌∙◌, refl, sym, ap, subst, inl, inr, arith, ℕ, take}
use Rattle.std.proofs.Common.{length, map, reverse}
use Rattle.std.specs.Prelude.{◌↔◌, List, [], ◌∷◌, Contains, Some, slice_get}
use Rattle.std.proofs.lemmas.List.{take_all}
use Rattle.lists.specs.Distinct.{IsDistinct}
use Rattle.lists.proofs.Members.{Contains-map, Contains-map_cases, Contains-none, reverse-push}
use Rattle.lists.proofs.Places.{Contains-at, take-at}
use Rattle.shape_pool.specs.Calls.{IsLoadedAs}
use Rattle.shape_pool.specs.Rows.{Row}
use Rattle.shape_pool.specs.declared.node.NodeId.{NodeId}
use Rattle.script_requests.specs.declared.version.Version.{Version}
use Rattle.script_requests.specs.Named.{id_of, AreNamed, AreNext, AreNumbersNamed, IsImageOfOne, MeetsToo}

-- ---- the images, or the record's own
no-member : (xs : List ℕ) (x : ℕ) → length xs ≡ 0 → Contains xs x → ⊥
no-member xs x e m = let lt = m.1 in omega (arith, e, lt)

pub next-none : (pairs : List (NodeId × NodeId)) (ids : List ℕ) (own : ℕ) (met new : List ℕ) →
    MeetsToo (IsImageOfOne pairs ids) [] met → length met ≡ 0 → MeetsToo (λ i. own ≡ i) met new →
    AreNext pairs ids own new
next-none pairs ids own met new h e a =
    let none : (k : ℕ) → IsImageOfOne pairs ids k → ⊥ = λ k r. no-member met k e ((h.1 k).1 (inr r)) in record {
      distinct = a.0 (h.0 tt);
      each =
          λ j. (
            (λ m. elim ((a.1 j).0 m) [ inl k ↦ absurd (no-member met j e k) | inr q ↦ inr (none, q) ]),
            (λ k. elim k [ inl r ↦ absurd (none j r) | inr q ↦ (a.1 j).1 (inr q.1) ]),
          );
    }

pub next-some : (pairs : List (NodeId × NodeId)) (ids : List ℕ) (own : ℕ) (met : List ℕ) →
    MeetsToo (IsImageOfOne pairs ids) [] met → (length met ≡ 0 → ⊥) → AreNext pairs ids own met
next-some pairs ids own [] h e = absurd (e refl)
next-some pairs ids own (x ∷ xs) h e =
    let met = x ∷ xs in
    let image : (j : ℕ) → Contains met j → IsImageOfOne pairs ids j =
    λ j m. elim ((h.1 j).0 m) [ inl k ↦ absurd (Contains-none j k) | inr r ↦ r ] in
    let some = image x (Contains-at met 0 x refl) in record {
      distinct = h.0 tt;
      each =
          λ j. (
            (λ m. inl (image j m)),
            (λ k. elim k [ inl r ↦ (h.1 j).1 (inr r) | inr q ↦ absurd (q.0 x some) ]),
          );
    }

module _ (rows : List Row) (name own : ℕ) (loaded : IsLoadedAs rows name own) where
  only : (i : ℕ) → IsLoadedAs rows name i → own ≡ i
  only i l = let a = loaded.2 i l.1 in let b = l.2 own loaded.1 in omega (arith, a, b)

  is-own : (i : ℕ) → own ≡ i → IsLoadedAs rows name i
  is-own i e = subst (λ z. IsLoadedAs rows name z) e loaded

  pub named-first : (start new : List ℕ) → start ≡ [] → MeetsToo (λ i. own ≡ i) start new →
      AreNumbersNamed rows [] name new
  named-first start new e h = record {
    distinct = h.0 (subst (λ l. IsDistinct l) (sym e) tt);
    each =
        λ i. (
          (λ m. elim ((h.1 i).0 m) [
            | inl k ↦ absurd (Contains-none i (subst (λ l. Contains l i) e k))
            | inr q ↦ is-own i q
          ]),
          (λ l. (h.1 i).1 (inr (only i l))),
        );
  }

  named-next : (vs : List Version) (v : Version) (ids new : List ℕ) → AreNumbersNamed rows vs name ids →
      AreNext v.images ids own new → AreNumbersNamed rows (v ∷ vs) name new
  named-next vs v ids new g a = record {
    distinct = a.distinct;
    each =
        λ j. (
          (λ m. elim ((a.each j).0 m) [
            | inl r ↦ inl (id_of r.0, (g.each r.0).0 r.1, r.2)
            | inr q ↦ inr ((λ k r. q.0 k.0 (r.0.0, (g.each r.0.0).1 r.1, r.2)), is-own j q.1)
          ]),
          (λ k. (a.each j).1 (elim k [
            | inl r ↦ inl (r.0.0, (g.each r.0.0).1 r.1, r.2)
            | inr q ↦ inr ((λ n r. q.0 (id_of n) (id_of r.0, (g.each r.0).0 r.1, r.2)), only j q.1)
          ])),
        );
  }

  pub named-step : (vs : List Version) (i : ℕ) (v : Version) (pairs : List (NodeId × NodeId)) (given ids new : List ℕ) →
      slice_get vs i ≡ Some v → pairs ≡ v.images → given ≡ ids → AreNumbersNamed rows (reverse (take i vs)) name ids →
      AreNext pairs given own new → AreNumbersNamed rows (reverse (take (i + 1) vs)) name new
  named-step vs i v pairs given ids new at e f g a =
      let one = named-next (reverse (take i vs)) v ids new g
      (subst (λ ns. AreNext v.images ns own new) f (subst (λ ps. AreNext ps given own new) e a)) in
      subst (λ l. AreNumbersNamed rows l name new)
      (sym (ap (λ l. reverse l) (take-at vs i v at) ∙ reverse-push (take i vs) v)) one

-- ---- as numbers of nodes
distinct-ids : (ns : List ℕ) → IsDistinct ns → IsDistinct (map id_of ns)
distinct-ids [] d = tt
distinct-ids (n ∷ ns) d = (
  (λ m.
      let from = Contains-map_cases id_of (id_of n) ns m in
      let e = ap (λ (k : NodeId). k.0) from.2 in
      let same : from.0 ≡ n = omega (arith, e) in
      d.0 (subst (λ z. Contains ns z) same from.1)),
  distinct-ids ns d.1,
)

members-ids : (ns : List ℕ) (i : NodeId) → Contains (map id_of ns) i ↔ Contains ns i.0
members-ids ns i = (
  (λ m.
      let from = Contains-map_cases id_of i ns m in
      let e = ap (λ (k : NodeId). k.0) from.2 in
      let same : from.0 ≡ i.0 = omega (arith, e) in
      subst (λ z. Contains ns z) same from.1),
  (λ m. Contains-map id_of i.0 ns m),
)

pub named-all : (rows : List Row) (vs : List Version) (at name : ℕ) (numbers given : List ℕ) (ids : List NodeId) →
    length vs ≤ at → AreNumbersNamed rows (reverse (take at vs)) name numbers → given ≡ numbers →
    ids ≡ map id_of given → AreNamed rows (reverse vs) name ids
named-all rows vs at name numbers given ids le g e f =
    let n = subst (λ l. AreNumbersNamed rows (reverse l) name numbers) (take_all at vs le) g in
    let is : ids ≡ map id_of numbers = f ∙ ap (λ l. map id_of l) e in
    subst (λ l. AreNamed rows (reverse vs) name l) (sym is) (record {
      distinct = distinct-ids numbers n.distinct;
      each =
          λ i. (
            (λ m. (n.each i.0).0 ((members-ids numbers i).0 m)),
            (λ h. (members-ids numbers i).1 ((n.each i.0).1 h)),
          );
    })
