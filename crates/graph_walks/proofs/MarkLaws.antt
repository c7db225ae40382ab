-- Marks along an order of finishing.
use Rattle.std.proofs.Common.{◌≡◌, ◌<◌, ◌+◌, refl, sym, ◌∙◌, ap, subst, arith, inl, inr, take, slice_index_or, set}
use Rattle.std.specs.Prelude.{ℕ, ◌⊎◌, ◌↔◌, ◌||◌, Bool, true, false, IsTrue, List, [], ◌∷◌, ◌++◌, length, reverse, Contains}
use Rattle.std.specs.List.{list_any}
use Rattle.std.proofs.lemmas.List.{take_more, get_or-set_same, get_or-set_other}
use Rattle.std.proofs.lemmas.List.Elements.{Contains-append_left, Contains-append_right, Contains-push_cases}
use Rattle.lists.proofs.Members.{Contains-first}
use Rattle.lists.proofs.Cases.{same_or_not}
use Rattle.lists.proofs.Tests.{list_any-contains, list_any-found}
use Rattle.graph_walks.specs.Walks.{Reaches, itself, along, IsFinishOrder}
use Rattle.graph_walks.specs.Marks.{is_marked, ReachesMarked}
use Rattle.graph_walks.proofs.RankLaws.{ends-before, once-before}

-- a node is marked now: one of the ends of its edges is, and else as before
abbrev pub IsMarkedNext : (ℕ → List ℕ) → List Bool → List Bool → ℕ → Type 0
IsMarkedNext edges marks marks' x =
    ((list_any (is_marked marks) (edges x) ≡ true) × (marks' ≡ set marks x true)) ⊎
    ((list_any (is_marked marks) (edges x) ≡ false) × (marks' ≡ marks))

module _ (edges : ℕ → List ℕ) (own marks : List Bool) where
  -- from what the ends of its edges reach
  reach-from : (x : ℕ) → ((y : ℕ) → Contains (edges x) y → IsTrue (is_marked marks y) ↔ ReachesMarked edges own y) →
      list_any (is_marked marks) (edges x) ≡ true → ReachesMarked edges own x
  reach-from x told any =
      let end = list_any-found (is_marked marks) (edges x) any in
      let there = (told end.0 end.1).0 end.2 in
      (there.0, along end.0 end.1 there.1, there.2)

  reach-none : (x : ℕ) → ((y : ℕ) → Contains (edges x) y → IsTrue (is_marked marks y) ↔ ReachesMarked edges own y) →
      list_any (is_marked marks) (edges x) ≡ false → ReachesMarked edges own x → IsTrue (is_marked own x)
  reach-none x told none r = go r.1 r.2 told none
    where
      go : {x z : ℕ} → Reaches edges x z → IsTrue (is_marked own z) →
          ((y : ℕ) → Contains (edges x) y → IsTrue (is_marked marks y) ↔ ReachesMarked edges own y) →
          list_any (is_marked marks) (edges x) ≡ false → IsTrue (is_marked own x)
      go itself h told none = h
      go (along {x = x} {z = z} y m r) h told none =
          absurd (let t = list_any-contains (is_marked marks) y (edges x) m ((told y m).1 (z, r, h)) in cc)

  module _ (order : List ℕ) (k : ℕ) (lt : k < length order) (o : IsFinishOrder edges (reverse order))
      (within : slice_index_or order k 0 < length marks)
      (told : (y : ℕ) → Contains (take k order) y → IsTrue (is_marked marks y) ↔ ReachesMarked edges own y)
      (others : (y : ℕ) → (Contains (take k order) y → ⊥) → is_marked marks y ≡ is_marked own y) where
    abbrev pub here : ℕ
    here = slice_index_or order k 0

    told-ends : (y : ℕ) → Contains (edges here) y → IsTrue (is_marked marks y) ↔ ReachesMarked edges own y
    told-ends y m = told y (ends-before edges order k 0 o lt y m)

    unchanged : is_marked marks here ≡ is_marked own here
    unchanged = others here (once-before edges order k 0 o lt)

    told-here : (marks' : List Bool) → IsMarkedNext edges marks marks' here →
        IsTrue (is_marked marks' here) ↔ ReachesMarked edges own here
    told-here marks' (inl n) =
        let now : is_marked marks' here ≡ true = ap (λ l. is_marked l here) n.1 ∙ get_or-set_same marks here true false within in
        (λ h. reach-from here told-ends n.0, λ r. now)
    told-here marks' (inr n) =
        let now : is_marked marks' here ≡ is_marked own here = ap (λ l. is_marked l here) n.1 ∙ unchanged in
        (λ h. (here, itself, sym now ∙ h), λ r. now ∙ reach-none here told-ends n.0 r)

    elsewhere : (marks' : List Bool) → IsMarkedNext edges marks marks' here → (y : ℕ) → (here ≡ y → ⊥) →
        is_marked marks' y ≡ is_marked marks y
    elsewhere marks' (inl n) y ne = ap (λ l. is_marked l y) n.1 ∙ get_or-set_other marks here y true false (λ e. ne (sym e))
    elsewhere marks' (inr n) y ne = ap (λ l. is_marked l y) n.1

    pub mark-told : (marks' : List Bool) → IsMarkedNext edges marks marks' here → (y : ℕ) → Contains (take (k + 1) order) y →
        IsTrue (is_marked marks' y) ↔ ReachesMarked edges own y
    mark-told marks' n y m = same_or_not here y
        (λ e. subst (λ z. IsTrue (is_marked marks' z) ↔ ReachesMarked edges own z) e (told-here marks' n))
        (λ ne. elim (Contains-push_cases (take k order) here y (subst (λ l. Contains l y) (take_more order k 0 lt) m)) [
          | inl before ↦ subst (λ b. IsTrue b ↔ ReachesMarked edges own y) (sym (elsewhere marks' n y ne)) (told y before)
          | inr e ↦ absurd (ne e)
        ])

    pub mark-others : (marks' : List Bool) → IsMarkedNext edges marks marks' here → (y : ℕ) →
        (Contains (take (k + 1) order) y → ⊥) → is_marked marks' y ≡ is_marked own y
    mark-others marks' n y apart =
        let among : Contains (take k order ++ here ∷ []) y → ⊥ =
        λ m. apart (subst (λ l. Contains l y) (sym (take_more order k 0 lt)) m) in
        elsewhere marks' n y (λ e. among (Contains-append_right (take k order) (here ∷ []) y (Contains-first here y [] e))) ∙
        others y (λ m. among (Contains-append_left (take k order) (here ∷ []) y m))
