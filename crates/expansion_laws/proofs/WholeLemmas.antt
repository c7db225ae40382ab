-- A list of visits to which nothing is asked further has them all.
use Rattle.std.proofs.Common.{refl, sym, ap, subst, arith, ◌∙◌}
use Rattle.std.specs.Prelude.{◌≡◌, ◌+◌, ℕ, zero, suc, true, Option, Some, List, map, Contains}
use Rattle.std.specs.Option.{option_map}
use Rattle.lists.proofs.Sameness.{empty-of}
use Rattle.lists.proofs.Tests.{list_all-each}
use Rattle.lists.proofs.Members.{Contains-none}
use Rattle.location_words.specs.Pairs.{IsWord}
use Rattle.location_words.specs.Laws.{WordsAreAGroup}
use Rattle.orientation.specs.Laws.{TurnsCompose}
use Rattle.expansion_laws.specs.Trees.{Tree, Use}
use Rattle.expansion_laws.specs.Contexts.{Context, inside, bare}
use Rattle.expansion_laws.specs.Steps.{Step}
use Rattle.expansion_laws.specs.Demands.{demands, gathered}
use Rattle.expansion_laws.specs.Rewriting.{all_results, results_within}
use Rattle.expansion_laws.specs.Visits.{LeadsTo, itself, onto, visits_within}
use Rattle.expansion_laws.specs.WholeVisits.{is_whole, WholeListsHoldAll}
use Rattle.expansion_laws.proofs.LevelLemmas.{more, kept-at}
use Rattle.expansion_laws.proofs.VisitLemmas.{inside-bare, visit-next, all-there}
use Rattle.expansion_laws.proofs.ListedLemmas.{led, listed-first, listed-onto}
use Rattle.expansion_laws.proofs.AlikeLemmas.{results-alike, trees, trees-some}

mapped-there : (f : List Use → List Use) (o : Option (List Use)) (a : List Use) → o ≡ Some a →
    (b : List Use) × (option_map f o ≡ Some b)
mapped-there f o a e = (f a, ap (option_map f) e)

module _ (turns : TurnsCompose) (group : WordsAreAGroup) (s : Step) where
  last-one : (x : Tree) (here : Context) (v : Use) → is_whole s zero x here ≡ true → Contains (demands s x here) v → ⊥
  unfolding is_whole
  last-one x here v e m = Contains-none v (subst (λ l. Contains l v) (empty-of (demands s x here) e) m)

  next-one : (n : ℕ) (x : Tree) (here : Context) (v : Use) → is_whole s (suc n) x here ≡ true →
      Contains (demands s x here) v → is_whole s n v.tree (inside here v) ≡ true
  unfolding is_whole
  next-one n x here v e m = list_all-each (λ v. is_whole s n v.tree (inside here v)) (demands s x here) e v m

  pub whole-listed : {x y : Tree} {here there : Context} → LeadsTo s x here y there → (n : ℕ) →
      is_whole s n x here ≡ true → Contains (visits_within s n x here) (y, there)
  whole-listed {x = x} {here = here} itself n e = listed-first s n x here
  whole-listed {x = x} {here = here} (onto v m l) zero e = absurd (last-one x here v e m)
  whole-listed {x = x} {y = y} {here = here} {there = there} (onto v m l) (suc n) e =
      listed-onto s n x y here there v m (whole-listed l n (next-one n x here v e m))

  -- a whole visit has results
  each-there : (n : ℕ) (x : Tree) (here : Context) →
      ((v : Use) → Contains (demands s x here) v → (r : List Use) × (results_within s n here v ≡ Some r)) →
      IsWord here.word →
      (a : List Use) × (results_within s (suc n) here (bare x) ≡ Some a)
  each-there n x here each h =
      let all = all-there (λ v. results_within s n here v) (demands s x here) each in
      let b = mapped-there (gathered s x here) (all_results (λ v. results_within s n here v) (demands s x here)) all.0
      all.1 in
      (b.0, (visit-next turns group) s n x here h ∙ b.1)

  -- a use has results where the bare use of its tree has
  pub use-there : (n : ℕ) (here : Context) (v : Use) (a : List Use) →
      results_within s n (inside here v) (bare v.tree) ≡ Some a → (r : List Use) × (results_within s n here v ≡ Some r)
  use-there n here v a e =
      let r = trees-some (results_within s n here v) (map (λ (w : Use). w.tree) a)
      (sym (ap trees e) ∙ (results-alike turns group) s n (inside here v) here (bare v.tree) v refl
      ((inside-bare turns group) (inside here v) v.tree (group.product_is_word here.word v.word))) in
      (r.0, r.1)

  whole-there : (n : ℕ) (x : Tree) (here : Context) → is_whole s n x here ≡ true → IsWord here.word →
      (a : List Use) × (results_within s (suc n) here (bare x) ≡ Some a)
  whole-there zero x here e h = each-there zero x here (λ v m. absurd (last-one x here v e m)) h
  whole-there (suc n) x here e h =
      each-there (suc n) x here
      (λ v m.
      (let r = whole-there n v.tree (inside here v) (next-one n x here v e m)
      (group.product_is_word here.word v.word) in use-there (suc n) here v r.0 r.1)) h

  pub whole-told : {x y : Tree} {here there : Context} → LeadsTo s x here y there → (n : ℕ) →
      is_whole s n x here ≡ true → IsWord here.word →
      (a : List Use) × (results_within s (suc n) there (bare y) ≡ Some a)
  whole-told {x = x} {here = here} itself n e h = whole-there n x here e h
  whole-told {x = x} {here = here} (onto v m l) zero e h = absurd (last-one x here v e m)
  whole-told {x = x} {y = y} {here = here} {there = there} (onto v m l) (suc n) e h =
      let r = whole-told l n (next-one n x here v e m) (group.product_is_word here.word v.word) in
      let e : 1 + suc n ≡ suc (suc n) = omega arith in (
        r.0,
        subst (λ k. results_within s k there (bare y) ≡ Some r.0) e
            (kept-at (results_within s (suc n) there (bare y)) (results_within s (1 + suc n) there (bare y)) r.0
            (more s 1 (suc n) there (bare y)) r.1),
      )

pub whole-lists : TurnsCompose → WordsAreAGroup → (s : Step) → WholeListsHoldAll s
whole-lists turns group s n x y here there e h = (
  ((λ l. whole-listed turns group s l n e), (λ m. led s n x y here there m)),
  (λ l. whole-told turns group s l n e h),
)
