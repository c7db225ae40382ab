-- The results of visits stand in the new root.
use Rattle.std.proofs.Common.{refl, sym, ap, subst, inl, inr, ◌∙◌}
use Rattle.std.specs.Prelude.{◌≡◌, ℕ, zero, suc, Bool, true, false, if◌then◌else◌}
use Rattle.std.specs.Prelude.{Option, None, Some, List, [], ◌∷◌, map, Contains}
use Rattle.std.proofs.lemmas.List.Elements.{Contains-append_left, Contains-append_right}
use Rattle.lists.proofs.Members.{Contains-cases, Contains-here, Contains-map, Contains-map_cases, Contains-none}
use Rattle.location_words.specs.Pairs.{IsWord}
use Rattle.location_words.specs.Laws.{WordsAreAGroup}
use Rattle.orientation.specs.Laws.{TurnsCompose}
use Rattle.expansion_laws.specs.Trees.{Tree, Use, origin, uses, tree_of}
use Rattle.expansion_laws.specs.Measures.{OccursIn}
use Rattle.expansion_laws.specs.Contexts.{Context, at_root, inside, bare}
use Rattle.expansion_laws.specs.Requests.{Request, match_of}
use Rattle.expansion_laws.specs.Steps.{Step, is_entered, entered, root_of}
use Rattle.expansion_laws.specs.Rewriting.{all_results, remains, results_within, Rewrites, RelativeResults}
use Rattle.expansion_laws.specs.Demands.{demands_by, demands, gathered_by, gathered}
use Rattle.expansion_laws.specs.Visits.{LeadsTo, itself, onto}
use Rattle.expansion_laws.specs.DerivedVisits.{VisitsResultsOccur}
use Rattle.expansion_laws.proofs.Subtrees.{list_of-uses_of, subtrees-itself, subtrees-use}
use Rattle.expansion_laws.proofs.LevelLemmas.{Rewrites-one}
use Rattle.expansion_laws.proofs.LeastLemmas.{joined-some, mapped-some}
use Rattle.expansion_laws.proofs.VisitLemmas.{inside-bare, visit-next}
use Rattle.expansion_laws.proofs.AlikeLemmas.{rewrites-alike}

-- among the joined results are those of each use
all-each : (f : Use → Option (List Use)) (us a : List Use) → all_results f us ≡ Some a → (v : Use) → Contains us v →
    (b : List Use) × (f v ≡ Some b) × ((r : Use) → Contains b r → Contains a r)
all-each f [] a e v m = absurd (Contains-none v m)
all-each f (u ∷ us) a e v m =
    let parts = joined-some (f u) (all_results f us) a e in
    elim (Contains-cases u v us m) [
      | inl same ↦ (
        parts.0,
        ap f (sym same) ∙ parts.2,
        λ r n. subst (λ l. Contains l r) parts.4 (Contains-append_left parts.0 parts.1 r n),
      )
      | inr k ↦ (let rest = all-each f us parts.1 parts.3 v k in (
        rest.0,
        rest.1,
        λ r n. subst (λ l. Contains l r) parts.4 (Contains-append_right parts.0 parts.1 r (rest.2 r n)),
      ))
    ]

-- what a list of results has the tree of
OccursInOne : Tree → List Use → Type 0
OccursInOne x results = (r : Use) × Contains results r × OccursIn x r.tree

-- what stands in a part stands in what remains of an entered tree
remains-has : (s : Step) (x : Tree) (parts : List Use) (r : Use) (y : Tree) → is_entered s x ≡ true → Contains parts r →
    OccursIn y r.tree → OccursInOne y (remains s (bare x) parts)
unfolding OccursInOne
remains-has s x [] r y e n o = absurd (Contains-none r n)
remains-has s x (p ∷ parts) r y e n o = rw e (
  bare (tree_of (origin x) (p ∷ parts)),
  Contains-here (bare (tree_of (origin x) (p ∷ parts))) [],
  subtrees-use (tree_of (origin x) (p ∷ parts)) r y (subst (λ l. Contains l r) (sym (list_of-uses_of (p ∷ parts))) n) o,
)

entered-of : (s : Step) (x : Tree) (v : Use) → Contains (entered s x) v → is_entered s x ≡ true
entered-of s x v m = go (is_entered s x) m
  where
    go : (b : Bool) → Contains (if b then uses x else []) v → b ≡ true
    go true m = refl
    go false m = absurd (Contains-none v m)

gathered-has : (s : Step) (x : Tree) (here : Context) (m : Option Request) (v : Use) (parts : List Use) (r : Use)
    (y : Tree) → Contains (demands_by s x here m) v →
    Contains parts r → OccursIn y r.tree → OccursInOne y (gathered_by s x here m parts)
unfolding OccursInOne
gathered-has s x here None v parts r y k n o = remains-has s x parts r y (entered-of s x v k) n o
gathered-has s x here (Some q) v parts r y k n o = (r, n, o)

same-trees : (a b : List Use) (y : Tree) → map (λ v. v.tree) a ≡ map (λ v. v.tree) b → OccursInOne y b → OccursInOne y a
unfolding OccursInOne
same-trees a b y e h =
    let m = Contains-map_cases (λ (v : Use). v.tree) h.0.tree a
    (subst (λ l. Contains l h.0.tree) (sym e) (Contains-map (λ (v : Use). v.tree) h.0 b h.1)) in
    (m.0, m.1, subst (λ t. OccursIn y t) (sym m.2) h.2)

module _ (turns : TurnsCompose) (group : WordsAreAGroup) (s : Step) where
  -- in the relative results of a visit stand those of the visits of its demands
  of-demand : (n : ℕ) (x : Tree) (here : Context) (results : List Use) (v : Use) → IsWord here.word →
      results_within s n here (bare x) ≡ Some results → Contains (demands s x here) v →
      (b : List Use) × Rewrites s here v b × ((y : Tree) → OccursInOne y b → OccursInOne y results)
  unfolding results_within OccursInOne
  of-demand zero x here results v h e m = absurd cc
  of-demand (suc n) x here results v h e m =
      let at = mapped-some (gathered s x here) (all_results (λ v. results_within s n here v) (demands s x here)) results
      (sym ((visit-next turns group) s n x here h) ∙ e) in
      let one = all-each (λ v. results_within s n here v) (demands s x here) at.0 at.1 v m in (
        one.0,
        (n, one.1),
        λ y o.
            subst (λ l. OccursInOne y l) at.2 (gathered-has s x here (match_of s.requests x here) v at.0 o.0 y m
            (one.2 o.0 o.1) o.2),
      )

  occurs-along : {x y : Tree} {here there : Context} → LeadsTo s x here y there → IsWord here.word →
      (c : Context) (u : Use) (a parts : List Use) → u.tree ≡ x → inside c u ≡ here →
      Rewrites s c u a → RelativeResults s y there parts → (v : Use) → Contains parts v → OccursInOne v.tree a
  unfolding OccursInOne
  occurs-along {x = x} {here = here} itself h c u a parts e f r q v m =
      let alike = (rewrites-alike turns group) s c here u (bare x) a e (f ∙ sym ((inside-bare turns group) here x h))
      r in
      let same : alike.0 ≡ parts = Rewrites-one s here (bare x) alike.0 parts alike.1 q in
      same-trees a alike.0 v.tree alike.2 (v, subst (λ l. Contains l v) (sym same) m, subtrees-itself v.tree)
  occurs-along {x = x} {here = here} (onto w n l) h c u a parts e f r q v m =
      let alike = (rewrites-alike turns group) s c here u (bare x) a e (f ∙ sym ((inside-bare turns group) here x h))
      r in
      let one = of-demand alike.1.0 x here alike.0 w h alike.1.1 n in
      same-trees a alike.0 v.tree alike.2 (one.2 v.tree
      (occurs-along l (group.product_is_word here.word w.word) here w one.0 parts refl refl one.1 q v m))

in-root : (results : List Use) (y : Tree) → OccursInOne y results → OccursIn y (root_of results).tree
unfolding OccursInOne
in-root [] y h = absurd (Contains-none h.0 h.1)
in-root (r ∷ []) y h =
    elim (Contains-cases r h.0 [] h.1) [
      | inl e ↦ subst (λ (v : Use). OccursIn y v.tree) (sym e) h.2
      | inr n ↦ absurd (Contains-none h.0 n)
    ]
in-root (r ∷ q ∷ rest) y h =
    subtrees-use (tree_of 0 (r ∷ q ∷ rest)) h.0 y
    (subst (λ l. Contains l h.0) (sym (list_of-uses_of (r ∷ q ∷ rest))) h.1) h.2

pub results-occur : TurnsCompose → WordsAreAGroup → (s : Step) → VisitsResultsOccur s
results-occur turns group s root new x here parts v st visit q m =
    subst (λ (n : Use). OccursIn v.tree n.tree) (sym st.2)
    (in-root st.0 v.tree (occurs-along turns group s visit (group.product_is_word [] root.word) at_root root st.0
    parts refl refl st.1 q v m))
