-- The pairs of a history stand in the first root and in the last.
use Rattle.std.proofs.Common.{◌≡◌, sym, ap, subst, inl, inr, ◌∙◌}
use Rattle.std.specs.Prelude.{false, None, List, [], ◌∷◌, if◌then◌else◌}
use Rattle.lists.proofs.Members.{Contains-here, Contains-map_cases, Contains-none}
use Rattle.location_words.specs.Pairs.{IsWord}
use Rattle.location_words.specs.Laws.{WordsAreAGroup}
use Rattle.orientation.specs.declared.kind.Kind.{Kind}
use Rattle.expansion_laws.specs.Trees.{Tree, Use, uses}
use Rattle.expansion_laws.specs.Measures.{OccursIn, StandsBelow}
use Rattle.expansion_laws.specs.Contexts.{Context, bare}
use Rattle.expansion_laws.specs.Requests.{match_of}
use Rattle.expansion_laws.specs.Steps.{Step, is_entered}
use Rattle.expansion_laws.specs.Rewriting.{is_pruned, rebuilt, RelativeResults, StepsTo}
use Rattle.expansion_laws.specs.RewritingLaws.{ResultsAreGathered}
use Rattle.expansion_laws.specs.Subtrees.{SubtreesStand}
use Rattle.expansion_laws.specs.Demands.{demands_by, gathered, gathered_by}
use Rattle.expansion_laws.specs.DerivedVisits.{VisitsResultsOccur}
use Rattle.expansion_laws.specs.Visits.{LeadsTo, itself, onto, IsResult, IsImage, IsReplaced}
use Rattle.step_history.specs.Changes.{Change, by_requests, Makes, Becomes, TakesPlace, history_by}
use Rattle.step_history.specs.Composition.{Done, history_after, PairsStand, PairsOfRowsStand}

module _ (subtrees : SubtreesStand) (group : WordsAreAGroup) (are_gathered : (s : Step) → ResultsAreGathered s) (occur : (s : Step) → VisitsResultsOccur s) where
  -- what stands properly below a tree stands where the tree does
  stands-below : (x above whole : Tree) → StandsBelow x above → OccursIn above whole → OccursIn x whole
  stands-below x above whole b o = subtrees.onward whole above x o (subtrees.below above b.0 x b.1 b.2)

  -- a visit that stops has its tree as its result
  stopped-results : (s : Step) (x : Tree) (here : Context) → IsWord here.word → match_of s.requests x here ≡ None → is_entered s x ≡ false →
      RelativeResults s x here (bare x ∷ [])
  stopped-results s x here h m e =
      let none_asked = ap (demands_by s x here) m ∙ ap (λ b. if b then uses x else []) e in
      let itself_left : gathered s x here [] ≡ bare x ∷ [] =
      ap (λ m. gathered_by s x here m []) m ∙ ap (λ b. if b then (if is_pruned s x [] then [] else rebuilt (bare x) [] ∷ []) else bare x ∷ []) e in
      subst (RelativeResults s x here) itself_left (are_gathered s x here [] h none_asked (λ p k. absurd (Contains-none p k)))

  word-there : (s : Step) {x y : Tree} {here there : Context} → LeadsTo s x here y there → IsWord here.word → IsWord there.word
  word-there s itself h = h
  word-there s {here = here} (onto v m l) h = word-there s l (group.product_is_word here.word v.word)

  module _ (s : Step) (root new : Use) (made : StepsTo s root new) where
    result-stands : (x y : Tree) → IsResult s root x y → OccursIn y new.tree
    result-stands x y i =
        let at = Contains-map_cases (λ (r : Use). r.tree) y i.1 i.4 in
        subst (λ z. OccursIn z new.tree) at.2 (occur s root new x i.0 i.1 at.0 made i.2 i.3 at.1)

    image-stands : (x y : Tree) → IsImage s root x y → OccursIn y new.tree
    image-stands x y (inl i) = result-stands x y i
    image-stands x y (inr h) =
        let above = h.1.0 in
        let stopped = h.1.1 in
        let it = stopped-results s above stopped.0 (word-there s stopped.1 (group.product_is_word [] root.word)) stopped.2 stopped.3 in
        subst (λ z. OccursIn z new.tree) (sym h.0)
        (stands-below x above new.tree h.1.2
        (occur s root new above stopped.0 (bare above ∷ []) (bare above) made stopped.1 it (Contains-here (bare above) [])))

    replacement-stands : (x y : Tree) → IsReplaced s root x y → OccursIn y new.tree
    replacement-stands x y i = result-stands x y (i.0, i.3, i.4, i.7, i.8)

  become-stands : (c : Change) (before after : Use) → Makes c before after → (x y : Tree) → Becomes c before x y → OccursIn y after.tree
  become-stands (by_requests s) before after made x y i = image-stands s before after made x y i

  place-stands : (c : Change) (before after : Use) → Makes c before after → (x y : Tree) → TakesPlace c before x y → OccursIn y after.tree
  place-stands (by_requests s) before after made x y i = replacement-stands s before after made x y i

  -- what a change generates stands in the root that it makes
  came-stands : (c : Change) (before after : Use) → Makes c before after → (t x : Tree) → (history_by c before after).generated t x → OccursIn x after.tree
  came-stands c before after made t x g = stands-below x g.0 after.tree g.7 (place-stands c before after made t g.0 g.4)

  -- one step more
  next-stands : (kind_of : Tree → Kind) (first : Use) (d : Done) (ds : List Done) → PairsStand kind_of first ds → Makes d.change d.before d.after → PairsStand kind_of first (d ∷ ds)
  next-stands kind_of first d ds earlier made = record { images = images; generated = generated }
    where
      images : (t x : Tree) → (history_after kind_of first (d ∷ ds)).images t x → OccursIn t first.tree × OccursIn x d.after.tree
      images t x h = ((earlier.images t h.0 h.1).0, become-stands d.change d.before d.after made h.0 x h.2.2)

      generated : (t x : Tree) → (history_after kind_of first (d ∷ ds)).generated t x → OccursIn t first.tree × OccursIn x d.after.tree
      generated t x (inl h) = ((earlier.images t h.0 h.1).0, came-stands d.change d.before d.after made h.0 x h.2)
      generated t x (inr (inl h)) = ((earlier.generated t h.0 h.1).0, become-stands d.change d.before d.after made h.0 x h.2.2)
      generated t x (inr (inr h)) = ((earlier.generated t h.0 h.1).0, came-stands d.change d.before d.after made h.0 x h.2)

  pub pairs-stand : PairsOfRowsStand
  pairs-stand kind_of first [] row = record {
    images = λ t x h. (h.2, subst (λ z. OccursIn z first.tree) h.0 h.2);
    generated = λ t x h. absurd h;
  }
  pairs-stand kind_of first (d ∷ ds) row = next-stands kind_of first d ds (pairs-stand kind_of first ds row.2) row.1
