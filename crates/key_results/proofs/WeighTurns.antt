-- Visit by visit the results are weighed.
use Rattle.std.proofs.Common.{◌≡◌, ◌≤◌, ◌+◌, ℕ, Bool, List, map, ◌++◌, ◌∷◌, [], All, length, take}
use Rattle.std.proofs.Common.{arith, sym, ◌∙◌, ap, subst, slice_get, Some}
use Rattle.std.specs.Prelude.{min}
use Rattle.std.proofs.lemmas.List.{length-map, map-append}
use Rattle.std.proofs.lemmas.List.Elements.{All-push, All-weaker}
use Rattle.lists.proofs.Places.{length-take}
use Rattle.location_words.specs.declared.pair.Pair.{Pair}
use Rattle.expansion_laws.specs.Trees.{Tree}
use Rattle.key_results.specs.declared.derive.Visit.{Visit}
use Rattle.key_results.specs.declared.weighing.Weight.{Weight}
use Rattle.key_results.specs.Derivations.{most_told, results_of, results_over, sizes_from, size_made}
use Rattle.key_results.specs.Weights.{weight}
use Rattle.key_results.proofs.ResultLaws.{results-next, sizes-next, length-results}
use Rattle.key_results.proofs.WeightLaws.{mins}

module _ (word : ℕ → List Pair) (tree : ℕ → Tree) (prune : Bool) (visits : List Visit) (i : ℕ) where
  pub weighed-long : (weights : List Weight) → i ≤ length visits →
      weights ≡ map weight (results_of word tree prune (take i visits)) →
      length weights ≡ i
  weighed-long weights le e =
      ap length e ∙ length-map (results_of word tree prune (take i visits)) weight ∙
      length-results word tree prune (take i visits) ∙ length-take i visits le

  pub weighed-next : (v : Visit) (weights new : List Weight) (own : Weight) → slice_get visits i ≡ Some v →
      weights ≡ map weight (results_of word tree prune (take i visits)) →
      own ≡ weight (results_over word tree prune (results_of word tree prune (take i visits)) v) →
      new ≡ weights ++ own ∷ [] →
      new ≡ map weight (results_of word tree prune (take (i + 1) visits))
  weighed-next v weights new own e ew eo en =
      en ∙ (λ j. ew j ++ eo j ∷ []) ∙
      sym (map-append weight (results_of word tree prune (take i visits))
      (results_over word tree prune (results_of word tree prune (take i visits)) v ∷ [])) ∙
      ap (map weight) (sym (results-next word tree prune visits i v e))

  pub sized-next : (v : Visit) (uses size next : ℕ) → slice_get visits i ≡ Some v →
      uses ≡ min (sizes_from word tree prune [] (take i visits)) most_told →
      size ≡ min (size_made v.outcome (results_over word tree prune (results_of word tree prune (take i visits)) v))
      most_told →
      next ≡ min (uses + size) most_told → next ≡ min (sizes_from word tree prune [] (take (i + 1) visits)) most_told
  sized-next v uses size next e eu es en =
      en ∙ (λ j. min (eu j + es j) most_told) ∙
      mins (sizes_from word tree prune [] (take i visits))
      (size_made v.outcome (results_over word tree prune (results_of word tree prune (take i visits)) v)) most_told ∙
      ap (λ n. min n most_told) (sym (sizes-next word tree prune visits i v e))

pub depths-next : (weights new : List Weight) (own : Weight) (n : ℕ) → new ≡ weights ++ own ∷ [] →
    All (λ (w : Weight). w.depth ≤ n) weights →
    own.depth ≤ n + 1 → All (λ (w : Weight). w.depth ≤ n + 1) new
depths-next weights new own n e all le =
    subst (λ (l : List Weight). All (λ (w : Weight). w.depth ≤ n + 1) l) (sym e)
    (All-push (λ (w : Weight). w.depth ≤ n + 1) weights own
    (All-weaker (λ (w : Weight). w.depth ≤ n) (λ (w : Weight). w.depth ≤ n + 1) (λ w h. omega (arith, h)) weights all)
    le)
