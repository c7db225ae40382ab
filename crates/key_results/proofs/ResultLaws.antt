-- The results that a list of visits denotes, visit by visit.
use Rattle.std.proofs.Common.{◌≡◌, ◌≤◌, ◌<◌, ◌+◌, ℕ, Bool, List, map, ◌++◌, ◌∷◌, [], All, length, take}
use Rattle.std.proofs.Common.{arith, sym, ◌∙◌, ap, subst, refl, slice_get, Some, inl, inr}
use Rattle.std.specs.List.{fold}
use Rattle.std.specs.Prelude.{unwrap_or}
use Rattle.std.proofs.lemmas.List.{length-append, append-nil, append_assoc}
use Rattle.std.proofs.lemmas.List.Sums.{fold-append}
use Rattle.std.proofs.lemmas.List.Elements.{All-head, All-tail}
use Rattle.std.proofs.lemmas.Option.{slice_get_within}
use Rattle.lists.specs.Sameness.{is_empty}
use Rattle.lists.proofs.Places.{slice_get-left, slice_get-last, slice_get-push, slice_get-kept, take-at}
use Rattle.location_words.specs.declared.pair.Pair.{Pair}
use Rattle.expansion_laws.specs.Trees.{Tree, Use}
use Rattle.key_results.specs.declared.derive.Link.{Link}
use Rattle.key_results.specs.declared.derive.Visit.{Visit}
use Rattle.key_results.specs.declared.words.Mover.{Mover}
use Rattle.key_results.specs.Derivations.{results_at, joined_by, linked, results_over}
use Rattle.key_results.specs.Derivations.{results_of, made_of, size_made, sizes_from, AreLinked}

-- visits given from the last to the first, for the induction
pub data FromLast : List Visit → Type 0 where
  none : FromLast []
  more : {visits : List Visit} (v : Visit) → FromLast visits → FromLast (visits ++ v ∷ [])

from-more : (done visits : List Visit) → FromLast done → FromLast (done ++ visits)
from-more done [] f = subst FromLast (sym (append-nil done)) f
from-more done (v ∷ visits) f =
    subst FromLast (append_assoc done (v ∷ []) visits) (from-more (done ++ v ∷ []) visits (more v f))

pub from_last : (visits : List Visit) → FromLast visits
from_last visits = from-more [] visits none

-- links that lead to earlier results don't look at later ones
pub joined-kept : (word : ℕ → List Pair) (m : Mover) (results : List (List Use)) (next : List Use) (links : List Link) →
    All (λ (l : Link). l.key < length results) links →
    joined_by word m (results ++ next ∷ []) links ≡ joined_by word m results links
joined-kept word m results next [] h = refl
joined-kept word m results next (l ∷ links) h =
    λ i.
    map (linked word m l)
    (unwrap_or (slice_get-left results (next ∷ []) l.key (All-head (λ (l : Link). l.key < length results) l links h)
    i) []) ++
    joined-kept word m results next links (All-tail (λ (l : Link). l.key < length results) l links h) i

module _ (word : ℕ → List Pair) (tree : ℕ → Tree) (prune : Bool) where
  pub results-push : (visits : List Visit) (v : Visit) →
      results_of word tree prune (visits ++ v ∷ []) ≡
      results_of word tree prune visits ++ results_over word tree prune (results_of word tree prune visits) v ∷ []
  unfolding results_of
  results-push visits v =
      fold-append (λ results (v : Visit). results ++ results_over word tree prune results v ∷ []) [] visits (v ∷ [])

  length-fold : (results : List (List Use)) (visits : List Visit) →
      length (fold (λ results (v : Visit). results ++ results_over word tree prune results v ∷ []) results visits) ≡
      length results + length visits
  length-fold results [] = omega arith
  length-fold results (v ∷ visits) =
      let a = length-fold (results ++ results_over word tree prune results v ∷ []) visits in
      let b = length-append results (results_over word tree prune results v ∷ []) in omega (arith, a, b)

  pub length-results : (visits : List Visit) → length (results_of word tree prune visits) ≡ length visits
  unfolding results_of
  length-results visits = let a = length-fold [] visits in omega (arith, a)

  -- one visit more of those that are gone through
  pub results-next : (visits : List Visit) (i : ℕ) (v : Visit) → slice_get visits i ≡ Some v →
      results_of word tree prune (take (i + 1) visits) ≡
      results_of word tree prune (take i visits) ++
      results_over word tree prune (results_of word tree prune (take i visits)) v ∷ []
  results-next visits i v e = ap (results_of word tree prune) (take-at visits i v e) ∙ results-push (take i visits) v

  over-kept : (results : List (List Use)) (next : List Use) (v : Visit) →
      All (λ (l : Link). l.key < length results) v.links.items →
      results_over word tree prune (results ++ next ∷ []) v ≡ results_over word tree prune results v
  over-kept results next v h =
      ap (made_of v.outcome prune (is_empty v.links.items) (tree v.id.0))
      (joined-kept word v.mover results next v.links.items h)

  -- the results of a visit are made of those of all
  results-entry-from : (visits : List Visit) → FromLast visits → AreLinked visits → (k : ℕ) (v : Visit) →
      slice_get visits k ≡ Some v →
      results_at (results_of word tree prune visits) k ≡
      results_over word tree prune (results_of word tree prune visits) v
  results-entry-from visits none linked k v e = absurd cc
  results-entry-from visits (more {visits = before} w f) linked k v e =
      let long = length-results before in
      let push = results-push before w in
      let next = results_over word tree prune (results_of word tree prune before) w in
      let within : (j : ℕ) → j ≤ length before → All (λ (l : Link). l.key < j) v.links.items →
      All (λ (l : Link). l.key < length (results_of word tree prune before)) v.links.items =
      (λ j le h i d lt. let a = h i d lt in omega (arith, a, le, long)) in
      elim (slice_get-push before w v k e) [
        | inl a ↦ (let lt = slice_get_within before k v a in
            ap (λ r. results_at r k) push ∙
            ap (λ o. unwrap_or o []) (slice_get-left (results_of word tree prune before) (next ∷ []) k
            (omega (arith, lt, long))) ∙
            results-entry-from before f (λ j u b. linked j u (slice_get-kept before (w ∷ []) j u b)) k v a ∙
            sym (over-kept (results_of word tree prune before) next v (within k (omega (arith, lt)) (linked k v e))) ∙
            ap (λ r. results_over word tree prune r v) (sym push))
        | inr a ↦ (ap (λ r. results_at r k) push ∙
            ap (λ n. unwrap_or (slice_get (results_of word tree prune before ++ next ∷ []) n) []) (a.0 ∙ sym long) ∙
            ap (λ o. unwrap_or o []) (slice_get-last (results_of word tree prune before) next) ∙
            ap (results_over word tree prune (results_of word tree prune before)) a.1 ∙
            sym (over-kept (results_of word tree prune before) next v (within k (omega (arith, a.0)) (linked k v e))) ∙
            ap (λ r. results_over word tree prune r v) (sym push))
      ]

  pub results-entry : (visits : List Visit) → AreLinked visits → (k : ℕ) (v : Visit) → slice_get visits k ≡ Some v →
      results_at (results_of word tree prune visits) k ≡
      results_over word tree prune (results_of word tree prune visits) v
  results-entry visits = results-entry-from visits (from_last visits)

  -- and so is the sum of their sizes
  pub sizes-push : (results : List (List Use)) (visits : List Visit) (v : Visit) →
      sizes_from word tree prune results (visits ++ v ∷ []) ≡
      sizes_from word tree prune results visits +
      size_made v.outcome (results_over word tree prune
      (fold (λ results (v : Visit). results ++ results_over word tree prune results v ∷ []) results visits) v)
  unfolding sizes_from
  sizes-push results [] v = omega arith
  sizes-push results (w ∷ visits) v =
      let a = sizes-push (results ++ results_over word tree prune results w ∷ []) visits v in omega (arith, a)

  pub sizes-next : (visits : List Visit) (i : ℕ) (v : Visit) → slice_get visits i ≡ Some v →
      sizes_from word tree prune [] (take (i + 1) visits) ≡
      sizes_from word tree prune [] (take i visits) +
      size_made v.outcome (results_over word tree prune (results_of word tree prune (take i visits)) v)
  unfolding results_of
  sizes-next visits i v e = ap (sizes_from word tree prune []) (take-at visits i v e) ∙ sizes-push [] (take i visits) v

  pub results-none : results_of word tree prune [] ≡ []
  unfolding results_of
  results-none = refl

  pub sizes-none : sizes_from word tree prune [] [] ≡ 0
  unfolding sizes_from
  sizes-none = refl
