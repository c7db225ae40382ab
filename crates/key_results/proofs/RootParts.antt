-- The results of the root use, by those of its key.
use Rattle.std.proofs.Common.{◌≡◌, ℕ, List, map, ◌++◌, [], Contains, sym, ◌∙◌, ap, subst, slice_get, Some}
use Rattle.std.specs.Option.{option_map_or}
use Rattle.location_words.specs.declared.pair.Pair.{Pair}
use Rattle.expansion_laws.specs.Trees.{Tree, Use}
use Rattle.expansion_laws.specs.Contexts.{carried}
use Rattle.key_results.specs.declared.derive.Link.{Link}
use Rattle.key_results.specs.declared.fault.ApplyFault.{ApplyFault}
use Rattle.key_results.specs.declared.parts.Outgrowth.{Outgrowth}
use Rattle.key_results.specs.declared.words.Mover.{Mover}
use Rattle.key_results.specs.Words.{moved_word}
use Rattle.key_results.specs.Faults.{IsDueAmong}
use Rattle.key_results.specs.Derivations.{linked}
use Rattle.key_results.specs.Parts.{results_by, results_in, words_of}

-- a link without a mover carries as a use of its turn and word does
module _ (word : ℕ → List Pair) (own : ℕ → Tree) (m : Mover) (l : Link) (outgrowths : List Outgrowth) (o : Outgrowth)
    (moved : moved_word word m l.place.0 ≡ word l.place.0) (at : slice_get outgrowths l.key ≡ Some o) where
  same : map (linked word m l) (results_by word own l.key o) ≡
      map (carried l.turn (word l.place.0)) (results_in word own outgrowths l.key)
  same = λ i. map (carried l.turn (moved i)) (option_map_or (results_by word own l.key) (sym at i) [])

  pub root-results : (before after : List Use) → before ≡ [] →
      after ≡ before ++ map (linked word m l) (results_by word own l.key o) →
      after ≡ map (carried l.turn (word l.place.0)) (results_in word own outgrowths l.key)
  root-results before after none e =
      e ∙ ap (λ us. us ++ map (linked word m l) (results_by word own l.key o)) none ∙ same

  pub root-due : (fault : ApplyFault) → IsDueAmong
      (Contains (words_of (map (linked word m l) (results_by word own l.key o)))) fault →
      IsDueAmong (Contains (words_of (map (carried l.turn (word l.place.0)) (results_in word own outgrowths l.key))))
      fault
  root-due fault = subst (λ us. IsDueAmong (Contains (words_of us)) fault) same
