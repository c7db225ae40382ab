-- Worked measures: the keys, words, uses and trees of the steps of the other examples.
use Rattle.std.specs.Prelude.{◌≡◌, ℕ, Bool, true, false, pos, negsuc, List, [], ◌∷◌, length, map}
use Rattle.std.specs.List.{list_any}
use Rattle.location_words.specs.declared.pair.Pair.{Pair}
use Rattle.location_words.specs.Pairs.{pair, pairs_eq}
use Rattle.expansion_laws.specs.Trees.{Tree, Use}
use Rattle.expansion_laws.specs.Expansion.{expansion}
use Rattle.expansion_laws.specs.Contexts.{at_root, inside}
use Rattle.expansion_laws.specs.Steps.{Step}
use Rattle.expansion_laws.specs.WholeVisits.{is_whole}
use Rattle.expansion_laws.specs.Examples.{plus, by_datum, wires, by_wire, faces}
use Rattle.expansion_laws.specs.Examples.{after_vertex, solids, at_place, placed, at_one}
use Rattle.expansion_laws.specs.RuleExamples.{face, vertex_out_of_reach, solid, without_face}
use Rattle.expansion_laws.specs.SlowMeasures.{is_ranked, keys_listed, word_keys_listed}
use Rattle.expansion_laws.specs.SlowMeasures.{uses_counted, words_listed, held_listed}

-- a step in which nothing is asked beyond so many demands and no walk is longer has so many keys, so many of them with
-- a word, and so many uses
pub record HasMeasures (s : Step) (n : ℕ) (root : Use) (keys word_keys uses_made : ℕ) : Type 0 where
  pub whole : is_whole s n root.tree (inside at_root root) ≡ true
  pub ranked : is_ranked s n root.tree ≡ true
  pub keys_are : length (keys_listed s n root) ≡ keys
  pub word_keys_are : length (word_keys_listed s n root) ≡ word_keys
  pub uses_are : uses_counted s n root ≡ uses_made

-- whether a step makes a word
abbrev pub makes : Step → ℕ → Use → List Pair → Bool
makes s n root w = list_any (pairs_eq w) (words_listed s n root)

abbrev pub all_faces : List Tree
all_faces = map face (1 ∷ 2 ∷ 3 ∷ 4 ∷ 5 ∷ 6 ∷ 7 ∷ 8 ∷ 9 ∷ [])

pub record MeasuresComeOut : Type 0 where
  pub edge_by_wire : HasMeasures by_wire 4 (expansion wires (plus 1)) 8 0 16
  pub face_at_place : HasMeasures at_place 4 (expansion solids (plus 1)) 9 7 17
  pub vertex_at_place : HasMeasures at_one 3 (expansion placed (plus 1)) 8 7 14
  pub down_to_faces : HasMeasures vertex_out_of_reach 1 (expansion faces (plus 1)) 3 0 5
  pub face_pruned : HasMeasures without_face 3 solid 5 0 3
  pub moved_back : makes at_one 3 (expansion placed (plus 1)) (pair 1 (negsuc 0) ∷ []) ≡ true
  pub stays_there : makes at_one 3 (expansion placed (plus 1)) (by_datum 2) ≡ true
  pub not_moved_on : makes at_one 3 (expansion placed (plus 1)) (pair 1 (pos 2) ∷ []) ≡ false
  pub held_after : length (held_listed all_faces (after_vertex ∷ [])) ≡ 15
