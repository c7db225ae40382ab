-- Worked examples of turns, kinds, edges and keys: each pins one part of a definition.
use Rattle.std.specs.Prelude.{◌≡◌, ℕ, Option, None, Some, List, [], ◌∷◌, map}
use Rattle.orientation.specs.declared.turn.Turn.{Turn}
use Rattle.orientation.specs.declared.turn.Turn.TheVariants.{Reversed, Internal, External}
use Rattle.orientation.specs.declared.kind.Kind.TheVariants.{Ve, Ed, Wi, Co}
use Rattle.location_words.specs.declared.pair.Pair.{Pair}
use Rattle.expansion_laws.specs.Trees.{Tree, Use, a_single, tree_of}
use Rattle.expansion_laws.specs.Expansion.{tree_of_number}
use Rattle.expansion_laws.specs.Contexts.{Context, at_root, bare}
use Rattle.expansion_laws.specs.Requests.{Request, remove, replace}
use Rattle.expansion_laws.specs.Steps.{Step}
use Rattle.expansion_laws.specs.Rewriting.{results_within}
use Rattle.expansion_laws.specs.Graph.{KindFits, IsFirstCycle}
use Rattle.expansion_laws.specs.Keys.{IsKey, ReachesPlace}
use Rattle.expansion_laws.specs.Examples.{step_of, always, by_datum, under_turn, placed}

-- ---- turns: an outer internal or external turn stays, whatever stands inside it
abbrev pub nested : Turn → Turn → Use
nested outer inner = a_single outer [] (tree_of 1 (a_single inner [] (tree_of 2 []) ∷ []))

abbrev pub emptied : Turn → Use
emptied outer = a_single outer [] (tree_of 1 [])

abbrev pub brought : Turn → Step
brought t = step_of (Co ∷ Ve ∷ Ve ∷ []) (always (tree_of 2 []) (replace (a_single t [] (tree_of 3 []))) ∷ [])

abbrev pub under : Turn → ℕ → Use
under t k = bare (tree_of 1 (a_single t [] (tree_of k []) ∷ []))

-- ---- kinds
abbrev pub kinds : Step
kinds = step_of (Ve ∷ Ed ∷ Wi ∷ []) []

abbrev pub vertex : Tree
vertex = tree_of 1 []

abbrev pub edge : Tree
edge = tree_of 2 []

abbrev pub wire : List Tree → Tree
wire xs = tree_of 3 (map (λ x. bare x) xs)

-- ---- edges of the graph
abbrev pub leaf : ℕ → Tree
leaf k = tree_of k []

abbrev pub to_itself : Tree → Request
to_itself x = always x (replace (bare x))

abbrev pub holder : Tree
holder = tree_of 1 (bare (leaf 3) ∷ [])

abbrev pub targets_first : Step
targets_first =
    step_of (Co ∷ Co ∷ Ve ∷ [])
    (record { source = holder; place = None; turn = Some Reversed; act = replace (bare (leaf 2)) } ∷
    to_itself (leaf 2) ∷ to_itself (leaf 3) ∷ [])

abbrev pub above_holder : Tree
above_holder = tree_of 4 (bare holder ∷ bare (leaf 5) ∷ [])

abbrev pub children_left : Step
children_left =
    step_of (Co ∷ Co ∷ Ve ∷ Co ∷ Ve ∷ [])
    (always holder (replace (bare (leaf 2))) ∷ to_itself (leaf 3) ∷ to_itself (leaf 5) ∷ [])

abbrev pub last_lives : Step
last_lives =
    step_of (Ve ∷ Ve ∷ Ve ∷ [])
    (always (leaf 1) (replace (bare (leaf 2))) ∷ always (leaf 1) (replace (bare (leaf 3))) ∷ to_itself (leaf 2) ∷
    to_itself (leaf 3) ∷ [])

-- ---- keys
abbrev pub asking : Option (List Pair) → Option Turn → Step
asking place turn = step_of (Ve ∷ []) (record { source = leaf 1; place = place; turn = turn; act = remove } ∷ [])

abbrev pub there : Context
there = record { turn = Reversed; word = by_datum 2 }

-- a tree that the root doesn't reach is replaced at a place: no key holds a word
abbrev pub unreached : Step
unreached =
    step_of (Co ∷ Co ∷ Ve ∷ Ve ∷ [])
    (record {
      source = tree_of_number placed 3;
      place = Some (by_datum 1);
      turn = None;
      act = replace (bare (tree_of_number placed 4));
    } ∷ [])

pub record StepExamplesComeOut : Type 0 where
  pub internal_over_external : results_within (under_turn Internal) 8 at_root (nested Internal External) ≡
      Some (emptied Internal ∷ [])
  pub external_over_internal : results_within (under_turn External) 8 at_root (nested External Internal) ≡
      Some (emptied External ∷ [])
  pub external_brought : results_within (brought External) 8 at_root (under Internal 2) ≡ Some (under Internal 3 ∷ [])
  pub internal_brought : results_within (brought Internal) 8 at_root (under External 2) ≡ Some (under External 3 ∷ [])
  pub equal_fits : KindFits kinds edge edge
  pub higher_fits : KindFits kinds edge (wire (edge ∷ edge ∷ []))
  pub empty_fits_not : KindFits kinds edge (wire []) → ⊥
  pub mixed_fits_not : KindFits kinds edge (wire (edge ∷ vertex ∷ [])) → ⊥
  pub lower_fits_not : KindFits kinds (wire []) (tree_of 2 (bare (wire []) ∷ [])) → ⊥
  pub targets_before_children : IsFirstCycle targets_first holder (leaf 2 ∷ leaf 2 ∷ [])
  pub no_children_of_replaced : IsFirstCycle children_left above_holder (leaf 5 ∷ leaf 5 ∷ [])
  pub last_unconditional : IsFirstCycle last_lives (leaf 1) (leaf 3 ∷ leaf 3 ∷ [])
  pub key_of_neither : IsKey (step_of (Ve ∷ []) []) (leaf 1) there (record { tree = leaf 1; word = None; turn = None })
  pub key_of_word : IsKey (asking (Some (by_datum 1)) None) (leaf 1) there
      (record { tree = leaf 1; word = Some (by_datum 2); turn = None })
  pub key_of_turn : IsKey (asking None (Some Internal)) (leaf 1) there
      (record { tree = leaf 1; word = None; turn = Some Reversed })
  pub key_of_both : IsKey (asking (Some (by_datum 1)) (Some Internal)) (leaf 1) there
      (record { tree = leaf 1; word = Some (by_datum 2); turn = Some Reversed })
  pub no_place_reached : ReachesPlace unreached (tree_of_number placed 1) → ⊥
  pub key_without_word : IsKey unreached (tree_of_number placed 1) there
      (record { tree = tree_of_number placed 1; word = None; turn = None })
