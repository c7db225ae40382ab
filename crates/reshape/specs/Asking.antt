-- What a visit asks for, by numbers.
use Rattle.std.specs.Prelude.{◌≡◌, ℕ, ◌<◌, Bool, List, [], ◌∷◌, map, length, All, if◌then◌else◌}
use Rattle.orientation.specs.declared.turn.Turn.{Turn}
use Rattle.orientation.specs.Turns.{composed}
use Rattle.location_words.specs.Pairs.{inverse}
use Rattle.lists.specs.Sameness.{is_empty}
use Rattle.location_words.specs.declared.pair.Pair.{Pair}
use Rattle.expansion_laws.specs.Trees.{Tree, Use, a_single}
use Rattle.expansion_laws.specs.Contexts.{Context}
use Rattle.expansion_laws.specs.Steps.{Step}
use Rattle.expansion_laws.specs.Demands.{demands, gathered}
use Rattle.shape_pool.specs.declared.node.UseOf.{UseOf}
use Rattle.shape_pool.specs.Rows.{Row, tree_at}
use Rattle.reshape.specs.declared.asked.Asked.{Asked}
use Rattle.key_results.specs.declared.words.Mover.{Mover}
use Rattle.key_results.specs.Words.{moved_word, IsHeldMover}
use Rattle.key_results.specs.Derivations.{made_of}
use Rattle.key_results.specs.Derived.{IsMetAs}

-- the use that a numbered use stands for under a mover
abbrev pub moved_use : (ℕ → List Pair) → (ℕ → Tree) → Mover → UseOf → Use
moved_use word tree m u = a_single u.turn (moved_word word m u.place.0) (tree u.id.0)

-- a use under a turn
abbrev pub turned_use : Turn → UseOf → UseOf
turned_use t u = record { turn = composed t u.turn; place = u.place; id = u.id }

-- the one use of a target as a mover moves it, the target's own word being the mover's
abbrev pub IsOneUse : UseOf → List UseOf → Type 0
IsOneUse by uses = (u : UseOf) × (uses ≡ u ∷ []) × (u.turn ≡ by.turn) × (u.place.0 ≡ 0) × (u.id ≡ by.id)

-- the word that undoes that of a context, under a place; else the identity
abbrev pub back_word : (ℕ → List Pair) → ℕ → Bool → List Pair
back_word word here with_place = if with_place then inverse (word here) else []

-- a visit asks for these uses, and makes this of their results
pub record Asks (s : Step) (word : ℕ → List Pair) (rows : List Row) (id : ℕ) (here : Context) (a : Asked) : Type 0 where
  pub asked : demands s (tree_at word rows id) here ≡ map (moved_use word (tree_at word rows) a.mover) a.uses.items
  pub made : (parts : List Use) → gathered s (tree_at word rows id) here parts ≡
      made_of a.outcome s.rule.prune (is_empty a.uses.items) (tree_at word rows id) parts
  pub met : IsMetAs s (tree_at word rows id) here a.outcome

-- the uses are of held nodes, and all words have numbers below n
pub record IsHeldAsked (rows : List Row) (n : ℕ) (a : Asked) : Type 0 where
  pub mover : IsHeldMover n a.mover
  pub uses : All (λ (u : UseOf). (u.id.0 < length rows) × (u.place.0 < n)) a.uses.items
