-- Nodes that are entered, as a trail holds them, with room for the words of those that will be.
use Rattle.std.specs.Prelude.{◌≡◌, ℕ, ◌+◌, ◌≤◌, List, [], ◌∷◌, ◌++◌, map, length, All, Option, Vec, vec_capacity}
use Rattle.std.specs.declared.alloc.Global.{Global}
use Rattle.location_words.specs.declared.pair.Pair.{Pair}
use Rattle.location_words.specs.declared.fault.WordFault.{WordFault}
use Rattle.location_words.specs.Faults.{fault_of}
use Rattle.location_words.specs.Pairs.{most_pairs, IsHeldWord}
use Rattle.expansion_laws.specs.Contexts.{Context, inside}
use Rattle.expansion_laws.specs.Trees.{a_single, tree_of}
use Rattle.shape_pool.specs.declared.node.NodeId.{NodeId}
use Rattle.shape_pool.specs.declared.node.UseOf.{UseOf}
use Rattle.shape_pool.specs.Laws.{word_in}
use Rattle.explorer.specs.declared.trail.Level.{Level}
use Rattle.explorer.specs.Levels.{Entered, an_entered, innermost, Path}

-- what a level stands for
abbrev pub here_of : Level → Context
here_of l = record { turn = l.turn; word = l.word.items }

abbrev pub entered_of : Level → Entered
entered_of l = an_entered l.id l.at (here_of l)

abbrev pub path_of : List Level → List (Vec Pair Global) → Path
path_of levels spare = record { levels = map entered_of levels; deep = length levels + length spare }

-- the words are within the limits, and there is room for the greatest word at each level that is or will be entered
pub record HasRoom (levels : List Level) (levels_room : ℕ) (spare : List (Vec Pair Global)) (spare_room : ℕ)
    : Type 0 where
  pub words : All (λ (l : Level). IsHeldWord l.word.items) levels
  pub rooms : All (λ (l : Level). most_pairs ≤ vec_capacity l.word) levels
  pub spare_rooms : All (λ (r : Vec Pair Global). most_pairs ≤ vec_capacity r) spare
  pub levels_fit : length levels + length spare ≤ levels_room
  pub spare_fits : length levels + length spare ≤ spare_room

-- each has room for the greatest word
abbrev pub HaveRoom : List (Vec Pair Global) → Type 0
HaveRoom rooms = All (λ (r : Vec Pair Global). most_pairs ≤ vec_capacity r) rooms

-- the innermost node and how many of its uses are gone through
abbrev pub IsInnermost : List Entered → NodeId → ℕ → Type 0
IsInnermost levels id at = (before : List Entered) × (levels ≡ before ++ an_entered id at (innermost levels) ∷ [])

-- so many uses of the innermost node are gone through, or it is left
abbrev pub IsPast : List Entered → ℕ → List Entered → Type 0
IsPast old at new =
    (before : List Entered) (e : Entered) → old ≡ before ++ e ∷ [] → new ≡ before ++ an_entered e.id at e.here ∷ []

abbrev pub IsLeft : List Entered → List Entered → Type 0
IsLeft old new = (before : List Entered) (e : Entered) → old ≡ before ++ e ∷ [] → new ≡ before

-- the accumulated turn and word of a use in a context, by the words of a table
abbrev pub below : List (List Pair) → Context → UseOf → Context
below table here u = inside here (a_single u.turn (word_in table u.place.0) (tree_of 0 []))

-- the node of a use is entered below the innermost one
abbrev pub Enters : List (List Pair) → List Entered → UseOf → List Entered → Type 0
Enters table old u new = new ≡ old ++ an_entered u.id 0 (below table (innermost old) u) ∷ []

-- why the accumulated word of such a use is no word
abbrev pub fault_below : List (List Pair) → List Entered → UseOf → Option WordFault
fault_below table old u = fault_of (below table (innermost old) u).word
