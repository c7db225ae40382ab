-- The key of a visit: what its relative results depend on.
use Rattle.std.specs.Prelude.{◌≡◌, ◌↔◌, Bool, true, if◌then◌else◌, Option}
use Rattle.std.specs.Prelude.{None, Some, is_some, unwrap_or, List, [], IsTrue}
use Rattle.std.specs.List.{list_any}
use Rattle.orientation.specs.declared.turn.Turn.{Turn}
use Rattle.orientation.specs.declared.turn.Turn.TheVariants.{Forward}
use Rattle.location_words.specs.declared.pair.Pair.{Pair}
use Rattle.expansion_laws.specs.Trees.{Tree, Use}
use Rattle.expansion_laws.specs.Contexts.{Context}
use Rattle.expansion_laws.specs.Requests.{live_requests}
use Rattle.expansion_laws.specs.Steps.{Step}
use Rattle.expansion_laws.specs.Visits.{IsVisit}
use Rattle.expansion_laws.specs.Graph.{Reaches}

-- whether a tree has a live request with a place
abbrev pub asks_place : Step → Tree → Bool
asks_place s x = list_any (λ r. is_some r.place) (live_requests s.requests x)

-- whether a tree has a live request with a turn
abbrev pub asks_turn : Step → Tree → Bool
asks_turn s x = list_any (λ r. is_some r.turn) (live_requests s.requests x)

-- the graph reaches, from the tree, a tree that has a live request with a place
abbrev pub ReachesPlace : Step → Tree → Type 0
ReachesPlace s x = (y : Tree) × Reaches s x y × (asks_place s y ≡ true)

-- the graph reaches, from the tree, a tree that has a live request with a turn
abbrev pub ReachesTurn : Step → Tree → Type 0
ReachesTurn s x = (y : Tree) × Reaches s x y × (asks_turn s y ≡ true)

-- a key holds a tree, perhaps a word and perhaps a turn
pub record Key : Type 0 where
  pub tree : Tree
  pub word : Option (List Pair)
  pub turn : Option Turn

-- the key of a visit of a tree with this accumulated turn and word, by whether it holds the word and the turn
abbrev pub key : Bool → Bool → Tree → Context → Key
key with_word with_turn x here = record {
  tree = x;
  word = if with_word then Some here.word else None;
  turn = if with_turn then Some here.turn else None;
}

-- the key of a visit: it holds the word exactly where a place is reached, and the turn exactly where a turn is
abbrev pub IsKey : Step → Tree → Context → Key → Type 0
IsKey s x here k =
    (with_word : Bool) × (with_turn : Bool) × (IsTrue with_word ↔ ReachesPlace s x) ×
    (IsTrue with_turn ↔ ReachesTurn s x) ×
    (k ≡ key with_word with_turn x here)

-- the keys of a step are those of its visits
abbrev pub IsKeyOfStep : Step → Use → Key → Type 0
IsKeyOfStep s root k = (x : Tree) × (here : Context) × IsVisit s root x here × IsKey s x here k

-- the context that stands for a key: its word and turn where it holds them, else the identity and forward
abbrev pub context_of : Key → Context
context_of k = record { turn = unwrap_or k.turn Forward; word = unwrap_or k.word [] }
