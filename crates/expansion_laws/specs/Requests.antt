-- Requests: which of them an occurrence meets, and which of them a tree can meet.
use Rattle.std.specs.Prelude.{◌&&◌, Bool, true, if◌then◌else◌, Option, None, Some, is_none, List, [], ◌∷◌, filter}
use Rattle.std.specs.List.{last_or, list_any}
use Rattle.orientation.specs.declared.turn.Turn.{Turn}
use Rattle.orientation.specs.Turns.{turn_eq}
use Rattle.location_words.specs.declared.pair.Pair.{Pair}
use Rattle.location_words.specs.Pairs.{pairs_eq}
use Rattle.expansion_laws.specs.Trees.{Tree, Use}
use Rattle.expansion_laws.specs.Equality.{tree_eq}
use Rattle.expansion_laws.specs.Contexts.{Context}

-- what a request asks of an occurrence: that it goes, or that a use stands in its place
pub data Act : Type 0 where
  remove : Act
  replace : (by : Use) → Act

-- a request has a source tree, perhaps a place, perhaps a turn, and an act
pub record Request : Type 0 where
  pub source : Tree
  pub place : Option (List Pair)
  pub turn : Option Turn
  pub act : Act

-- whether a place, if there is one, is this word
abbrev pub allows_word : Option (List Pair) → List Pair → Bool
allows_word None w = true
allows_word (Some place) w = pairs_eq place w

-- whether a turn, if there is one, is this turn
abbrev pub allows_turn : Option Turn → Turn → Bool
allows_turn None t = true
allows_turn (Some turn) t = turn_eq turn t

-- whether a request's place and turn, where it has them, are the accumulated ones
abbrev pub allows : Context → Request → Bool
allows here r = allows_word r.place here.word && allows_turn r.turn here.turn

-- whether a request has this tree as its source
abbrev pub is_for : Tree → Request → Bool
is_for x r = tree_eq r.source x

-- whether a request is one for an occurrence of this tree with this accumulated turn and word
abbrev pub fits : Tree → Context → Request → Bool
fits x here r = is_for x r && allows here r

-- the match of an occurrence: the last of the requests that fit it, if there is one
abbrev pub match_of : List Request → Tree → Context → Option Request
match_of rs x here = last_or None (filter (fits x here) rs)

-- whether a request has neither a place nor a turn
abbrev pub is_unconditional : Request → Bool
is_unconditional r = is_none r.place && is_none r.turn

-- the requests from the last unconditional one on, or all where there is none
abbrev pub from_last_unconditional : List Request → List Request
from_last_unconditional [] = []
from_last_unconditional (r ∷ rs) = if list_any is_unconditional rs then from_last_unconditional rs else r ∷ rs

-- the requests for a tree
abbrev pub requests_for : List Request → Tree → List Request
requests_for rs x = filter (is_for x) rs

-- the live requests of a tree: no other request for it is ever a match
abbrev pub live_requests : List Request → Tree → List Request
live_requests rs x = from_last_unconditional (requests_for rs x)
