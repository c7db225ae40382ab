-- Requests by numbers: of the nodes of a pool and of words.
use Rattle.std.specs.Prelude.{◌≡◌, ℕ, ◌<◌, ◌⊎◌, ◌&&◌, Bool, if◌then◌else◌, nat_eq, is_none, List}
use Rattle.std.specs.Prelude.{[], ◌∷◌, ◌++◌, All, filter, length, true, false, Option, None, Some}
use Rattle.std.specs.List.{last_or, list_any}
use Rattle.orientation.specs.declared.turn.Turn.{Turn}
use Rattle.location_words.specs.declared.table.WordId.{WordId}
use Rattle.expansion_laws.specs.Requests.{allows_turn}
use Rattle.orientation.specs.declared.rule.Rule.{Rule}
use Rattle.orientation.specs.Kinds.{rank_of}
use Rattle.shape_pool.specs.Rows.{Row, kind_at}
use Rattle.shape_pool.specs.Laws.{ids_used}
use Rattle.requests.specs.declared.request.Request.{Request}
use Rattle.requests.specs.declared.request.Act.{Act}
use Rattle.requests.specs.declared.request.Act.TheVariants.{Remove, Replace}

-- the requests of a step in the order given, and its rule
pub record Table : Type 0 where
  pub requests : List Request
  pub rule : Rule

abbrev pub a_table : List Request → Rule → Table
a_table rs rule = record { requests = rs; rule = rule }

-- whether a request has neither a place nor a turn
abbrev pub is_plain : Request → Bool
is_plain r = is_none r.place && is_none r.turn

-- whether the first request is such a one, as it is among live requests where any is
abbrev pub starts_plain : List Request → Bool
starts_plain [] = false
starts_plain (r ∷ rs) = is_plain r

-- whether a request is for a number
abbrev pub is_for : ℕ → Request → Bool
is_for i r = nat_eq r.source.0 i

-- the requests from the last unconditional one on, or all where there is none
abbrev pub from_last_plain : List Request → List Request
from_last_plain [] = []
from_last_plain (r ∷ rs) = if list_any is_plain rs then from_last_plain rs else r ∷ rs

-- the live requests of a number
abbrev pub live_at : List Request → ℕ → List Request
live_at rs i = from_last_plain (filter (is_for i) rs)

-- whether the place and the turn of a request, where it has them, are these
abbrev pub allows_place : Option WordId → ℕ → Bool
allows_place None w = true
allows_place (Some place) w = nat_eq place.0 w

abbrev pub allows_at : Turn → ℕ → Request → Bool
allows_at t w r = allows_place r.place w && allows_turn r.turn t

-- the last of them that allows a turn and a word, and the match of a number under these: the last of all its requests
-- that does
abbrev pub last_allowed : List Request → Turn → ℕ → Option Request
last_allowed rs t w = last_or None (filter (allows_at t w) rs)

abbrev pub match_at : List Request → ℕ → Turn → ℕ → Option Request
match_at rs i t w = last_allowed (filter (is_for i) rs) t w

-- live requests and one more
abbrev pub with_live : List Request → Request → List Request
with_live live r = if is_plain r then r ∷ [] else live ++ r ∷ []

-- a request names held numbers
abbrev pub ActIsHeldIn : List Row → Act → Type 0
ActIsHeldIn rows Remove = Unit {0}
ActIsHeldIn rows (Replace by) = by.id.0 < length rows

abbrev pub IsHeldIn : List Row → Request → Type 0
IsHeldIn rows r = (r.source.0 < length rows) × ActIsHeldIn rows r.act

abbrev pub AreHeldIn : List Row → List Request → Type 0
AreHeldIn rows rs = All (IsHeldIn rows) rs

-- a target fits a source of equal kind, or has a higher kind, a use, and only uses of the source's kind
abbrev pub FitsAt : List Row → ℕ → ℕ → Type 0
FitsAt rows source target =
    (kind_at rows target ≡ kind_at rows source) ⊎
    ((rank_of (kind_at rows source) < rank_of (kind_at rows target)) × (0 < length (ids_used rows target)) ×
    All (λ j. kind_at rows j ≡ kind_at rows source) (ids_used rows target))

abbrev pub ActFits : List Row → ℕ → Act → Type 0
ActFits rows source Remove = Unit {0}
ActFits rows source (Replace by) = FitsAt rows source by.id.0
