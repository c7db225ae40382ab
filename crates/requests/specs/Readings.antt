-- What numbers stand for: the requests and the rule of a table are those of a step among trees.
use Rattle.std.specs.Prelude.{◌≡◌, ◌↔◌, ℕ, ◌<◌, Bool, List, [], ◌++◌, All, map}
use Rattle.std.specs.Prelude.{length, ◌∷◌, Option, None, Some, if◌then◌else◌}
use Rattle.std.specs.List.{flat_map, list_any}
use Rattle.std.specs.Option.{option_map}
use Rattle.orientation.specs.declared.turn.Turn.{Turn}
use Rattle.orientation.specs.declared.kind.Kind.{Kind}
use Rattle.orientation.specs.Kinds.{kind_eq}
use Rattle.orientation.specs.Rules.{is_above}
use Rattle.location_words.specs.declared.pair.Pair.{Pair}
use Rattle.location_words.specs.declared.table.WordId.{WordId}
use Rattle.expansion_laws.specs.Trees.{Tree, origin}
use Rattle.expansion_laws.specs.Requests.{Act as TreeAct, Request as TreeRequest}
use Rattle.expansion_laws.specs.Requests.{remove, replace, live_requests, match_of}
use Rattle.expansion_laws.specs.Steps.{Step}
use Rattle.expansion_laws.specs.Graph.{FitsBy, edges}
use Rattle.shape_pool.specs.Rows.{Row, kind_at, origin_at, use_by, tree_at, HasPlaces, HaveKinds}
use Rattle.shape_pool.specs.Laws.{TellsBelow, ids_used}
use Rattle.requests.specs.declared.request.Request.{Request}
use Rattle.requests.specs.declared.request.Act.{Act}
use Rattle.requests.specs.declared.request.Act.TheVariants.{Remove, Replace}
use Rattle.requests.specs.Numbered.{Table, is_plain, live_at, match_at, ActFits, ActIsHeldIn, AreHeldIn}

-- a place, if there is one, is a word with a number below n
abbrev pub IsPlaceBelow : ℕ → Option WordId → Type 0
IsPlaceBelow n None = Unit {0}
IsPlaceBelow n (Some w) = w.0 < n

-- A reading gives origins their kinds, and the numbers below n words that differ. All words of uses and places are
-- numbered below n.
pub record IsReading (rows : List Row) (rs : List Request) (kind : ℕ → Kind) (word : ℕ → List Pair) (n : ℕ)
    : Type 0 where
  pub kinds : HaveKinds rows kind
  pub placed : HasPlaces rows n
  pub told : TellsBelow n word
  pub places : All (λ (r : Request). IsPlaceBelow n r.place) rs

module _ (word : ℕ → List Pair) where
  -- the word of a place
  abbrev pub place_by : Option WordId → Option (List Pair)
  place_by None = None
  place_by (Some w) = Some (word w.0)

  module _ (rows : List Row) where
    -- the request and the act that numbers stand for
    abbrev pub act_by : Act → TreeAct
    act_by Remove = remove
    act_by (Replace by) = replace (use_by word (tree_at word rows) by)

    abbrev pub request_by : Request → TreeRequest
    request_by r =
        record { source = tree_at word rows r.source.0; place = place_by r.place; turn = r.turn; act = act_by r.act }

    abbrev pub requests_by : List Request → List TreeRequest
    requests_by rs = map request_by rs

    -- the step of a table
    abbrev pub step_by : (ℕ → Kind) → Table → Step
    step_by kind t = record { kind_of_origin = kind; requests = requests_by t.requests; rule = t.rule }

    -- the target of an act, if it has one, fits the source
    abbrev pub TargetFits : (ℕ → Kind) → ℕ → Act → Type 0
    TargetFits kind source Remove = Unit {0}
    TargetFits kind source (Replace by) =
        FitsBy (λ x. kind (origin x)) (tree_at word rows source) (tree_at word rows by.id.0)

-- a target fits a source by numbers exactly where its tree fits the source's
abbrev pub FitsByTrees : List Row → Type 0
FitsByTrees rows = (kind : ℕ → Kind) (word : ℕ → List Pair) → HaveKinds rows kind →
    (i : ℕ) (a : Act) → i < length rows → ActIsHeldIn rows a →
    ActFits rows i a ↔ TargetFits word rows kind i a

-- where an act leads from a number
abbrev pub targets_at : List Row → ℕ → Act → List ℕ
targets_at rows i Remove = []
targets_at rows i (Replace by) =
    if kind_eq (kind_at rows i) (kind_at rows by.id.0) then by.id.0 ∷ [] else ids_used rows by.id.0

-- the ends of the edges from a number
abbrev pub ends_at : List Row → Table → ℕ → List ℕ
ends_at rows t i =
    flat_map (λ (r : Request). targets_at rows i r.act) (live_at t.requests i) ++
    (if list_any is_plain (live_at t.requests i) then []
    else (if is_above t.rule.stop (kind_at rows i) then ids_used rows i else []))

-- the live requests of a held number, its match, and the ends of its edges, stand for those of its tree
pub record StandsForStep (rows : List Row) (t : Table) : Type 0 where
  pub live : (kind : ℕ → Kind) (word : ℕ → List Pair) (n i : ℕ) → IsReading rows t.requests kind word n →
      AreHeldIn rows t.requests → i < length rows →
      live_requests (requests_by word rows t.requests) (tree_at word rows i) ≡
      requests_by word rows (live_at t.requests i)
  pub edges_are : (kind : ℕ → Kind) (word : ℕ → List Pair) (n i : ℕ) → IsReading rows t.requests kind word n →
      AreHeldIn rows t.requests → i < length rows →
      edges (step_by word rows kind t) (tree_at word rows i) ≡ map (tree_at word rows) (ends_at rows t i)
  pub match : (kind : ℕ → Kind) (word : ℕ → List Pair) (n i w : ℕ) (turn : Turn) →
      IsReading rows t.requests kind word n → AreHeldIn rows t.requests → i < length rows → w < n →
      match_of (requests_by word rows t.requests) (tree_at word rows i) (record { turn = turn; word = word w }) ≡
      option_map (request_by word rows) (match_at t.requests i turn w)
