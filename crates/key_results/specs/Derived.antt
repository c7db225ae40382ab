-- A list of visits derives a step: each is of the key at its place, asks for what the rule asks, makes of the results
-- what the rule makes, and its links lead to the keys of what it asks for.
use Rattle.std.specs.Prelude.{◌≡◌, ℕ, ◌<◌, None, Some, List, map, length, All, slice_get, true, false}
use Rattle.std.specs.Option.{option_map_or}
use Rattle.lists.specs.Sameness.{is_empty}
use Rattle.location_words.specs.declared.pair.Pair.{Pair}
use Rattle.expansion_laws.specs.Trees.{Tree, Use, a_single}
use Rattle.expansion_laws.specs.Contexts.{Context, inside}
use Rattle.expansion_laws.specs.Requests.{Request, match_of}
use Rattle.expansion_laws.specs.Steps.{Step, is_entered}
use Rattle.expansion_laws.specs.Rewriting.{RelativeResults}
use Rattle.expansion_laws.specs.Demands.{demands, gathered}
use Rattle.expansion_laws.specs.Keys.{IsKey}
use Rattle.shape_pool.specs.Rows.{Row, tree_at}
use Rattle.key_results.specs.declared.derive.Outcome.{Outcome}
use Rattle.key_results.specs.declared.derive.Outcome.TheVariants.{Stays, Rebuilt, Joined}
use Rattle.key_results.specs.declared.derive.Link.{Link}
use Rattle.key_results.specs.declared.derive.Visit.{Visit}
use Rattle.key_results.specs.declared.key.Key.{Key}
use Rattle.key_results.specs.declared.words.Mover.{Mover}
use Rattle.key_results.specs.Words.{moved_word}
use Rattle.key_results.specs.Memos.{key_by, context_by}
use Rattle.key_results.specs.Derivations.{made_of, results_at, results_of}

-- the node of the key at a place
abbrev pub id_at : List Key → ℕ → ℕ
id_at keys k = option_map_or (λ (q : Key). q.id.0) (slice_get keys k) 0

-- whether a request meets the visit, as its outcome tells
abbrev pub IsMetAs : Step → Tree → Context → Outcome → Type 0
IsMetAs s x here Stays = (match_of s.requests x here ≡ None) × (is_entered s x ≡ false)
IsMetAs s x here Rebuilt = (match_of s.requests x here ≡ None) × (is_entered s x ≡ true)
IsMetAs s x here Joined = (r : Request) × (match_of s.requests x here ≡ Some r)

module _ (s : Step) (word : ℕ → List Pair) (rows : List Row) (keys : List Key) where
  -- the use that a link stands for
  abbrev pub asked_by : Mover → Link → Use
  asked_by m l = a_single l.turn (moved_word word m l.place.0) (tree_at word rows (id_at keys l.key))

  -- a link leads to an earlier key, which is that of the use asked for
  abbrev pub IsLinkedFrom : Key → ℕ → Mover → Link → Type 0
  IsLinkedFrom from k m l =
      (l.key < k) × (to : Key) × (slice_get keys l.key ≡ Some to) ×
      IsKey s (tree_at word rows to.id.0) (inside (context_by word from) (asked_by m l)) (key_by word rows to)

  -- the visit of a key
  pub record IsVisitOf (from : Key) (k : ℕ) (v : Visit) : Type 0 where
    pub id : v.id ≡ from.id
    pub asked : demands s (tree_at word rows from.id.0) (context_by word from) ≡ map (asked_by v.mover) v.links.items
    pub made : (parts : List Use) → gathered s (tree_at word rows from.id.0) (context_by word from) parts ≡
        made_of v.outcome s.rule.prune (is_empty v.links.items) (tree_at word rows from.id.0) parts
    pub met : IsMetAs s (tree_at word rows from.id.0) (context_by word from) v.outcome
    pub links : All (IsLinkedFrom from k v.mover) v.links.items

  pub record IsDerivation (visits : List Visit) : Type 0 where
    pub long : length visits ≡ length keys
    pub each : (k : ℕ) (from : Key) (v : Visit) → slice_get keys k ≡ Some from → slice_get visits k ≡ Some v →
        IsVisitOf from k v

-- then what the list denotes are the relative results of the keys
abbrev pub DerivesResults : Step → (ℕ → List Pair) → List Row → List Key → List Visit → Type 0
DerivesResults s word rows keys visits =
    (k : ℕ) (from : Key) → slice_get keys k ≡ Some from →
    RelativeResults s (tree_at word rows from.id.0) (context_by word from)
    (results_at (results_of word (tree_at word rows) s.rule.prune visits) k)
