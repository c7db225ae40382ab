-- What is promised of rewriting: the bounded function is the least relation, results are carried by their use and
-- depend on the key of the visit alone, and where no walk in the graph is too long they are there.
use Rattle.std.specs.Prelude.{◌≡◌, ◌↔◌, ℕ, List, map, Contains}
use Rattle.std.specs.List.{flat_map}
use Rattle.location_words.specs.Pairs.{IsWord}
use Rattle.expansion_laws.specs.Trees.{Tree, Use}
use Rattle.expansion_laws.specs.Contexts.{Context, inside, carried}
use Rattle.expansion_laws.specs.Steps.{Step}
use Rattle.expansion_laws.specs.Requests.{match_of}
use Rattle.expansion_laws.specs.Rewriting.{Rewrites, RelativeResults}
use Rattle.expansion_laws.specs.Derivations.{Derives}
use Rattle.expansion_laws.specs.Visits.{LeadsTo, visits_within}
use Rattle.expansion_laws.specs.Demands.{demands, gathered}
use Rattle.expansion_laws.specs.Graph.{edges, IsRank}
use Rattle.expansion_laws.specs.Keys.{Key, IsKey, context_of}

-- what the bounded function gives is what the least relation derives
abbrev pub IsLeast : Step → Type 0
IsLeast s = (c : Context) (u : Use) (results : List Use) → Rewrites s c u results ↔ Derives s c u results

-- a use has one list of results in a context at most
abbrev pub IsDetermined : Step → Type 0
IsDetermined s = (c : Context) (u : Use) (a b : List Use) → Rewrites s c u a → Rewrites s c u b → a ≡ b

-- where the rank of a use's tree is told, the use has results in any context
abbrev pub RankedUsesHaveResults : Step → Type 0
RankedUsesHaveResults s =
    (n : ℕ) (c : Context) (u : Use) → IsRank s u.tree n → (results : List Use) × Rewrites s c u results

-- the results of a use are the relative results of its visit, each carried by the use's turn and word, in order
abbrev pub ResultsAreCarried : Step → Type 0
ResultsAreCarried s = (c : Context) (u : Use) (results : List Use) → IsWord c.word → IsWord u.word →
    Rewrites s c u results ↔ ((parts : List Use) × RelativeResults s u.tree (inside c u) parts ×
    (results ≡ map (carried u.turn u.word) parts))

-- two visits with equal keys have equal relative results
abbrev pub ResultsDependOnKeyAlone : Step → Type 0
ResultsDependOnKeyAlone s =
    (x y : Tree) (here there : Context) (k : Key) (results : List Use) →
    IsKey s x here k → IsKey s y there k → RelativeResults s x here results → RelativeResults s y there results

-- a demand of a visit is at the end of an edge from its tree
abbrev pub DemandsAreEdges : Step → Type 0
DemandsAreEdges s = (x : Tree) (here : Context) (v : Use) → Contains (demands s x here) v → Contains (edges s x) v.tree

-- the lists of visits hold what a visit leads to
abbrev pub VisitsAreListed : Step → Type 0
VisitsAreListed s = (x y : Tree) (here there : Context) →
    LeadsTo s x here y there ↔ ((n : ℕ) × Contains (visits_within s n x here) (y, there))

-- a use, and the relative results of its visit from a context
abbrev pub HasParts : Step → Context → Use × List Use → Type 0
HasParts s here p = IsWord p.0.word × RelativeResults s p.0.tree (inside here p.0) p.1

-- the relative results, as the use carries them
abbrev pub carried_parts : Use × List Use → List Use
carried_parts p = map (carried p.0.turn p.0.word) p.1

-- the relative results of a visit are gathered from those of its demands, each carried by its demand
abbrev pub ResultsAreGathered : Step → Type 0
ResultsAreGathered s =
    (x : Tree) (here : Context) (asked : List (Use × List Use)) → IsWord here.word →
    demands s x here ≡ map (λ p. p.0) asked →
    ((p : Use × List Use) → Contains asked p → HasParts s here p) →
    RelativeResults s x here (gathered s x here (flat_map carried_parts asked))

-- the context that stands for a key serves each visit of that key: the match, the demands, what is gathered from them,
-- the results and the demands' keys are the same
pub record KeysStandForVisits (s : Step) : Type 0 where
  pub same_match : (x : Tree) (here : Context) (k : Key) → IsKey s x here k →
      match_of s.requests x here ≡ match_of s.requests x (context_of k)
  pub same_demands : (x : Tree) (here : Context) (k : Key) → IsKey s x here k →
      demands s x here ≡ demands s x (context_of k)
  pub same_gathered : (x : Tree) (here : Context) (k : Key) (parts : List Use) → IsKey s x here k →
      gathered s x here parts ≡ gathered s x (context_of k) parts
  pub same_results : (x : Tree) (here : Context) (k : Key) (results : List Use) → IsKey s x here k →
      RelativeResults s x here results ↔ RelativeResults s x (context_of k) results
  pub same_keys : (x : Tree) (here : Context) (k l : Key) (v : Use) → IsKey s x here k → Contains (demands s x here) v →
      IsKey s v.tree (inside here v) l ↔ IsKey s v.tree (inside (context_of k) v) l
