-- The graph of a step: which trees the rewriting of a tree can lead to.
use Rattle.std.specs.Prelude.{◌≡◌, ◌≢◌, ◌⊎◌, ℕ, ◌<◌, Bool, true, if◌then◌else◌, List, [], ◌∷◌, ◌++◌, map, All, Contains}
use Rattle.std.specs.List.{flat_map, list_any}
use Rattle.orientation.specs.declared.kind.Kind.{Kind}
use Rattle.orientation.specs.Kinds.{kind_eq, rank_of}
use Rattle.graph_walks.specs.Walks.{Reaches as WalksReach, HasCycle as WalksHaveCycle, IsRank as IsRankOfWalks}
use Rattle.graph_walks.specs.Walks.{IsFirstCycle as IsFirstCycleOfWalks, IsFinishOrder, StandsFor, Carries}
use Rattle.expansion_laws.specs.Trees.{Tree, Use, uses}
use Rattle.expansion_laws.specs.Requests.{Act, remove, replace, requests_for, live_requests, is_unconditional}
use Rattle.expansion_laws.specs.Steps.{Step, kind, entered}

-- the trees of uses, and those that stand in a tree's uses, in order
abbrev pub trees_of : List Use → List Tree
trees_of us = map (λ u. u.tree) us

abbrev pub children : Tree → List Tree
children x = trees_of (uses x)

-- where an act leads from a tree: to the target of a replace, or to the target's uses' trees where the kinds differ
abbrev pub targets : Step → Tree → Act → List Tree
targets s x remove = []
targets s x (replace by) = if kind_eq (kind s x) (kind s by.tree) then by.tree ∷ [] else children by.tree

-- the edges from a tree: those of its live requests in the order given, and then, unless it has an unconditional
-- request or isn't entered, those to its own uses' trees
abbrev pub edges : Step → Tree → List Tree
edges s x =
    flat_map (λ r. targets s x r.act) (live_requests s.requests x) ++
    (if list_any is_unconditional (requests_for s.requests x) then [] else trees_of (entered s x))

-- the graph reaches, has a cycle, has a rank and answers a cycle as any graph does by its edges
abbrev pub Reaches : Step → Tree → Tree → Type 0
Reaches s = WalksReach (edges s)

abbrev pub HasCycle : Step → Tree → Type 0
HasCycle s = WalksHaveCycle (edges s)

abbrev pub IsRank : Step → Tree → ℕ → Type 0
IsRank s = IsRankOfWalks (edges s)

abbrev pub IsFirstCycle : Step → Tree → List Tree → Type 0
IsFirstCycle s = IsFirstCycleOfWalks (edges s)

-- where numbers stand for trees, and their ends for the ends of edges, reach and ranks are the same among both
abbrev pub NumbersCarry : Step → Type 0
NumbersCarry s = (tree : ℕ → Tree) (ends : ℕ → List ℕ) (is_held : ℕ → Bool) →
    StandsFor tree ends (edges s) is_held → Carries tree ends (edges s) is_held

-- different held numbers stand for different trees
abbrev pub TellsTrees : (ℕ → Tree) → (ℕ → Bool) → Type 0
TellsTrees tree is_held =
    (i j : ℕ) → is_held i ≡ true → is_held j ≡ true → tree i ≡ tree j → i ≡ j

-- where they do, the first cycle and each order of finishing stand for those among trees as well
pub record CarriesSearches (s : Step) (tree : ℕ → Tree) (ends : ℕ → List ℕ) (is_held : ℕ → Bool) : Type 0 where
  pub first_cycle : (root : ℕ) (walk : List ℕ) → is_held root ≡ true →
      IsFirstCycleOfWalks ends root walk → IsFirstCycle s (tree root) (map tree walk)
  pub finish_order : (order : List ℕ) → ((i : ℕ) → Contains order i → is_held i ≡ true) →
      IsFinishOrder ends order → IsFinishOrder (edges s) (map tree order)

abbrev pub NumbersCarrySearches : Step → Type 0
NumbersCarrySearches s = (tree : ℕ → Tree) (ends : ℕ → List ℕ) (is_held : ℕ → Bool) →
    StandsFor tree ends (edges s) is_held → TellsTrees tree is_held → CarriesSearches s tree ends is_held

-- a target fits a source of equal kind, or has a higher kind, a use, and only uses of the source's kind
abbrev pub FitsBy : (Tree → Kind) → Tree → Tree → Type 0
FitsBy kind_of source target =
    (kind_of target ≡ kind_of source) ⊎
    ((rank_of (kind_of source) < rank_of (kind_of target)) × (uses target ≢ []) ×
    All (λ x. kind_of x ≡ kind_of source) (children target))

-- by the kinds of a step
abbrev pub KindFits : Step → Tree → Tree → Type 0
KindFits s = FitsBy (kind s)
