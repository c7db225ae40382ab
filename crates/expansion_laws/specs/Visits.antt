-- The visits of a step, and the images that they give.
use Rattle.std.specs.Prelude.{◌≡◌, ◌⊎◌, ℕ, zero, suc, false, None, Some, List, [], ◌∷◌, map, Contains}
use Rattle.std.specs.List.{flat_map}
use Rattle.expansion_laws.specs.Trees.{Tree, Use}
use Rattle.expansion_laws.specs.Measures.{StandsBelow}
use Rattle.expansion_laws.specs.Contexts.{Context, at_root, inside}
use Rattle.expansion_laws.specs.Requests.{Request, replace, match_of}
use Rattle.expansion_laws.specs.Steps.{Step, is_entered}
use Rattle.expansion_laws.specs.Rewriting.{RelativeResults}
use Rattle.expansion_laws.specs.Demands.{demands}

-- the visit of a tree with an accumulated turn and word leads to itself, and to what the visits of its demands lead to
pub data LeadsTo (s : Step) : Tree → Context → Tree → Context → Type 0 where
  itself : {x : Tree} {here : Context} → LeadsTo s x here x here
  onto : {x y : Tree} {here there : Context} (v : Use) → Contains (demands s x here) v →
      LeadsTo s v.tree (inside here v) y there → LeadsTo s x here y there

-- the visits that the visit of a tree leads to over at most n demands, in the order of the derivation
unfoldable pub visits_within : Step → ℕ → Tree → Context → List (Tree × Context)
visits_within s zero x here = (x, here) ∷ []
visits_within s (suc n) x here = (x, here) ∷ flat_map (λ v. visits_within s n v.tree (inside here v)) (demands s x here)

-- a step visits a tree with an accumulated turn and word: the visit of its root leads there
abbrev pub IsVisit : Step → Use → Tree → Context → Type 0
IsVisit s root x here = LeadsTo s root.tree (inside at_root root) x here

-- a visit of the tree stops: no request meets it, and the tree isn't entered
abbrev pub IsStopped : Step → Use → Tree → Type 0
IsStopped s root x =
    (here : Context) × IsVisit s root x here × (match_of s.requests x here ≡ None) × (is_entered s x ≡ false)

-- a visit of the tree has a result with the other tree
abbrev pub IsResult : Step → Use → Tree → Tree → Type 0
IsResult s root x y =
    (here : Context) × (results : List Use) × IsVisit s root x here × RelativeResults s x here results ×
    Contains (map (λ r. r.tree) results) y

-- the images of a tree: the trees of the results of its visits, and itself where it stands properly below a tree of a
-- visit that stops
abbrev pub IsImage : Step → Use → Tree → Tree → Type 0
IsImage s root x y = IsResult s root x y ⊎ ((y ≡ x) × ((above : Tree) × IsStopped s root above × StandsBelow x above))

-- a visit of the tree meets a replace, and the other is the tree of one of its relative results
abbrev pub IsReplaced : Step → Use → Tree → Tree → Type 0
IsReplaced s root x y =
    (here : Context) × (r : Request) × (by : Use) × (results : List Use) × IsVisit s root x here ×
    (match_of s.requests x here ≡ Some r) × (r.act ≡ replace by) ×
    RelativeResults s x here results × Contains (map (λ r. r.tree) results) y
