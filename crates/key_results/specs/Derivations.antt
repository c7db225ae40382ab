-- What a list of visits denotes: the relative results of each, made of those of the visits before it.
use Rattle.std.specs.Prelude.{◌≡◌, ◌&&◌, not, ℕ, ◌<◌, ◌+◌, ◌-◌, ◌^◌, max, Bool, if◌then◌else◌, List, [], ◌∷◌, ◌++◌}
use Rattle.std.specs.Prelude.{map, length, fold, All, Some, slice_get, unwrap_or}
use Rattle.std.specs.List.{flat_map}
use Rattle.lists.specs.Sameness.{is_empty}
use Rattle.location_words.specs.declared.pair.Pair.{Pair}
use Rattle.expansion_laws.specs.Trees.{Tree, Use, origin, tree_of}
use Rattle.expansion_laws.specs.Measures.{depth}
use Rattle.expansion_laws.specs.Contexts.{bare, carried}
use Rattle.expansion_laws.specs.StepMeasures.{uses_below}
use Rattle.shape_pool.specs.Rows.{Row}
use Rattle.key_results.specs.declared.derive.Outcome.{Outcome}
use Rattle.key_results.specs.declared.derive.Outcome.TheVariants.{Stays, Rebuilt, Joined}
use Rattle.key_results.specs.declared.derive.Link.{Link}
use Rattle.key_results.specs.declared.derive.Visit.{Visit}
use Rattle.key_results.specs.declared.words.Mover.{Mover}
use Rattle.key_results.specs.Words.{moved_word, IsHeldMover}

-- the greatest count that is told
abbrev pub most_told : ℕ
most_told = 2 ^ 128 - 1

-- what is made of joined results: the tree stays, or it is rebuilt over them unless it is pruned, or they are the
-- results
abbrev pub made_of : Outcome → Bool → Bool → Tree → List Use → List Use
made_of Stays prune no_uses x parts = bare x ∷ []
made_of Rebuilt prune no_uses x parts =
    if prune && not no_uses && is_empty parts then [] else bare (tree_of (origin x) parts) ∷ []
made_of Joined prune no_uses x parts = parts

-- the uses of the trees that are rebuilt
abbrev pub below_of : Outcome → List Use → ℕ
below_of Stays results = 0
below_of Rebuilt results = uses_below results
below_of Joined results = 0

-- the uses that a visit brings: its results, and the uses of the tree that is rebuilt
abbrev pub size_made : Outcome → List Use → ℕ
size_made outcome results = length results + below_of outcome results

-- the results of an earlier visit
abbrev pub results_at : List (List Use) → ℕ → List Use
results_at results k = unwrap_or (slice_get results k) []

-- the results to which links lead, joined, each carried by its link under a mover
abbrev pub linked : (ℕ → List Pair) → Mover → Link → Use → Use
linked word m l u = carried l.turn (moved_word word m l.place.0) u

abbrev pub joined_by : (ℕ → List Pair) → Mover → List (List Use) → List Link → List Use
joined_by word m results links = flat_map (λ (l : Link). map (linked word m l) (results_at results l.key)) links

module _ (word : ℕ → List Pair) (tree : ℕ → Tree) (prune : Bool) where
  -- the results of a visit over those of the visits before it
  abbrev pub joined_over : List (List Use) → Visit → List Use
  joined_over results v = joined_by word v.mover results v.links.items

  abbrev pub results_over : List (List Use) → Visit → List Use
  results_over results v =
      made_of v.outcome prune (is_empty v.links.items) (tree v.id.0) (joined_over results v)

  -- the results of each visit
  unfoldable pub results_of : List Visit → List (List Use)
  results_of visits = fold (λ results v. results ++ results_over results v ∷ []) [] visits

  -- the uses that all visits bring
  unfoldable pub sizes_from : List (List Use) → List Visit → ℕ
  sizes_from results [] = 0
  sizes_from results (v ∷ visits) =
      size_made v.outcome (results_over results v) + sizes_from (results ++ results_over results v ∷ []) visits

-- links lead to earlier visits, and visits are of held nodes
abbrev pub AreLinked : List Visit → Type 0
AreLinked visits = (k : ℕ) (v : Visit) → slice_get visits k ≡ Some v → All (λ (l : Link). l.key < k) v.links.items

abbrev pub AreVisitsHeld : List Row → List Visit → Type 0
AreVisitsHeld rows visits = All (λ (v : Visit). v.id.0 < length rows) visits

-- the words of visits have numbers below n
abbrev pub IsPlacedVisit : ℕ → Visit → Type 0
IsPlacedVisit n v = IsHeldMover n v.mover × All (λ (l : Link). l.place.0 < n) v.links.items

abbrev pub ArePlaced : ℕ → List Visit → Type 0
ArePlaced n visits = All (IsPlacedVisit n) visits

-- the depth of the deepest tree, 0 where there is none
abbrev pub deepest : List Use → ℕ
deepest [] = 0
deepest (u ∷ us) = max (depth u.tree) (deepest us)
