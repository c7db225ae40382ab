-- Rewriting by a bounded function: the results of a use, where a derivation of at most so many levels gives them.
use Rattle.std.specs.Prelude.{◌≡◌, ◌&&◌, not, ℕ, zero, suc, Bool, false}
use Rattle.std.specs.Prelude.{if◌then◌else◌, Option, None, Some, List, [], ◌∷◌, ◌++◌}
use Rattle.std.specs.Option.{option_map}
use Rattle.lists.specs.Sameness.{is_empty}
use Rattle.location_words.specs.declared.pair.Pair.{Pair}
use Rattle.expansion_laws.specs.Trees.{Tree, Use, a_single, origin, uses, tree_of}
use Rattle.expansion_laws.specs.Contexts.{Context, at_root, inside, bare}
use Rattle.expansion_laws.specs.Requests.{Request, Act, remove, replace, match_of}
use Rattle.expansion_laws.specs.Steps.{Step, is_entered, entered, onward, new_use, root_of}

-- both lists joined, where both are there
abbrev pub joined : Option (List Use) → Option (List Use) → Option (List Use)
joined None rest = None
joined (Some first) None = None
joined (Some first) (Some rest) = Some (first ++ rest)

-- the results of each use, joined in order
abbrev pub all_results : (Use → Option (List Use)) → List Use → Option (List Use)
all_results results [] = Some []
all_results results (u ∷ us) = joined (results u) (all_results results us)

-- the use with other uses in its tree
abbrev pub rebuilt : Use → List Use → Use
rebuilt u below = a_single u.turn u.word (tree_of (origin u.tree) below)

-- whether an entered tree goes with its uses: the prune mark is on, it has a use, and nothing comes of its uses
abbrev pub is_pruned : Step → Tree → List Use → Bool
is_pruned s x [] = s.rule.prune && not (is_empty (uses x))
is_pruned s x (v ∷ vs) = false

-- what remains of a use without a match: the use itself where its tree isn't entered; else the use over the results of
-- its tree's uses, or nothing where it is pruned
abbrev pub remains : Step → Use → List Use → List Use
remains s u below =
    if is_entered s u.tree then (if is_pruned s u.tree below then [] else rebuilt u below ∷ []) else u ∷ []

module _ (s : Step) (again : Context → Use → Option (List Use)) where
  -- the results after a match, by its act, where `again` gives those of further uses
  abbrev pub by_act : Context → Use → Option (List Pair) → Act → Option (List Use)
  by_act c u place remove = Some []
  by_act c u place (replace by) = all_results (again c) (onward s u.tree (new_use c u place by))

  -- the results of a use by its match: with none, the uses that are entered are rewritten in its own context
  abbrev pub by_match : Context → Use → Option Request → Option (List Use)
  by_match c u None = option_map (remains s u) (all_results (again (inside c u)) (entered s u.tree))
  by_match c u (Some r) = by_act c u r.place r.act

-- the results of a use in a context, where a derivation of at most n levels gives them
unfoldable pub results_within : Step → ℕ → Context → Use → Option (List Use)
results_within s zero c u = None
results_within s (suc n) c u = by_match s (λ d v. results_within s n d v) c u (match_of s.requests u.tree (inside c u))

-- the use is rewritten into these results in the context
abbrev pub Rewrites : Step → Context → Use → List Use → Type 0
Rewrites s c u results = (n : ℕ) × (results_within s n c u ≡ Some results)

-- the relative results of a visit: those of the forward use of its tree under no word, in a context that has the
-- visit's accumulated turn and word
abbrev pub RelativeResults : Step → Tree → Context → List Use → Type 0
RelativeResults s x here results = Rewrites s here (bare x) results

-- a step takes the root to a new root
abbrev pub StepsTo : Step → Use → Use → Type 0
StepsTo s root new = (results : List Use) × Rewrites s at_root root results × (new ≡ root_of results)
