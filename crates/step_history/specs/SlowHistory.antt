-- The history of a change by plain slow lists: all visits one by one, and tests of trees.
use Rattle.std.specs.Prelude.{◌≡◌, ◌↔◌, ◌&&◌, not, nat_lt, ℕ, suc, Bool, true, false, Option, None}
use Rattle.std.specs.Prelude.{Some, is_none, unwrap_or, List, [], ◌++◌, map, filter, Contains}
use Rattle.std.specs.List.{list_any, flat_map}
use Rattle.orientation.specs.declared.kind.Kind.{Kind}
use Rattle.orientation.specs.declared.kind.Kind.TheVariants.{Ve, Ed, Wi, Fa, Sh, So, CS, Co}
use Rattle.orientation.specs.Kinds.{rank_of}
use Rattle.expansion_laws.specs.Trees.{Tree, Use, uses}
use Rattle.expansion_laws.specs.Equality.{tree_eq}
use Rattle.expansion_laws.specs.Measures.{subtrees}
use Rattle.expansion_laws.specs.Contexts.{Context, at_root, inside, bare}
use Rattle.expansion_laws.specs.Requests.{Act, remove, replace, Request, match_of}
use Rattle.expansion_laws.specs.Steps.{Step, is_entered}
use Rattle.expansion_laws.specs.Rewriting.{results_within}
use Rattle.expansion_laws.specs.Visits.{visits_within}
use Rattle.expansion_laws.specs.WholeVisits.{is_whole}
use Rattle.step_history.specs.History.{History, modified}
use Rattle.step_history.specs.Changes.{Change, by_requests, kind_in, history_by}

-- ---- tests
abbrev pub is_supported : Kind → Bool
is_supported Ve = true
is_supported Ed = true
is_supported Wi = false
is_supported Fa = true
is_supported Sh = false
is_supported So = true
is_supported CS = false
is_supported Co = false

abbrev pub occurs : Tree → Tree → Bool
occurs x whole = list_any (λ z. tree_eq z x) (subtrees whole)

abbrev pub act_replaces : Act → Bool
act_replaces remove = false
act_replaces (replace by) = true

abbrev pub match_replaces : Option Request → Bool
match_replaces None = false
match_replaces (Some r) = act_replaces r.act

-- the trees properly below a tree, once for each place where they stand
abbrev pub trees_below : Tree → List Tree
trees_below x = flat_map (λ u. subtrees u.tree) (uses x)

-- ---- what a step's visits give
module _ (s : Step) (n : ℕ) (root : Use) where
  abbrev pub all_visits : List (Tree × Context)
  all_visits = visits_within s n root.tree (inside at_root root)

  -- a visit's tree beside the trees of its results
  abbrev pub pairs_of : Tree × Context → List (Tree × Tree)
  pairs_of v = map (λ r. (v.0, r.tree)) (unwrap_or (results_within s (suc n) v.1 (bare v.0)) [])

  -- whether a visit stops
  abbrev pub stops : Tree × Context → Bool
  stops v = is_none (match_of s.requests v.0 v.1) && not (is_entered s v.0)

  -- the trees that stand properly below a visit's tree, each beside itself
  abbrev pub kept_below : Tree × Context → List (Tree × Tree)
  kept_below v = map (λ x. (x, x)) (trees_below v.0)

  abbrev pub image_list : List (Tree × Tree)
  image_list = flat_map pairs_of all_visits ++ flat_map kept_below (filter stops all_visits)

  abbrev pub replaced_list : List (Tree × Tree)
  replaced_list = flat_map pairs_of (filter (λ v. match_replaces (match_of s.requests v.0 v.1)) all_visits)

-- ---- the lists of a history
pub record HistoryLists : Type 0 where
  pub images : List (Tree × Tree)
  pub generated : List (Tree × Tree)
  pub removed : List Tree

-- whether a pair of the list has the tree as its first
abbrev pub is_first_in : List (Tree × Tree) → Tree → Bool
is_first_in pairs t = list_any (λ p. tree_eq p.0 t) pairs

-- the trees of a first root that are first in no pair and don't occur in a last root
abbrev pub gone_listed : (Tree → Kind) → Tree → Tree → List (Tree × Tree) → List Tree
gone_listed kind_of before after pairs =
    filter (λ t. is_supported (kind_of t) && (not (is_first_in pairs t) && not (occurs t after))) (subtrees before)

-- the pairs of images that are two trees
abbrev pub modified_listed : List (Tree × Tree) → List (Tree × Tree)
modified_listed pairs = filter (λ p. not (tree_eq p.0 p.1)) pairs

-- from the lists of images and of trees that took the place of replaced ones
module _ (kind_of : Tree → Kind) (before after : Tree) (imaged replaced : List (Tree × Tree)) where
  abbrev pub is_of_input : Tree → Bool
  is_of_input t = is_supported (kind_of t) && occurs t before

  abbrev pub images_listed : List (Tree × Tree)
  images_listed = filter (λ p. is_of_input p.0) imaged

  -- whether a tree is an image of one that the input doesn't have
  abbrev pub is_new : Tree → Bool
  is_new x = list_any (λ q. tree_eq q.1 x && not (occurs q.0 before)) imaged

  -- whether a tree came new from a replaced one
  abbrev pub came_new : Tree → Tree → Bool
  came_new t x = is_supported (kind_of x) && (nat_lt (rank_of (kind_of x)) (rank_of (kind_of t)) && is_new x)

  abbrev pub generated_listed : List (Tree × Tree)
  generated_listed =
      flat_map (λ p. map (λ x. (p.0, x)) (filter (came_new p.0) (trees_below p.1)))
      (filter (λ p. is_of_input p.0) replaced)

  abbrev pub removed_listed : List Tree
  removed_listed = gone_listed kind_of before after images_listed

  abbrev pub lists_of : HistoryLists
  lists_of = record { images = images_listed; generated = generated_listed; removed = removed_listed }

-- ---- by the cases of a change: its images, what took the place of replaced trees, and whether so many levels list
-- them all
abbrev pub image_list_by : Change → ℕ → Use → List (Tree × Tree)
image_list_by (by_requests s) = image_list s

abbrev pub replaced_list_by : Change → ℕ → Use → List (Tree × Tree)
replaced_list_by (by_requests s) = replaced_list s

abbrev pub lists_all : Change → ℕ → Use → Bool
lists_all (by_requests s) n root = is_whole s n root.tree (inside at_root root)

abbrev pub slow_history : Change → ℕ → Use → Use → HistoryLists
slow_history c n before after =
    lists_of (kind_in c) before.tree after.tree (image_list_by c n before) (replaced_list_by c n before)

-- the lists have just what the relations do
pub record ListsHistory (lists : HistoryLists) (h : History) : Type 0 where
  pub images : (t x : Tree) → h.images t x ↔ Contains lists.images (t, x)
  pub modified : (t x : Tree) → modified h t x ↔ Contains (modified_listed lists.images) (t, x)
  pub generated : (t x : Tree) → h.generated t x ↔ Contains lists.generated (t, x)
  pub removed : (t : Tree) → h.removed t ↔ Contains lists.removed t

-- where so many levels list all, the slow history is that of the change
abbrev pub SlowHistoryIsTheChanges : Type 0
SlowHistoryIsTheChanges = (c : Change) (n : ℕ) (before after : Use) → lists_all c n before ≡ true →
    ListsHistory (slow_history c n before after) (history_by c before after)
