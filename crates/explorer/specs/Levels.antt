-- The nodes that are entered, from the outermost to the innermost, and what is still to come of them.
use Rattle.std.specs.Prelude.{◌≡◌, ℕ, ◌+◌, ◌<◌, ◌≤◌, Bool, true, false, List, [], ◌∷◌, ◌++◌, map, drop, fold, length}
use Rattle.std.specs.List.{filter}
use Rattle.std.specs.declared.alloc.Global.{Global}
use Rattle.std.specs.Prelude.{Result, Vec, vec_capacity, Option, None, Some, option_to_list, slice_get, slice_index_or}
use Rattle.orientation.specs.declared.kind.Kind.{Kind}
use Rattle.location_words.specs.declared.pair.Pair.{Pair}
use Rattle.location_words.specs.Pairs.{most_pairs}
use Rattle.expansion_laws.specs.Contexts.{Context, at_root}
use Rattle.shape_pool.specs.declared.node.NodeId.{NodeId}
use Rattle.shape_pool.specs.declared.node.UseOf.{UseOf}
use Rattle.shape_pool.specs.Rows.{Row, depth_at, tree_at, uses_at, HasPlaces}
use Rattle.explorer.specs.declared.found.Found.{Found}
use Rattle.explorer.specs.declared.found.WordLimit.{WordLimit}
use Rattle.explorer.specs.Walks.{gives, is_wanted}
use Rattle.shape_pool.specs.Rows.{HaveKinds}
use Rattle.explorer.specs.Going.{Going, Place, a_place, entered_at_all, first_of, IsAnswer}

-- a node that is entered: its number, how many of its uses are gone through, and its accumulated turn and word
pub record Entered : Type 0 where
  pub id : NodeId
  pub at : ℕ
  pub here : Context

abbrev pub an_entered : NodeId → ℕ → Context → Entered
an_entered id at here = record { id = id; at = at; here = here }

-- the nodes entered, and how many there is room for
pub record Path : Type 0 where
  pub levels : List Entered
  pub deep : ℕ

-- the accumulated turn and word of the innermost node, or the context of the root where none is entered
abbrev pub innermost : List Entered → Context
innermost levels = fold (λ c (e : Entered). e.here) at_root levels

-- uses in a context, as they are to come
abbrev pub places : Context → List UseOf → List Place
places here us = map (a_place here) us

-- the uses of a node that are still to come
abbrev pub coming_below : List Row → Entered → List Place
coming_below rows e = places e.here (drop e.at (uses_at rows e.id.0))

-- the uses still to come: those of the innermost node first, and at last the root, where it is still to come
abbrev pub coming_of : List Row → Option UseOf → List Entered → List Place
coming_of rows start levels =
    fold (λ later e. coming_below rows e ++ later) (places at_root (option_to_list start)) levels

-- ---- Marks: which numbers have something to give.
abbrev pub is_marked : List Bool → UseOf → Bool
is_marked marks u = slice_index_or marks u.id.0 false

abbrev pub is_marked_place : List Bool → Place → Bool
is_marked_place marks p = is_marked marks p.one

-- the numbers up to these have the marks that their trees have by kinds
abbrev pub AreMarks : List Row → Option Kind → Option Kind → List Bool → Type 0
AreMarks rows find avoid marks =
    (word : ℕ → List Pair) (kind : ℕ → Kind) → HaveKinds rows kind → (i : ℕ) → i < length marks →
    slice_get marks i ≡ Some (gives kind find avoid (tree_at word rows i))

-- the mark of a number is that of its tree
abbrev pub IsMark : List Row → Option Kind → Option Kind → ℕ → Bool → Type 0
IsMark rows find avoid i mark =
    (word : ℕ → List Pair) (kind : ℕ → Kind) → HaveKinds rows kind → mark ≡ gives kind find avoid (tree_at word rows i)

-- ---- What is always so.
-- from a place on, each node has a number below n, and there is room for all that is below it
abbrev pub AreLevels : List Row → ℕ → ℕ → ℕ → List Entered → Type 0
AreLevels rows n deep place [] = Unit {0}
AreLevels rows n deep place (e ∷ es) =
    (e.id.0 < n) × (depth_at rows e.id.0 + place ≤ deep) × AreLevels rows n deep (place + 1) es

-- the root is within the same bounds, where it is still to come
abbrev pub IsStart : List Row → ℕ → ℕ → Option UseOf → Type 0
IsStart rows n deep start = (u : UseOf) → start ≡ Some u → (u.id.0 < n) × (depth_at rows u.id.0 ≤ deep)

-- the numbers on the way are below n, and there is room for all that is below them
pub record IsWay (rows : List Row) (n : ℕ) (start : Option UseOf) (path : Path) : Type 0 where
  pub few : n ≤ length rows
  pub root : IsStart rows n path.deep start
  pub levels : AreLevels rows n path.deep 0 path.levels

-- the word of the root is numbered below this, where it is still to come
abbrev pub IsStartPlaced : ℕ → Option UseOf → Type 0
IsStartPlaced words start = (u : UseOf) → start ≡ Some u → u.place.0 < words

-- an explorer on its way
pub record IsOnItsWay (table : List (List Pair)) (rows : List Row) (marks : List Bool) (start : Option UseOf)
    (path : Path) : Type 0 where
  pub places : HasPlaces rows (length table)
  pub start_placed : IsStartPlaced (length table) start
  pub way : IsWay rows (length marks) start path

-- an explorer, with marks for these kinds and room for the greatest word
abbrev pub IsExplorer : List (List Pair) → List Row → Option Kind → Option Kind → List Bool → Option UseOf → Path →
    Vec Pair Global → Type 0
IsExplorer table rows find avoid marks start path last =
    IsOnItsWay table rows marks start path × AreMarks rows find avoid marks × (most_pairs ≤ vec_capacity last)

-- what an explorer stands for
abbrev pub going_of : List (List Pair) → List Row → Option Kind → Option Kind → Option UseOf → Path → List Pair →
    Option WordLimit → Going
going_of table rows find avoid start path last limit = record {
  table = table;
  rows = rows;
  find = find;
  avoid = avoid;
  coming = coming_of rows start path.levels;
  last = last;
  limit = limit;
}

-- what comes first on the way is answered, whatever kinds the origins have that agree with the nodes', and whatever
-- kind is avoided for which the marks are right
abbrev pub AnswersOnWay : List (List Pair) → List Row → Option Kind → List Bool → Option UseOf → Path → Option UseOf →
    Path → Result (Option Found) WordLimit → Type 0
AnswersOnWay table rows find marks start path start' path' r =
    (kind : ℕ → Kind) → HaveKinds rows kind → (avoid : Option Kind) → AreMarks rows find avoid marks →
    IsAnswer table rows
    (first_of (is_wanted kind find)
    (entered_at_all table rows kind find avoid (coming_of rows start path.levels))) r (innermost path'.levels).word
    (entered_at_all table rows kind find avoid (coming_of rows start' path'.levels))

-- ---- The next use of one that is marked.
-- it is the first such use of a list from a place on
pub record IsNextUse (marks : List Bool) (us : List UseOf) (from i : ℕ) : Type 0 where
  pub within : i < length us
  pub next : (u : UseOf) → slice_get us i ≡ Some u →
      filter (is_marked marks) (drop from us) ≡ u ∷ filter (is_marked marks) (drop (i + 1) us)
  pub marked : (u : UseOf) → slice_get us i ≡ Some u → is_marked marks u ≡ true

-- it is the first such use still to come, and then stands below the innermost node
pub record IsNextOnWay (rows : List Row) (marks : List Bool) (start : Option UseOf) (path : Path)
    (start' : Option UseOf) (path' : Path) (u : UseOf) : Type 0 where
  pub next : filter (is_marked_place marks) (coming_of rows start path.levels) ≡
      a_place (innermost path'.levels) u ∷ filter (is_marked_place marks) (coming_of rows start' path'.levels)
  pub marked : is_marked marks u ≡ true
  pub held : u.id.0 < length marks
  pub room : depth_at rows u.id.0 + length path'.levels ≤ path'.deep
  pub placed : (words : ℕ) → HasPlaces rows words → IsStartPlaced words start → u.place.0 < words
  pub start_stays : (v : UseOf) → start' ≡ Some v → start ≡ Some v

-- there is none, and nothing is left
pub record IsEndOfWay (rows : List Row) (marks : List Bool) (start : Option UseOf) (path : Path)
    (start' : Option UseOf) (path' : Path) : Type 0 where
  pub none : filter (is_marked_place marks) (coming_of rows start path.levels) ≡ []
  pub root_gone : start' ≡ None
  pub none_entered : path'.levels ≡ []
