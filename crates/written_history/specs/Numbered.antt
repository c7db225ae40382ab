-- The same by the numbers of a pool's nodes, and what these stand for.
use Rattle.std.specs.Prelude.{◌≡◌, ◌≢◌, ◌<◌, ◌^◌, ℕ, List, Contains, length, map, reverse}
use Rattle.orientation.specs.declared.kind.Kind.{Kind}
use Rattle.lists.specs.Distinct.{IsDistinct}
use Rattle.lists.specs.Gathering.{Gathers}
use Rattle.location_words.specs.declared.pair.Pair.{Pair}
use Rattle.location_words.specs.Tables.{IsTable}
use Rattle.expansion_laws.specs.Trees.{Tree, origin}
use Rattle.history_text.specs.declared.file.HistoryFile.{HistoryFile}
use Rattle.history_text.specs.HistoryText.{IsHistory}
use Rattle.shape_pool.specs.declared.node.NodeId.{NodeId}
use Rattle.shape_pool.specs.Laws.{word_in}
use Rattle.shape_pool.specs.Rows.{Row, HasPlaces, origin_at, tree_at}
use Rattle.step_history.specs.declared.history.StepHistory.{StepHistory}
use Rattle.step_history.specs.Composition.{Done, root_after, history_after, AreInRow}
use Rattle.step_history.specs.Numbered.{IsHeld, Tells, tree_by}
use Rattle.brep_file.specs.declared.file.File.{File}
use Rattle.brep_file.specs.PlainRecords.{expansion_of}
use Rattle.brep_file.specs.Sound.{IsSound}
use Rattle.file_loading.specs.Loading.{kind_of_record, IsLoadedFrom}
use Rattle.written_order.specs.Orders.{IsOrderOf}
use Rattle.written_order.specs.Placed.{IsNumbered}
use Rattle.written_history.specs.Told.{TellsHistory}

module _ (rows : List Row) (order : List ℕ) where
  -- the numbers of a pair of nodes: the origin of the first, and the number with which the second is written
  abbrev pub IsPairOf : NodeId × NodeId → ℕ × ℕ → Type 0
  IsPairOf p y = (y.0 ≡ origin_at rows p.0.0) × IsNumbered order p.1.0 y.1

  -- those of two different nodes
  abbrev pub IsChangeOf : NodeId × NodeId → ℕ × ℕ → Type 0
  IsChangeOf p y = (p.0.0 ≢ p.1.0) × IsPairOf p y

-- the origin of a node
abbrev pub IsOriginOf : List Row → NodeId → ℕ → Type 0
IsOriginOf rows t k = k ≡ origin_at rows t.0

-- the lists of a history file have just the numbers of what a history lists
pub record IsInNumbers (rows : List Row) (order : List ℕ) (h : StepHistory) (file : HistoryFile) : Type 0 where
  pub origins : file.origins ≡ reverse (map (origin_at rows) order)
  pub modified : Gathers (IsChangeOf rows order) h.images file.modified
  pub generated : Gathers (IsPairOf rows order) h.generated file.generated
  pub removed : Gathers (IsOriginOf rows) h.removed file.removed
  pub ascends : IsHistory file

-- numbers, and the first ones of pairs, of 32 bits
abbrev pub AreSmall : List ℕ → Type 0
AreSmall ks = (k : ℕ) → Contains ks k → k < 2 ^ 32

abbrev pub AreSmallPairs : List (ℕ × ℕ) → Type 0
AreSmallPairs ys = (y : ℕ × ℕ) → Contains ys y → y.0 < 2 ^ 32

abbrev pub StaySmall : List (ℕ × ℕ) → List (ℕ × ℕ) → Type 0
StaySmall old new = AreSmallPairs old → AreSmallPairs new

-- the kind of a tree is that of its origin's record
abbrev pub kind_of : File → Tree → Kind
kind_of f x = kind_of_record f (origin x)

-- A file is loaded, and lists tell the history of steps in a row from its expansion on.
pub record IsToldAfter (f : File) (words : List (List Pair)) (rows : List Row) (steps : List Done) (h : StepHistory)
    : Type 0 where
  pub sound : IsSound f
  pub loaded : IsLoadedFrom f words rows
  pub in_row : AreInRow (expansion_of f) steps
  pub held : IsHeld rows h
  pub tells : Tells (tree_by (word_in words) rows) h (history_after (kind_of f) (expansion_of f) steps)

-- the root that steps leave, and whether a number stands for its tree
abbrev pub IsLeft : File → List (List Pair) → List Row → List Done → ℕ → Type 0
IsLeft f words rows steps root = (root_after (expansion_of f) steps).tree ≡ tree_at (word_in words) rows root

-- a history file tells what became of the shapes of a file in steps
abbrev pub TellsSteps : File → List Done → HistoryFile → Type 0
TellsSteps f steps file =
    TellsHistory f (root_after (expansion_of f) steps) (history_after (kind_of f) (expansion_of f) steps) file

-- what holds of every pool: numbers tell what the lists tell that they are made of
abbrev pub NumbersTellHistories : List Row → Type 0
NumbersTellHistories rows =
    (f : File) (words : List (List Pair)) (root : ℕ) (order : List ℕ) (steps : List Done) (h : StepHistory)
    (file : HistoryFile) → IsToldAfter f words rows steps h → IsOrderOf rows root order → IsLeft f words rows steps root
    → IsInNumbers rows order h file → TellsSteps f steps file

-- and an order has each number once
abbrev pub OrdersListOnce : List Row → Type 0
OrdersListOnce rows =
    (words : List (List Pair)) (root : ℕ) (order : List ℕ) → IsTable words → HasPlaces rows (length words)
    → IsOrderOf rows root order → IsDistinct order
