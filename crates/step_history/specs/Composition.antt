-- The composition of histories over steps in a row, as relations and as slow lists.
use Rattle.std.specs.Prelude.{◌≡◌, ◌↔◌, ◌⊎◌, ℕ, true, List, [], ◌∷◌, ◌++◌, map, filter}
use Rattle.std.specs.List.{flat_map}
use Rattle.orientation.specs.declared.kind.Kind.{Kind}
use Rattle.expansion_laws.specs.Trees.{Tree, Use}
use Rattle.expansion_laws.specs.Equality.{tree_eq}
use Rattle.expansion_laws.specs.Measures.{subtrees, OccursIn}
use Rattle.step_history.specs.History.{History, IsSupported, IsGone}
use Rattle.step_history.specs.Changes.{Change, kind_in, Makes, history_by}
use Rattle.step_history.specs.SlowHistory.{HistoryLists, ListsHistory, is_supported}
use Rattle.step_history.specs.SlowHistory.{gone_listed, lists_all, slow_history}

-- the first relation and then the second
abbrev pub followed_by : (Tree → Tree → Type 0) → (Tree → Tree → Type 0) → Tree → Tree → Type 0
followed_by R S t x = (m : Tree) × R t m × S m x

-- the history over no step
abbrev pub no_history : (Tree → Kind) → Tree → History
no_history kind_of root = record {
  images = λ t x. (t ≡ x) × IsSupported (kind_of t) × OccursIn t root;
  generated = λ t x. ⊥;
  removed = λ t. ⊥;
}

-- two histories in a row, from the first input to the last output
abbrev pub chained : (Tree → Kind) → Tree → Tree → History → History → History
chained kind_of first last a b = record {
  images = followed_by a.images b.images;
  generated =
      λ t x. followed_by a.images b.generated t x ⊎
      (followed_by a.generated b.images t x ⊎ followed_by a.generated b.generated t x);
  removed = IsGone kind_of first last (followed_by a.images b.images);
}

-- a change that was carried out, with the root before it and after it
pub record Done : Type 0 where
  pub change : Change
  pub before : Use
  pub after : Use

-- the root after steps, given from the last to the first
abbrev pub root_after : Use → List Done → Use
root_after first [] = first
root_after first (d ∷ ds) = d.after

-- each of the steps made its root of the one that the steps before it left
abbrev pub AreInRow : Use → List Done → Type 0
AreInRow first [] = Unit {0}
AreInRow first (d ∷ ds) = (d.before ≡ root_after first ds) × Makes d.change d.before d.after × AreInRow first ds

-- the history of steps in a row
abbrev pub history_after : (Tree → Kind) → Use → List Done → History
history_after kind_of first [] = no_history kind_of first.tree
history_after kind_of first (d ∷ ds) =
    chained kind_of first.tree d.after.tree (history_after kind_of first ds) (history_by d.change d.before d.after)

-- two histories tell the same
pub record TellTheSame (a b : History) : Type 0 where
  pub images : (t x : Tree) → a.images t x ↔ b.images t x
  pub generated : (t x : Tree) → a.generated t x ↔ b.generated t x
  pub removed : (t : Tree) → a.removed t ↔ b.removed t

-- the history of one step in a row is that of its change
abbrev pub OneStepIsItsChange : Type 0
OneStepIsItsChange =
    (d : Done) → TellTheSame (history_after (kind_in d.change) d.before (d ∷ [])) (history_by d.change d.before d.after)

-- the first tree of a pair stands in the first root, and the second in the last
abbrev pub StandsAtBothEnds : Use → List Done → (Tree → Tree → Type 0) → Type 0
StandsAtBothEnds first steps R = (t x : Tree) → R t x → OccursIn t first.tree × OccursIn x (root_after first steps).tree

-- so do the pairs of a history
pub record PairsStand (kind_of : Tree → Kind) (first : Use) (steps : List Done) : Type 0 where
  pub images : StandsAtBothEnds first steps (history_after kind_of first steps).images
  pub generated : StandsAtBothEnds first steps (history_after kind_of first steps).generated

abbrev pub PairsOfRowsStand : Type 0
PairsOfRowsStand =
    (kind_of : Tree → Kind) (first : Use) (steps : List Done) → AreInRow first steps → PairsStand kind_of first steps

-- ---- the same by lists
abbrev pub then_listed : List (Tree × Tree) → List (Tree × Tree) → List (Tree × Tree)
then_listed R S = flat_map (λ p. map (λ q. (p.0, q.1)) (filter (λ q. tree_eq p.1 q.0) S)) R

abbrev pub chained_listed : (Tree → Kind) → Tree → Tree → HistoryLists → HistoryLists → HistoryLists
chained_listed kind_of first last a b = record {
  images = then_listed a.images b.images;
  generated =
      then_listed a.images b.generated ++ (then_listed a.generated b.images ++ then_listed a.generated b.generated);
  removed = gone_listed kind_of first last (then_listed a.images b.images);
}

abbrev pub none_listed : (Tree → Kind) → Tree → HistoryLists
none_listed kind_of root = record {
  images = map (λ t. (t, t)) (filter (λ t. is_supported (kind_of t)) (subtrees root));
  generated = [];
  removed = [];
}

abbrev pub slow_after : ℕ → (Tree → Kind) → Use → List Done → HistoryLists
slow_after n kind_of first [] = none_listed kind_of first.tree
slow_after n kind_of first (d ∷ ds) =
    chained_listed kind_of first.tree d.after.tree (slow_after n kind_of first ds)
    (slow_history d.change n d.before d.after)

-- so many levels list all in each of the steps
abbrev pub ListAll : ℕ → List Done → Type 0
ListAll n [] = Unit {0}
ListAll n (d ∷ ds) = (lists_all d.change n d.before ≡ true) × ListAll n ds

-- then the slow lists are those of the history
abbrev pub SlowHistoriesChain : Type 0
SlowHistoriesChain = (n : ℕ) (kind_of : Tree → Kind) (first : Use) (steps : List Done) → ListAll n steps →
    ListsHistory (slow_after n kind_of first steps) (history_after kind_of first steps)
