-- Changes: the ways in which a step may change a root, and what each of them tells to a history. So far there is one
-- way, by requests; a further way is a further case of each definition here, and of the slow lists.
use Rattle.orientation.specs.declared.kind.Kind.{Kind}
use Rattle.expansion_laws.specs.Trees.{Tree, Use}
use Rattle.expansion_laws.specs.Steps.{Step, kind}
use Rattle.expansion_laws.specs.Rewriting.{StepsTo}
use Rattle.expansion_laws.specs.Visits.{IsImage, IsReplaced}
use Rattle.step_history.specs.History.{History, history_of}

-- a way of changing a root
pub data Change : Type 0 where
  by_requests : (step : Step) → Change

-- the kinds that a change goes by
abbrev pub kind_in : Change → Tree → Kind
kind_in (by_requests s) = kind s

-- a change makes the second root of the first
abbrev pub Makes : Change → Use → Use → Type 0
Makes (by_requests s) = StepsTo s

-- in a change of a root a tree becomes another: the pairs of a tree and its image
abbrev pub Becomes : Change → Use → Tree → Tree → Type 0
Becomes (by_requests s) = IsImage s

-- in a change of a root another tree takes the place of a tree that is replaced
abbrev pub TakesPlace : Change → Use → Tree → Tree → Type 0
TakesPlace (by_requests s) = IsReplaced s

-- the history of a change, with the root before it and after it
abbrev pub history_by : Change → Use → Use → History
history_by c before after = history_of (kind_in c) before.tree after.tree (Becomes c before) (TakesPlace c before)
