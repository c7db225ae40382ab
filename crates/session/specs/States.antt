-- How far a script has come: the steps that stand, and the step that isn't finished.
use Rattle.std.specs.Prelude.{ℕ, zero, suc, true, List, [], ◌∷◌, ◌++◌, length}
use Rattle.std.specs.List.{flat_map}
use Rattle.orientation.specs.declared.kind.Kind.{Kind}
use Rattle.orientation.specs.declared.rule.Rule.{Rule}
use Rattle.orientation.specs.Rules.{usual}
use Rattle.expansion_laws.specs.Trees.{Tree, Use}
use Rattle.expansion_laws.specs.Measures.{subtrees}
use Rattle.expansion_laws.specs.Requests.{Request}
use Rattle.expansion_laws.specs.Steps.{Step}
use Rattle.step_history.specs.Changes.{by_requests}
use Rattle.step_history.specs.Composition.{Done, root_after, history_after}
use Rattle.step_history.specs.History.{History}
use Rattle.brep_file.specs.declared.file.File.{File}
use Rattle.brep_file.specs.PlainRecords.{expansion_of, tree_of_record}
use Rattle.file_loading.specs.Loading.{kind_of_record}
use Rattle.script_requests.specs.Kinds.{kind_of}

pub record State : Type 0 where
  -- the steps that stand, the last one first
  pub steps : List Done
  -- the roots that steps have made, those of steps taken back too
  pub made : List Use
  -- the requests and the rule of the step that isn't finished
  pub requests : List Request
  pub rule : Rule
  -- the version in which the output is written
  pub output : ℕ

-- before the first command: the output has the file's version
abbrev pub first_state : File → State
first_state f = record { steps = []; made = []; requests = []; rule = usual; output = f.version }

-- the root that the steps have left, and their history
abbrev pub root_of : File → State → Use
root_of f s = root_after (expansion_of f) s.steps

abbrev pub history_of : File → State → History
history_of f s = history_after (kind_of f) (expansion_of f) s.steps

-- the step that isn't finished
abbrev pub step_of : File → State → Step
step_of f s = record { kind_of_origin = kind_of_record f; requests = s.requests; rule = s.rule }

-- the trees of the records up to a number
abbrev pub record_trees : File → ℕ → List Tree
record_trees f zero = []
record_trees f (suc k) = tree_of_record f (suc k) ∷ record_trees f k

-- the trees held: those of all records, and those in the roots that steps have made
abbrev pub held_trees : File → State → List Tree
held_trees f s = record_trees f (length f.records) ++ flat_map (λ u. subtrees u.tree) s.made

-- with further requests; and with none, under the usual rule
abbrev pub asked_too : State → List Request → State
asked_too s rs = record s { requests = s.requests ++ rs }

abbrev pub at_rest : State → State
at_rest s = record s { requests = []; rule = usual }

-- the unfinished step, carried out to a new root
abbrev pub done_to : File → State → Use → Done
done_to f s new = record { change = by_requests (step_of f s); before = root_of f s; after = new }

abbrev pub after_step : File → State → Use → State
after_step f s new =
    record (at_rest s) { steps = done_to f s new ∷ s.steps; made = new ∷ s.made }

-- without the last of the steps, and at rest
abbrev pub with_steps : State → List Done → State
with_steps s ds = record (at_rest s) { steps = ds }

-- with the stop kind of the unfinished step set, with its prune mark set, and with the output in version 1
abbrev pub stopping_at : State → Kind → State
stopping_at s kind = record s { rule = record { stop = kind; prune = s.rule.prune } }

abbrev pub pruning : State → State
pruning s = record s { rule = record { stop = s.rule.stop; prune = true } }

abbrev pub in_first_version : State → State
in_first_version s = record s { output = 1 }
