-- What a session holds, by numbers.
use Rattle.std.specs.Prelude.{ℕ, List, reverse}
use Rattle.location_words.specs.declared.pair.Pair.{Pair}
use Rattle.orientation.specs.declared.rule.Rule.{Rule}
use Rattle.shape_pool.specs.declared.node.UseOf.{UseOf}
use Rattle.shape_pool.specs.Rows.{Row}
use Rattle.requests.specs.declared.request.Request.{Request}
use Rattle.step_history.specs.declared.history.StepHistory.{StepHistory}
use Rattle.brep_file.specs.declared.file.File.{File}
use Rattle.script_requests.specs.declared.version.Version.{Version}
use Rattle.script_requests.specs.Named.{last_root, last_history}

pub record View : Type 0 where
  -- the file, the words of its locations and of all uses, and the nodes
  pub file : File
  pub words : List (List Pair)
  pub rows : List Row
  -- the first root, and the history over no step
  pub first : UseOf
  pub start : StepHistory
  -- what the steps that stand have left, from the first to the last
  pub versions : List Version
  -- the unfinished step
  pub asked : List Request
  pub rule : Rule
  -- the version in which the output is written
  pub output : ℕ
  -- how many steps have been carried out
  pub carried : ℕ

abbrev pub root_of_view : View → UseOf
root_of_view v = last_root v.first (reverse v.versions)

abbrev pub history_of_view : View → StepHistory
history_of_view v = last_history v.start (reverse v.versions)
