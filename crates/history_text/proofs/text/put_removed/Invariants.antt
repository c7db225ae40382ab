use Rattle.std.proofs.Common.{◌≡◌, ◌≤◌, ◌∷◌, [], ◌++◌, ◌-◌, length, take, map}
use Rattle.std.specs.Prelude.{codes}
use Rattle.std.specs.Fmt.{decimal}
use Rattle.brep_tokens.specs.Written.{line_text, lines_text}
use Rattle.history_text.specs.HistoryText.{number_words}
use Rattle.history_text.specs.Sending.{Sent}
use Rattle.history_text.proofs.text.put_removed.Given as goal

abbrev pub invariant-loop-number : goal.invariant-loop-number
invariant-loop-number g l = record {
  no_fault : g.D.Desk.faults l.desk ≡ g.D.Desk.faults l.fn.desk;
  within : l.at ≤ length l.removed;
  sent : Sent g.D.Desk.tells (g.D.Desk.shows l.fn.desk) (g.D.Desk.shows l.desk) l.c.number l.fn.pending l.pending
      (line_text (codes "removed" ∷ decimal (length (map number_words l.removed)) ∷ []) ++ lines_text (take l.at (map number_words l.removed)));
}

abbrev pub decreases-loop-number : goal.decreases-loop-number
decreases-loop-number g l = length l.removed - l.at
