use Rattle.std.proofs.Common.{◌≡◌, ◌≤◌, ◌∷◌, [], ◌++◌, ◌-◌, length, take}
use Rattle.std.specs.Prelude.{codes}
use Rattle.std.specs.Fmt.{decimal}
use Rattle.brep_tokens.specs.Written.{line_text, lines_text}
use Rattle.history_text.specs.HistoryText.{origin_lines}
use Rattle.history_text.specs.Sending.{Sent}
use Rattle.history_text.proofs.text.put_origins.Given as goal

abbrev pub invariant-loop-origin : goal.invariant-loop-origin
invariant-loop-origin g l = record {
  no_fault : g.D.Desk.faults l.desk ≡ g.D.Desk.faults l.fn.desk;
  within : l.at ≤ length l.origins;
  sent : Sent g.D.Desk.tells (g.D.Desk.shows l.fn.desk) (g.D.Desk.shows l.desk) l.c.number l.fn.pending l.pending
      (line_text (codes "records" ∷ decimal (length (origin_lines l.origins)) ∷ []) ++ lines_text (take l.at (origin_lines l.origins)));
}

abbrev pub decreases-loop-origin : goal.decreases-loop-origin
decreases-loop-origin g l = length l.origins - l.at
