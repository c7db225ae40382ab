use Rattle.std.proofs.Common.{◌≡◌, ◌≤◌, ◌∷◌, [], ◌++◌, ◌-◌, length, take, map}
use Rattle.std.specs.Fmt.{decimal}
use Rattle.brep_tokens.specs.Written.{line_text, lines_text}
use Rattle.history_text.specs.HistoryText.{pair_words}
use Rattle.history_text.specs.Sending.{Sent}
use Rattle.history_text.proofs.text.put_pairs.Given as goal

abbrev pub invariant-loop-pair : goal.invariant-loop-pair
invariant-loop-pair g l = record {
  no_fault : g.D.Desk.faults l.desk ≡ g.D.Desk.faults l.fn.desk;
  within : l.at ≤ length l.pairs;
  sent : Sent g.D.Desk.tells (g.D.Desk.shows l.fn.desk) (g.D.Desk.shows l.desk) l.c.number l.fn.pending l.pending
      (line_text (l.word ∷ decimal (length (map pair_words l.pairs)) ∷ []) ++ lines_text (take l.at (map pair_words l.pairs)));
}

abbrev pub decreases-loop-pair : goal.decreases-loop-pair
decreases-loop-pair g l = length l.pairs - l.at
