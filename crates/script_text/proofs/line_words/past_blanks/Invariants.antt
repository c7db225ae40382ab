use Rattle.std.proofs.Common.{◌≡◌, ◌≤◌, ◌-◌, length, drop}
use Rattle.script_text.specs.Words.{words_of}
use Rattle.script_text.proofs.line_words.past_blanks.Given as goal

abbrev pub invariant-blanks : goal.invariant-blanks
invariant-blanks l = record {
  fits : l.at ≤ length l.line;
  same : words_of (drop l.at l.line) ≡ words_of l.line;
}

abbrev pub decreases-blanks : goal.decreases-blanks
decreases-blanks l = length l.line - l.at
