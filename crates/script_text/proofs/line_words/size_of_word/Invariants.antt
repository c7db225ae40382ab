use Rattle.std.proofs.Common.{◌≡◌, ◌≤◌, ◌+◌, ◌-◌, length, drop}
use Rattle.script_text.specs.Words.{word_size}
use Rattle.script_text.proofs.line_words.size_of_word.Given as goal

abbrev pub invariant-word : goal.invariant-word
invariant-word l = record {
  fits : l.size ≤ length l.line;
  counts : l.size + word_size (drop l.size l.line) ≡ word_size l.line;
}

abbrev pub decreases-word : goal.decreases-word
decreases-word l = length l.line - l.size
