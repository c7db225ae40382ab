use Rattle.std.proofs.Common.{◌≡◌, [], length}
use Rattle.script_text.specs.Reading.{mentions_from}
use Rattle.script_text.specs.Words.{words_of}
use Rattle.script_text.proofs.reading.mentions.Given as goal

abbrev pub invariant-words : goal.invariant-words
invariant-words l = mentions_from l.all (words_of l.left) ≡ mentions_from [] (words_of l.line)

abbrev pub decreases-words : goal.decreases-words
decreases-words l = length l.left
