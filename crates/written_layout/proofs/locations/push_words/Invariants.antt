use Rattle.std.proofs.Common.{take}
use Rattle.written_locations.specs.Added.{further_of}
use Rattle.written_layout.specs.Layout.{words_text}
use Rattle.written_layout.proofs.locations.push_words.Given as goal

abbrev pub invariant-loop-i : goal.invariant-loop-i
invariant-loop-i g l =
    g.B.TakesBytes.gives l.initial.text (words_text (take l.i (further_of l.locations))) l.text
