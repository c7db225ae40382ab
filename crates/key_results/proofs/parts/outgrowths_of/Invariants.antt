-- What comes of the visits so far.
use Rattle.std.proofs.Common.{◌≡◌, ℕ, List, take, length}
use Rattle.location_words.specs.declared.pair.Pair.{Pair}
use Rattle.expansion_laws.specs.Trees.{Tree}
use Rattle.key_results.specs.Words.{ReadsWords, GrowsTo}
use Rattle.key_results.specs.Derivations.{results_of}
use Rattle.key_results.specs.Parts.{AreOutgrowths, AreHeldParts, AreOfOwn}
use Rattle.key_results.proofs.parts.outgrowths_of.Given as goal

abbrev pub invariant-loop-visit : goal.invariant-loop-visit
invariant-loop-visit l =
    ((word : ℕ → List Pair) (tree : ℕ → Tree) → ReadsWords word l.words →
    AreOutgrowths word (results_of word tree l.prune l.visits) l.prune (take l.visit-index l.visits)
    l.outgrowths.items) ×
    AreHeldParts (length l.words) l.outgrowths.items ×
    GrowsTo l.initial.words l.words ×
    AreOfOwn l.outgrowths.items ×
    (length l.outgrowths.items ≡ l.visit-index)
