-- The links so far are gone through.
use Rattle.std.proofs.Common.{◌≡◌, ℕ, List, All, map, take, length}
use Rattle.location_words.specs.declared.pair.Pair.{Pair}
use Rattle.expansion_laws.specs.Trees.{Tree}
use Rattle.key_results.specs.Words.{ReadsWords, GrowsTo}
use Rattle.key_results.specs.Parts.{use_of_part, joined_parts, IsHeldPart, ArePartsOfOwn}
use Rattle.key_results.proofs.parts.joined.Given as goal

abbrev pub invariant-loop-link : goal.invariant-loop-link
invariant-loop-link l =
    ((word : ℕ → List Pair) (own : ℕ → Tree) → ReadsWords word l.words →
    map (use_of_part word own) l.parts.items ≡ joined_parts word own l.visit.mover l.earlier
    (take l.link-index l.visit.links.items)) ×
    All (IsHeldPart (length l.earlier) (length l.words)) l.parts.items ×
    GrowsTo l.initial.words l.words ×
    ArePartsOfOwn l.earlier l.parts.items
