-- The parts so far are added.
use Rattle.std.proofs.Common.{◌≡◌, ◌<◌, ◌++◌, ℕ, Bool, true, List, All, map, take, length}
use Rattle.location_words.specs.declared.pair.Pair.{Pair}
use Rattle.expansion_laws.specs.Trees.{Tree}
use Rattle.key_results.specs.Words.{ReadsWords, GrowsTo}
use Rattle.key_results.specs.Derivations.{linked}
use Rattle.key_results.specs.Parts.{use_of_part, IsHeldPart}
use Rattle.key_results.proofs.parts.add_results.Given as goal

abbrev pub invariant-loop-part : goal.invariant-loop-part
invariant-loop-part l =
    ((word : ℕ → List Pair) (own : ℕ → Tree) → ReadsWords word l.words →
    map (use_of_part word own) l.parts.items ≡ map (use_of_part word own) l.initial.parts.items ++
    map (linked word l.mover l.link) (map (use_of_part word own) (take l.part-index l.of_key.parts.items))) ×
    ((k : ℕ) → All (λ p. p.of < k) l.of_key.parts.items →
    All (IsHeldPart k (length l.initial.words)) l.initial.parts.items →
    All (IsHeldPart k (length l.words)) l.parts.items) ×
    GrowsTo l.initial.words l.words ×
    ((is : ℕ → Bool) → All (λ p. is p.of ≡ true) l.of_key.parts.items →
    All (λ p. is p.of ≡ true) l.initial.parts.items →
    All (λ p. is p.of ≡ true) l.parts.items)
