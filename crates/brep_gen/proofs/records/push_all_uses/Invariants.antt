use Rattle.std.proofs.Common.{◌≡◌, ◌++◌, ◌-◌, ◌+◌}
use Rattle.brep_gen.specs.Generated.{forward, in_turn, use_words}
use Rattle.brep_gen.specs.Spacing.{spaced}
use Rattle.brep_gen.proofs.records.push_all_uses.Given as goal

abbrev pub invariant-loop-k : goal.invariant-loop-k
invariant-loop-k l =
    l.text.items ≡ l.initial.text.items
    ++ spaced (in_turn l.k (λ k. use_words forward (l.n - (l.first + k)) 0))
