use Rattle.std.proofs.Common.{◌≡◌, ◌++◌, ◌*◌}
use Rattle.brep_gen.specs.Draws.{state_at}
use Rattle.brep_gen.specs.Generated.{drawn_use, in_turn}
use Rattle.brep_gen.specs.Spacing.{spaced}
use Rattle.brep_gen.proofs.levels.push_drawn_uses.Given as goal

abbrev pub invariant-loop-k : goal.invariant-loop-k
invariant-loop-k l =
    (l.text.items ≡ l.initial.text.items
    ++ spaced (in_turn l.k (λ k. drawn_use l.n l.first (state_at l.initial.draws.state (3 * k)))))
    × (l.draws.state ≡ state_at l.initial.draws.state (3 * l.k))
