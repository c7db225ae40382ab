use Rattle.std.proofs.Common.{◌≡◌, ◌++◌, ◌*◌}
use Rattle.brep_tokens.specs.Written.{lines_text}
use Rattle.brep_gen.specs.Draws.{state_at}
use Rattle.brep_gen.specs.Generated.{drawn_compound, in_turn}
use Rattle.brep_gen.proofs.levels.push_level.Given as goal

abbrev pub invariant-loop-k : goal.invariant-loop-k
invariant-loop-k l =
    (l.text.items ≡ l.initial.text.items
    ++ lines_text (in_turn l.k (λ k. drawn_compound l.n l.first (state_at l.initial.draws.state (12 * k)))))
    × (l.draws.state ≡ state_at l.initial.draws.state (12 * l.k))
