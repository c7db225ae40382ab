use Rattle.std.proofs.Common.{◌≡◌, ◌++◌, ◌*◌, ◌+◌}
use Rattle.brep_tokens.specs.Written.{lines_text}
use Rattle.brep_gen.specs.Draws.{state_at}
use Rattle.brep_gen.specs.Generated.{drawn_level, in_turn}
use Rattle.brep_gen.proofs.levels.push_levels.Given as goal

abbrev pub invariant-loop-level : goal.invariant-loop-level
invariant-loop-level l =
    (l.text.items ≡ l.initial.text.items
    ++ lines_text
    (in_turn l.level (λ k. drawn_level l.n (1024 * (k + 1)) (state_at l.initial.draws.state (12288 * k)))))
    × (l.draws.state ≡ state_at l.initial.draws.state (12288 * l.level))
