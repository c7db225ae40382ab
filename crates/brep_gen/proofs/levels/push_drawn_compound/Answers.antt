-- The lines of a compound.
use Rattle.std.proofs.Common.{◌*◌}
use Rattle.brep_gen.specs.Draws.{state_at}
use Rattle.brep_gen.specs.Generated.{drawn_use, in_turn}
use Rattle.brep_gen.proofs.TextLemmas.{compound_text}
use Rattle.brep_gen.proofs.levels.push_drawn_compound.Goals as goal

pub returns-clause-text : goal.returns-clause-text
returns-clause-text c =
    compound_text c.args.text.now.items c.extend_from_slice.new.self.items c.push_drawn_uses.new.text.items
    c.extend_from_slice-2.new.self.items
    (in_turn 4 (λ k. drawn_use c.args.n c.args.first (state_at c.args.draws.now.state (3 * k))))
    c.in_ok-extend_from_slice.ensures.items c.in_ok-push_drawn_uses.ensures.text
    c.in_ok-extend_from_slice-2.ensures.items
