-- The lines of a compound.
use Rattle.std.proofs.Common.{◌-◌, ◌+◌}
use Rattle.brep_gen.specs.Generated.{forward, in_turn, use_words}
use Rattle.brep_gen.proofs.TextLemmas.{compound_text}
use Rattle.brep_gen.proofs.records.push_whole.Goals as goal

pub returns : goal.returns
returns c =
    compound_text c.args.text.now.items c.extend_from_slice.new.self.items c.push_all_uses.new.text.items
    c.extend_from_slice-2.new.self.items (in_turn 1024 (λ k. use_words forward (c.args.n - (c.args.first + k)) 0))
    c.in_ok-extend_from_slice.ensures.items c.in_ok-push_all_uses.ensures c.in_ok-extend_from_slice-2.ensures.items
