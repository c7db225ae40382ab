-- The token was taken, and what is left is settled.
use Rattle.std.proofs.Common.{refl}
use Rattle.surface_tables.specs.PartLeft.{at_stage}
use Rattle.surface_tables.specs.declared.part.Stage.TheVariants as stages
use Rattle.surface_tables.proofs.Settling.{steps_settled}
use Rattle.surface_tables.proofs.part.PartReader.take_vknot.Goals as goal

pub returns-clause-part : goal.returns-clause-part
returns-clause-part c =
    steps_settled (at_stage (stages.Vknots c.args.net) c.args.self.now) _ c.args.t.now
    (λ rest. rw (c.in_ok-take.ensures rest) refl) c.past_vknots.new.self c.past_vknots.result c.past_vknots.ensures.part
    (rw c.past_vknots.ensures.nest c.requires.nested)
