-- Where no u knot is due, those that were taken are read from no tokens.
use Rattle.std.proofs.Common.{refl}
use Rattle.surface_tables.specs.PartLeft.{at_stage}
use Rattle.surface_tables.specs.declared.part.Stage.TheVariants as stages
use Rattle.surface_tables.proofs.Settling.{settles_same}
use Rattle.surface_tables.proofs.part.PartReader.past_uknots.Goals as goal

pub returns-clause-part : goal.returns-clause-part
returns-clause-part c =
    settles_same (at_stage (stages.Uknots c.args.net c.args.vknots) c.args.self.now) _
    (λ rest. rw (
      c.is_done.ensures.whole c.if-not-is_done.false rest,
      c.new.ensures.half,
      c.new.ensures.texts,
      c.new.ensures.counts,
      c.new.ensures.due,
    ) refl)
    c.past_vknots.new.self c.past_vknots.result c.past_vknots.ensures.part
