use Rattle.brep_writer.proofs.Plans.{origins-held}
use Rattle.brep_writer.proofs.plan.WritePlan.new.Goals as goal

pub locations_in-requires-clause-loaded : goal.locations_in-requires-clause-loaded
locations_in-requires-clause-loaded c = record { sound = c.requires.sound; loaded = c.requires.loaded }

pub locations_in-requires-clause-origins : goal.locations_in-requires-clause-origins
locations_in-requires-clause-origins c =
    origins-held (record { file = c.args.file; pool = c.args.pool; words = c.args.words }) c.laws.ensures
    (record { sound = c.requires.sound; loaded = c.requires.loaded }) c.roots_are_written.ensures c.args.root
    c.requires.root c.requires.origins c.in_ok-order.order.numbers c.in_ok-order.ensures

pub returns-clause-plan : goal.returns-clause-plan
returns-clause-plan c = record {
  source = record { sound = c.requires.sound; loaded = c.requires.loaded };
  version = c.requires.version;
  held = c.requires.root;
  place = c.requires.place;
  order = c.in_ok-order.ensures;
  origins =
      origins-held (record { file = c.args.file; pool = c.args.pool; words = c.args.words }) c.laws.ensures
      (record { sound = c.requires.sound; loaded = c.requires.loaded }) c.roots_are_written.ensures c.args.root
      c.requires.root c.requires.origins c.in_ok-order.order.numbers c.in_ok-order.ensures;
  located = c.in_ok-locations.ensures;
}
