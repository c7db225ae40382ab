-- The u knots were given; the v knots go on.
use Rattle.entry_readers.specs.Spelled.{pairs_left}
use Rattle.surface_tables.proofs.KnotsSteps.{knots_go, none_left}
use Rattle.surface_tables.proofs.part_spell.NetKnotsIterator.next.Goals as goal

pub returns-clause-goes : goal.returns-clause-goes
returns-clause-goes c =
    knots_go c.args.self.now c.next-2.new.self (none_left c.next.result (pairs_left c.args.self.now.u)
    (pairs_left c.next.new.self) c.next.ensures.steps c.in_default.not-Some) c.next-2.result c.next-2.ensures.steps
    c.next-2.ensures.goes c.requires.u_can
