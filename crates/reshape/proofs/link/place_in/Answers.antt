-- The node is one of the plan.
use Rattle.reshape.proofs.link.place_in.Goals as goal

pub returns-in-None : goal.returns-in-None
returns-in-None c = absurd (c.in-None.ensures.none c.requires)
