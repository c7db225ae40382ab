-- The lines of an edge.
use Rattle.std.proofs.Common.{arith}
use Rattle.std.proofs.lemmas.Grind.{common_steps}
use Rattle.brep_gen.proofs.records.push_edge.Goals as goal

pub returns : goal.returns
returns c = grind (arith, common_steps)
