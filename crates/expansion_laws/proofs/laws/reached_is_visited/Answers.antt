-- Both ways, along the edges.
use Rattle.expansion_laws.proofs.UnconditionalLemmas.{visited-reached, reached-visited}
use Rattle.expansion_laws.proofs.laws.reached_is_visited.Goals as goal

pub returns-clause-back : goal.returns-clause-back
returns-clause-back c = visited-reached

pub returns-clause-unconditional : goal.returns-clause-unconditional
returns-clause-unconditional c = reached-visited
