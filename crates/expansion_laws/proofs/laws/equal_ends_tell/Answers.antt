-- By how often each use comes.
use Rattle.expansion_laws.proofs.EndLemmas.{equal-ends-tell, ends_come_out}
use Rattle.expansion_laws.proofs.laws.equal_ends_tell.Goals as goal

pub returns-clause-tell : goal.returns-clause-tell
returns-clause-tell c = equal-ends-tell

pub returns-clause-examples : goal.returns-clause-examples
returns-clause-examples c = ends_come_out
