-- By computation.
use Rattle.expansion_laws.proofs.RuleExampleLemmas.{rule_examples_come_out}
use Rattle.expansion_laws.proofs.laws.rule_examples_come_out.Goals as goal

pub returns : goal.returns
returns c = rule_examples_come_out
