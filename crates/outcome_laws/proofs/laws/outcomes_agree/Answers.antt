-- By the law that all ways to carry out a script agree.
use Rattle.outcome_laws.proofs.OneAnswer.{answers-agree}
use Rattle.outcome_laws.proofs.OneText.{texts-one}
use Rattle.outcome_laws.proofs.laws.outcomes_agree.Goals as goal

pub returns : goal.returns
returns c = record {
  answers = λ f lines. answers-agree f lines (c.runs_agree.ensures.scripts f lines);
  texts = λ t old source script. texts-one c.reading_is_exact.ensures old c.runs_agree.ensures.scripts t source script;
}
