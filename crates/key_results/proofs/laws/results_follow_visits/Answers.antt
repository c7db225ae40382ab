-- Visit by visit.
use Rattle.key_results.proofs.ResultLaws.{length-results, results-entry, results-next, sizes-next, sizes-none}
use Rattle.key_results.proofs.laws.results_follow_visits.Goals as goal

pub returns : goal.returns
returns c = λ word tree prune. record {
  long = length-results word tree prune;
  entry = results-entry word tree prune;
  next = results-next word tree prune;
  size_next = sizes-next word tree prune;
  size_none = sizes-none word tree prune;
}
