-- By the node of each tree of its own.
use Rattle.key_results.proofs.ResultNodes.{nodes-stand}
use Rattle.key_results.proofs.laws.nodes_stand_for_results.Goals as goal

pub returns : goal.returns
returns c = λ old new word prune visits outgrowths nodes linked are owners long stand k o y has.
    nodes-stand old new word prune visits outgrowths nodes linked are owners long stand k o has y
