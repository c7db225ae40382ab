-- By the parts of a tree.
use Rattle.expansion_laws.proofs.Subtrees.{subtrees-itself, subtrees-use, subtrees-cases, subtrees-onward}
use Rattle.expansion_laws.proofs.laws.subtrees_stand.Goals as goal

pub returns : goal.returns
returns c = record { itself = subtrees-itself; below = subtrees-use; cases = subtrees-cases; onward = subtrees-onward }
