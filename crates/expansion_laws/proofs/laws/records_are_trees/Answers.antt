-- By the trees of a file's records.
use Rattle.expansion_laws.proofs.FileTrees.{origin-of_number, apart-by_number, uses-of_number, subtree-of_number}
use Rattle.expansion_laws.proofs.laws.records_are_trees.Goals as goal

pub returns : goal.returns
returns c = λ records root file. record {
  origins = origin-of_number records;
  apart = apart-by_number records;
  same_uses = uses-of_number records file.names_above;
  below = λ k x n. subtree-of_number records file.names_above k n x;
}
