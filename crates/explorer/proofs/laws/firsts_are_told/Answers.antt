use Rattle.explorer.proofs.FirstLaws.{firsts_are_told}
use Rattle.explorer.proofs.laws.firsts_are_told.Goals as goal

pub returns : goal.returns
returns c = firsts_are_told
