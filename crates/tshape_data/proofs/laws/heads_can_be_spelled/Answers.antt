-- The decimals are among the tokens.
use Rattle.tshape_data.proofs.Shortness as shortness
use Rattle.tshape_data.proofs.laws.heads_can_be_spelled.Goals as goal

pub returns : goal.returns
returns c = shortness.heads_can_be_spelled
