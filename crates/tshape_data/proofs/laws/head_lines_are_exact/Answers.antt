-- By the law of written words.
use Rattle.tshape_data.proofs.LineLaws as laws
use Rattle.tshape_data.proofs.laws.head_lines_are_exact.Goals as goal

pub returns : goal.returns
returns c = laws.lines_are_exact c.written_is_read.ensures
