use Rattle.brep_tokens.proofs.ScanLaws as laws
use Rattle.brep_tokens.proofs.laws.scanner_gives_tokens.Goals as goal

pub returns : goal.returns
returns c = laws.scanner_gives_tokens
