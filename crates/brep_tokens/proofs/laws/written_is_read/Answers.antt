use Rattle.brep_tokens.proofs.LineLemmas.{read, plain, plain_lines}
use Rattle.brep_tokens.proofs.PlainWords.{continuities, decimals, flags, joined, numbers, powers, use_signs}
use Rattle.brep_tokens.proofs.laws.written_is_read.Goals as goal

pub returns : goal.returns
returns c = record {
  read = read;
  plain = plain;
  plain_lines = plain_lines;
  joined = joined;
  continuities = continuities;
  numbers = numbers;
  powers = powers;
  use_signs = use_signs;
  decimals = decimals;
  flags = flags;
}
