use Rattle.std.proofs.Common.{◌≡◌, length}
use Rattle.brep_tokens.specs.Scan.{words_left}
use Rattle.entry_readers.specs.Takes.{IsOpen}
use Rattle.brep_file.specs.Giving.{GoesTo, front}
use Rattle.brep_file.proofs.reader.pull.part.Given as goal

abbrev pub invariant-tokens : goal.invariant-tokens
invariant-tokens g l = record {
  goes : GoesTo l.initial.s l.s;
  waits : g.R.PartReader.waits l.reader;
  is_open : IsOpen (g.R.PartReader.left l.reader);
  same : g.R.PartReader.left l.reader (front l.s) ≡ g.R.PartReader.left l.initial.reader (front l.initial.s);
}

abbrev pub decreases-tokens : goal.decreases-tokens
decreases-tokens g l = length (words_left l.s)
