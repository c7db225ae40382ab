-- Tokens are due.
use Rattle.location_table.specs.SectionLeft.{IsReading}
use Rattle.entry_rows.proofs.locations.read.Given as goal

abbrev pub invariant-loop-word : goal.invariant-loop-word
invariant-loop-word l = IsReading l.reader
