use Rattle.std.proofs.Common.{◌≡◌, true}
use Rattle.entry_rows.proofs.tokens.scanned.Given as goal

abbrev pub invariant-answers : goal.invariant-answers
invariant-answers l = l.scanner.ended ≡ true
