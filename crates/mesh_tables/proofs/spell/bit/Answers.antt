-- A flag is spelled as the number 1 or 0.
use Rattle.std.proofs.Common.{arith}
use Rattle.std.proofs.lemmas.Fmt.{decimal_digit}
use Rattle.mesh_tables.proofs.spell.bit.Goals as goal

pub returns-then-flag : goal.returns-then-flag
returns-then-flag c = rw c.if-flag.true (decimal_digit 1 (omega arith))

pub returns-else-flag : goal.returns-else-flag
returns-else-flag c = rw c.if-flag.false (decimal_digit 0 (omega arith))
