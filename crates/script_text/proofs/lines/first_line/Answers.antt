use Rattle.std.proofs.Common.{◌≡◌, ◌<◌, length, arith}
use Rattle.std.proofs.lemmas.Bool.Decides.{nat_tests}
use Rattle.script_text.proofs.LineLemmas.{ended_line, open_line}
use Rattle.script_text.proofs.lines.first_line.Goals as goal

pub returns-then-is_empty-clause-lines : goal.returns-then-is_empty-clause-lines
returns-then-is_empty-clause-lines c =
    let none : length c.split_at.result.1.now ≡ 0 = grind (arith, nat_tests) in
    open_line c.args.bytes.now _ _ c.size_of_line.result c.requires c.size_of_line.ensures.size c.split_at.ensures.front
    c.split_at.ensures.back none

pub returns-clause-lines : goal.returns-clause-lines
returns-clause-lines c =
    let some : 0 < length c.split_at.result.1.now = grind (arith, nat_tests) in
    rw c.without_return.ensures (ended_line c.args.bytes.now _ _ _ c.size_of_line.result c.size_of_line.ensures.size
    c.split_at.ensures.front c.split_at.ensures.back some c.split_at-2.ensures.back)
