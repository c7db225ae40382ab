use Rattle.std.proofs.Common.{arith, ap}
use Rattle.std.specs.Prelude.{length}
use Rattle.written_locations.proofs.written.WrittenLocations.further.Goals as goal

pub overflow_add-i : goal.overflow_add-i
overflow_add-i c =
    let size = ap length c.requires.numbering.words in
    let long = c.len.ensures.len in
    let small = c.len.ensures.small in
    let within = c.requires.within in
    omega (arith, size, long, small, within)
