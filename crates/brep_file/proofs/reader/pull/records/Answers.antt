use Rattle.std.proofs.Common.{sym}
use Rattle.brep_file.specs.Giving.{front}
use Rattle.brep_file.specs.RecordLeft.{bounds_of, records_left, so_far_of}
use Rattle.brep_file.specs.RecordReading.{nothing_read, records_from}
use Rattle.brep_file.proofs.Pulling.{same_gives}
use Rattle.brep_file.proofs.reader.pull.records.Goals as goal

pub returns : goal.returns
returns c =
    same_gives so_far_of (records_from (bounds_of c.args.bounds) nothing_read c.args.bounds.records)
    (records_left c.new-2.result) c.args.s.now c.part.new.s c.part.result
    (sym (c.new-2.ensures.left (front c.args.s.now))) c.part.ensures
