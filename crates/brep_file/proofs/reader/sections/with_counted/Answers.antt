use Rattle.std.proofs.Common.{arith}
use Rattle.brep_file.specs.Giving.{front}
use Rattle.brep_file.specs.RecordLeft.{bounds_of, so_far_of}
use Rattle.brep_file.specs.RecordReading.{nothing_read}
use Rattle.brep_file.proofs.RecordCount.{many_longer}
use Rattle.brep_file.proofs.reader.sections.with_counted.Goals as goal

pub with_root-requires-clause-count : goal.with_root-requires-clause-count
with_root-requires-clause-count c =
    let longer = many_longer (bounds_of (record {
      tables = c.sizes.result;
      version = c.args.file.version;
      records = c.args.count;
    })) c.args.count nothing_read (front c.args.s.now) (front c.records.new.s)
    (so_far_of c.in_ok-so_far.so_far) c.in_ok-so_far.ensures.0 in
    omega (arith, longer)
