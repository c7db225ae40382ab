use Rattle.std.specs.Prelude.{codes}
use Rattle.brep_file.specs.FileReading.{from_records}
use Rattle.brep_file.specs.Giving.{from_counted, front}
use Rattle.brep_file.specs.SectionReading.{heading_at}
use Rattle.brep_file.specs.Sound.{file_limits}
use Rattle.brep_file.specs.declared.file.File.{File}
use Rattle.brep_file.proofs.Pulling.{fails_then, stops_with, then_gives}
use Rattle.brep_file.proofs.reader.sections.with_records.Goals as goal

pub returns-in_err-count : goal.returns-in_err-count
unfolding from_records
returns-in_err-count c =
    stops_with (λ (f : File). f) (from_records file_limits c.args.file) c.args.s.now c.heading.new.s
    c.from_residual.result c.in_err-count.field-0.0 c.from_residual.ensures.1
    (fails_then c.args.s.now (heading_at (codes "TShapes") file_limits.records (front c.args.s.now))
    (λ n. from_counted c.args.file n.0 n.1) c.in_err-count.field-0.0 c.in_err-count.ensures.given)

pub returns : goal.returns
unfolding from_records
returns c =
    then_gives (heading_at (codes "TShapes") file_limits.records) (λ n. from_counted c.args.file n.0 n.1) c.args.s.now
    c.heading.new.s c.with_counted.new.s c.in_ok-count.count c.with_counted.result c.in_ok-count.ensures.given.0
    c.in_ok-count.ensures.given.1
    c.with_counted.ensures
