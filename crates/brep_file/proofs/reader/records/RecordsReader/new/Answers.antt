use Rattle.std.proofs.Common.{ap, ◌∙◌}
use Rattle.brep_file.specs.Many.{many_from}
use Rattle.brep_file.specs.RecordLeft.{bounds_of, record_left, so_far_of}
use Rattle.brep_file.specs.RecordReading.{record_at}
use Rattle.brep_file.proofs.Steps.{fresh}
use Rattle.brep_file.proofs.reader.records.RecordsReader.new.Goals as goal

pub returns-clause-left : goal.returns-clause-left
returns-clause-left c ts =
    let b = bounds_of c.args.bounds in
    let s = so_far_of c.new.result in
    fresh (record_at b) (record_left b s c.new-2.result) s c.args.bounds.records c.requires.some
    (λ ts. c.new-2.ensures.left s ts (ap (λ z. z.reps) c.new.ensures)) ts
    ∙ ap (λ z. many_from (record_at b) z c.args.bounds.records ts) c.new.ensures
