use Rattle.std.proofs.Common.{◌≡◌, length, Ok, refl}
use Rattle.brep_file.specs.FileReading.{from_root}
use Rattle.brep_file.specs.Giving.{front}
use Rattle.brep_file.specs.RecordReading.{root_at}
use Rattle.brep_file.specs.declared.file.File.{File}
use Rattle.brep_file.proofs.Pulling.{fails_then, stops_with}
use Rattle.brep_file.proofs.reader.sections.with_root.Goals as goal

pub returns-in_err-root : goal.returns-in_err-root
unfolding from_root
returns-in_err-root c =
    stops_with (λ (f : File). f) (from_root c.args.file) c.args.s.now c.root.new.s c.from_residual.result
    c.in_err-root.field-0.0 c.from_residual.ensures.1
    (fails_then c.args.s.now (root_at (length c.args.file.locations) (length c.args.file.records) (front c.args.s.now))
    (λ x. Ok (record c.args.file { root = x.0 }, x.1)) c.in_err-root.field-0.0
    (rw (← c.len.ensures.len, c.requires.count) c.in_err-root.ensures))

pub returns : goal.returns
unfolding from_root
returns c =
    let e : root_at (length c.args.file.locations) (length c.args.file.records) (front c.args.s.now) ≡ Ok
    (c.in_ok-root.root, front c.root.new.s) = rw (← c.len.ensures.len, c.requires.count) c.in_ok-root.ensures.0 in
    (rw e refl, c.in_ok-root.ensures.1)
