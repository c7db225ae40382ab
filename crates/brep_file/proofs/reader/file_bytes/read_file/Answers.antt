use Rattle.std.proofs.Common.{Err, Result, ap, sym, subst, ◌∙◌, arith}
use Rattle.brep_tokens.specs.declared.fault.ReadFault.{ReadFault}
use Rattle.brep_tokens.specs.declared.fault.ReadStop.TheVariants as stops
use Rattle.brep_file.specs.declared.file.File.{File}
use Rattle.brep_file.specs.FileReading.{from_locations, read_text}
use Rattle.brep_file.specs.Giving.{Fails, FileGiven, IsPartRead, front}
use Rattle.brep_file.specs.Sound.{file_limits}
use Rattle.brep_file.proofs.WholeText.{body_fails, body_read, head_stop, stopped_with, text_is, version_known}
use Rattle.brep_file.proofs.reader.file_bytes.read_file.Goals as goal

pub returns-in_err-version : goal.returns-in_err-version
returns-in_err-version c =
    let fault = c.in_err-version.field-0.0 in
    stopped_with c.from_residual-in_err-version.result (stops.Fault fault) (read_text file_limits c.args.bytes.items)
    c.from_residual-in_err-version.ensures.1
    (head_stop file_limits c.args.bytes.items c.in_ok-s.s fault (ap (λ s. s.fed) c.in_ok-s.ensures)
    (c.in_err-version.ensures file_limits))

pub with_locations-requires-clause-part : goal.with_locations-requires-clause-part
with_locations-requires-clause-part c =
    let known = version_known c.scanner_gives_tokens.ensures c.in_ok-s.s c.version.new.s c.in_ok-version.version
    c.in_ok-version.ensures in
    subst IsPartRead (sym c.begun_file.ensures) (record {
      version = known;
      curve2s = omega arith;
      curves = omega arith;
      polygons = omega arith;
      polygons_on = omega arith;
      surfaces = omega arith;
      meshes = omega arith;
    })

pub returns-in_err-file : goal.returns-in_err-file
returns-in_err-file c =
    let stop = c.in_err-file.field-0.0 in
    let text = text_is file_limits c.args.bytes.items c.in_ok-s.s c.version.new.s c.in_ok-version.version
    (ap (λ s. s.fed) c.in_ok-s.ensures) c.in_ok-version.ensures in
    let fails = subst (λ (f : File). Fails c.version.new.s (from_locations file_limits f (front c.version.new.s)) stop)
    c.begun_file.ensures c.in_err-file.ensures in
    stopped_with c.from_residual-in_err-file.result stop (read_text file_limits c.args.bytes.items)
    c.from_residual-in_err-file.ensures.1
    (subst (λ (r : Result File ReadFault). FileGiven (Err stop) r) (sym text)
    (body_fails file_limits c.version.new.s c.in_ok-version.version stop fails))

pub returns-in_err-closing_zero : goal.returns-in_err-closing_zero
returns-in_err-closing_zero c =
    stopped_with c.from_residual-in_err-closing_zero.result (stops.Fault c.in_err-closing_zero.field-0.0)
    (read_text file_limits c.args.bytes.items) c.from_residual-in_err-closing_zero.ensures.1
    (text_is file_limits c.args.bytes.items c.in_ok-s.s c.version.new.s c.in_ok-version.version
    (ap (λ s. s.fed) c.in_ok-s.ensures) c.in_ok-version.ensures
    ∙ body_read file_limits c.version.new.s c.in_ok-version.version c.with_locations.new.s c.in_ok-file.file
    (rw (← c.begun_file.ensures) c.in_ok-file.ensures.0) c.in_ok-file.ensures.1
    ∙ c.in_err-closing_zero.ensures c.in_ok-file.file)

pub returns : goal.returns
returns c =
    text_is file_limits c.args.bytes.items c.in_ok-s.s c.version.new.s c.in_ok-version.version
    (ap (λ s. s.fed) c.in_ok-s.ensures) c.in_ok-version.ensures
    ∙ body_read file_limits c.version.new.s c.in_ok-version.version c.with_locations.new.s c.in_ok-file.file
    (rw (← c.begun_file.ensures) c.in_ok-file.ensures.0) c.in_ok-file.ensures.1
    ∙ c.in_ok-closing_zero.ensures c.in_ok-file.file
