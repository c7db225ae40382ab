use Rattle.std.specs.Prelude.{codes}
use Rattle.curve_tables.specs.Curves.{curve3_at}
use Rattle.brep_file.specs.Sound.{file_limits}
use Rattle.brep_file.specs.declared.file.File.{File}
use Rattle.brep_file.specs.FileReading.{from_curves, from_polygons}
use Rattle.brep_file.specs.SectionReading.{section_at}
use Rattle.brep_file.proofs.Pulling.{fails_then, stops_with, then_gives}
use Rattle.brep_file.proofs.reader.sections.with_curves.Goals as goal

pub returns-in_err-entries : goal.returns-in_err-entries
unfolding from_curves
returns-in_err-entries c =
    stops_with (λ (f : File). f) (from_curves file_limits c.args.file) c.args.s.now c.section.new.s
    c.from_residual.result c.in_err-entries.field-0.0 c.from_residual.ensures.1
    (fails_then c.args.s.now _ (λ x. from_polygons file_limits (record c.args.file { curves = x.0 }) x.1)
    c.in_err-entries.field-0.0 c.in_err-entries.ensures.given)

pub returns : goal.returns
unfolding from_curves
returns c =
    then_gives (section_at (codes "Curves") file_limits.entries (curve3_at 0))
    (λ x. from_polygons file_limits (record c.args.file { curves = x.0 }) x.1) c.args.s.now c.section.new.s
    c.with_polygons.new.s c.in_ok-entries.entries.items c.with_polygons.result c.in_ok-entries.ensures.given.0
    c.in_ok-entries.ensures.given.1
    (rw (← c.from_vec.ensures) c.with_polygons.ensures)
