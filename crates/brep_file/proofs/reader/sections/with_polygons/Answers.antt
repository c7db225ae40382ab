use Rattle.std.specs.Prelude.{codes}
use Rattle.mesh_tables.specs.Meshes.{polygon_at}
use Rattle.brep_file.specs.Sound.{file_limits}
use Rattle.brep_file.specs.declared.file.File.{File}
use Rattle.brep_file.specs.FileReading.{from_polygons, from_polygons_on}
use Rattle.brep_file.specs.SectionReading.{section_at}
use Rattle.brep_file.proofs.Pulling.{fails_then, stops_with, then_gives}
use Rattle.brep_file.proofs.reader.sections.with_polygons.Goals as goal

pub returns-in_err-entries : goal.returns-in_err-entries
unfolding from_polygons
returns-in_err-entries c =
    stops_with (λ (f : File). f) (from_polygons file_limits c.args.file) c.args.s.now c.section.new.s
    c.from_residual.result c.in_err-entries.field-0.0 c.from_residual.ensures.1
    (fails_then c.args.s.now _ (λ x. from_polygons_on file_limits (record c.args.file { polygons = x.0 }) x.1)
    c.in_err-entries.field-0.0 c.in_err-entries.ensures.given)

pub returns : goal.returns
unfolding from_polygons
returns c =
    then_gives (section_at (codes "Polygon3D") file_limits.entries polygon_at)
    (λ x. from_polygons_on file_limits (record c.args.file { polygons = x.0 }) x.1) c.args.s.now c.section.new.s
    c.with_polygons_on.new.s c.in_ok-entries.entries.items c.with_polygons_on.result c.in_ok-entries.ensures.given.0
    c.in_ok-entries.ensures.given.1
    (rw (← c.from_vec.ensures) c.with_polygons_on.ensures)
