use Rattle.std.specs.Prelude.{codes}
use Rattle.mesh_tables.specs.Meshes.{polygon_on_at}
use Rattle.brep_file.specs.Sound.{file_limits}
use Rattle.brep_file.specs.declared.file.File.{File}
use Rattle.brep_file.specs.FileReading.{from_polygons_on, from_surfaces}
use Rattle.brep_file.specs.SectionReading.{section_at}
use Rattle.brep_file.proofs.Pulling.{fails_then, stops_with, then_gives}
use Rattle.brep_file.proofs.reader.sections.with_polygons_on.Goals as goal

pub returns-in_err-entries : goal.returns-in_err-entries
unfolding from_polygons_on
returns-in_err-entries c =
    stops_with (λ (f : File). f) (from_polygons_on file_limits c.args.file) c.args.s.now c.section.new.s
    c.from_residual.result c.in_err-entries.field-0.0 c.from_residual.ensures.1
    (fails_then c.args.s.now _ (λ x. from_surfaces file_limits (record c.args.file { polygons_on = x.0 }) x.1)
    c.in_err-entries.field-0.0 c.in_err-entries.ensures.given)

pub returns : goal.returns
unfolding from_polygons_on
returns c =
    then_gives (section_at (codes "PolygonOnTriangulations") file_limits.entries polygon_on_at)
    (λ x. from_surfaces file_limits (record c.args.file { polygons_on = x.0 }) x.1) c.args.s.now c.section.new.s
    c.with_surfaces.new.s c.in_ok-entries.entries.items c.with_surfaces.result c.in_ok-entries.ensures.given.0
    c.in_ok-entries.ensures.given.1
    (rw (← c.from_vec.ensures) c.with_surfaces.ensures)
