use Rattle.brep_file.specs.FileReading.{from_curve2s, from_locations}
use Rattle.brep_file.specs.SectionReading.{location_section_at}
use Rattle.brep_file.specs.Sound.{file_limits}
use Rattle.brep_file.specs.declared.file.File.{File}
use Rattle.brep_file.proofs.Pulling.{fails_then, stops_with, then_gives}
use Rattle.brep_file.proofs.reader.sections.with_locations.Goals as goal

pub returns-in_err-locations : goal.returns-in_err-locations
unfolding from_locations
returns-in_err-locations c =
    stops_with (λ (f : File). f) (from_locations file_limits c.args.file) c.args.s.now c.location_section.new.s
    c.from_residual.result c.in_err-locations.field-0.0 c.from_residual.ensures.1
    (fails_then c.args.s.now _ (λ x. from_curve2s file_limits (record c.args.file { locations = x.0 }) x.1)
    c.in_err-locations.field-0.0 c.in_err-locations.ensures)

pub returns : goal.returns
unfolding from_locations
returns c =
    then_gives (location_section_at file_limits.entries)
    (λ x. from_curve2s file_limits (record c.args.file { locations = x.0 }) x.1) c.args.s.now
    c.location_section.new.s c.with_curve2s.new.s c.in_ok-locations.locations c.with_curve2s.result
    c.in_ok-locations.ensures.0 c.in_ok-locations.ensures.1
    c.with_curve2s.ensures
