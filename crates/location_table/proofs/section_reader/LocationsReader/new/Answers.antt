-- No entry is begun.
use Rattle.std.proofs.Common.{[]}
use Rattle.location_table.specs.Left.{location_left}
use Rattle.location_table.proofs.SectionLaws.{fresh}
use Rattle.location_table.proofs.section_reader.LocationsReader.new.Goals as goal

pub returns-clause-left : goal.returns-clause-left
returns-clause-left c ts =
    rw c.new.ensures (fresh (location_left [] c.new-2.result) [] c.args.due c.requires.0 (c.new-2.ensures.left []) ts)
