use Rattle.std.proofs.Common.{List, sym}
use Rattle.location_table.specs.SectionLeft.{locations_left}
use Rattle.location_table.specs.Sections.{locations_at}
use Rattle.location_table.specs.declared.entry.LocationEntry.{LocationEntry}
use Rattle.brep_file.specs.Giving.{front}
use Rattle.brep_file.proofs.Pulling.{same_gives}
use Rattle.brep_file.proofs.reader.pull.locations.Goals as goal

pub returns : goal.returns
returns c =
    same_gives (λ (entries : List LocationEntry). entries) (locations_at c.args.count) (locations_left c.new-2.result)
    c.args.s.now c.part.new.s c.part.result
    (sym (c.new-2.ensures.left (front c.args.s.now))) c.part.ensures
