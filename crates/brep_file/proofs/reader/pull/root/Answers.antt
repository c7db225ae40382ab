use Rattle.std.proofs.Common.{sym}
use Rattle.brep_file.specs.Giving.{front}
use Rattle.brep_file.specs.RecordLeft.{root_left}
use Rattle.brep_file.specs.RecordReading.{root_at}
use Rattle.brep_file.specs.declared.uses.FileUse.{FileUse}
use Rattle.brep_file.proofs.Pulling.{same_gives}
use Rattle.brep_file.proofs.reader.pull.root.Goals as goal

pub returns : goal.returns
returns c =
    same_gives (λ (root : FileUse). root) (root_at c.args.locations c.args.records) (root_left c.new.result)
    c.args.s.now c.part.new.s c.part.result
    (sym (c.new.ensures.left (front c.args.s.now))) c.part.ensures
