-- By what reading gives.
use Rattle.plan_rows.proofs.Given.{given-sound, given-small}
use Rattle.plan_rows.proofs.loads.file_of.Goals as goal

pub returns-clause-sound : goal.returns-clause-sound
returns-clause-sound c =
    given-sound c.reading_is_exact.ensures c.args.bytes.items c.read_file.result c.read_file.ensures

pub returns-clause-within : goal.returns-clause-within
returns-clause-within c =
    given-small c.reading_is_exact.ensures c.args.bytes.items c.read_file.result c.read_file.ensures
