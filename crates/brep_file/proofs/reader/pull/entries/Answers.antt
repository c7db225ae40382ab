use Rattle.std.proofs.Common.{[], sym}
use Rattle.entry_readers.specs.Entries.{entries_from, entries_left}
use Rattle.brep_file.specs.Giving.{front}
use Rattle.brep_file.proofs.EntryCount.{many_given}
use Rattle.brep_file.proofs.Pulling.{same_gives}
use Rattle.brep_file.proofs.reader.pull.entries.Goals as goal

pub returns-clause-given : goal.returns-clause-given
returns-clause-given g c =
    let read = g.R.EntryReader.read in
    same_gives (λ x. x.items) (entries_from read [] c.args.count)
    (entries_left read (g.R.EntryReader.left c.new-2.result.reader) c.new-2.result.entries.items c.new-2.result.due)
    c.args.s.now c.part.new.s c.part.result (sym (c.new-2.ensures.left (front c.args.s.now))) c.part.ensures

pub returns-clause-many : goal.returns-clause-many
returns-clause-many g c =
    many_given (λ x. x.items) g.R.EntryReader.read c.args.count c.args.s.now c.part.new.s c.part.result
    (returns-clause-given g c)
