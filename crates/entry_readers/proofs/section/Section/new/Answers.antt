use Rattle.entry_readers.proofs.Steps.{fresh_open}
use Rattle.entry_readers.proofs.section.Section.new.Goals as goal

pub returns-clause-open : goal.returns-clause-open
returns-clause-open g c = fresh_open g.R.EntryReader.read (g.R.EntryReader.left c.begin.result) c.new.result.items
    c.args.due c.requires c.begin.ensures.open
