use Rattle.entry_readers.specs.Entries.{entries_from}
use Rattle.std.proofs.Common.{[]}
use Rattle.brep_file.specs.Giving.{front}
use Rattle.brep_file.specs.SectionReading.{heading_at, section_at}
use Rattle.brep_file.specs.Sound.{file_limits}
use Rattle.brep_file.proofs.Pulling.{fails_then, stops_with}
use Rattle.brep_file.proofs.reader.pull.section.Goals as goal

pub returns-in_err-count-clause-given : goal.returns-in_err-count-clause-given
returns-in_err-count-clause-given g c =
    let read = g.R.EntryReader.read in
    stops_with (λ x. x.items) (section_at c.args.word.now file_limits.entries read) c.args.s.now c.heading.new.s
    c.from_residual.result c.in_err-count.field-0.0 c.from_residual.ensures.1
    (fails_then c.args.s.now (heading_at c.args.word.now file_limits.entries (front c.args.s.now))
    (λ n. entries_from read [] n.0 n.1) c.in_err-count.field-0.0 c.in_err-count.ensures.given)
