use Rattle.std.proofs.Common.{sym, ◌∙◌}
use Rattle.brep_file.specs.RecordLeft.{bounds_of}
use Rattle.brep_file.proofs.reader.record.head_reader.Goals as goal

pub returns-clause-few : goal.returns-clause-few
returns-clause-few c = λ ts rest head e.
    ((c.heads_are_exact.ensures (record (bounds_of c.args.bounds).tables { reps = c.args.reps }) c.args.bounds.version
    c.requires.few).takes ts rest head (sym (c.new.ensures.left ts) ∙ e)).1.few
