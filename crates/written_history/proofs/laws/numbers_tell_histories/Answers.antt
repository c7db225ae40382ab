use Rattle.brep_file.specs.PlainRecords.{plain_records, plain_root}
use Rattle.written_history.proofs.ToldLaws.{tells-history}
use Rattle.written_history.proofs.laws.numbers_tell_histories.Goals as goal

pub returns : goal.returns
returns c = λ f words root order steps h file given ordered is_root numbered.
    tells-history c.args.pool.now c.laws.ensures (λ g is. c.records_are_trees.ensures (plain_records g) (plain_root g) is) c.roots_are_written.ensures
    c.pairs_stand.ensures f words root order steps h file given (c.sound_files_have_trees.ensures f given.sound) ordered is_root numbered
