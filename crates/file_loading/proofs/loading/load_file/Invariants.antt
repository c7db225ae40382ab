use Rattle.file_loading.specs.Loading.{IsLoadedTo}
use Rattle.file_loading.proofs.loading.load_file.Given as goal

abbrev pub invariant-records : goal.invariant-records
invariant-records l = IsLoadedTo l.file l.words l.pool l.at
