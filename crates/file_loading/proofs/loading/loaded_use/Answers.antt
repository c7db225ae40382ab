use Rattle.std.proofs.Common.{refl}
use Rattle.std.proofs.lemmas.List.{get_or_default}
use Rattle.file_loading.proofs.loading.loaded_use.Goals as goal

pub returns : goal.returns
returns c = record {
  turn = refl;
  place = λ d lt. get_or_default c.args.ids.now c.args.used.location _ d lt;
  id = refl;
}
