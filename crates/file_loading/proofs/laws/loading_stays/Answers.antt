use Rattle.file_loading.proofs.StayLaws.{loading-stays}
use Rattle.file_loading.proofs.laws.loading_stays.Goals as goal

pub returns : goal.returns
returns c = loading-stays
