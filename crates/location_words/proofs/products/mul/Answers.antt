-- What stands where the words meet is their product.
use Rattle.std.proofs.Common.{◌++◌, take, option_to_list}
use Rattle.location_words.proofs.SeamLemmas.{whole-word}
use Rattle.location_words.proofs.products.mul.Goals as goal

pub joined-requires-clause-word : goal.joined-requires-clause-word
joined-requires-clause-word c =
    whole-word (take c.seam_of-seam.result.kept c.as_slice-first.result.now ++
    option_to_list c.seam_of-seam.result.joined) c.as_slice-second.result.now c.seam_of-seam.result.dropped
    (c.as_slice-first.result.now ++ c.as_slice-second.result.now) c.seam_of-seam.ensures.whole
