-- What was put is a word within the limits.
use Rattle.std.proofs.Common.{◌∙◌, ◌++◌, take, sym, option_to_list}
use Rattle.location_words.proofs.FaultLemmas.{limits_tell}
use Rattle.location_words.proofs.SeamLemmas.{whole-word}
use Rattle.location_words.proofs.room.mul_into.Goals as goal

pub returns-clause-held : goal.returns-clause-held
returns-clause-held c =
    let is_word =
    whole-word (take c.seam_of-seam.result.kept c.as_slice-first.result.now ++
    option_to_list c.seam_of-seam.result.joined) c.args.outer.now c.seam_of-seam.result.dropped
    (c.as_slice-first.result.now ++ c.args.outer.now) c.seam_of-seam.ensures.whole in
    rw c.put.ensures.items
    (record {
      is_word = is_word;
      few = ((limits_tell _).0 (sym c.fault_of_parts.ensures ∙ c.in_default.is)).0;
      small = ((limits_tell _).0 (sym c.fault_of_parts.ensures ∙ c.in_default.is)).1;
    })
