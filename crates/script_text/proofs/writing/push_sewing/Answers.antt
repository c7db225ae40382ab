use Rattle.std.proofs.Common.{ap, map}
use Rattle.script_text.specs.Spelling.{spell_mention}
use Rattle.script_text.specs.Writing.{sewn_mention}
use Rattle.script_text.proofs.WrittenWords.{joined_after}
use Rattle.script_text.proofs.writing.push_sewing.Goals as goal

pub returns : goal.returns
returns c =
    joined_after _ _ _ _ _ _ c.in_ok-extend_from_slice.ensures.items
    (ap (λ ns. map spell_mention (map sewn_mention ns)) c.as_slice.ensures) c.in_ok-push_sewn.ensures
