use Rattle.std.proofs.Common.{◌∙◌, ◌++◌, ap, sym}
use Rattle.byte_sink.proofs.laws.texts_are_kept.Goals as goal

pub returns : goal.returns
returns c a b x text begins given ends =
    sym ends.bytes ∙ given.bytes ends.enough ∙ ap (λ t. t ++ x) begins.bytes
