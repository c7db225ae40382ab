-- The visit goes last.
use Rattle.std.proofs.Common.{◌∙◌, refl}
use Rattle.reshape.proofs.link.push_visit.Goals as goal

pub returns-clause-ok : goal.returns-clause-ok
returns-clause-ok c = c.push.ensures.items ∙ rw c.if-is_err.ensures.negation refl
