-- What was added is dropped again.
use Rattle.std.proofs.Common.{◌∙◌, ap, take}
use Rattle.session.proofs.StepRows.{kept-first}
use Rattle.session.proofs.stepping.add_version.Goals as goal

pub returns-in-Err-clause-back : goal.returns-in-Err-clause-back
returns-in-Err-clause-back g c =
    c.back.ensures.rows ∙ ap (λ n. take n c.push_version.new.pool) c.mark-mark.ensures ∙
    kept-first c.args.pool.now c.push_version.new.pool c.push_version.ensures.kept
