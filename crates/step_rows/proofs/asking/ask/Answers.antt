-- One request more that a step may carry out.
use Rattle.std.proofs.Common.{length, sym, subst}
use Rattle.requests.specs.Numbered.{Table}
use Rattle.step_rows.specs.Ready.{AreReady}
use Rattle.step_rows.proofs.ReadyLaws.{one-more}
use Rattle.step_rows.proofs.asking.ask.Goals as goal

pub returns-in-Ok : goal.returns-in-Ok
returns-in-Ok c =
    subst (λ (t : Table). AreReady c.args.pool.now (length c.args.words.now) t.requests) (sym c.in-Ok.ensures.ok)
    (one-more c.args.pool.now (length c.args.words.now) c.args.table.now.requests c.args.r c.requires.ready
    c.requires.held c.requires.placed
    c.in-Ok.ensures.fit)
