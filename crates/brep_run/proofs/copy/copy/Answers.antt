use Rattle.std.proofs.Common.{refl}
use Rattle.brep_run.proofs.Reading.{copied-after, due-copy}
use Rattle.brep_run.proofs.Stopping.{stopped_after}
use Rattle.brep_run.proofs.copy.copy.Goals as goal

pub returns-in-Ok-write_copy-clause-done : goal.returns-in-Ok-write_copy-clause-done
returns-in-Ok-write_copy-clause-done g c =
    copied-after g.D.Desk.tells (g.D.Desk.shows c.args.desk.now) _ _ c.in-Ok.ensures.quiet c.in-Ok.ensures.closes
    c.args.source.now c.args.target.now _
    (due-copy g.D.Desk.tells (g.D.Desk.shows c.args.desk.now) c.args.source.now _ c.in-Ok.file
    c.in-Ok.ensures.read refl)
    c.in-Ok-write_copy.outcome c.in-Ok-write_copy.ensures.done

pub returns-in-Ok-write_copy-clause-stopped : goal.returns-in-Ok-write_copy-clause-stopped
returns-in-Ok-write_copy-clause-stopped g c =
    stopped_after g.D.Desk.tells (g.D.Desk.shows c.args.desk.now) _ _ c.args.source.now c.args.target.now _
    c.in-Ok.ensures.quiet
    (due-copy g.D.Desk.tells (g.D.Desk.shows c.args.desk.now) c.args.source.now _ c.in-Ok.file
    c.in-Ok.ensures.read refl)
    c.in-Ok-write_copy.outcome c.in-Ok-write_copy.ensures.stopped
