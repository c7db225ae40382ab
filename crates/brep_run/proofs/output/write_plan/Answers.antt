use Rattle.std.proofs.Common.{refl}
use Rattle.brep_run.proofs.WritingOut.{counted-told, part_then, part_kept, whole_then}
use Rattle.brep_run.proofs.output.write_plan.Goals as goal

pub returns-in-Err-emit-clause-stopped : goal.returns-in-Err-emit-clause-stopped
returns-in-Err-emit-clause-stopped g c =
    let part = c.in-Err-emit.ensures.part in (
      refl,
      (
        part.0,
        counted-told part.0 _ part.2,
        part_then _ g.met.D.Desk.told _ _ _ _ _ _ _ c.in-Ok.ensures.begins part.3,
      ),
    )

pub returns-in-Ok-end-clause-done : goal.returns-in-Ok-end-clause-done
returns-in-Ok-end-clause-done g c =
    whole_then _ g.met.D.Desk.told _ _ _ _ _ _ _ c.in-Ok.ensures.begins c.in-Ok-emit.ensures.whole _ refl
    c.in-Ok-end.ensures.ends

pub returns-in-Err-end-clause-stopped : goal.returns-in-Err-end-clause-stopped
returns-in-Err-end-clause-stopped g c = (
  refl,
  (
    _,
    counted-told _ _ c.in-Ok-emit.ensures.length,
    part_kept _ g.met.D.Desk.told _ _ _ _ _ _ _ c.in-Ok.ensures.begins c.in-Ok-emit.ensures.whole _
        c.in-Err-end.ensures.unchanged,
  ),
)
