use Rattle.std.proofs.Common.{refl}
use Rattle.brep_run.proofs.WritingOut.{part_then, part_kept, whole_then}
use Rattle.brep_run.proofs.output.write_out.Goals as goal

pub returns-in-Err-write_all-clause-stopped : goal.returns-in-Err-write_all-clause-stopped
returns-in-Err-write_all-clause-stopped g c =
    (refl, part_then _ g.met.D.Desk.told _ _ _ _ _ _ _ c.in-Ok.ensures.begins c.in-Err-write_all.ensures.part)

pub returns-in-Ok-end-clause-done : goal.returns-in-Ok-end-clause-done
returns-in-Ok-end-clause-done g c =
    whole_then _ g.met.D.Desk.told _ _ _ _ _ _ _ c.in-Ok.ensures.begins c.in-Ok-write_all.ensures.whole _ refl
    c.in-Ok-end.ensures.ends

pub returns-in-Err-end-clause-stopped : goal.returns-in-Err-end-clause-stopped
returns-in-Err-end-clause-stopped g c = (
  refl,
  part_kept _ g.met.D.Desk.told _ _ _ _ _ _ _ c.in-Ok.ensures.begins c.in-Ok-write_all.ensures.whole _
      c.in-Err-end.ensures.unchanged,
)
