use Rattle.std.proofs.Common.{◌≡◌, List, ℕ, length, ◌-◌, ◌<◌}
use Rattle.brep_desk.specs.Shown.{writing}
use Rattle.brep_desk.specs.Strays.{KeepsStrays}
use Rattle.brep_desk.specs.WritingCalls.{NoFewerWritingCalls, RoseWritingCalls}
use Rattle.brep_desk.specs.Transfers.{Appended}
use Rattle.brep_desk.proofs.transfers.write_all.Given as goal

abbrev pub invariant-loop-taken : goal.invariant-loop-taken
invariant-loop-taken g l = record {
  no_fault : g.D.Desk.faults l.desk ≡ g.D.Desk.faults l.initial.desk;
  so_far : Appended g.D.Desk.tells (g.D.Desk.shows l.initial.desk) (g.D.Desk.shows l.desk) l.c.number l.bytes l.taken;
  strays : (name : List ℕ) → (g.D.Desk.shows l.initial.desk).opened l.c.number ≡ writing name
      → KeepsStrays g.D.Desk.tells (g.D.Desk.shows l.initial.desk) (g.D.Desk.shows l.desk);
  writing_calls : NoFewerWritingCalls g.D.Desk.tells (g.D.Desk.shows l.initial.desk) (g.D.Desk.shows l.desk);
  calls : 0 < l.taken → RoseWritingCalls g.D.Desk.tells (g.D.Desk.shows l.initial.desk) (g.D.Desk.shows l.desk);
  no_call : l.taken ≡ 0 → l.desk ≡ l.initial.desk;
}

abbrev pub decreases-loop-taken : goal.decreases-loop-taken
decreases-loop-taken g l = length l.bytes - l.taken
