use Rattle.std.proofs.Common.{◌≡◌, ◌≢◌, ◌+◌, ◌-◌, ◌≤◌, IsTrue, List, ℕ, ◌++◌, length}
use Rattle.brep_desk.specs.Shown.{reading}
use Rattle.brep_desk.specs.Strays.{KeepsStrays}
use Rattle.brep_desk.specs.WritingCalls.{KeepsWritingCalls}
use Rattle.brep_desk.specs.Transfers.{NothingWritten}
use Rattle.brep_desk.proofs.transfers.read_rest.Given as goal

abbrev pub invariant-pieces : goal.invariant-pieces
invariant-pieces g l = record {
  no_fault : g.D.Desk.faults l.desk ≡ g.D.Desk.faults l.initial.desk;
  quiet : NothingWritten g.D.Desk.tells (g.D.Desk.shows l.initial.desk) (g.D.Desk.shows l.desk);
  opened : (g.D.Desk.shows l.desk).opened ≡ (g.D.Desk.shows l.initial.desk).opened;
  left : IsTrue g.D.Desk.tells.left
      → (g.D.Desk.shows l.initial.desk).left l.c.number ≡ l.bytes.items ++ (g.D.Desk.shows l.desk).left l.c.number;
  strays : (name : List ℕ) → (g.D.Desk.shows l.initial.desk).opened l.c.number ≡ reading name
      → KeepsStrays g.D.Desk.tells (g.D.Desk.shows l.initial.desk) (g.D.Desk.shows l.desk);
  others : IsTrue g.D.Desk.tells.left → (k : ℕ) → k ≢ l.c.number
      → (g.D.Desk.shows l.desk).left k ≡ (g.D.Desk.shows l.initial.desk).left k;
  writing_calls : KeepsWritingCalls g.D.Desk.tells (g.D.Desk.shows l.initial.desk) (g.D.Desk.shows l.desk);
  fits : length l.bytes.items ≤ l.limit + 1;
}

abbrev pub decreases-pieces : goal.decreases-pieces
decreases-pieces g l = l.limit + 1 - length l.bytes.items
