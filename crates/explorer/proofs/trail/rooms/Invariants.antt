-- So many rooms are made.
use Rattle.std.proofs.Common.{◌≡◌, ◌≤◌, length, vec_capacity}
use Rattle.explorer.specs.Trails.{HaveRoom}
use Rattle.explorer.proofs.trail.rooms.Given as goal

abbrev pub invariant-loop : goal.invariant-loop
invariant-loop l = record {
  made : length l.rooms.items ≡ l.counter;
  room : HaveRoom l.rooms.items;
  fits : l.count ≤ vec_capacity l.rooms;
}
