-- The nodes that come of the keys so far.
use Rattle.std.proofs.Common.{◌≡◌, ◌≤◌, ◌+◌, ℕ, length}
use Rattle.shape_pool.specs.Rows.{HasPlaces}
use Rattle.shape_pool.specs.Calls.{Keeps, KeepsLoaded}
use Rattle.key_results.specs.Parts.{AreHeldParts}
use Rattle.key_results.specs.Grown.{AreNewOwn, Extends, KeepKinds, StandForOwn}
use Rattle.key_results.proofs.rebuild.nodes_of.Given as goal

abbrev pub invariant-loop-k : goal.invariant-loop-k
invariant-loop-k g l = record {
  long : length l.nodes.items ≡ l.k;
  within : l.k ≤ length l.visits;
  kinds : KeepKinds l.initial.pool l.pool l.visits l.nodes.items;
  stand : StandForOwn l.initial.pool l.pool l.visits l.outgrowths l.nodes.items;
  more : AreNewOwn l.initial.pool l.pool l.outgrowths l.nodes.items;
  extends : Extends l.initial.pool l.pool;
  kept : Keeps l.initial.pool l.pool;
  loaded : KeepsLoaded l.initial.pool l.pool;
  places : (n : ℕ) → HasPlaces l.initial.pool n → AreHeldParts n l.outgrowths → HasPlaces l.pool n;
  rise : l.initial.steps ≤ l.steps;
  most : l.steps ≤ l.initial.steps + l.k;
}
