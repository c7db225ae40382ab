-- The keys so far are added.
use Rattle.std.proofs.Common.{take}
use Rattle.reshape.specs.Collecting.{AreJoined}
use Rattle.reshape.proofs.memo.add_keys.Given as goal

abbrev pub invariant-loop-key : goal.invariant-loop-key
invariant-loop-key l = AreJoined (take l.key-index l.own) l.initial.keys.keys l.keys.keys
