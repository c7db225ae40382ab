-- The members so far are of the first one's kind, and their requests are given.
use Rattle.std.proofs.Common.{◌≡◌, All, take}
use Rattle.sewing.specs.Asked.{merging}
use Rattle.sewing.specs.Refused.{HasItsKind}
use Rattle.sewing.proofs.merged.merge.Given as goal

abbrev pub invariant-loop-place : goal.invariant-loop-place
invariant-loop-place l =
    (l.asked ≡ merging l.first (take l.place l.members)) × All (HasItsKind l.pool l.first) (take l.place l.members)
