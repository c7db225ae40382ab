-- The members so far can be sewn, and their requests are given.
use Rattle.std.proofs.Common.{◌≡◌, All, take}
use Rattle.sewing.specs.Asked.{sewing}
use Rattle.sewing.specs.Refused.{CanBeSewn}
use Rattle.sewing.proofs.sewn.sew_to.Given as goal

abbrev pub invariant-loop-place : goal.invariant-loop-place
invariant-loop-place l =
    (l.asked ≡ sewing l.first (take l.place l.members)) × All (CanBeSewn l.pool l.first) (take l.place l.members)
