-- The last so far that allows them.
use Rattle.std.proofs.Common.{◌≡◌, take}
use Rattle.requests.specs.Numbered.{last_allowed}
use Rattle.requests.proofs.live.last_allowing.Given as goal

abbrev pub invariant-loop-r : goal.invariant-loop-r
invariant-loop-r l = l.found ≡ last_allowed (take l.r-index l.live) l.turn l.word.0
