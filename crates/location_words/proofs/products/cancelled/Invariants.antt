-- The pairs passed cancel.
use Rattle.std.proofs.Common.{◌≡◌, ◌-◌, ◌++◌, take, drop, length}
use Rattle.location_words.specs.Pairs.{norm}
use Rattle.location_words.proofs.products.cancelled.Given as goal

abbrev pub invariant-loop-gone : goal.invariant-loop-gone
invariant-loop-gone l = norm (take (length l.inner - l.gone) l.inner ++ drop l.gone l.outer) ≡ norm (l.inner ++ l.outer)
