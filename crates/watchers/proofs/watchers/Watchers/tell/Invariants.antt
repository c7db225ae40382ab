use Rattle.std.proofs.Common.{◌≡◌, length, option_map}
use Rattle.watchers.specs.Told.{told_as}
use Rattle.watchers.proofs.TellingLaws.{ToldUpTo}
use Rattle.watchers.proofs.watchers.Watchers.tell.Given as goal

abbrev pub invariant-loop-i : goal.invariant-loop-i
invariant-loop-i g l =
    ToldUpTo
    (λ s. told_as s.row (option_map (λ b. (goal.Watcher-dyn g (b.vtable, b.value)).shows b.value) s.watcher))
    l.e l.i l.initial.self.slots.items l.self.slots.items × (length l.self.slots.items ≡ length l.initial.self.slots.items)
