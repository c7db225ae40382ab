use Rattle.std.proofs.Common.{◌≡◌, ◌++◌, map, option_map}
use Rattle.watchers.specs.Told.{fresh, told_as}
use Rattle.watchers.proofs.watchers.Watchers.new.Given as goal

abbrev pub invariant-loop-watcher : goal.invariant-loop-watcher
invariant-loop-watcher g l =
    map (λ s. told_as s.row (option_map (λ b. (goal.Watcher-dyn g (b.vtable, b.value)).shows b.value) s.watcher))
    l.slots.items
    ++ map (λ b. fresh ((goal.Watcher-dyn g (b.vtable, b.value)).shows b.value)) l.watcher-iterator.rest.items
    ≡ map (λ b. fresh ((goal.Watcher-dyn g (b.vtable, b.value)).shows b.value)) l.fn.list.items
