-- What a watcher has heard after events that were told one after another, and what became of it.
use Rattle.std.specs.Prelude.{◌≡◌, ◌<◌, ◌+◌, ◌≤◌, ℕ, min, true, false, List, length, take, Option, None, Some}
use Rattle.std.specs.List.{AllByRecursion, AllZip, FoldsTo}
use Rattle.watchers.specs.declared.event.Event.{Event}
use Rattle.watchers.specs.declared.slot.WatchState.{WatchState}
use Rattle.watchers.specs.declared.slot.WatchState.TheVariants as states
use Rattle.watchers.specs.Watching.{Watching, most_counted}
use Rattle.watchers.specs.Told.{Told, fresh}
use Rattle.watchers.specs.TellsAll.{AreTold}

-- events are told to all watchers, one after another
abbrev pub AreAllTold : List Event → List Told → List Told → Type 0
AreAllTold es olds news = FoldsTo (λ old e new. AreTold e old new) olds es news

-- it wished for more at each of the first n events
abbrev pub WishedMore : Watching → List Event → ℕ → Type 0
WishedMore w es n = (k : ℕ) → 0 < k → k ≤ n → w.wishes_more (take k es) ≡ true

-- Of these events it has heard the first n. It listens where it has heard all, and wished for more each time. It had
-- enough where it wished so before the last that it heard, and not at that one. It found no memory where it hasn't
-- heard all, wished for more each time, and isn't sure to find memory.
abbrev pub IsStateAfter : Watching → List Event → ℕ → WatchState → Type 0
IsStateAfter w es n states.Listening = (n ≡ length es) × WishedMore w es n
IsStateAfter w es n states.Enough =
    (k : ℕ) × (n ≡ k + 1) × (n ≤ length es) × WishedMore w es k × (w.wishes_more (take n es) ≡ false)
IsStateAfter w es n states.NoMemory = (n < length es) × WishedMore w es n × (w.sure ≡ false)

-- it is kept exactly where it listens
abbrev pub IsKept : WatchState → Option Watching → Type 0
IsKept states.Listening (Some w) = Unit {0}
IsKept states.Listening None = ⊥
IsKept state None = Unit {0}
IsKept state (Some w) = ⊥

-- what became of a watcher that listened, and had been told so many before
pub record HasHeard (w : Watching) (told : ℕ) (es : List Event) (b : Told) : Type 0 where
  pub count : ℕ
  pub state : IsStateAfter w es count b.row.state
  pub told_on : b.row.told ≡ min (told + count) most_counted
  pub kept : IsKept b.row.state b.watcher

-- one that was dropped stays as it was
abbrev pub HearsBy : Option Watching → Told → List Event → Told → Type 0
HearsBy None a es b = a ≡ b
HearsBy (Some w) a es b = HasHeard w a.row.told es b

-- each in its place
abbrev pub AllHear : List Event → List Told → List Told → Type 0
AllHear es olds news = AllZip (λ a b. HearsBy a.watcher a es b) olds news

-- a row's count has 64 bits, and a watcher is kept exactly where it listens
pub record IsRow (a : Told) : Type 0 where
  pub counted : a.row.told ≤ most_counted
  pub kept : IsKept a.row.state a.watcher

-- Whatever events are told one after another, each watcher hears as it wishes; and rows stay rows.
pub record WatchersHear : Type 0 where
  pub heard : (es : List Event) (olds news : List Told) → AllByRecursion IsRow olds → AreAllTold es olds news →
      AllHear es olds news
  pub rows : (es : List Event) (olds news : List Told) → AllByRecursion IsRow olds → AreAllTold es olds news →
      AllByRecursion IsRow news
  pub begun : (w : Watching) → IsRow (fresh w)
