-- Watchers that were handed in, and what an event changes.
use Rattle.std.specs.Prelude.{◌≡◌, ◌⊎◌, ◌≢◌, false, ◌∷◌, [], ℕ, List, Option, None, Some}
use Rattle.watchers.specs.declared.event.Answer.{Answer}
use Rattle.watchers.specs.declared.event.Answer.TheVariants as answers
use Rattle.watchers.specs.declared.event.Event.{Event}
use Rattle.watchers.specs.declared.slot.WatchRow.{WatchRow}
use Rattle.watchers.specs.declared.slot.WatchState.{WatchState}
use Rattle.watchers.specs.declared.slot.WatchState.TheVariants as states
use Rattle.watchers.specs.Watching.{Watching, IsWish, GoesOn, heard_after, counted_after, one_more}

-- a watcher's row, and the watcher unless it was dropped
pub record Told : Type 0 where
  pub row : WatchRow
  pub watcher : Option Watching

abbrev pub told_as : WatchRow → Option Watching → Told
told_as row watcher = record { row = row; watcher = watcher }

abbrev pub row_of : ℕ → WatchState → WatchRow
row_of told state = record { told = told; state = state }

-- one that was just handed in
abbrev pub fresh : Watching → Told
fresh w = told_as (row_of 0 states.Listening) (Some w)

-- a watcher that was told an event gave this answer
pub record Hears (old : Watching) (e : Event) (answer : Answer) (new : Watching) : Type 0 where
  pub wished : answer ≢ answers.NoMemory → IsWish old e answer
  pub short : answer ≡ answers.NoMemory → old.sure ≡ false
  pub sure : new.sure ≡ old.sure
  pub goes_on : answer ≡ answers.More → GoesOn old e new
  pub heard : new.heard ≡ heard_after answer e old.heard
  pub counted : new.counted ≡ counted_after answer old.counted

-- a row after a watcher's answer: it listens on only where it wishes for more
abbrev pub after : Answer → ℕ → Watching → Told
after answers.More told w = told_as (row_of (one_more told) states.Listening) (Some w)
after answers.Enough told w = told_as (row_of (one_more told) states.Enough) None
after answers.NoMemory told w = told_as (row_of told states.NoMemory) None

-- one that was dropped stays as it is; another is told the event
abbrev pub IsToldTo : Option Watching → Event → Told → Told → Type 0
IsToldTo None e old new = old ≡ new
IsToldTo (Some w) e old new =
    (answer : Answer) × (next : Watching) × Hears w e answer next × (new ≡ after answer old.row.told next)

abbrev pub IsTold : Event → Told → Told → Type 0
IsTold e old new = IsToldTo old.watcher e old new
