-- Each watcher by itself, event by event.
use Rattle.watchers.proofs.HearingLaws.{watchers_hear}
use Rattle.watchers.proofs.laws.watchers_hear.Goals as goal

pub returns : goal.returns
returns c = watchers_hear
