-- An event told to all watchers.
use Rattle.std.specs.Prelude.{List}
use Rattle.std.specs.List.{AllZip}
use Rattle.watchers.specs.declared.event.Event.{Event}
use Rattle.watchers.specs.Told.{Told, IsTold}

-- each is told the event where it listens
abbrev pub AreTold : Event → List Told → List Told → Type 0
AreTold e olds news = AllZip (IsTold e) olds news
