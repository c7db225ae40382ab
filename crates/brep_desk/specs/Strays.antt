-- Stray calls, which a run in good order never makes, and how a desk counts them.
use Rattle.std.specs.Prelude.{◌≡◌, ◌==◌, ◌&&◌, ℕ, Bool, true, false, IsTrue, List, Option, is_none, is_some}
use Rattle.brep_desk.specs.Causes.{CountsCall}
use Rattle.brep_desk.specs.Shown.{ChannelState, closed, reading, writing, Shown, Tells}

-- where it is told what is held: the reading begins of a name that is not
abbrev pub is_stray_begin_read : Tells → Option (List ℕ) → Bool
is_stray_begin_read t content = t.held && is_none content

-- a read over a channel that is not open for it, or with no room for bytes
abbrev pub is_stray_read : ChannelState → ℕ → Bool
is_stray_read closed room = true
is_stray_read (reading name) room = room == 0
is_stray_read (writing name) room = true

-- a write over a channel that is not open for it, or of no bytes
abbrev pub is_stray_write : ChannelState → ℕ → Bool
is_stray_write closed count = true
is_stray_write (reading name) count = true
is_stray_write (writing name) count = count == 0

-- the end of a channel that is not open
abbrev pub is_stray_end : ChannelState → Bool
is_stray_end closed = true
is_stray_end (reading name) = false
is_stray_end (writing name) = false

-- where strays are told, a stray call raised their count, or left it at the last number of 64 bits, and any other call
-- kept it
abbrev pub CountsStrays : Tells → Shown → Shown → Bool → Type 0
CountsStrays t old new stray = CountsCall t.strays old.strays new.strays stray

-- the call that began to read the name counts as a stray one where it is told that the name is not held
abbrev pub StraysOnBegin : Tells → Shown → Shown → List ℕ → Type 0
StraysOnBegin t old new name = CountsStrays t old new (is_stray_begin_read t (old.held name))

-- the read over the channel, with so much room, counts as a stray one where it is one
abbrev pub StraysOnRead : Tells → Shown → Shown → ℕ → ℕ → Type 0
StraysOnRead t old new c room = CountsStrays t old new (is_stray_read (old.opened c) room)

-- the write over the channel, of so many bytes, counts as a stray one where it is one
abbrev pub StraysOnWrite : Tells → Shown → Shown → ℕ → ℕ → Type 0
StraysOnWrite t old new c count = CountsStrays t old new (is_stray_write (old.opened c) count)

-- the end of the channel counts as a stray call where the channel was not open
abbrev pub StraysOnEnd : Tells → Shown → Shown → ℕ → Type 0
StraysOnEnd t old new c = CountsStrays t old new (is_stray_end (old.opened c))

-- strays, where they are told, are as they were
abbrev pub KeepsStrays : Tells → Shown → Shown → Type 0
KeepsStrays t old new = IsTrue t.strays → new.strays ≡ old.strays

-- where it is told what is held, the name is
abbrev pub IsHeldIfTold : Tells → Shown → List ℕ → Type 0
IsHeldIfTold t s name = IsTrue t.held → IsTrue (is_some (s.held name))

-- no stray call was made, where the channel was open for reading
abbrev pub NoStrayOnReading : Tells → Shown → Shown → ℕ → Type 0
NoStrayOnReading t old new c = (name : List ℕ) → old.opened c ≡ reading name → KeepsStrays t old new

-- no stray call was made, where the channel was open for writing
abbrev pub NoStrayOnWriting : Tells → Shown → Shown → ℕ → Type 0
NoStrayOnWriting t old new c = (name : List ℕ) → old.opened c ≡ writing name → KeepsStrays t old new

-- no stray call was made, where the name was held, so far as that is told
abbrev pub NoStrayOnHeld : Tells → Shown → Shown → List ℕ → Type 0
NoStrayOnHeld t old new name = IsHeldIfTold t old name → KeepsStrays t old new
