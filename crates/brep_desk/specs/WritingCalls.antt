-- Calls of writing: to begin writing, to write, and to end a channel of writing, whether they fail or not.
use Rattle.std.specs.Prelude.{◌≡◌, ℕ, ◌≤◌, Bool, true, false, IsTrue}
use Rattle.brep_desk.specs.Causes.{CountsCall, Rose}
use Rattle.brep_desk.specs.Shown.{ChannelState, closed, reading, writing, Shown, Tells}

-- the end of a channel that is open for writing
abbrev pub is_end_of_writing : ChannelState → Bool
is_end_of_writing closed = false
is_end_of_writing (reading name) = false
is_end_of_writing (writing name) = true

-- where calls of writing are told, such a call raised their count, or left it at the last number of 64 bits, and any
-- other call kept it
abbrev pub CountsWritingCall : Tells → Shown → Shown → Bool → Type 0
CountsWritingCall t old new counts = CountsCall t.writing_calls old.writing_calls new.writing_calls counts

-- the end of the channel counts as a call of writing where the channel was open for writing
abbrev pub CountsEndOfWriting : Tells → Shown → Shown → ℕ → Type 0
CountsEndOfWriting t old new c = CountsWritingCall t old new (is_end_of_writing (old.opened c))

-- the count of calls of writing, where it is told, is as it was
abbrev pub KeepsWritingCalls : Tells → Shown → Shown → Type 0
KeepsWritingCalls t old new = IsTrue t.writing_calls → new.writing_calls ≡ old.writing_calls

-- the count of calls of writing, where it is told, did not fall
abbrev pub NoFewerWritingCalls : Tells → Shown → Shown → Type 0
NoFewerWritingCalls t old new = IsTrue t.writing_calls → old.writing_calls ≤ new.writing_calls

-- the count of calls of writing, where it is told, rose, or stands at the last number of 64 bits
abbrev pub RoseWritingCalls : Tells → Shown → Shown → Type 0
RoseWritingCalls t old new = IsTrue t.writing_calls → Rose old.writing_calls new.writing_calls
