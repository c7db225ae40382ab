-- Bytes on their way to a channel of a desk, of which the last wait.
use Rattle.std.specs.Prelude.{◌≡◌, ℕ, ◌+◌, ◌-◌, ◌^◌, ◌<◌, min, List, [], ◌++◌, length, Result, Ok, Err}
use Rattle.brep_desk.specs.Shown.{Shown, Tells}
use Rattle.brep_desk.specs.Strays.{NoStrayOnWriting}
use Rattle.brep_desk.specs.WritingCalls.{NoFewerWritingCalls, RoseWritingCalls}
use Rattle.brep_desk.specs.Transfers.{Appended}
use Rattle.brep_desk.specs.declared.transfers.WriteStop.{WriteStop}

-- the bytes that wait, and how many the channel took before them
pub record Waiting : Type 0 where
  pub bytes : List ℕ
  pub taken : ℕ

-- no bytes wait
abbrev pub nothing_waits : ℕ → Waiting
nothing_waits taken = record { bytes = []; taken = taken }

-- a count of bytes goes on by so many, up to the last number of 64 bits
abbrev pub counted_on : ℕ → ℕ → ℕ
counted_on taken more = taken + min more (2 ^ 64 - 1 - taken)

-- A piece came behind the bytes that waited, and the channel took those that no longer wait.
pub record Sent (t : Tells) (old new : Shown) (c : ℕ) (before after : Waiting) (piece : List ℕ) : Type 0 where
  pub gone : List ℕ
  pub appended : Appended t old new c gone (length gone)
  pub joined : before.bytes ++ piece ≡ gone ++ after.bytes
  pub taken : after.taken ≡ counted_on before.taken (length gone)
  pub strays : NoStrayOnWriting t old new c
  pub writing_calls : NoFewerWritingCalls t old new
  pub calls : 0 < length gone → RoseWritingCalls t old new

-- The channel took the first bytes of those that waited and of the piece, so many as are told, and not all.
pub record Stopped (t : Tells) (old new : Shown) (c : ℕ) (before : Waiting) (piece : List ℕ) (taken : ℕ) : Type 0 where
  pub count : ℕ
  pub short : count < length (before.bytes ++ piece)
  pub appended : Appended t old new c (before.bytes ++ piece) count
  pub told : taken ≡ counted_on before.taken count
  pub strays : NoStrayOnWriting t old new c
  pub calls : RoseWritingCalls t old new

abbrev pub Sends : Tells → Shown → Shown → ℕ → Waiting → Waiting → List ℕ → Result Unit WriteStop → Type 0
Sends t old new c before after piece (Ok _) = Sent t old new c before after piece
Sends t old new c before after piece (Err e) = Stopped t old new c before piece e.taken
