-- What a desk in memory shows and counts, and when its calls fail.
use Rattle.std.specs.Prelude.{◌≡◌, ◌≢◌, ◌==◌, ℕ, ◌-◌, ◌^◌, ◌≤◌, ◌⊎◌, min, Bool, false, IsTrue}
use Rattle.std.specs.Prelude.{List, length, slice_get, AllPairs, Option, Some, None, Result, OnOk, OnErr}
use Rattle.std.specs.List.{list_any}
use Rattle.brep_desk.specs.Shown.{Shown, ChannelState, closed, tells_all}
use Rattle.brep_desk.specs.Calls.{BeginsReading, ReadsInto, BeginsWriting}
use Rattle.brep_desk.specs.Causes.{raised, Rose}
use Rattle.brep_desk.specs.Counting.{after_call}
use Rattle.brep_desk.specs.Kept.{held_in, shown_by, IsNotReading, IsNotWriting}
use Rattle.brep_desk.specs.declared.desk.Chan.{Chan}
use Rattle.brep_desk.specs.declared.desk.Failed.{Failed}
use Rattle.brep_desk.specs.declared.memory.MemoryDesk.{MemoryDesk}

abbrev pub shown_of : MemoryDesk → Shown
shown_of d = shown_by d.files.items d.outputs.items d.channels.items d.counts

-- what reading the name gives, if it is held
abbrev pub held_of : MemoryDesk → List ℕ → Option (List ℕ)
held_of d name = (shown_of d).held name

-- what the channel with the number is open for
abbrev pub role_of : MemoryDesk → ℕ → ChannelState
role_of d c = (shown_of d).opened c

-- how many calls were made, failed, and failed for want of memory
abbrev pub calls_of : MemoryDesk → ℕ
calls_of d = d.counts.calls

abbrev pub faults_of : MemoryDesk → ℕ
faults_of d = d.counts.faults

abbrev pub short_of : MemoryDesk → ℕ
short_of d = d.counts.short

-- how many channels were opened, which is the number of the next one
abbrev pub channels_of : MemoryDesk → ℕ
channels_of d = length d.channels.items

-- the numbers of the calls that are to fail
abbrev pub failing_of : MemoryDesk → List ℕ
failing_of d = d.failing.items

-- how many bytes a call moves at most
abbrev pub piece_of : MemoryDesk → ℕ
piece_of d = d.piece

-- how many bytes a read with so much room moves: what is left, what there is room for, or a piece, the least of these
abbrev pub moved_by_read : MemoryDesk → ℕ → ℕ → ℕ
moved_by_read d c room = min (min (length ((shown_of d).left c)) room) (piece_of d)

-- each of the files is held
abbrev pub HoldsEach : Shown → List (List ℕ × List ℕ) → Type 0
HoldsEach s files = (i : ℕ) (file : List ℕ × List ℕ) → slice_get files i ≡ Some file → s.held file.0 ≡ Some file.1

-- none of the files has the name
abbrev pub HasNoFile : List (List ℕ × List ℕ) → List ℕ → Type 0
HasNoFile files name = (i : ℕ) (file : List ℕ × List ℕ) → slice_get files i ≡ Some file → file.0 ≢ name

-- A new desk holds these files. Nothing was written or ended on it, and no channel is open.
pub record Starts (d : MemoryDesk) (files : List (List ℕ × List ℕ)) (to_fail : List ℕ) (most : ℕ) : Type 0 where
  pub held : (shown_of d).held ≡ held_in files
  -- where the names are distinct, each file is held
  pub each_held : AllPairs (λ f g. f.0 ≢ g.0) files → HoldsEach (shown_of d) files
  pub no_other : (name : List ℕ) → HasNoFile files name → (shown_of d).held name ≡ None
  pub written : (name : List ℕ) → (shown_of d).written name ≡ None
  pub ended : (name : List ℕ) → (shown_of d).ended name ≡ false
  pub opened : (c : ℕ) → (shown_of d).opened c ≡ closed
  pub strays : (shown_of d).strays ≡ 0
  pub writing_calls : (shown_of d).writing_calls ≡ 0
  pub channels : channels_of d ≡ 0
  pub calls : calls_of d ≡ 0
  pub faults : faults_of d ≡ 0
  pub short : short_of d ≡ 0
  pub failing : failing_of d ≡ to_fail
  pub piece : piece_of d ≡ most

-- the reading of the name begins over the channel that is given
abbrev pub OpensForReading : MemoryDesk → MemoryDesk → List ℕ → Chan → Type 0
OpensForReading old new name c = BeginsReading tells_all (shown_of old) (shown_of new) name c.number

-- so many bytes are read over the channel to the front of the buffer
abbrev pub FillsBuffer : MemoryDesk → MemoryDesk → Chan → List ℕ → List ℕ → ℕ → Type 0
FillsBuffer old new c buffer filled count =
    ReadsInto tells_all (shown_of old) (shown_of new) c.number buffer filled count

-- the writing of the name begins over the channel that is given
abbrev pub OpensForWriting : MemoryDesk → MemoryDesk → List ℕ → Chan → Type 0
OpensForWriting old new name c = BeginsWriting tells_all (shown_of old) (shown_of new) name c.number

-- the count of stray calls is one more after a stray one, and as it was after another
abbrev pub OneStray : MemoryDesk → MemoryDesk → Bool → Type 0
OneStray old new stray = (shown_of new).strays ≡ after_call stray (shown_of old).strays

-- the count of calls of writing is one more after one of writing, and as it was after another
abbrev pub OneWritingCall : MemoryDesk → MemoryDesk → Bool → Type 0
OneWritingCall old new writing = (shown_of new).writing_calls ≡ after_call writing (shown_of old).writing_calls

-- What a call does to the counts: it has the next number, and a call that fails is one more fault.
pub record Counted {T : Type 0} (old new : MemoryDesk) (result : Result T Failed) : Type 0 where
  pub calls : calls_of new ≡ raised (calls_of old)
  pub fault : OnErr result (faults_of new ≡ raised (faults_of old))
  pub no_fault : OnOk result (faults_of new ≡ faults_of old)
  pub enough : OnOk result (short_of new ≡ short_of old)
  pub failing : failing_of new ≡ failing_of old
  pub piece : piece_of new ≡ piece_of old

-- the call that comes next is one of those that are to fail
abbrev pub IsToFail : MemoryDesk → Type 0
IsToFail d = IsTrue (list_any (λ n. n == raised (calls_of d)) (failing_of d))

-- only the last number is left for a channel
abbrev pub IsOutOfChannels : MemoryDesk → Type 0
IsOutOfChannels d = 2 ^ 64 - 1 ≤ channels_of d

-- why a call fails, want of memory apart
abbrev pub CannotBeginReading : MemoryDesk → List ℕ → Type 0
CannotBeginReading d name = IsToFail d ⊎ ((shown_of d).held name ≡ None ⊎ IsOutOfChannels d)

abbrev pub CannotRead : MemoryDesk → ℕ → Type 0
CannotRead d c = IsToFail d ⊎ IsNotReading ((shown_of d).opened c)

abbrev pub CannotBeginWriting : MemoryDesk → Type 0
CannotBeginWriting d = IsToFail d ⊎ IsOutOfChannels d

abbrev pub CannotWrite : MemoryDesk → ℕ → Type 0
CannotWrite d c = IsToFail d ⊎ IsNotWriting ((shown_of d).opened c)

abbrev pub CannotEnd : MemoryDesk → ℕ → Type 0
CannotEnd d c = IsToFail d ⊎ (shown_of d).opened c ≡ closed

-- the call found no memory
abbrev pub RanShort : MemoryDesk → MemoryDesk → Type 0
RanShort old new = Rose (short_of old) (short_of new)
