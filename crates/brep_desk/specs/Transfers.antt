-- What a whole read and a whole write leave.
use Rattle.std.specs.Prelude.{◌≡◌, ◌≢◌, ℕ, ◌<◌, ◌≤◌, IsTrue, List, ◌++◌, length, take, Some, ◌⊎◌}
use Rattle.brep_desk.specs.Shown.{closed, writing, Shown, Tells, ChangesOnly}
use Rattle.brep_desk.specs.declared.transfers.WriteStop.{WriteStop}

-- The first `taken` bytes of a text were appended under the channel's name, and nothing else changed.
pub record Appended (t : Tells) (old new : Shown) (c : ℕ) (text : List ℕ) (taken : ℕ) : Type 0 where
  pub held : new.held ≡ old.held
  pub left : new.left ≡ old.left
  pub ended : new.ended ≡ old.ended
  pub opened : new.opened ≡ old.opened
  pub fits : taken ≤ length text
  pub is_open : IsTrue t.opened → 0 < taken → (name : List ℕ) × (old.opened c ≡ writing name)
  pub written : IsTrue t.written
      → (name before : List ℕ) → old.opened c ≡ writing name → old.written name ≡ Some before
      → ChangesOnly old.written new.written name (Some (before ++ take taken text))
  pub nothing : taken ≡ 0 → new.written ≡ old.written

-- all bytes of a text were appended under the channel's name
abbrev pub AppendedAll : Tells → Shown → Shown → ℕ → List ℕ → Type 0
AppendedAll t old new c text = Appended t old new c text (length text)

-- the bytes of a text up to the stop were appended under the channel's name
abbrev pub AppendedUpTo : Tells → Shown → Shown → ℕ → List ℕ → WriteStop → Type 0
AppendedUpTo t old new c text stop = Appended t old new c text stop.taken

-- no channel is open that was not open before
abbrev pub NoMoreOpen : Shown → Shown → Type 0
NoMoreOpen old new = (c : ℕ) → new.opened c ≡ old.opened c ⊎ new.opened c ≡ closed

-- where it is told what channels are open: none is that was not open before
abbrev pub OpensNone : Tells → Shown → Shown → Type 0
OpensNone t old new = IsTrue t.opened → NoMoreOpen old new

-- Nothing was written or ended.
pub record NothingWritten (t : Tells) (old new : Shown) : Type 0 where
  pub held : new.held ≡ old.held
  pub written : IsTrue t.written → new.written ≡ old.written
  pub ended : IsTrue t.ended → new.ended ≡ old.ended

-- the name holds more bytes than the limit
abbrev pub IsLonger : Tells → Shown → List ℕ → ℕ → Type 0
IsLonger t old name limit = IsTrue t.held → (bytes : List ℕ) × (old.held name ≡ Some bytes) × (limit < length bytes)

-- more bytes than the limit were left of the channel
abbrev pub IsMoreLeft : Tells → Shown → ℕ → ℕ → Type 0
IsMoreLeft t old c limit = IsTrue t.left → limit < length (old.left c)

-- the bytes are all that was left of the channel, and no more than the limit
abbrev pub IsAllLeft : Tells → Shown → ℕ → ℕ → List ℕ → Type 0
IsAllLeft t old c limit bytes = (length bytes ≤ limit) × (IsTrue t.left → old.left c ≡ bytes)

-- the bytes are all that the name holds, and no more than the limit
abbrev pub IsAllHeld : Tells → Shown → List ℕ → ℕ → List ℕ → Type 0
IsAllHeld t old name limit bytes = (length bytes ≤ limit) × (IsTrue t.held → old.held name ≡ Some bytes)

-- what is left of an input is what was left of it, without at most so many bytes at its front
abbrev pub TakesAtMost : ℕ → List ℕ → List ℕ → Type 0
TakesAtMost most old new = (bytes : List ℕ) × (old ≡ bytes ++ new) × (length bytes ≤ most)

-- where it is told what is left: of the channel at most so many bytes were taken
abbrev pub TakesOfChannel : Tells → Shown → Shown → ℕ → ℕ → Type 0
TakesOfChannel t old new c most = IsTrue t.left → TakesAtMost most (old.left c) (new.left c)

-- where it is told what is left: it stays of every channel but this one
abbrev pub LeavesOthers : Tells → Shown → Shown → ℕ → Type 0
LeavesOthers t old new c = IsTrue t.left → (k : ℕ) → k ≢ c → new.left k ≡ old.left k

-- Of the name at most so many bytes were taken, over one channel; what is left of every other stays.
pub record TakenFrom (t : Tells) (old new : Shown) (name : List ℕ) (most : ℕ) : Type 0 where
  pub channel : ℕ
  pub others : (k : ℕ) → k ≢ channel → new.left k ≡ old.left k
  pub taken : IsTrue t.held
      → (bytes : List ℕ) × (old.held name ≡ Some bytes) × TakesAtMost most bytes (new.left channel)

-- where it is told what is left: nothing was taken, or at most so many bytes of the name
abbrev pub TakesOfName : Tells → Shown → Shown → List ℕ → ℕ → Type 0
TakesOfName t old new name most = IsTrue t.left → (new.left ≡ old.left) ⊎ TakenFrom t old new name most
