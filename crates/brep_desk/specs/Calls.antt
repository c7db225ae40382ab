-- What the calls of a desk do where they succeed. A call that fails changes nothing that is shown.
use Rattle.std.specs.Prelude.{◌≡◌, ◌≢◌, ℕ, ◌<◌, ◌≤◌, Bool, true, false, IsTrue, List, [], length, take, Some}
use Rattle.brep_desk.specs.Shown.{ChannelState, closed, reading, writing, Shown, Tells}
use Rattle.brep_desk.specs.Shown.{ChangesOnly, EmptiesOnly, AppendsOnly, TakesOnly}

-- A channel is open for reading the name, and has all that the name holds.
pub record BeginsReading (t : Tells) (old new : Shown) (name : List ℕ) (c : ℕ) : Type 0 where
  pub held : new.held ≡ old.held
  pub written : new.written ≡ old.written
  pub ended : new.ended ≡ old.ended
  pub opened : IsTrue t.opened → ChangesOnly old.opened new.opened c (reading name)
  pub left : IsTrue t.left → (k : ℕ) → k ≢ c → new.left k ≡ old.left k
  pub gives : IsTrue t.held → old.held name ≡ Some (new.left c)

-- The first bytes of what is left are given, and taken from it. None, with room for some, is the end.
pub record Reads (t : Tells) (old new : Shown) (c : ℕ) (room count : ℕ) (given : List ℕ) : Type 0 where
  pub held : new.held ≡ old.held
  pub written : new.written ≡ old.written
  pub ended : new.ended ≡ old.ended
  pub opened : new.opened ≡ old.opened
  pub fits : count ≤ room
  pub is_open : IsTrue t.opened → (name : List ℕ) × (old.opened c ≡ reading name)
  pub left : IsTrue t.left → TakesOnly old.left new.left c count
  pub bytes : IsTrue t.left → given ≡ take count (old.left c)
  pub at_end : IsTrue t.left → 0 < room → count ≡ 0 → old.left c ≡ []

-- A channel is open for writing the name, under which nothing is written yet.
pub record BeginsWriting (t : Tells) (old new : Shown) (name : List ℕ) (c : ℕ) : Type 0 where
  pub held : new.held ≡ old.held
  pub left : new.left ≡ old.left
  pub written : IsTrue t.written → EmptiesOnly old.written new.written name
  pub ended : IsTrue t.ended → ChangesOnly old.ended new.ended name false
  pub opened : IsTrue t.opened → ChangesOnly old.opened new.opened c (writing name)

-- The bytes that were read stand at the front of the buffer, which is all the room that there is.
abbrev pub ReadsInto : Tells → Shown → Shown → ℕ → List ℕ → List ℕ → ℕ → Type 0
ReadsInto t old new c buffer filled count = Reads t old new c (length buffer) count (take count filled)

-- The first bytes of those handed in are appended under the channel's name, at least one if there is one.
pub record Writes (t : Tells) (old new : Shown) (c : ℕ) (bytes : List ℕ) (count : ℕ) : Type 0 where
  pub held : new.held ≡ old.held
  pub left : new.left ≡ old.left
  pub ended : new.ended ≡ old.ended
  pub opened : new.opened ≡ old.opened
  pub fits : count ≤ length bytes
  pub some : 0 < length bytes → 0 < count
  pub is_open : IsTrue t.opened → (name : List ℕ) × (old.opened c ≡ writing name)
  pub written : IsTrue t.written
      → (name : List ℕ) → old.opened c ≡ writing name → AppendsOnly old.written new.written name (take count bytes)

-- whether writing of the channel's name has ended, after it was closed
abbrev pub EndsName : ChannelState → (List ℕ → Bool) → (List ℕ → Bool) → Type 0
EndsName closed old new = new ≡ old
EndsName (reading name) old new = new ≡ old
EndsName (writing name) old new = ChangesOnly old new name true

-- The channel is closed, and what is left of it stays. If it was one of writing, its name is ended.
pub record Ends (t : Tells) (old new : Shown) (c : ℕ) : Type 0 where
  pub held : new.held ≡ old.held
  pub left : new.left ≡ old.left
  pub written : new.written ≡ old.written
  pub ended : IsTrue t.ended → EndsName (old.opened c) old.ended new.ended
  pub opened : IsTrue t.opened → ChangesOnly old.opened new.opened c closed
  pub is_open : IsTrue t.opened → old.opened c ≢ closed
