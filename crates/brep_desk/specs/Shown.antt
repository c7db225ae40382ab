-- What a desk may tell of itself: what its names hold and were given, and what its channels are for.
use Rattle.std.specs.Prelude.{◌≡◌, ◌≢◌, ℕ, Bool, true, false, IsTrue, List}
use Rattle.std.specs.Prelude.{[], ◌++◌, drop, Option, Some, None, unwrap_or}

-- what a channel is open for, by the bytes of the name
pub data ChannelState : Type 0 where
  closed : ChannelState
  reading : List ℕ → ChannelState
  writing : List ℕ → ChannelState

-- a name is its bytes, a channel its number
pub record Shown : Type 0 where
  -- the bytes that reading the name gives, if it is held
  pub held : List ℕ → Option (List ℕ)
  -- what is still to be read from a channel
  pub left : ℕ → List ℕ
  -- what was taken since writing of the name began, if it ever began
  pub written : List ℕ → Option (List ℕ)
  -- whether that writing was ended
  pub ended : List ℕ → Bool
  pub opened : ℕ → ChannelState
  -- how many stray calls were made: over a channel that is not open for them, of no bytes, or for a name that is
  -- not held
  pub strays : ℕ
  -- how many calls of writing were made: to begin writing, to write, and to end a channel of writing, failed ones
  -- included
  pub writing_calls : ℕ

-- which of these a desk tells; a desk that does not tell one shows the same of it at all times
pub record Tells : Type 0 where
  pub held : Bool
  pub left : Bool
  pub written : Bool
  pub ended : Bool
  pub opened : Bool
  pub strays : Bool
  pub writing_calls : Bool

abbrev pub tells_all : Tells
tells_all = record {
  held = true;
  left = true;
  written = true;
  ended = true;
  opened = true;
  strays = true;
  writing_calls = true;
}

abbrev pub tells_nothing : Tells
tells_nothing = record {
  held = false;
  left = false;
  written = false;
  ended = false;
  opened = false;
  strays = false;
  writing_calls = false;
}

abbrev pub shows_nothing : Shown
shows_nothing = record {
  held = λ _. None;
  left = λ _. [];
  written = λ _. None;
  ended = λ _. false;
  opened = λ _. closed;
  strays = 0;
  writing_calls = 0;
}

-- a desk that tells one of them tells what goes with it
pub record AreTold (t : Tells) : Type 0 where
  pub held : IsTrue t.held → IsTrue t.left
  pub left : IsTrue t.left → IsTrue t.opened
  pub written : IsTrue t.written → IsTrue t.ended
  pub ended : IsTrue t.ended → IsTrue t.opened
  pub strays : IsTrue t.strays → IsTrue t.opened
  pub writing_calls : IsTrue t.writing_calls → IsTrue t.opened

-- everything that is shown stays, the counts of calls apart
pub record Same (old new : Shown) : Type 0 where
  pub held : new.held ≡ old.held
  pub left : new.left ≡ old.left
  pub written : new.written ≡ old.written
  pub ended : new.ended ≡ old.ended
  pub opened : new.opened ≡ old.opened

-- new is old with this value at one place
pub record ChangesOnly {K A : Type 0} (old new : K → A) (place : K) (value : A) : Type 0 where
  pub here : new place ≡ value
  pub others : (k : K) → k ≢ place → new k ≡ old k

-- nothing is written under the name any more, and what is written under others stays
abbrev pub EmptiesOnly : (List ℕ → Option (List ℕ)) → (List ℕ → Option (List ℕ)) → List ℕ → Type 0
EmptiesOnly old new name = ChangesOnly old new name (Some [])

-- the bytes are appended to what is written under the name, and what is written under others stays
abbrev pub AppendsOnly : (List ℕ → Option (List ℕ)) → (List ℕ → Option (List ℕ)) → List ℕ → List ℕ → Type 0
AppendsOnly old new name bytes = ChangesOnly old new name (Some (unwrap_or (old name) [] ++ bytes))

-- so many bytes are taken from the front of what is left of the channel, and what is left of others stays
abbrev pub TakesOnly : (ℕ → List ℕ) → (ℕ → List ℕ) → ℕ → ℕ → Type 0
TakesOnly old new c count = ChangesOnly old new c (drop count (old c))
