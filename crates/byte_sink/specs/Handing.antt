-- What takes bytes piece by piece, and what is left of it.
use Rattle.std.specs.Prelude.{◌≡◌, ◌≤◌, ℕ, false, List, [], ◌++◌, Option, Some, None, Result, IfOk, IfErr}
use Rattle.std.specs.Borrow.{GName}
use Rattle.brep_desk.specs.Causes.{Rose}
use Rattle.brep_desk.specs.Shown.{Shown, Tells}
use Rattle.brep_desk.specs.declared.transfers.WriteStop.{WriteStop}
use Rattle.byte_sink.specs.Sending.{Waiting, nothing_waits, Sent, Stopped}
use Rattle.byte_sink.specs.declared.sink.Sink.{Sink}
use Rattle.byte_sink.specs.declared.text.TextBytes.{TextBytes}

-- No bytes leave it as it is, and pieces that are handed in one after another are one text.
pub record TextsJoin {S : Type 0} (gives : S → List ℕ → S → Type 0) : Type 0 where
  pub none : (a : S) → gives a [] a
  pub joined : (a b d : S) (x y : List ℕ) → gives a x b → gives b y d → gives a (x ++ y) d

-- whatever is handed in, it stays as it is
abbrev pub TakesNoMore : {S : Type 0} → (S → List ℕ → S → Type 0) → S → Type 0
TakesNoMore gives a = (x : List ℕ) → gives a x a

-- ---- a text in memory

-- the text, for which memory was never short
pub record IsText (text : List ℕ) (a : TextBytes) : Type 0 where
  pub enough : a.short ≡ false
  pub bytes : a.bytes.items ≡ text

-- Where memory wasn't short up to the end, the bytes came behind those before.
pub record GivesText (a : TextBytes) (x : List ℕ) (b : TextBytes) : Type 0 where
  pub enough : b.short ≡ false → a.short ≡ false
  pub bytes : b.short ≡ false → b.bytes.items ≡ a.bytes.items ++ x

-- ---- a channel

-- where a channel that takes bytes stands
pub record Standing : Type 0 where
  -- which desk it is over, by the name of the reference to it
  pub desk : GName
  pub shown : Shown
  pub faults : ℕ
  pub channel : ℕ
  pub waiting : Waiting
  -- why it has stopped, if it has
  pub stop : Option WriteStop

abbrev pub standing : {D : Type 0} → (D → Shown) → (D → ℕ) → Sink D → Standing
standing shows faults s = record {
  desk = s.desk.ghost_name;
  shown = shows s.desk.now;
  faults = faults s.desk.now;
  channel = s.channel.number;
  waiting = s.waiting;
  stop = s.stop;
}

-- Nothing was handed in over the channel, nothing was taken, and it hasn't stopped.
pub record Begins (old : Shown) (before c : ℕ) (a : Standing) : Type 0 where
  pub shown : a.shown ≡ old
  pub faults : a.faults ≡ before
  pub channel : a.channel ≡ c
  pub waiting : a.waiting ≡ nothing_waits 0
  pub stop : a.stop ≡ None

-- The bytes were taken or wait.
pub record GoesOn (t : Tells) (a b : Standing) (x : List ℕ) : Type 0 where
  pub faults : b.faults ≡ a.faults
  pub sent : Sent t a.shown b.shown a.channel a.waiting b.waiting x

-- A call of the desk failed: of the bytes that waited and of these the channel took the first ones.
pub record StopsAt (t : Tells) (a b : Standing) (x : List ℕ) (stop : WriteStop) : Type 0 where
  pub later : a.faults ≤ b.faults
  pub faults : Rose a.faults b.faults
  pub stopped : Stopped t a.shown b.shown a.channel a.waiting x stop.taken

-- by whether it had stopped before, and has stopped after
abbrev pub HandedBy : Tells → Standing → Standing → List ℕ → Option WriteStop → Option WriteStop → Type 0
HandedBy t a b x None None = GoesOn t a b x
HandedBy t a b x None (Some stop) = StopsAt t a b x stop
HandedBy t a b x (Some stop) None = ⊥
HandedBy t a b x (Some stop) (Some later) = (b ≡ a) × (later ≡ stop)

-- Bytes were handed in over the channel.
pub record Handed (t : Tells) (a b : Standing) (x : List ℕ) : Type 0 where
  pub desk : b.desk ≡ a.desk
  pub channel : b.channel ≡ a.channel
  pub handed : HandedBy t a b x a.stop b.stop

abbrev pub GivesSink : {D : Type 0} → Tells → (D → Shown) → (D → ℕ) → Sink D → List ℕ → Sink D → Type 0
GivesSink t shows faults a x b = Handed t (standing shows faults a) (standing shows faults b) x

-- All that waited was taken, so many bytes in all; or a call of the desk has failed, now or before.
pub record Ends (t : Tells) (a b : Standing) (result : Result ℕ WriteStop) : Type 0 where
  pub handed : Handed t a b []
  pub taken : IfOk result (λ n. (b.stop ≡ None) × (b.waiting ≡ nothing_waits n))
  pub stopped : IfErr result (λ e. b.stop ≡ Some e)
