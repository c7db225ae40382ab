-- What files, outputs and channels that are kept in memory show.
use Rattle.std.specs.Prelude.{◌≡◌, ℕ, zero, suc, ◌≤◌, ◌-◌, ◌^◌, ◌⊎◌, Bool, true, false, if◌then◌else◌, nat_eq, IsTrue}
use Rattle.std.specs.Prelude.{List, [], ◌∷◌, length, drop, Option, Some, None, is_some}
use Rattle.std.specs.Borrow.{Bor}
use Rattle.std.specs.Cmp.Lexicographic.{pointwise}
use Rattle.brep_desk.specs.Shown.{ChannelState, closed, reading, writing, Shown, tells_all, EmptiesOnly, AppendsOnly}
use Rattle.brep_desk.specs.Calls.{BeginsReading, BeginsWriting, Writes, Ends}
use Rattle.brep_desk.specs.declared.outputs.Output.{Output}
use Rattle.brep_desk.specs.declared.channels.Channel.{Channel}
use Rattle.brep_desk.specs.declared.channels.State.{State}
use Rattle.brep_desk.specs.declared.channels.State.TheVariants.{Closed, Reading, Writing}
use Rattle.brep_desk.specs.declared.counts.Counts.{Counts}

-- the bytes of the first file with the name
abbrev pub held_in : List (List ℕ × List ℕ) → List ℕ → Option (List ℕ)
held_in [] name = None
held_in (f ∷ fs) name = if pointwise nat_eq f.0 name then Some f.1 else held_in fs name

-- a property of the first output with the name, or what stands for none
abbrev pub of_output : {A : Type 0} → (Output → A) → A → List Output → List ℕ → A
of_output f d [] name = d
of_output f d (o ∷ os) name = if pointwise nat_eq o.name name then f o else of_output f d os name

abbrev pub bytes_of : Output → Option (List ℕ)
bytes_of o = Some o.bytes

abbrev pub is_ended : Output → Bool
is_ended o = o.ended

abbrev pub written_in : List Output → List ℕ → Option (List ℕ)
written_in = of_output bytes_of None

abbrev pub ended_in : List Output → List ℕ → Bool
ended_in = of_output is_ended false

abbrev pub left_of : Channel → List ℕ
left_of c = drop c.at c.bytes

-- a channel over the name in the state
abbrev pub state_over : State → List ℕ → ChannelState
state_over Closed name = closed
state_over Reading name = reading name
state_over Writing name = writing name

abbrev pub state_of : Channel → ChannelState
state_of c = state_over c.state c.name

-- a property of the channel with the number, or what stands for none
abbrev pub of_channel : {A : Type 0} → (Channel → A) → A → List Channel → ℕ → A
of_channel f d [] k = d
of_channel f d (c ∷ cs) zero = f c
of_channel f d (c ∷ cs) (suc k) = of_channel f d cs k

abbrev pub left_in : List Channel → ℕ → List ℕ
left_in = of_channel left_of []

abbrev pub state_in : List Channel → ℕ → ChannelState
state_in = of_channel state_of closed

abbrev pub shown_by : List (List ℕ × List ℕ) → List Output → List Channel → Counts → Shown
shown_by files outputs channels counts = record {
  held = held_in files;
  left = left_in channels;
  written = written_in outputs;
  ended = ended_in outputs;
  opened = state_in channels;
  strays = counts.strays;
  writing_calls = counts.writing_calls;
}

-- nothing is written under the name any more, and what is written under others stays
abbrev pub Empties : List Output → List Output → List ℕ → Type 0
Empties old new name = EmptiesOnly (written_in old) (written_in new) name

-- the bytes are appended to what is written under the name, and what is written under others stays
abbrev pub Appends : List Output → List Output → List ℕ → List ℕ → Type 0
Appends old new name bytes = AppendsOnly (written_in old) (written_in new) name bytes

-- whatever is written and counted: the reading of the name of one of the files begins over the channel
abbrev pub OpensInput : List (List ℕ × List ℕ) → List Channel → List Channel → List ℕ → ℕ → Type 0
OpensInput files old new name c = (outputs : List Output) (before after : Counts)
    → BeginsReading tells_all (shown_by files outputs old before) (shown_by files outputs new after) name c

-- whatever is held and counted: the writing of the name begins over the channel
abbrev pub OpensOutput : List Output → List Output → List Channel → List Channel → List ℕ → ℕ → Type 0
OpensOutput outputs begun old new name c = (files : List (List ℕ × List ℕ)) (before after : Counts)
    → BeginsWriting tells_all (shown_by files outputs old before) (shown_by files begun new after) name c

-- whatever is held and counted: the first bytes, so many, are written over the channel
abbrev pub FillsOutput : List Output → List Output → List Channel → ℕ → List ℕ → ℕ → Type 0
FillsOutput old new channels c bytes count = (files : List (List ℕ × List ℕ)) (before after : Counts)
    → Writes tells_all (shown_by files old channels before) (shown_by files new channels after) c bytes count

-- whatever is held and counted: the channel is closed
abbrev pub ClosesChannel : List Output → List Output → List Channel → List Channel → ℕ → Type 0
ClosesChannel outputs ended old new c = (files : List (List ℕ × List ℕ)) (before after : Counts)
    → Ends tells_all (shown_by files outputs old before) (shown_by files ended new after) c

-- the name is not held, or only the last number is left for a channel
abbrev pub CannotOpenInput : List (List ℕ × List ℕ) → List Channel → List ℕ → Type 0
CannotOpenInput files channels name = held_in files name ≡ None ⊎ 2 ^ 64 - 1 ≤ length channels

-- a reference to bytes, or none
abbrev pub Shows : Option (Bor (List ℕ)) → Option (List ℕ) → Type 0
Shows None told = told ≡ None
Shows (Some b) told = told ≡ Some b.now

-- the first output with the name stands at this place
abbrev pub IsPlace : List Output → List ℕ → ℕ → Type 0
IsPlace [] name i = ⊥
IsPlace (o ∷ os) name zero = pointwise nat_eq o.name name ≡ true
IsPlace (o ∷ os) name (suc i) = (pointwise nat_eq o.name name ≡ false) × IsPlace os name i

-- there is an output with the name
abbrev pub IsBegun : List Output → List ℕ → Type 0
IsBegun outputs name = IsTrue (is_some (written_in outputs name))

-- each channel that is open for writing has an output
abbrev pub AllBegun : List Output → List Channel → Type 0
AllBegun outputs channels = (k : ℕ) (name : List ℕ) → state_in channels k ≡ writing name → IsBegun outputs name

-- the channel is not open for reading
abbrev pub IsNotReading : ChannelState → Type 0
IsNotReading closed = Unit {0}
IsNotReading (reading name) = ⊥
IsNotReading (writing name) = Unit {0}

-- the channel is not open for writing
abbrev pub IsNotWriting : ChannelState → Type 0
IsNotWriting closed = Unit {0}
IsNotWriting (reading name) = Unit {0}
IsNotWriting (writing name) = ⊥
