-- A text on its way to a desk by pieces, of which the last waits.
use Rattle.std.specs.Prelude.{◌≡◌, ℕ, ◌+◌, ◌-◌, ◌^◌, ◌<◌, min, List, ◌++◌, length, Result, Ok, Err}
use Rattle.brep_desk.specs.Shown.{writing, Shown, Tells}
use Rattle.brep_desk.specs.Strays.{KeepsStrays}
use Rattle.brep_desk.specs.WritingCalls.{NoFewerWritingCalls, RoseWritingCalls}
use Rattle.brep_desk.specs.Transfers.{Appended}
use Rattle.brep_desk.specs.declared.transfers.WriteStop.{WriteStop}

-- what waits, and how many bytes the desk took before it
pub record Waiting : Type 0 where
  pub bytes : List ℕ
  pub taken : ℕ

-- a count of bytes, which stands still at the last number of 64 bits
abbrev pub counted : ℕ → ℕ
counted n = min n (2 ^ 64 - 1)

abbrev pub KeepsStraysIfOpen : Tells → Shown → Shown → ℕ → Type 0
KeepsStraysIfOpen t old new c = (name : List ℕ) → old.opened c ≡ writing name → KeepsStrays t old new

-- The whole text was appended.
abbrev pub AppendedWhole : Tells → Shown → Shown → ℕ → List ℕ → Type 0
AppendedWhole t old new c text = Appended t old new c text (length text)

-- The first bytes of the text were appended, so many as are told, and not all.
abbrev pub AppendedPart : Tells → Shown → Shown → ℕ → List ℕ → ℕ → Type 0
AppendedPart t old new c text taken =
    (count : ℕ) × (count < length text) × (taken ≡ counted count) × Appended t old new c text count

-- A text came behind what waited, and the desk took what no longer waits.
pub record Sent (t : Tells) (old new : Shown) (c : ℕ) (before after : Waiting) (text : List ℕ) : Type 0 where
  pub gone : List ℕ
  pub appended : Appended t old new c gone (length gone)
  pub joined : before.bytes ++ text ≡ gone ++ after.bytes
  pub taken : after.taken ≡ counted (before.taken + length gone)
  pub strays : KeepsStraysIfOpen t old new c
  pub writing_calls : NoFewerWritingCalls t old new
  pub calls : 0 < length gone → RoseWritingCalls t old new

-- The desk took so many bytes, up to the last number, and failed before the text's end.
pub record Stopped (t : Tells) (old new : Shown) (c : ℕ) (before : Waiting) (text : List ℕ) (taken : ℕ) : Type 0 where
  pub count : ℕ
  pub short : count < length (before.bytes ++ text)
  pub appended : Appended t old new c (before.bytes ++ text) count
  pub told : taken ≡ counted (before.taken + count)
  pub strays : KeepsStraysIfOpen t old new c
  pub calls : RoseWritingCalls t old new

abbrev pub Sends : Tells → Shown → Shown → ℕ → Waiting → Waiting → List ℕ → Result Unit WriteStop → Type 0
Sends t old new c before after text (Ok _) = Sent t old new c before after text
Sends t old new c before after text (Err e) = Stopped t old new c before text e.taken
