-- The laws of bytes that are handed in.
use Rattle.std.specs.Prelude.{◌≡◌, ℕ, ◌<◌, ◌≤◌, List, [], ◌++◌, length, Result, OnErr, OnOk, IfErr, IfOk}
use Rattle.brep_desk.specs.Causes.{Rose}
use Rattle.brep_desk.specs.Shown.{Shown, Tells}
use Rattle.brep_desk.specs.Strays.{NoStrayOnWriting}
use Rattle.brep_desk.specs.WritingCalls.{NoFewerWritingCalls, RoseWritingCalls}
use Rattle.brep_desk.specs.Transfers.{Appended, AppendedAll}
use Rattle.brep_desk.specs.declared.transfers.WriteStop.{WriteStop}
use Rattle.byte_sink.specs.Sending.{Waiting, nothing_waits, counted_on, Sent, Stopped}
use Rattle.byte_sink.specs.Handing.{GivesText, IsText, Standing, Begins, Handed, Ends}
use Rattle.byte_sink.specs.declared.text.TextBytes.{TextBytes}

-- No bytes leave everything as it is. Pieces that are handed in one after another are one piece. A stop within a piece
-- is one within each longer piece, and so is a stop behind another piece.
pub record PiecesJoin : Type 0 where
  pub none : (t : Tells) (s : Shown) (c : ℕ) (p : Waiting) → Sent t s s c p p []
  pub joined : (t : Tells) (a b d : Shown) (c : ℕ) (p q r : Waiting) (x y : List ℕ)
      → Sent t a b c p q x → Sent t b d c q r y → Sent t a d c p r (x ++ y)
  pub stopped_later : (t : Tells) (a b d : Shown) (c : ℕ) (p q : Waiting) (x y : List ℕ) (taken : ℕ)
      → Sent t a b c p q x → Stopped t b d c q y taken → Stopped t a d c p (x ++ y) taken
  pub stopped_within : (t : Tells) (a b : Shown) (c : ℕ) (p : Waiting) (x y : List ℕ) (taken : ℕ)
      → Stopped t a b c p x taken → Stopped t a b c p (x ++ y) taken

-- the first bytes of the text were appended, so many as are told, and not all
abbrev pub AppendedPart : Tells → Shown → Shown → ℕ → List ℕ → ℕ → Type 0
AppendedPart t old new c text taken =
    (count : ℕ) × (count < length text) × (taken ≡ counted_on 0 count) × Appended t old new c text count

-- Where nothing waited and nothing was taken before a text: nothing waits after it exactly where all of it was
-- appended, which is told; and where it stopped, a part of it was.
pub record TextsAreWhole : Type 0 where
  pub appended : (t : Tells) (a b : Shown) (c : ℕ) (text : List ℕ) (taken : ℕ)
      → Sent t a b c (nothing_waits 0) (nothing_waits taken) text → AppendedAll t a b c text
  pub told : (t : Tells) (a b : Shown) (c : ℕ) (text : List ℕ) (taken : ℕ)
      → Sent t a b c (nothing_waits 0) (nothing_waits taken) text → taken ≡ counted_on 0 (length text)
  pub stopped : (t : Tells) (a b : Shown) (c : ℕ) (text : List ℕ) (taken : ℕ)
      → Stopped t a b c (nothing_waits 0) text taken → AppendedPart t a b c text taken

-- A text went out over a channel: all of it, which is told, or a part before a call of the desk failed.
pub record WentOut (t : Tells) (old : Shown) (before c : ℕ) (text : List ℕ) (b : Standing) (result : Result ℕ WriteStop)
    : Type 0 where
  pub later : before ≤ b.faults
  pub cause : OnErr result (Rose before b.faults)
  pub no_fault : OnOk result (b.faults ≡ before)
  pub whole : OnOk result (AppendedAll t old b.shown c text)
  pub told : IfOk result (λ n. n ≡ counted_on 0 (length text))
  pub part : IfErr result (λ e. AppendedPart t old b.shown c text e.taken)
  pub strays : NoStrayOnWriting t old b.shown c
  pub no_fewer_calls : OnOk result (NoFewerWritingCalls t old b.shown)
  pub calls : 0 < length text → RoseWritingCalls t old b.shown

-- A text that is handed in from the beginning, up to the end, has gone out whole or in part.
abbrev pub TextsGoOut : Type 0
TextsGoOut =
    (t : Tells) (old : Shown) (before c : ℕ) (a b d : Standing) (text : List ℕ) (result : Result ℕ WriteStop)
    → Begins old before c a → Handed t a b text → Ends t b d result → WentOut t old before c text d result

-- A text in memory that was empty holds at its end what was handed in.
abbrev pub TextsAreKept : Type 0
TextsAreKept = (a b : TextBytes) (x text : List ℕ) → IsText [] a → GivesText a x b → IsText text b → text ≡ x
