-- What the reader of a part has still to read.
use Rattle.std.specs.Prelude.{◌≡◌, ◌<◌, ℕ, ◌+◌, nat_lt, if◌then◌else◌, List, ◌∷◌, Result, Ok, Err, Option, Some, None}
use Rattle.lists.specs.Results.{◌>>=◌}
use Rattle.entry_readers.specs.Reading.{Read, fault, at_token, knots_at}
use Rattle.entry_readers.specs.Left.{decimals_left, knots_left}
use Rattle.entry_readers.specs.Takes.{GoesOn, IsOpen, Stops}
use Rattle.brep_tokens.specs.declared.fault.ReadCode.TheVariants as codes
use Rattle.brep_tokens.specs.declared.fault.ReadFault.{ReadFault}
use Rattle.brep_tokens.specs.declared.fault.ReadStop.{ReadStop}
use Rattle.brep_tokens.specs.declared.text.Token.{Token}
use Rattle.curve_tables.specs.Left.{IsWaiting3, curve3_left}
use Rattle.surface_tables.specs.HeaderLeft.{bezier_left, counts_left, flags_left, step_left}
use Rattle.surface_tables.specs.Headers.{code_at}
use Rattle.surface_tables.specs.Surfaces.{after_texts, body_at, net_surface, part_at}
use Rattle.surface_tables.specs.declared.header.HeaderStep.{HeaderStep}
use Rattle.surface_tables.specs.declared.parts.Body.{Body}
use Rattle.surface_tables.specs.declared.parts.Form.{Form}
use Rattle.surface_tables.specs.declared.parts.Part.{Part}
use Rattle.surface_tables.specs.declared.parts.Part.TheVariants as parts
use Rattle.surface_tables.specs.declared.part.PartReader.{PartReader}
use Rattle.surface_tables.specs.declared.part.Stage.{Stage}
use Rattle.surface_tables.specs.declared.part.Stage.TheVariants as stages
use Rattle.surface_tables.specs.declared.surface.Surface.TheVariants as surfaces

abbrev pub AnswersCode : Token → Result ℕ ReadFault → Type 0
AnswersCode t (Ok n) = (rest : List Token) → code_at (t ∷ rest) ≡ Ok ((n, t), rest)
AnswersCode t (Err f) = (rest : List Token) → code_at (t ∷ rest) ≡ Err (fault f)

-- a code where so many are open around it, and what it begins
abbrev pub first_left : ℕ → List Token → Read Part
first_left nest ts = code_at ts >>= λ c. if nat_lt nest 64 then part_at (nest + 1) c.0.0 c.1
    else Err (fault (at_token codes.NestLimit 65 64 c.0.1))

-- decimals and the others, after the numbers
abbrev pub bodied : ℕ → Read Body → Read Part
bodied nest read = read >>= λ b. body_at nest b.0 b.1

-- so many decimals of a form, and the others
abbrev pub form_at : ℕ → Form → ℕ → List Token → Read Part
form_at nest form decimals ts = body_at nest (record { form = form; decimals = decimals }) ts

abbrev pub header_left : ℕ → HeaderStep → List Token → Read Part
header_left nest step ts = bodied nest (step_left step ts)

abbrev pub at_stage : Stage → PartReader → List Token → Read Part
at_stage stages.Code r ts = first_left r.nest ts
at_stage (stages.Bezier h) r ts = bodied (r.nest + 1) (bezier_left h ts)
at_stage (stages.Flags h) r ts = bodied (r.nest + 1) (flags_left h ts)
at_stage (stages.Counts h) r ts = bodied (r.nest + 1) (counts_left h ts)
at_stage (stages.Texts form) r ts = decimals_left r.texts ts >>= λ x. after_texts (r.nest + 1) form x.0 x.1
at_stage (stages.Curve code) r ts = curve3_left r.curve ts
    >>= λ c. Ok (parts.Leaf (surfaces.Swept code r.texts.texts c.0), c.1)
at_stage (stages.Uknots net vknots) r ts = knots_left r.uknots ts >>= λ u. knots_at vknots u.1
    >>= λ v. Ok (net_surface net r.texts.texts u.0 v.0, v.1)
at_stage (stages.Vknots net) r ts = knots_left r.vknots ts
    >>= λ v. Ok (net_surface net r.texts.texts (record { texts = r.uknots.texts; counts = r.uknots.counts }) v.0, v.1)

-- What is left to read.
abbrev pub part_left : PartReader → List Token → Read Part
part_left r ts = at_stage r.stage r ts

-- a token is due where the stage says so, and after the code at most 64 codes are open
abbrev pub IsDue : Stage → PartReader → Type 0
IsDue stages.Code r = Unit {0}
IsDue (stages.Bezier h) r = r.nest < 64
IsDue (stages.Flags h) r = r.nest < 64
IsDue (stages.Counts h) r = r.nest < 64
IsDue (stages.Texts form) r = (r.nest < 64) × (0 < r.texts.due)
IsDue (stages.Curve code) r = (r.nest < 64) × IsWaiting3 r.curve × IsOpen (curve3_left r.curve)
IsDue (stages.Uknots net vknots) r = (r.nest < 64) × (0 < r.uknots.due)
IsDue (stages.Vknots net) r = (r.nest < 64) × (0 < r.vknots.due)

-- A token is due.
abbrev pub Waits : PartReader → Type 0
Waits r = IsDue r.stage r

abbrev pub Same : (List Token → Read Part) → (List Token → Read Part) → Type 0
Same old new = (rest : List Token) → new rest ≡ old rest

abbrev pub Settles : (List Token → Read Part) → PartReader → Option Part → Type 0
Settles old new None = Same old (part_left new) × Waits new
Settles old new (Some part) = (rest : List Token) → old rest ≡ Ok (part, rest)

-- a token was taken, and what is left is settled
abbrev pub StepsPart : (List Token → Read Part) → Token → PartReader → Result (Option Part) ReadStop → Type 0
StepsPart old t new (Ok None) = GoesOn old t (part_left new) × Waits new
StepsPart old t new (Ok (Some part)) = ((rest : List Token) → old (t ∷ rest) ≡ Ok (part, rest)) × (new.nest < 64)
StepsPart old t new (Err e) = Stops old t e

-- The reader of a part took a token; it gives the part where it is whole.
abbrev pub TakesPart : (List Token → Read Part) → Token → PartReader → Result (Option Part) ReadStop → Type 0
TakesPart old t new (Ok None) = GoesOn old t (part_left new) × IsOpen (part_left new) × Waits new
TakesPart old t new (Ok (Some part)) = ((rest : List Token) → old (t ∷ rest) ≡ Ok (part, rest)) × (new.nest < 64)
TakesPart old t new (Err e) = Stops old t e
