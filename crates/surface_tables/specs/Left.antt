-- What the reader of surfaces has still to read.
use Rattle.std.specs.Prelude.{◌≡◌, ◌-◌, ◌+◌, ℕ, List, IsSome, Option, Some, None, Ok, Result}
use Rattle.lists.specs.Results.{◌>>=◌}
use Rattle.entry_readers.specs.Reading.{Read}
use Rattle.entry_readers.specs.Takes.{IsOpen, Takes}
use Rattle.brep_tokens.specs.declared.fault.Progress.{Progress}
use Rattle.brep_tokens.specs.declared.fault.Progress.TheVariants as progress
use Rattle.brep_tokens.specs.declared.fault.ReadStop.{ReadStop}
use Rattle.brep_tokens.specs.declared.text.Token.{Token}
use Rattle.surface_tables.specs.Frames.{framed}
use Rattle.surface_tables.specs.PartLeft.{Waits, part_left}
use Rattle.surface_tables.specs.Surfaces.{closed, surface_in}
use Rattle.surface_tables.specs.declared.parts.Frame.{Frame}
use Rattle.surface_tables.specs.declared.parts.Part.{Part}
use Rattle.surface_tables.specs.declared.part.PartReader.{PartReader}
use Rattle.surface_tables.specs.declared.reader.SurfaceReader.{SurfaceReader}
use Rattle.surface_tables.specs.declared.surface.Surface.{Surface}

-- the surface that is read, in these frames
abbrev pub in_frames : List Frame → Read Surface → Read Surface
in_frames frames read = read >>= λ s. Ok (framed frames s.0, s.1)

-- after a part around which so many codes are open
abbrev pub inside : ℕ → Part → List Token → Read Surface
inside nest part ts = closed (surface_in (64 - (nest + 1))) part ts

abbrev pub closing : SurfaceReader → Part → List Token → Read Surface
closing r part ts = in_frames r.frames (inside r.part.nest part ts)

abbrev pub rest_of_surface : Option Surface → List Frame → PartReader → List Token → Read Surface
rest_of_surface None frames part ts = in_frames frames (part_left part ts >>= λ p. inside part.nest p.0 p.1)
rest_of_surface (Some s) frames part ts = Ok (s, ts)

-- What is left to read.
abbrev pub surface_left : SurfaceReader → List Token → Read Surface
surface_left r ts = rest_of_surface r.whole r.frames r.part ts

-- No token was refused yet, and one is due.
pub record IsWaiting (r : SurfaceReader) : Type 0 where
  pub none : r.whole ≡ None
  pub waits : Waits r.part

-- The surface is whole.
abbrev pub IsDone : SurfaceReader → Type 0
IsDone r = IsSome r.whole

-- a part was closed, and the surface is whole or goes on
abbrev pub Closes : (List Token → Read Surface) → SurfaceReader → Progress → Type 0
Closes old new progress.More = ((rest : List Token) → surface_left new rest ≡ old rest) × IsOpen (surface_left new)
    × IsWaiting new
Closes old new progress.Whole = ((rest : List Token) → surface_left new rest ≡ old rest) × IsDone new

-- A reader of a surface took a token: it waits for more, or the surface is whole.
abbrev pub TakesSurface : SurfaceReader → Token → SurfaceReader → Result Progress ReadStop → Type 0
TakesSurface old t new result = Takes (surface_left old) t (surface_left new) (IsWaiting new) (IsDone new) result
