-- A surface inside so many codes.
use Rattle.std.proofs.Common.{◌≡◌, ℕ, zero, suc, ◌-◌, ◌+◌, ◌≤◌, List, [], ◌∷◌, ◌++◌, Ok, Err, None, ◌∙◌, refl, ap}
use Rattle.std.proofs.Common.{arith, true, false, if◌then◌else◌}
use Rattle.std.specs.Prelude.{nat_lt}
use Rattle.std.proofs.lemmas.Bool.Decides.{nat_tests}
use Rattle.lists.specs.Results.{◌>>=◌}
use Rattle.entry_readers.specs.Reading.{Read, more, fault, at_token}
use Rattle.brep_tokens.specs.declared.text.Token.{Token}
use Rattle.brep_tokens.specs.declared.fault.ReadCode.TheVariants as codes
use Rattle.surface_tables.specs.Frames.{framed_by}
use Rattle.surface_tables.specs.Headers.{code_at}
use Rattle.surface_tables.specs.Left.{in_frames, inside, rest_of_surface}
use Rattle.surface_tables.specs.PartLeft.{first_left, part_left}
use Rattle.surface_tables.specs.Surfaces.{closed, part_at, surface_in}
use Rattle.surface_tables.specs.declared.parts.Frame.{Frame}
use Rattle.surface_tables.specs.declared.part.PartReader.{PartReader}
use Rattle.surface_tables.specs.declared.surface.Surface.{Surface}
use Rattle.surface_tables.proofs.FrameLaws.{framed_last}

none_inside : (nest : ℕ) → nat_lt nest 64 ≡ false → (r : Read (ℕ × Token))
    → ((r >>= λ c. if nat_lt nest 64 then part_at (nest + 1) c.0.0 c.1
    else Err (fault (at_token codes.NestLimit 65 64 c.0.1))) >>= λ p. inside nest p.0 p.1)
    ≡ (r >>= λ c. Err (fault (at_token codes.NestLimit 65 64 c.0.1)))
none_inside nest full (Ok c) = rw full refl
none_inside nest full (Err e) = refl

some_inside : (nest n : ℕ) → nat_lt nest 64 ≡ true → nest + 1 ≡ 64 - n → 64 - (nest + 1) ≡ n → (r : Read (ℕ × Token))
    → ((r >>= λ c. if nat_lt nest 64 then part_at (nest + 1) c.0.0 c.1
    else Err (fault (at_token codes.NestLimit 65 64 c.0.1))) >>= λ p. inside nest p.0 p.1)
    ≡ (r >>= λ c. part_at (64 - n) c.0.0 c.1 >>= λ p. closed (surface_in n) p.0 p.1)
some_inside nest n rooms around room (Ok c) =
    rw rooms (ap (λ k. part_at (nest + 1) c.0.0 c.1 >>= λ p. closed (surface_in k) p.0 p.1) room
    ∙ ap (λ k. part_at k c.0.0 c.1 >>= λ p. closed (surface_in n) p.0 p.1) around)
some_inside nest n rooms around room (Err e) = refl

at_room : (nest room : ℕ) → nest + room ≡ 64 → (ts : List Token)
    → (first_left nest ts >>= λ p. inside nest p.0 p.1) ≡ surface_in room ts
at_room nest zero e ts = none_inside nest (grind (arith, nat_tests, e)) (code_at ts)
at_room nest (suc n) e ts = some_inside nest n (grind (arith, nat_tests, e)) (omega (arith, e))
    (omega (arith, e)) (code_at ts)

-- where so many codes are open, the others of 64 may come
pub fresh : (nest : ℕ) → nest ≤ 64 → (ts : List Token)
    → (first_left nest ts >>= λ p. inside nest p.0 p.1) ≡ surface_in (64 - nest) ts
fresh nest le ts = at_room nest (64 - nest) (omega (arith, le)) ts

pub no_frames : (r : Read Surface) → in_frames [] r ≡ r
no_frames (Ok s) = refl
no_frames (Err e) = refl

-- the surface inside a frame, in the frames around it
pub deeper : (fs : List Frame) (f : Frame) (r : Read Surface)
    → in_frames fs (r >>= λ b. Ok (framed_by f b.0, b.1)) ≡ in_frames (fs ++ f ∷ []) r
deeper fs f (Ok b) = rw (framed_last fs f b.0) refl
deeper fs f (Err e) = refl

-- a part that is not begun
pub begun : (part : PartReader) (nest : ℕ) → nest ≤ 64 → part.nest ≡ nest
    → ((ts : List Token) → part_left part ts ≡ first_left nest ts) → (fs : List Frame) (ts : List Token)
    → rest_of_surface None fs part ts ≡ in_frames fs (surface_in (64 - nest) ts)
begun part nest le is left fs ts =
    ap (λ r. in_frames fs (r >>= λ p. inside part.nest p.0 p.1)) (left ts)
    ∙ ap (λ n. in_frames fs (first_left nest ts >>= λ p. inside n p.0 p.1)) is
    ∙ ap (in_frames fs) (fresh nest le ts)

pub none_read : (part : PartReader) → part_left part [] ≡ Err more → (fs : List Frame)
    → rest_of_surface None fs part [] ≡ Err more
none_read part e fs = ap (λ r. in_frames fs (r >>= λ p. inside part.nest p.0 p.1)) e
