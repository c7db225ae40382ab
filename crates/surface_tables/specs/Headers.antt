-- Reading the code of a surface and the numbers in front of its decimals.
use Rattle.std.specs.Prelude.{ℕ, ◌*◌, ◌^◌, ◌&&◌, nat_le, nat_lt, Bool, if◌then◌else◌, List, [], ◌∷◌, Ok, Err}
use Rattle.lists.specs.Results.{◌>>=◌}
use Rattle.entry_readers.specs.Reading.{Read, more, fault, at_token, refused, flag_at, number_at}
use Rattle.brep_tokens.specs.declared.text.Token.{Token}
use Rattle.brep_tokens.specs.declared.fault.ReadCode.TheVariants as codes
use Rattle.surface_tables.specs.Bodies.{bezier_poles, body_of}
use Rattle.surface_tables.specs.declared.parts.Body.{Body}
use Rattle.surface_tables.specs.declared.parts.Form.TheVariants as forms

abbrev pub is_code : ℕ → Bool
is_code n = nat_le 1 n && nat_le n 11

-- the code of a surface, with its token
abbrev pub code_at : List Token → Read (ℕ × Token)
code_at [] = Err more
code_at (t ∷ ts) = number_at (t ∷ ts) >>= λ n. if is_code n.0 then Ok ((n.0, t), n.1)
    else Err (fault (at_token codes.UnknownCode n.0 0 t))

-- a number of which follows how many poles there are: a number of poles has at most 18 digits
abbrev pub sized_at : (ℕ → ℕ) → List Token → Read ℕ
sized_at poles [] = Err more
sized_at poles (t ∷ ts) = number_at (t ∷ ts) >>= λ n. if nat_lt (poles n.0) (10 ^ 18) then Ok n
    else Err (refused codes.TooMany t)

-- the u and v rational flags, the u and v degrees
abbrev pub bezier_at : List Token → Read Body
bezier_at ts = do
  urational ← flag_at ts
  vrational ← flag_at urational.1
  udegree ← number_at vrational.1
  vdegree ← sized_at (λ v. bezier_poles udegree.0 v) udegree.1
  Ok (body_of (forms.Bezier urational.0 vrational.0 udegree.0 vdegree.0), vdegree.1)

-- the u and v rational flags, two flags, the u and v degrees, the numbers of u poles, v poles, u knots and v knots
abbrev pub spline_at : List Token → Read Body
spline_at ts = do
  urational ← flag_at ts
  vrational ← flag_at urational.1
  uflag ← flag_at vrational.1
  vflag ← flag_at uflag.1
  udegree ← number_at vflag.1
  vdegree ← number_at udegree.1
  upoles ← number_at vdegree.1
  vpoles ← sized_at (λ v. upoles.0 * v) upoles.1
  uknots ← number_at vpoles.1
  vknots ← number_at uknots.1
  Ok (
    body_of (forms.BSpline
        (record {
          flags = record { urational = urational.0; vrational = vrational.0; uflag = uflag.0; vflag = vflag.0 };
          udegree = udegree.0;
          vdegree = vdegree.0;
          upoles = upoles.0;
          vpoles = vpoles.0;
        }) uknots.0 vknots.0),
    vknots.1,
  )
