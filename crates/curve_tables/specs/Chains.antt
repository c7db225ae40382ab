-- Reading a curve in either dimension: the trimmed and offset curves around it, then the curve itself.
use Rattle.std.specs.Prelude.{ℕ, zero, suc, ◌+◌, ◌*◌, ◌==◌, ◌&&◌, nat_le, Bool, if◌then◌else◌, List, [], ◌∷◌, ◌++◌, Ok}
use Rattle.std.specs.Prelude.{Err}
use Rattle.lists.specs.Results.{◌>>=◌}
use Rattle.entry_readers.specs.Reading.{Knots, Read, at_token, decimals_at, fault, flag_at, knots_at, more, number_at}
use Rattle.brep_tokens.specs.declared.text.Token.{Token}
use Rattle.brep_tokens.specs.declared.fault.ReadCode.TheVariants as codes
use Rattle.curve_tables.specs.Counts.{per_pole, plain_size, wrap_size}
use Rattle.curve_tables.specs.declared.parts.Dimension.{Dimension}
use Rattle.curve_tables.specs.declared.parts.Form.{Form}
use Rattle.curve_tables.specs.declared.parts.Form.TheVariants as forms
use Rattle.curve_tables.specs.declared.parts.Frame.{Frame}
use Rattle.curve_tables.specs.declared.parts.Wrap.{Wrap}
use Rattle.curve_tables.specs.declared.parts.Wrap.TheVariants.{Trimmed, Offset}

-- a curve taken apart: what stands around it, the outermost first, and itself
pub record Chain : Type 0 where
  pub frames : List Frame
  pub form : Form
  pub texts : List (List ℕ)
  pub knots : Knots

abbrev pub is_code : ℕ → Bool
is_code n = nat_le 1 n && nat_le n 9

-- the code of a curve, with its token
abbrev pub code_at : List Token → Read (ℕ × Token)
code_at [] = Err more
code_at (t ∷ ts) = number_at (t ∷ ts) >>= λ n. if is_code n.0 then Ok ((n.0, t), n.1)
    else Err (fault (at_token codes.UnknownCode n.0 0 t))

module _ (d : Dimension) (frames : List Frame) where
  -- so many decimals, then so many knots
  abbrev pub leaf_at : Form → ℕ → ℕ → List Token → Read Chain
  leaf_at form size count ts = do
    texts ← decimals_at size ts
    knots ← knots_at count texts.1
    Ok (record { frames = frames; form = form; texts = texts.0; knots = knots.0 }, knots.1)

  -- a rational flag, the degree, degree + 1 poles
  abbrev pub bezier_at : List Token → Read Chain
  bezier_at ts = do
    rational ← flag_at ts
    degree ← number_at rational.1
    leaf_at (forms.Bezier rational.0 degree.0) ((degree.0 + 1) * per_pole d rational.0) 0 degree.1

  -- a rational flag, a flag, the degree, the numbers of poles and of knots, the poles, the knots
  abbrev pub spline_at : List Token → Read Chain
  spline_at ts = do
    rational ← flag_at ts
    flag ← flag_at rational.1
    degree ← number_at flag.1
    poles ← number_at degree.1
    knots ← number_at poles.1
    leaf_at (forms.BSpline rational.0 flag.0 degree.0 poles.0) (poles.0 * per_pole d rational.0) knots.0 knots.1

module _ (d : Dimension) where
  -- decimals, then the basis
  abbrev pub wrapped_at : Wrap → List Frame → (List Frame → List Token → Read Chain) → List Token → Read Chain
  wrapped_at wrap frames basis ts = do
    texts ← decimals_at (wrap_size d wrap) ts
    basis (frames ++ record { wrap = wrap; texts = texts.0 } ∷ []) texts.1

  -- what a code begins
  abbrev pub coded_at : List Frame → (List Frame → List Token → Read Chain) → ℕ → List Token → Read Chain
  coded_at frames basis code ts =
      if code == 6 then bezier_at d frames ts
      else (if code == 7 then spline_at d frames ts
      else (if code == 8 then wrapped_at Trimmed frames basis ts
      else (if code == 9 then wrapped_at Offset frames basis ts
      else leaf_at d frames (forms.Plain code) (plain_size d code) 0 ts)))

-- A curve inside these frames, of at most so many further codes.
abbrev pub chain_at : Dimension → ℕ → List Frame → List Token → Read Chain
chain_at d zero frames ts = code_at ts >>= λ c. Err (fault (at_token codes.NestLimit 65 64 c.0.1))
chain_at d (suc room) frames ts = code_at ts >>= λ c. coded_at d frames (chain_at d room) c.0.0 c.1
