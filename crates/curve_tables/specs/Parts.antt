-- The spelling of a curve that was taken apart.
use Rattle.std.specs.Prelude.{◌≡◌, ◌<◌, ◌≤◌, ◌+◌, ◌*◌, ℕ, List, [], ◌∷◌, ◌++◌, length}
use Rattle.std.specs.List.{AllByRecursion, flat_map}
use Rattle.std.specs.Fmt.{decimal}
use Rattle.brep_tokens.specs.Forms.{flag_text}
use Rattle.entry_readers.specs.Begins.{AreDecimals, AreKnots, IsExact, IsSmall, spell_knots}
use Rattle.curve_tables.specs.Chains.{Chain, chain_at}
use Rattle.curve_tables.specs.Counts.{per_pole, plain_size, wrap_size}
use Rattle.curve_tables.specs.declared.parts.Dimension.{Dimension}
use Rattle.curve_tables.specs.declared.parts.Form.{Form}
use Rattle.curve_tables.specs.declared.parts.Form.TheVariants.{Plain, Bezier, BSpline}
use Rattle.curve_tables.specs.declared.parts.Frame.{Frame}
use Rattle.curve_tables.specs.declared.parts.Wrap.{Wrap}
use Rattle.curve_tables.specs.declared.parts.Wrap.TheVariants.{Trimmed, Offset}

abbrev pub wrap_code : Wrap → ℕ
wrap_code Trimmed = 8
wrap_code Offset = 9

abbrev pub spell_frame : Frame → List (List ℕ)
spell_frame f = decimal (wrap_code f.wrap) ∷ f.texts

abbrev pub spell_form : Form → ℕ → List (List ℕ)
spell_form (Plain code) knots = decimal code ∷ []
spell_form (Bezier rational degree) knots = decimal 6 ∷ flag_text rational ∷ decimal degree ∷ []
spell_form (BSpline rational flag degree poles) knots = decimal 7 ∷ flag_text rational ∷ flag_text flag ∷ decimal degree
    ∷ decimal poles ∷ decimal knots ∷ []

abbrev pub spell_leaf : Chain → List (List ℕ)
spell_leaf c = spell_form c.form (length c.knots.texts) ++ (c.texts ++ spell_knots c.knots)

-- The frames, each its code and decimals, and then the curve.
abbrev pub spell_chain : Chain → List (List ℕ)
spell_chain c = flat_map spell_frame c.frames ++ spell_leaf c

-- how many decimals a form has
abbrev pub form_size : Dimension → Form → ℕ
form_size d (Plain code) = plain_size d code
form_size d (Bezier rational degree) = (degree + 1) * per_pole d rational
form_size d (BSpline rational flag degree poles) = poles * per_pole d rational

abbrev pub IsForm : Form → ℕ → Type 0
IsForm (Plain code) knots = (1 ≤ code) × (code ≤ 5) × (knots ≡ 0)
IsForm (Bezier rational degree) knots = IsSmall degree × (knots ≡ 0)
IsForm (BSpline rational flag degree poles) knots = IsSmall degree × IsSmall poles × IsSmall knots

abbrev pub IsFrame : Dimension → Frame → Type 0
IsFrame d f = AreDecimals (wrap_size d f.wrap) f.texts

-- at most so many codes, each list as long as the codes, flags and counts say, and each text of its form
pub record IsSoundChain (d : Dimension) (room : ℕ) (c : Chain) : Type 0 where
  pub nest : length c.frames < room
  pub frames : AllByRecursion (IsFrame d) c.frames
  pub form : IsForm c.form (length c.knots.texts)
  pub texts : AreDecimals (form_size d c.form) c.texts
  pub knots : AreKnots (length c.knots.texts) c.knots

-- A chain is read exactly as it is spelled.
abbrev pub ChainsAreExact : Type 0
ChainsAreExact = (d : Dimension) (room : ℕ) → IsExact (chain_at d room []) spell_chain (IsSoundChain d room)
