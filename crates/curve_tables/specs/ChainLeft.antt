-- What the reader of a curve in its frames has still to read.
use Rattle.std.specs.Prelude.{◌≡◌, ◌<◌, ℕ, ◌+◌, ◌*◌, List, [], ◌∷◌, ◌++◌, Result, Ok, Err, Option, Some, None}
use Rattle.lists.specs.Results.{◌>>=◌}
use Rattle.entry_readers.specs.Reading.{Knots, Read, fault, flag_at, knots_at, number_at}
use Rattle.entry_readers.specs.Left.{decimals_left, knots_left}
use Rattle.entry_readers.specs.Takes.{GoesOn, IsOpen, Stops}
use Rattle.brep_tokens.specs.declared.fault.ReadFault.{ReadFault}
use Rattle.brep_tokens.specs.declared.fault.ReadStop.{ReadStop}
use Rattle.brep_tokens.specs.declared.text.Token.{Token}
use Rattle.curve_tables.specs.Chains.{Chain, bezier_at, chain_at, code_at, leaf_at, spline_at}
use Rattle.curve_tables.specs.Counts.{per_pole}
use Rattle.curve_tables.specs.declared.parts.Form.{Form}
use Rattle.curve_tables.specs.declared.parts.Form.TheVariants as forms
use Rattle.curve_tables.specs.declared.stage.Stage.{Stage}
use Rattle.curve_tables.specs.declared.stage.Stage.TheVariants as stages
use Rattle.curve_tables.specs.declared.stage.After.{After}
use Rattle.curve_tables.specs.declared.stage.After.TheVariants as afters
use Rattle.curve_tables.specs.declared.chain.ChainReader.{ChainReader}

-- the test of a code gives it, or refuses the token
abbrev pub AnswersCode : Token → Result ℕ ReadFault → Type 0
AnswersCode t (Ok n) = (rest : List Token) → code_at (t ∷ rest) ≡ Ok ((n, t), rest)
AnswersCode t (Err f) = (rest : List Token) → code_at (t ∷ rest) ≡ Err (fault f)

abbrev pub with_knots : ChainReader → Form → List (List ℕ) → Knots → Chain
with_knots r form texts knots = record { frames = r.frames; form = form; texts = texts; knots = knots }

abbrev pub knots_then : ChainReader → Form → List (List ℕ) → Read Knots → Read Chain
knots_then r form texts read = read >>= λ k. Ok (with_knots r form texts k.0, k.1)

abbrev pub after_texts : ChainReader → After → List (List ℕ) → List Token → Read Chain
after_texts r (afters.Leaf form count) texts ts = knots_then r form texts (knots_at count ts)
after_texts r (afters.Basis wrap) texts ts =
    chain_at r.dimension r.room (r.frames ++ record { wrap = wrap; texts = texts } ∷ []) ts

abbrev pub at_stage : Stage → ChainReader → List Token → Read Chain
at_stage stages.Code r ts = chain_at r.dimension r.room r.frames ts
at_stage stages.BezierRational r ts = bezier_at r.dimension r.frames ts
at_stage (stages.BezierDegree q) r ts = do
  degree ← number_at ts
  leaf_at r.dimension r.frames (forms.Bezier q degree.0) ((degree.0 + 1) * per_pole r.dimension q) 0 degree.1
at_stage stages.SplineRational r ts = spline_at r.dimension r.frames ts
at_stage (stages.SplineFlag q) r ts = do
  flag ← flag_at ts
  degree ← number_at flag.1
  poles ← number_at degree.1
  knots ← number_at poles.1
  leaf_at r.dimension r.frames (forms.BSpline q flag.0 degree.0 poles.0) (poles.0 * per_pole r.dimension q)
      knots.0 knots.1
at_stage (stages.SplineDegree q f) r ts = do
  degree ← number_at ts
  poles ← number_at degree.1
  knots ← number_at poles.1
  leaf_at r.dimension r.frames (forms.BSpline q f degree.0 poles.0) (poles.0 * per_pole r.dimension q) knots.0 knots.1
at_stage (stages.SplinePoles q f n) r ts = do
  poles ← number_at ts
  knots ← number_at poles.1
  leaf_at r.dimension r.frames (forms.BSpline q f n poles.0) (poles.0 * per_pole r.dimension q) knots.0 knots.1
at_stage (stages.SplineKnots form size) r ts = do
  knots ← number_at ts
  leaf_at r.dimension r.frames form size knots.0 knots.1
at_stage (stages.Texts after) r ts = do
  texts ← decimals_left r.texts ts
  after_texts r after texts.0 texts.1
at_stage (stages.Knots form) r ts = knots_then r form r.texts.texts (knots_left r.knots ts)

-- What is left to read.
abbrev pub chain_left : ChainReader → List Token → Read Chain
chain_left r ts = at_stage r.stage r ts

-- a decimal or a knot is due where the stage says so
abbrev pub IsDue : Stage → ℕ → ℕ → Type 0
IsDue (stages.Texts after) texts knots = 0 < texts
IsDue (stages.Knots form) texts knots = 0 < knots
IsDue stages.Code texts knots = Unit {0}
IsDue stages.BezierRational texts knots = Unit {0}
IsDue (stages.BezierDegree q) texts knots = Unit {0}
IsDue stages.SplineRational texts knots = Unit {0}
IsDue (stages.SplineFlag q) texts knots = Unit {0}
IsDue (stages.SplineDegree q f) texts knots = Unit {0}
IsDue (stages.SplinePoles q f n) texts knots = Unit {0}
IsDue (stages.SplineKnots form size) texts knots = Unit {0}

-- A token is due.
abbrev pub Waits : ChainReader → Type 0
Waits r = IsDue r.stage r.texts.due r.knots.due

abbrev pub Same : (List Token → Read Chain) → (List Token → Read Chain) → Type 0
Same old new = (rest : List Token) → new rest ≡ old rest

-- the chain that was taken, of this form
abbrev pub taken : ChainReader → Form → Chain
taken r form = with_knots r form r.texts.texts (record { texts = r.knots.texts; counts = r.knots.counts })

abbrev pub Settles : (List Token → Read Chain) → ChainReader → Option Form → Type 0
Settles old new None = Same old (chain_left new) × Waits new
Settles old new (Some form) = (rest : List Token) → old rest ≡ Ok (taken new form, rest)

-- The reader of a chain took a token; it gives the form of the curve where the chain is whole.
abbrev pub TakesChain : (List Token → Read Chain) → Token → ChainReader → Result (Option Form) ReadStop → Type 0
TakesChain old t new (Ok None) = GoesOn old t (chain_left new) × IsOpen (chain_left new) × Waits new
TakesChain old t new (Ok (Some form)) = (rest : List Token) → old (t ∷ rest) ≡ Ok (taken new form, rest)
TakesChain old t new (Err e) = Stops old t e
