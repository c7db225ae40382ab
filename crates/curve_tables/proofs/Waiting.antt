-- Where a token is due, nothing is read from no tokens.
use Rattle.std.proofs.Common.{◌≡◌, ℕ, zero, suc, ◌<◌, true, false, if◌then◌else◌, List, [], Err, refl, arith}
use Rattle.entry_readers.specs.Reading.{more, decimals_from, knots_from, Knots}
use Rattle.entry_readers.specs.Left.{knots_left, half_knot}
use Rattle.entry_readers.specs.declared.knots_due.KnotsDue.{KnotsDue}
use Rattle.curve_tables.specs.Chains.{chain_at}
use Rattle.curve_tables.specs.ChainLeft.{at_stage, chain_left, Waits, IsDue}
use Rattle.curve_tables.specs.declared.parts.Dimension.{Dimension}
use Rattle.curve_tables.specs.declared.parts.Frame.{Frame}
use Rattle.curve_tables.specs.declared.stage.Stage.{Stage}
use Rattle.curve_tables.specs.declared.stage.Stage.TheVariants as stages
use Rattle.curve_tables.specs.declared.chain.ChainReader.{ChainReader}

no_texts : (texts : List (List ℕ)) (n : ℕ) → 0 < n → decimals_from texts n [] ≡ Err more
no_texts texts zero lt = absurd (omega (arith, lt))
no_texts texts (suc n) lt = refl

no_knots : (k : Knots) (n : ℕ) → 0 < n → knots_from k n [] ≡ Err more
no_knots k zero lt = absurd (omega (arith, lt))
no_knots k (suc n) lt = refl

no_half : (k : KnotsDue) (n : ℕ) → 0 < n → half_knot k n [] ≡ Err more
no_half k zero lt = absurd (omega (arith, lt))
no_half k (suc n) lt = refl

pub no_curve : (d : Dimension) (room : ℕ) (frames : List Frame) → chain_at d room frames [] ≡ Err more
no_curve d zero frames = refl
no_curve d (suc n) frames = refl

no_knot : (k : KnotsDue) → 0 < k.due → knots_left k [] ≡ Err more
no_knot k lt =
    elim k.half as (λ b. (if b then half_knot k k.due []
    else knots_from (record { texts = k.texts; counts = k.counts }) k.due []) ≡ Err more) [
      | true ↦ no_half k k.due lt
      | false ↦ no_knots (record { texts = k.texts; counts = k.counts }) k.due lt
    ]

open_at : (s : Stage) (r : ChainReader) → IsDue s r.texts.due r.knots.due → at_stage s r [] ≡ Err more
open_at stages.Code r due = no_curve r.dimension r.room r.frames
open_at stages.BezierRational r due = refl
open_at (stages.BezierDegree q) r due = refl
open_at stages.SplineRational r due = refl
open_at (stages.SplineFlag q) r due = refl
open_at (stages.SplineDegree q f) r due = refl
open_at (stages.SplinePoles q f n) r due = refl
open_at (stages.SplineKnots form size) r due = refl
open_at (stages.Texts after) r due = rw (no_texts r.texts.texts r.texts.due due) refl
open_at (stages.Knots form) r due = rw (no_knot r.knots due) refl

pub waits_open : (r : ChainReader) → Waits r → chain_left r [] ≡ Err more
waits_open r due = open_at r.stage r due
