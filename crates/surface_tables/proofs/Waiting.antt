-- Where a token is due, nothing is read from no tokens.
use Rattle.std.proofs.Common.{◌≡◌, ℕ, zero, suc, ◌<◌, true, false, if◌then◌else◌, List, [], Err, refl, arith}
use Rattle.entry_readers.specs.Reading.{more, decimals_from, knots_from, Knots}
use Rattle.entry_readers.specs.Left.{knots_left, half_knot}
use Rattle.entry_readers.specs.declared.knots_due.KnotsDue.{KnotsDue}
use Rattle.surface_tables.specs.HeaderLeft.{bezier_left, counts_left, flags_left}
use Rattle.surface_tables.specs.PartLeft.{at_stage, part_left, Waits, IsDue}
use Rattle.surface_tables.specs.declared.header.BezierHeader.{BezierHeader}
use Rattle.surface_tables.specs.declared.header.BezierHeader.TheVariants as bezier
use Rattle.surface_tables.specs.declared.header.SplineFlags.{SplineFlags}
use Rattle.surface_tables.specs.declared.header.SplineFlags.TheVariants as flags
use Rattle.surface_tables.specs.declared.header.SplineCounts.{SplineCounts}
use Rattle.surface_tables.specs.declared.header.SplineCounts.TheVariants as counts
use Rattle.surface_tables.specs.declared.part.Stage.{Stage}
use Rattle.surface_tables.specs.declared.part.Stage.TheVariants as stages
use Rattle.surface_tables.specs.declared.part.PartReader.{PartReader}

no_texts : (texts : List (List ℕ)) (n : ℕ) → 0 < n → decimals_from texts n [] ≡ Err more
no_texts texts zero lt = absurd (omega (arith, lt))
no_texts texts (suc n) lt = refl

no_knots : (k : Knots) (n : ℕ) → 0 < n → knots_from k n [] ≡ Err more
no_knots k zero lt = absurd (omega (arith, lt))
no_knots k (suc n) lt = refl

no_half : (k : KnotsDue) (n : ℕ) → 0 < n → half_knot k n [] ≡ Err more
no_half k zero lt = absurd (omega (arith, lt))
no_half k (suc n) lt = refl

no_knot : (k : KnotsDue) → 0 < k.due → knots_left k [] ≡ Err more
no_knot k lt =
    elim k.half as (λ b. (if b then half_knot k k.due []
    else knots_from (record { texts = k.texts; counts = k.counts }) k.due []) ≡ Err more) [
      | true ↦ no_half k k.due lt
      | false ↦ no_knots (record { texts = k.texts; counts = k.counts }) k.due lt
    ]

no_bezier : (h : BezierHeader) → bezier_left h [] ≡ Err more
no_bezier bezier.Urational = refl
no_bezier (bezier.Vrational u) = refl
no_bezier (bezier.Udegree u v) = refl
no_bezier (bezier.Vdegree u v n rows) = refl

no_flags : (h : SplineFlags) → flags_left h [] ≡ Err more
no_flags flags.Urational = refl
no_flags (flags.Vrational u) = refl
no_flags (flags.Uflag u v) = refl
no_flags (flags.Vflag u v f) = refl

no_counts : (h : SplineCounts) → counts_left h [] ≡ Err more
no_counts (counts.Udegree f) = refl
no_counts (counts.Vdegree f n) = refl
no_counts (counts.Upoles f n m) = refl
no_counts (counts.Vpoles f n m p) = refl
no_counts (counts.Uknots net d) = refl
no_counts (counts.Vknots net d k) = refl

open_at : (s : Stage) (r : PartReader) → IsDue s r → at_stage s r [] ≡ Err more
open_at stages.Code r due = refl
open_at (stages.Bezier h) r due = rw (no_bezier h) refl
open_at (stages.Flags h) r due = rw (no_flags h) refl
open_at (stages.Counts h) r due = rw (no_counts h) refl
open_at (stages.Texts form) r due = rw (no_texts r.texts.texts r.texts.due due.1) refl
open_at (stages.Curve code) r due = rw due.2 refl
open_at (stages.Uknots net n) r due = rw (no_knot r.uknots due.1) refl
open_at (stages.Vknots net) r due = rw (no_knot r.vknots due.1) refl

pub waits_open : (r : PartReader) → Waits r → part_left r [] ≡ Err more
waits_open r due = open_at r.stage r due
