-- Requests that a step may carry out, one more, and as a table from which a plan comes.
use Rattle.std.proofs.Common.{◌++◌, ◌∷◌, ℕ, List, []}
use Rattle.std.proofs.lemmas.List.Elements.{All-push}
use Rattle.shape_pool.specs.Rows.{Row}
use Rattle.requests.specs.declared.request.Request.{Request}
use Rattle.requests.specs.Numbered.{Table, ActFits, IsHeldIn}
use Rattle.requests.specs.Plans.{StepPlan, IsPlan}
use Rattle.reshape.specs.Readings.{IsCarriedOut, IsPlaced}
use Rattle.step_rows.specs.Ready.{AreReady}

pub one-more : (rows : List Row) (n : ℕ) (rs : List Request) (r : Request) → AreReady rows n rs → IsHeldIn rows r →
    IsPlaced n r →
    ActFits rows r.source.0 r.act → AreReady rows n (rs ++ r ∷ [])
one-more rows n rs r ready held placed fit = record {
  held = All-push (IsHeldIn rows) rs r ready.held held;
  placed = All-push (IsPlaced n) rs r ready.placed placed;
  fit = All-push (λ (q : Request). ActFits rows q.source.0 q.act) rs r ready.fit fit;
}

pub carried : (rows : List Row) (n root : ℕ) (plan : StepPlan) (t : Table) → IsPlan rows t root plan →
    AreReady rows n t.requests →
    IsCarriedOut rows n root plan t
carried rows n root plan t planned ready =
    record { planned = planned; held = ready.held; placed = ready.placed; fit = ready.fit }
