-- A write that was stopped, seen from before the reading.
use Rattle.std.proofs.Common.{◌≡◌, ℕ, inl, inr, List, Some, take, false, subst, ◌∙◌}
use Rattle.std.specs.Prelude.{◌<◌, ◌^◌, length}
use Rattle.brep_desk.specs.Shown.{Shown, Tells, ChangesOnly}
use Rattle.brep_desk.specs.Transfers.{NothingWritten}
use Rattle.brep_run.specs.declared.outcome.Outcome.{Outcome}
use Rattle.brep_run.specs.declared.outcome.Outcome.TheVariants.{Done, Usage, NotBuilt, Script, Cycle, Limit}
use Rattle.brep_run.specs.declared.outcome.Outcome.TheVariants.{ReadDesk, WriteDesk, NoMemory}
use Rattle.brep_run.specs.declared.outcome.Outcome.TheVariants as outcomes
use Rattle.brep_run.specs.Outcomes.{IfStopped}
use Rattle.brep_run.specs.Copy.{FirstCounted, FirstStopped, PrefixWritten, IsDue}
use Rattle.brep_run.proofs.WritingOut.{prefix_counted}

module _ (t : Tells) (a b d : Shown) (source name text : List ℕ) (quiet : NothingWritten t a b) where
  pub prefix_after : (n : ℕ) → PrefixWritten t b d name text n → PrefixWritten t a d name text n
  prefix_after n part = record {
    held = part.held ∙ quiet.held;
    fits = part.fits;
    written = elim part.written [
      | inl never ↦ inl (record {
        none = never.none;
        written = λ w. never.written w
            ∙ quiet.written w;
        ended = λ w. never.ended w ∙ quiet.ended w;
      })
      | inr stopped ↦ inr (record {
        written =
            λ w. subst (λ f. ChangesOnly f d.written name (Some (take n text))) (quiet.written w) (stopped.written w);
        ended = λ w. subst (λ f. ChangesOnly f d.ended name false) (quiet.ended w) (stopped.ended w);
      })
    ];
  }

  pub stopped_after : IsDue t a source text → (o : Outcome) →
      IfStopped o (λ file taken. (file ≡ 1) × PrefixWritten t b d name text taken) →
      IfStopped o (λ file taken. (file ≡ 1)
      × ((text : List ℕ) × IsDue t a source text × PrefixWritten t a d name text taken))
  stopped_after due Done h = tt
  stopped_after due Usage h = tt
  stopped_after due NotBuilt h = tt
  stopped_after due (outcomes.File fault) h = tt
  stopped_after due (Script fault) h = tt
  stopped_after due (Cycle walk) h = tt
  stopped_after due (Limit which count) h = tt
  stopped_after due (ReadDesk before after) h = tt
  stopped_after due (WriteDesk before after file taken) h = (h.0, (text, due, prefix_after taken h.1))
  stopped_after due NoMemory h = tt

-- a stop in a text of fewer bytes than 2 ^ 64
pub first-counted : (t : Tells) (a b : Shown) (name text : List ℕ) → length text < 2 ^ 64 → (o : Outcome)
    → IfStopped o (FirstCounted t a b name text) → IfStopped o (FirstStopped t a b name text)
first-counted t a b name text few Done h = tt
first-counted t a b name text few Usage h = tt
first-counted t a b name text few NotBuilt h = tt
first-counted t a b name text few (outcomes.File fault) h = tt
first-counted t a b name text few (Script fault) h = tt
first-counted t a b name text few (Cycle walk) h = tt
first-counted t a b name text few (Limit which count) h = tt
first-counted t a b name text few (ReadDesk before after) h = tt
first-counted t a b name text few (WriteDesk before after file taken) h =
    (h.0, prefix_counted t a b name text taken few h.1)
first-counted t a b name text few NoMemory h = tt
