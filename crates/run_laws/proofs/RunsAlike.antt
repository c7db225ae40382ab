-- Scripts from states that are alike: they end alike, or are refused for faults that agree.
use Rattle.std.proofs.Common.{inl, inr}
use Rattle.std.specs.Prelude.{ℕ, [], ◌∷◌}
use Rattle.expansion_laws.specs.RewritingLaws.{IsDetermined}
use Rattle.expansion_laws.specs.Steps.{Step}
use Rattle.brep_file.specs.declared.file.File.{File}
use Rattle.brep_file.specs.PlainRecords.{expansion_of}
use Rattle.script_text.specs.declared.command.Command.{Command}
use Rattle.script_text.specs.declared.command.Command.TheVariants.{Apply}
use Rattle.session.specs.declared.fault.SessionFault.{SessionFault}
use Rattle.session.specs.Refusals.{IsRefused}
use Rattle.session.specs.States.{State, first_state}
use Rattle.script_requests.specs.Kinds.{kind_of}
use Rattle.script_runs.specs.Runs.{Passes, RunsTo, StopsFor}
use Rattle.run_laws.specs.Agreeing.{EndsAgree, FaultsAgree, RunsAgree}
use Rattle.run_laws.proofs.AskedAlike.{TreesTell}
use Rattle.run_laws.proofs.HistoriesAlike.{histories-same}
use Rattle.run_laws.proofs.HistoryFiles.{RootsAreWritten, one-file}
use Rattle.run_laws.proofs.RefusedAlike.{refused-over}
use Rattle.run_laws.proofs.StatesAlike.{StateAlike, carries-alike, first-alike, root-same, state-back}

-- the faults of one command in one state agree
abbrev pub OneFault : File → Type 0
OneFault f = (s : State) (line : ℕ) (c : Command) (a b : SessionFault) → IsRefused f s line c a →
    IsRefused f s line c b → FaultsAgree a b

module _ (f : File) (tell : TreesTell) (one : (s : Step) → IsDetermined s) where
  next-alike : (s t : State) → StateAlike s t → (line : ℕ) (c : Command) (x y : State) → Passes f s line c x →
      Passes f t line c y → StateAlike x y
  next-alike s t a line c x y p q = carries-alike f tell one s t a c x y p.carries q.carries

  not-both : (s t : State) → StateAlike s t → (line : ℕ) (c : Command) (x : State) (fault : SessionFault) →
      Passes f s line c x → IsRefused f t line c fault → ⊥
  not-both s t a line c x fault p h = p.accepted fault (refused-over f tell t s (state-back s t a) line c fault h)

  ends-alike : (cs : _) (s t : State) → StateAlike s t → (x y : State) → RunsTo f s cs x → RunsTo f t cs y →
      StateAlike x y
  ends-alike [] s t a x y p q = next-alike s t a 0 Apply x y p q
  ends-alike (c ∷ cs) s t a x y (n, p, ps) (m, q, qs) =
      ends-alike cs n m (next-alike s t a c.line c.command n m p q) x y ps qs

  apart : (cs : _) (s t : State) → StateAlike s t → (x : State) (fault : SessionFault) → RunsTo f s cs x →
      StopsFor f t cs fault → ⊥
  apart [] s t a x fault p h = not-both s t a 0 Apply x fault p h
  apart (c ∷ cs) s t a x fault (n, p, ps) (inl h) = not-both s t a c.line c.command n fault p h
  apart (c ∷ cs) s t a x fault (n, p, ps) (inr (m, q, qs)) =
      apart cs n m (next-alike s t a c.line c.command n m p q) x fault ps qs

  module _ (written : RootsAreWritten) (alike : OneFault f) where
    faults-agree : (cs : _) (s t : State) → StateAlike s t → (x y : SessionFault) → StopsFor f s cs x →
        StopsFor f t cs y → FaultsAgree x y
    faults-agree [] s t a x y h k =
        alike s 0 Apply x y h (refused-over f tell t s (state-back s t a) 0 Apply y k)
    faults-agree (c ∷ cs) s t a x y (inl h) (inl k) =
        alike s c.line c.command x y h (refused-over f tell t s (state-back s t a) c.line c.command y k)
    faults-agree (c ∷ cs) s t a x y (inl h) (inr (m, q, qs)) =
        absurd (not-both t s (state-back s t a) c.line c.command m x q h)
    faults-agree (c ∷ cs) s t a x y (inr (n, p, ps)) (inl k) = absurd (not-both s t a c.line c.command n y p k)
    faults-agree (c ∷ cs) s t a x y (inr (n, p, ps)) (inr (m, q, qs)) =
        faults-agree cs n m (next-alike s t a c.line c.command n m p q) x y ps qs

    pub runs-agree : RunsAgree f
    runs-agree = record {
      apart = λ cs end fault p h. apart cs (first_state f) (first_state f) (first-alike f) end fault p h;
      ends =
          λ cs a b p q.
          agree a b (ends-alike cs (first_state f) (first_state f) (first-alike f) a b p q);
      faults = λ cs a b h k. faults-agree cs (first_state f) (first_state f) (first-alike f) a b h k;
    }
      where
        agree : (a b : State) → StateAlike a b → EndsAgree f a b
        agree a b h = record {
          root = root-same f a b h;
          version = h.output;
          history = histories-same (kind_of f) (expansion_of f) a.steps b.steps h.steps;
          history_file =
              one-file f written a b (root-same f a b h)
              (histories-same (kind_of f) (expansion_of f) a.steps b.steps h.steps);
        }
