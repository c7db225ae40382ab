-- How commands lead on from state to state.
use Rattle.std.proofs.Common.{◌≡◌, ◌∙◌, ℕ, ◌+◌, ◌<◌, List, [], ◌∷◌, drop, get_or, length, ap, inl, inr, refl}
use Rattle.std.proofs.Common.{sym, subst, arith}
use Rattle.std.proofs.lemmas.List.{drop_more}
use Rattle.std.proofs.lemmas.List.Elements.{All-tail}
use Rattle.expansion_laws.specs.Requests.{Request}
use Rattle.script_text.specs.declared.command.Command.{Command}
use Rattle.script_text.specs.declared.command.Command.TheVariants as kinds
use Rattle.script_text.specs.Writing.{HasLine}
use Rattle.brep_file.specs.declared.file.File.{File}
use Rattle.session.specs.declared.fault.SessionFault.{SessionFault}
use Rattle.session.specs.Commands.{GoesOn, IsAccepted, IsRefusedFor, RisesBy, RisesByStep}
use Rattle.session.specs.Refusals.{IsDueRefusal as IsDueRefusalOf}
use Rattle.session.specs.Standing.{InStates, Stands}
use Rattle.session.specs.States.{State, first_state}
use Rattle.session.specs.Views.{View}
use Rattle.script_runs.specs.declared.commands.LineCommand.{LineCommand}
use Rattle.script_runs.specs.Scripts.{ScriptRead, commands, faulty_line, read_for, script_read}
use Rattle.script_runs.specs.Runs.{HaveLines, IsAfterRun, IsDueRefusal, IsDueStop, Passes}
use Rattle.script_runs.specs.Runs.{RisesBySaid, RisesInRun, RisesInScript, RunsTo}
use Rattle.script_runs.proofs.Leading.{HasComeTo, LeadsTo}

-- nothing was carried out yet
pub leads-start : (f : File) (s : State) (cs : List LineCommand) (count : ℕ) → LeadsTo f s cs count s cs count
leads-start f s cs count = record { runs = λ end r. r; stops = λ fault r. r; rises = λ new r. r }

-- one command more
pub leads-on : (f : File) (first : State) (cs : List LineCommand) (old : ℕ) (s : State) (c : LineCommand)
    (rest : List LineCommand) (before next-count : ℕ) (next : State)
    → LeadsTo f first cs old s (c ∷ rest) before → Passes f s c.line c.command next →
    RisesBy f s c.command before next-count → LeadsTo f first cs old next rest next-count
leads-on f first cs old s c rest before after next l passes rises = record {
  runs = λ end r. l.runs end (next, passes, r);
  stops = λ fault r. l.stops fault (inr (next, passes, r));
  rises = λ new r. l.rises new (inr (next, after, rises, passes, r));
}

-- a count that stays has risen by no more than anything
rises-step-none : (f : File) (s : State) (asked : List Request) (count : ℕ) → RisesByStep f s asked count count
rises-step-none f s [] count = refl
rises-step-none f s (r ∷ rs) count = λ n is. omega arith

pub rises-by-none : (f : File) (s : State) (c : Command) (count : ℕ) → RisesBy f s c count count
rises-by-none f s kinds.Apply count = rises-step-none f s s.requests count
rises-by-none f s (kinds.Replace sel tgt) count = refl
rises-by-none f s (kinds.Remove sel) count = refl
rises-by-none f s (kinds.Merge names) count = refl
rises-by-none f s (kinds.Sew names) count = refl
rises-by-none f s kinds.Undo count = refl
rises-by-none f s (kinds.Until kind) count = refl
rises-by-none f s kinds.Prune count = refl
rises-by-none f s kinds.OutputFirst count = refl

pub rises-none : (f : File) (s : State) (cs : List LineCommand) (count : ℕ) → RisesInRun f s cs count count
rises-none f s [] count = rises-by-none f s kinds.Apply count
rises-none f s (c ∷ cs) count = inl (rises-by-none f s c.command count)

-- ---- one command more of those that are left

due-stop : (f : File) (first : State) (cs : List LineCommand) (old : ℕ) (s : State) (c : LineCommand)
    (rest : List LineCommand) (before : ℕ) (fault : SessionFault)
    → LeadsTo f first cs old s (c ∷ rest) before → IsDueRefusalOf f s c.line c.command fault →
    IsDueStop f first cs fault
due-stop f first cs old s c rest before fault l (inl e) = inl e
due-stop f first cs old s c rest before fault l (inr r) = inr (l.stops fault (inl r))

module _ (old now : View) (cs : List LineCommand) (count before : ℕ) (c : LineCommand) (rest left : List LineCommand)
    (is : left ≡ c ∷ rest) (same : now.file ≡ old.file) (come : HasComeTo old cs count now left before) where
  pub comes-on : (new : View) (after : ℕ) → GoesOn now new c.command → IsAccepted now c.line c.command
      → InStates now (λ s. RisesBy now.file s c.command before after) → HasComeTo old cs count new rest after
  comes-on new after goes accepted rises s stands =
      let at = come s stands in
      let on = goes at.0 at.1 in (
        on.0,
        on.2,
        leads-on old.file s cs count at.0 c rest before after on.0
            (subst (λ l. LeadsTo old.file s cs count at.0 l before) is at.2)
            (subst (λ f. Passes f at.0 c.line c.command on.0) same
            (record { accepted = accepted at.0 at.1; carries = on.1 }))
            (subst (λ f. RisesBy f at.0 c.command before after) same (rises at.0 at.1)),
      )

  pub stops-for : (fault : SessionFault) → IsRefusedFor now c.line c.command fault
      → InStates old (λ s. IsDueStop old.file s cs fault)
  stops-for fault refused s stands =
      let at = come s stands in
      due-stop old.file s cs count at.0 c rest before fault
      (subst (λ l. LeadsTo old.file s cs count at.0 l before) is at.2)
      (subst (λ f. IsDueRefusalOf f at.0 c.line c.command fault) same (refused at.0 at.1))

-- the first of the commands that are left
pub first-left : (cs : List LineCommand) (i : ℕ) (c : LineCommand) → i < length cs → get_or cs i c ≡ c
    → drop i cs ≡ c ∷ drop (i + 1) cs
first-left cs i c lt is = drop_more cs i c lt ∙ ap (λ x. x ∷ drop (i + 1) cs) is

pub lines-left-on : (f : File) (left rest : List LineCommand) (c : LineCommand) → left ≡ c ∷ rest → HaveLines f left
    → HaveLines f rest
lines-left-on f left rest c is h =
    All-tail (λ (x : LineCommand). HasLine (length f.records) (length f.locations) x.command) c rest
    (subst (HaveLines f) is h)

-- ---- a whole script

pub said-over : (f : File) (bytes : List ℕ) (shapes locations : ℕ) (taken cs : List LineCommand)
    → shapes ≡ length f.records → locations ≡ length f.locations → cs ≡ taken
    → script_read shapes locations bytes ≡ commands taken → read_for f bytes ≡ commands cs
said-over f bytes shapes locations taken cs by-records by-locations same said =
    subst (λ n. script_read n (length f.locations) bytes ≡ commands cs) by-records
    (subst (λ n. script_read shapes n bytes ≡ commands cs) by-locations (said ∙ ap commands (sym same)))

module _ (f : File) (bytes : List ℕ) where
  rises-said-none : (said : ScriptRead) (count : ℕ) → RisesBySaid f said count count
  rises-said-none (commands cs) count = rises-none f (first_state f) cs count
  rises-said-none (faulty_line line e) count = refl

  -- nothing was tried
  pub rises-nothing : (count : ℕ) → RisesInScript f bytes count count
  rises-nothing count = rises-said-none (read_for f bytes) count

  due-refusal : (cs : List LineCommand) (fault : SessionFault) → read_for f bytes ≡ commands cs
      → IsDueStop f (first_state f) cs fault → IsDueRefusal f bytes fault
  due-refusal cs fault said (inl e) = inl e
  due-refusal cs fault said (inr r) = inr (inr (cs, said, r))

  module _ (v : View) (cs : List LineCommand) (same : v.file ≡ f) (stands : Stands v (first_state f))
      (said : read_for f bytes ≡ commands cs) where
    pub run-due : (fault : SessionFault) → InStates v (λ s. IsDueStop v.file s cs fault) → IsDueRefusal f bytes fault
    run-due fault due =
        due-refusal cs fault said
        (subst (λ file. IsDueStop file (first_state f) cs fault) same (due (first_state f) stands))

    pub run-rises : (old new : ℕ) → InStates v (λ s. RisesInRun v.file s cs old new) → RisesInScript f bytes old new
    run-rises old new rises =
        subst (λ told. RisesBySaid f told old new) (sym said)
        (subst (λ file. RisesInRun file (first_state f) cs old new) same (rises (first_state f) stands))

    pub run-done : (after : View) → after.file ≡ v.file
        → InStates v (λ s. (end : State) × RunsTo v.file s cs end × Stands after end) → IsAfterRun f bytes after
    run-done after kept done =
        let at = done (first_state f) stands in
        record {
          file = kept ∙ same;
          end = at.0;
          run = (cs, said, subst (λ file. RunsTo file (first_state f) cs at.0) same at.1);
          stands = at.2;
        }
