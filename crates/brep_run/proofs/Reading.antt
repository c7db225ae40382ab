-- What was read first is still held, and nothing was written since.
use Rattle.std.proofs.Common.{◌≡◌, ℕ, inl, inr, List, Some, true, IsTrue, sym, ap, subst, ◌∙◌}
use Rattle.brep_desk.specs.Shown.{Shown, Tells, ChangesOnly}
use Rattle.std.specs.Prelude.{Option, is_some}
use Rattle.brep_desk.specs.Strays.{IsHeldIfTold, KeepsStrays}
use Rattle.brep_desk.specs.Transfers.{NothingWritten, NoMoreOpen}
use Rattle.brep_run.specs.declared.outcome.Outcome.{Outcome}
use Rattle.brep_run.specs.declared.outcome.Outcome.TheVariants.{Done, Usage, NotBuilt, Script, Cycle, Limit}
use Rattle.brep_run.specs.declared.outcome.Outcome.TheVariants.{ReadDesk, WriteDesk, NoMemory}
use Rattle.brep_run.specs.declared.outcome.Outcome.TheVariants as outcomes
use Rattle.brep_file.specs.declared.file.File.{File}
use Rattle.key_results.specs.declared.fault.LimitKind.{LimitKind}
use Rattle.key_results.specs.declared.fault.LimitKind.TheVariants.{FileBytes, ScriptBytes, ScriptLines}
use Rattle.key_results.specs.declared.fault.LimitKind.TheVariants.{Steps, Rank, Keys, WordPairs, WordPower}
use Rattle.key_results.specs.declared.fault.LimitKind.TheVariants.{Uses, Depth, Nodes, Pairs}
use Rattle.brep_run.specs.Outcomes.{OnDone, IfCycle, IfLimit, IfScript, IfStopped}
use Rattle.brep_run.specs.Copy.{IsDue, OutWritten}
use Rattle.brep_file.specs.PlainRecords.{expansion_of}
use Rattle.brep_writer.specs.OwnVersion.{text_of}
use Rattle.brep_run.specs.Inputs.{IsRunStop, IsScriptLimit, IsScriptStop}
use Rattle.session.specs.declared.fault.SessionFault.{SessionFault}
use Rattle.session.specs.declared.fault.SessionFault.TheVariants as faults
use Rattle.session.specs.States.{State}
use Rattle.script_runs.specs.Runs.{IsRun, IsRunRefused}
use Rattle.brep_run.specs.Rewrite.{AreDue, AreTextsOf, HoldsFile, HoldsScript, InputsAreHeld}
use Rattle.brep_run.specs.Rewrite.{IsCycleOfRun, IsReadLimit, IsRefusedLine, IsRefusedRun, IsRewriteLimit}
use Rattle.brep_run.specs.Rewrite.{IsRewritten, IsRewriteStopped, StoppedFor, WrittenFor}
use Rattle.brep_run.proofs.Stopping.{prefix_after}

pub held-before : (t : Tells) (old new : Shown) (name bytes : List ℕ) → NothingWritten t old new
    → new.held name ≡ Some bytes → old.held name ≡ Some bytes
held-before t old new name bytes quiet is = sym (ap (λ f. f name) quiet.held) ∙ is

pub quiet-both : (t : Tells) (a b d : Shown) → NothingWritten t a b → NothingWritten t b d → NothingWritten t a d
quiet-both t a b d one two =
    record {
      held = two.held ∙ one.held;
      written = λ w. two.written w ∙ one.written w;
      ended = λ w. two.ended w
          ∙ one.ended w;
    }

pub strays-both : (t : Tells) (a b d : Shown) → KeepsStrays t a b → KeepsStrays t b d → KeepsStrays t a d
strays-both t a b d one two = λ told. two told ∙ one told

-- after the file was read, the script is still held
pub script-held : (t : Tells) (a b : Shown) (source script : List ℕ) (f : File) → NothingWritten t a b
    → (IsTrue t.held → HoldsFile a source f) → InputsAreHeld t a source script → IsHeldIfTold t b script
script-held t a b source script f quiet file inputs = λ told.
    subst (λ (h : List ℕ → Option (List ℕ)). IsTrue (is_some (h script))) (sym quiet.held)
    (inputs.script_held f (file told) told)

pub closed-both : (a b d : Shown) → NoMoreOpen a b → NoMoreOpen b d → NoMoreOpen a d
closed-both a b d one two = λ k. elim (two k) [
  | inl same ↦ elim (one k) [
    | inl before ↦ inl (same ∙ before)
    | inr gone ↦ inr (same ∙ gone)
  ]
  | inr gone ↦ inr gone
]

module _ (t : Tells) (a b d : Shown) (quiet : NothingWritten t a b) (closed : IsTrue t.opened → NoMoreOpen a b) where
  pub out-after : (name text : List ℕ) → OutWritten t b d name text → OutWritten t a d name text
  out-after name text out = record {
    held = out.held ∙ quiet.held;
    written = λ w. subst (λ f. ChangesOnly f d.written name (Some text)) (quiet.written w) (out.written w);
    ended = λ w. subst (λ f. ChangesOnly f d.ended name true) (quiet.ended w) (out.ended w);
    channels = λ o. closed-both a b d (closed o) (out.channels o);
  }

module _ (t : Tells) (a b new : Shown) (quiet : NothingWritten t a b) (closed : IsTrue t.opened → NoMoreOpen a b)
    (source script target history lines : List ℕ) (f : File) (end : State)
    (file : IsTrue t.held → HoldsFile a source f) (held : IsTrue t.held → HoldsScript a script lines)
    (run : IsRun f lines end) where
  due-after : (text told : List ℕ) → AreTextsOf f end text told → AreDue t a source script text told
  due-after text told texts = λ is.
      (f, end, record { file = file is; lines = lines; held = held is; run = run }, texts)

  both-after : WrittenFor t b new f end target history → IsRewritten t a new source script target history
  both-after (text, told, texts, both) = (
    text,
    told,
    due-after text told texts,
    (both.0, out-after t a b both.0 quiet closed target text both.1, both.2),
  )

  one-after : (out taken : ℕ) → StoppedFor t b new f end target history out taken
      → IsRewriteStopped t a new source script target history out taken
  one-after out taken (text, told, texts, one) = (
    text,
    told,
    due-after text told texts,
    elim one [
      | inl first ↦ inl (
        first.0,
        (first.1.0, first.1.1, prefix_after t a b new source target text quiet first.1.0 first.1.2),
      )
      | inr second ↦ inr (
        second.0,
        (second.1.0, out-after t a b second.1.0 quiet closed target text second.1.1, second.1.2),
      )
    ],
  )

  pub done-after : (o : Outcome) → OnDone o (WrittenFor t b new f end target history)
      → OnDone o (IsRewritten t a new source script target history)
  done-after Done h = both-after h
  done-after Usage h = tt
  done-after NotBuilt h = tt
  done-after (outcomes.File fault) h = tt
  done-after (Script fault) h = tt
  done-after (Cycle walk) h = tt
  done-after (Limit which count) h = tt
  done-after (ReadDesk before after) h = tt
  done-after (WriteDesk before after file taken) h = tt
  done-after NoMemory h = tt

  pub stopped-after : (o : Outcome) → IfStopped o (StoppedFor t b new f end target history)
      → IfStopped o (IsRewriteStopped t a new source script target history)
  stopped-after Done h = tt
  stopped-after Usage h = tt
  stopped-after NotBuilt h = tt
  stopped-after (outcomes.File fault) h = tt
  stopped-after (Script fault) h = tt
  stopped-after (Cycle walk) h = tt
  stopped-after (Limit which count) h = tt
  stopped-after (ReadDesk before after) h = tt
  stopped-after (WriteDesk before after file taken) h = one-after file taken h
  stopped-after NoMemory h = tt

-- a file that was read, and what the script says that is read after it
module _ (t : Tells) (a b : Shown) (quiet : NothingWritten t a b) (source script : List ℕ) (f : File)
    (file : IsTrue t.held → HoldsFile a source f) where
  limit-before : (which : LimitKind) (count : ℕ) → IsScriptLimit t b script which count
      → IsReadLimit t a source script which count
  limit-before FileBytes count h = absurd h
  limit-before ScriptBytes count h = (
    h.0,
    (λ told. (let long = h.1 told in
        (long.0, held-before t a b script long.0 quiet long.1, long.2))),
    (λ told. (f, file told)),
  )
  limit-before ScriptLines count h = (
    h.0,
    λ told. (let more = h.1 told in (
      f,
      file told,
      record {
        lines = more.lines;
        held = held-before t a b script more.lines quiet more.held;
        few_bytes = more.few_bytes;
        more = more.more;
      },
    )),
  )
  limit-before Steps count h = h
  limit-before Rank count h = h
  limit-before Keys count h = h
  limit-before WordPairs count h = h
  limit-before WordPower count h = h
  limit-before Uses count h = h
  limit-before Depth count h = h
  limit-before Nodes count h = h
  limit-before Pairs count h = h

  pub limited-before : (entry exit : ℕ) (o : Outcome) → IsScriptStop t b script entry exit o
      → IfLimit o (λ which count. IsRewriteLimit t a source script which count)
  limited-before entry exit Done h = tt
  limited-before entry exit Usage h = tt
  limited-before entry exit NotBuilt h = tt
  limited-before entry exit (outcomes.File fault) h = tt
  limited-before entry exit (Script fault) h = tt
  limited-before entry exit (Cycle walk) h = tt
  limited-before entry exit (Limit which count) h = inl (limit-before which count h)
  limited-before entry exit (ReadDesk before after) h = tt
  limited-before entry exit (WriteDesk before after file taken) h = tt
  limited-before entry exit NoMemory h = tt

pub script-before : (t : Tells) (a b : Shown) (script lines : List ℕ) → NothingWritten t a b
    → (IsTrue t.held → HoldsScript b script lines) → IsTrue t.held → HoldsScript a script lines
script-before t a b script lines quiet held told =
    (let is = held told in
    record {
      held = held-before t a b script lines quiet is.held;
      few_bytes = is.few_bytes;
      few_lines = is.few_lines;
    })

-- why a run is refused is what is due of the names
module _ (t : Tells) (old : Shown) (source script lines : List ℕ) (f : File)
    (file : IsTrue t.held → HoldsFile old source f) (held : IsTrue t.held → HoldsScript old script lines) where
  refused-then : (fault : SessionFault) → IsRunRefused f lines fault → IsRefusedRun t old source script fault
  refused-then fault h = λ told. (f, lines, file told, held told, h)

  pub script-refused : (o : Outcome) → IsRunStop f lines o → IfScript o (IsRefusedLine t old source script)
  script-refused Done h = tt
  script-refused Usage h = tt
  script-refused NotBuilt h = tt
  script-refused (outcomes.File fault) h = tt
  script-refused (Script fault) h = refused-then (faults.Script fault) h
  script-refused (Cycle walk) h = tt
  script-refused (Limit which count) h = tt
  script-refused (ReadDesk before after) h = tt
  script-refused (WriteDesk before after out taken) h = tt
  script-refused NoMemory h = tt

  pub cycle-refused : (o : Outcome) → IsRunStop f lines o → IfCycle o (IsCycleOfRun t old source script)
  cycle-refused Done h = tt
  cycle-refused Usage h = tt
  cycle-refused NotBuilt h = tt
  cycle-refused (outcomes.File fault) h = tt
  cycle-refused (Script fault) h = tt
  cycle-refused (Cycle walk) h = refused-then (faults.Cycle walk) h
  cycle-refused (Limit which count) h = tt
  cycle-refused (ReadDesk before after) h = tt
  cycle-refused (WriteDesk before after out taken) h = tt
  cycle-refused NoMemory h = tt

  pub limit-refused : (o : Outcome) → IsRunStop f lines o → IfLimit o (IsRewriteLimit t old source script)
  limit-refused Done h = tt
  limit-refused Usage h = tt
  limit-refused NotBuilt h = tt
  limit-refused (outcomes.File fault) h = tt
  limit-refused (Script fault) h = tt
  limit-refused (Cycle walk) h = tt
  limit-refused (Limit which count) h = inr (refused-then (faults.Limit which count) h)
  limit-refused (ReadDesk before after) h = tt
  limit-refused (WriteDesk before after out taken) h = tt
  limit-refused NoMemory h = tt

-- a file that was read, and the text of its copy
pub due-copy : (t : Tells) (old : Shown) (source text : List ℕ) (f : File) → (IsTrue t.held → HoldsFile old source f)
    → text ≡ text_of f (expansion_of f) → IsDue t old source text
due-copy t old source text f file written =
    λ told. (let is = file told in (is.bytes, f, is.holds, record { reads = is.reads; written = written }))

module _ (t : Tells) (a b d : Shown) (quiet : NothingWritten t a b) (closed : IsTrue t.opened → NoMoreOpen a b)
    (source name text : List ℕ) (due : IsDue t a source text) where
  pub copied-after : (o : Outcome) → OnDone o (OutWritten t b d name text)
      → OnDone o ((text : List ℕ) × IsDue t a source text × OutWritten t a d name text)
  copied-after Done h = (text, due, out-after t a b d quiet closed name text h)
  copied-after Usage h = tt
  copied-after NotBuilt h = tt
  copied-after (outcomes.File fault) h = tt
  copied-after (Script fault) h = tt
  copied-after (Cycle walk) h = tt
  copied-after (Limit which count) h = tt
  copied-after (ReadDesk before after) h = tt
  copied-after (WriteDesk before after file taken) h = tt
  copied-after NoMemory h = tt
