-- The answer that is due, from why each outcome comes.
use Rattle.std.proofs.Common.{◌≡◌, ◌<◌, ◌≤◌, ◌+◌, ℕ, Bool, true, false, if◌then◌else◌, List}
use Rattle.std.proofs.Common.{Some, IsTrue, length, inl, inr, refl, sym, ap, subst, ◌∙◌, arith}
use Rattle.std.specs.Prelude.{Result, Ok, Err}
use Rattle.std.proofs.lemmas.Bool.{lt-ltb, le-ltb}
use Rattle.brep_desk.specs.Shown.{Shown, Tells}
use Rattle.brep_desk.specs.Causes.{Rose}
use Rattle.brep_desk.specs.Transfers.{IsLonger}
use Rattle.script_text.specs.Lines.{script_line_count}
use Rattle.brep_tokens.specs.declared.fault.ReadFault.{ReadFault}
use Rattle.brep_file.specs.declared.file.File.{File}
use Rattle.brep_file.specs.FileReading.{read_text}
use Rattle.brep_file.specs.ReadingLaws.{ReadingIsExact}
use Rattle.brep_file.specs.Sound.{file_limits}
use Rattle.key_results.specs.declared.fault.LimitKind.{LimitKind}
use Rattle.key_results.specs.declared.fault.LimitKind.TheVariants.{FileBytes, ScriptBytes, ScriptLines}
use Rattle.key_results.specs.declared.fault.LimitKind.TheVariants.{Steps, Rank, Keys, WordPairs, WordPower}
use Rattle.key_results.specs.declared.fault.LimitKind.TheVariants.{Uses, Depth, Nodes, Pairs}
use Rattle.shape_listing.specs.declared.listing.Listing.{Listing}
use Rattle.brep_run.specs.Listings.{IsListingDue, listing_outcome, told_of}
use Rattle.brep_run.specs.declared.outcome.Outcome.{Outcome}
use Rattle.brep_run.specs.declared.outcome.Outcome.TheVariants.{Done, Usage, NotBuilt, Script, Cycle, Limit}
use Rattle.brep_run.specs.declared.outcome.Outcome.TheVariants.{ReadDesk, WriteDesk, NoMemory}
use Rattle.brep_run.specs.declared.outcome.Outcome.TheVariants as outcomes
use Rattle.brep_run.specs.Answering.{Answer, outcome, by_run, reading_fails, untold, Answers, IsRunAnswer}
use Rattle.brep_run.specs.Answering.{if_file, if_read, if_script, within}
use Rattle.session.specs.declared.fault.SessionFault.{SessionFault}
use Rattle.session.specs.declared.fault.SessionFault.TheVariants as faults
use Rattle.script_runs.specs.Runs.{IsRunRefused}
use Rattle.brep_run.specs.Copy.{Counts, Holds, HoldsFault, IsDue, most_bytes}
use Rattle.brep_run.specs.Outcomes.{OnDone, OnUsage, OnNotBuilt, IfCycle, IfFile, IfLimit, IfScript, IfStopped}
use Rattle.brep_run.specs.Outcomes.{IfDeskFault}
use Rattle.brep_run.specs.Rewrite.{HoldsFile, HoldsScript, HasMoreLines, IsReadLimit, IsRefusedRun}
use Rattle.brep_run.specs.Rewrite.{most_script_bytes, most_script_lines}
use Rattle.brep_run.specs.Runs.{Due, of_copy, of_listing, of_rewrite}

-- ---- what is held

within-few : (which : LimitKind) (most count : ℕ) (next : Answer) → count ≤ most → within which most count next ≡ next
within-few which most count next few =
    ap (λ b. if b then outcome (Limit which (most + 1)) else next) (le-ltb most count few)

within-more : (which : LimitKind) (most count : ℕ) (next : Answer) → most < count
    → within which most count next ≡ outcome (Limit which (most + 1))
within-more which most count next more =
    ap (λ b. if b then outcome (Limit which (most + 1)) else next) (lt-ltb most count more)

module _ (exact : ReadingIsExact) (old : Shown) (source : List ℕ) (next : File → Answer) where
  abbrev read-answer : Answer
  read-answer = if_file next (old.held source)

  from-held : (bytes : List ℕ) (read : Result File ReadFault) → Holds old source bytes
      → read_text file_limits bytes ≡ read → read-answer ≡ if_read next read
  from-held bytes read holds is =
      ap (if_file next) holds.held
      ∙ within-few FileBytes most_bytes (length bytes) (if_read next (read_text file_limits bytes)) holds.few
      ∙ ap (if_read next) is

  pub file-goes-on : (f : File) → HoldsFile old source f → read-answer ≡ next f
  file-goes-on f file =
      from-held file.bytes (Ok f) file.holds (exact.again file_limits file.bytes f file.reads.spells file.reads.small)

  pub fault-is-told : (fault : ReadFault) → HoldsFault old source fault → read-answer ≡ outcome (outcomes.File fault)
  fault-is-told fault is = from-held is.bytes (Err fault) is.holds is.first

  pub bytes-are-counted : (bytes : List ℕ) → old.held source ≡ Some bytes → most_bytes < length bytes
      → read-answer ≡ outcome (Limit FileBytes (most_bytes + 1))
  bytes-are-counted bytes held more =
      ap (if_file next) held ∙ within-more FileBytes most_bytes (length bytes)
      (if_read next (read_text file_limits bytes)) more

module _ (old : Shown) (script : List ℕ) (f : File) where
  abbrev script-answer : Answer
  script-answer = if_script (old.held script) f

  abbrev for-lines : List ℕ → Answer
  for-lines lines = within ScriptLines most_script_lines (script_line_count lines) (by_run f lines)

  few-bytes : (lines : List ℕ) → old.held script ≡ Some lines → length lines ≤ most_script_bytes
      → script-answer ≡ for-lines lines
  few-bytes lines held few =
      ap (λ o. if_script o f) held ∙ within-few ScriptBytes most_script_bytes (length lines) (for-lines lines) few

  pub script-goes-on : (lines : List ℕ) → HoldsScript old script lines → script-answer ≡ by_run f lines
  script-goes-on lines is =
      few-bytes lines is.held is.few_bytes
      ∙ within-few ScriptLines most_script_lines (script_line_count lines) (by_run f lines) is.few_lines

  pub script-bytes-are-counted : (lines : List ℕ) → old.held script ≡ Some lines → most_script_bytes < length lines
      → script-answer ≡ outcome (Limit ScriptBytes (most_script_bytes + 1))
  script-bytes-are-counted lines held more =
      ap (λ o. if_script o f) held ∙ within-more ScriptBytes most_script_bytes (length lines) (for-lines lines) more

  pub script-lines-are-counted : HasMoreLines old script
      → script-answer ≡ outcome (Limit ScriptLines (most_script_lines + 1))
  script-lines-are-counted is =
      few-bytes is.lines is.held is.few_bytes
      ∙ within-more ScriptLines most_script_lines (script_line_count is.lines) (by_run f is.lines)
      is.more

-- ---- the answer

-- a fault between the counts is a fault of the whole call
rose-whole : (entry before after exit : ℕ) → Counts entry exit before after → Rose entry exit
rose-whole entry before after exit c =
    let a = c.from in
    let b = c.to in
    let r = c.rose in
    omega (arith, a, b, r)

module _ (entry exit : ℕ) where
  pub is-due : (a : Answer) (o : Outcome) → a ≡ outcome o → Answers o a entry exit
  is-due a o e = subst (λ x. Answers o x entry exit) (sym e) (λ calm. inl refl)

  no-memory : (a : Answer) → Answers NoMemory a entry exit
  no-memory (outcome due) = λ calm. inr refl
  no-memory (by_run f lines) = λ calm. tt
  no-memory reading_fails = tt
  no-memory untold = tt

  reading-failed : (a : Answer) (before after : ℕ) → Counts entry exit before after
      → Answers (ReadDesk before after) a entry exit
  reading-failed (outcome due) before after counts = λ calm. absurd (calm (rose-whole entry before after exit counts))
  reading-failed (by_run f lines) before after counts =
      λ calm. absurd (calm (rose-whole entry before after exit counts))
  reading-failed reading_fails before after counts = tt
  reading-failed untold before after counts = tt

  writing-failed : (a : Answer) (before after file taken : ℕ) → a ≡ outcome Done → Counts entry exit before after
      → Answers (WriteDesk before after file taken) a entry exit
  writing-failed a before after file taken e counts =
      subst (λ x. Answers (WriteDesk before after file taken) x entry exit) (sym e)
      (λ calm. absurd (calm (rose-whole entry before after exit counts)))

  -- what comes of lines that are carried out
  run-is-due : (a : Answer) (o : Outcome) (f : File) (lines : List ℕ) → a ≡ by_run f lines → IsRunAnswer f lines o
      → Answers o a entry exit
  run-is-due a o f lines e is = subst (λ x. Answers o x entry exit) (sym e) (λ calm. is)

  writing-of-run-failed : (a : Answer) (before after file taken : ℕ) (f : File) (lines : List ℕ) → a ≡ by_run f lines
      → Counts entry exit before after → Answers (WriteDesk before after file taken) a entry exit
  writing-of-run-failed a before after file taken f lines e counts =
      subst (λ x. Answers (WriteDesk before after file taken) x entry exit) (sym e)
      (λ calm. absurd (calm (rose-whole entry before after exit counts)))

  -- where it is told what the names hold
  pub if-told : (b : Bool) (a : Answer) (o : Outcome) → (IsTrue b → Answers o a entry exit)
      → Answers o (if b then a else untold) entry exit
  if-told true a o h = h refl
  if-told false a o h = tt

  module _ (exact : ReadingIsExact) (t : Tells) (old new : Shown) (source : List ℕ) (held : IsTrue t.held) where
    -- ---- a copy

    abbrev due-copy : Answer
    due-copy = if_file (λ (f : File). outcome Done) (old.held source)

    copied-is-done : (text : List ℕ) → IsDue t old source text → due-copy ≡ outcome Done
    copied-is-done text due =
        let read = due held in
        file-goes-on exact old source (λ (f : File). outcome Done) read.1
        (record { bytes = read.0; holds = read.2; reads = read.3.reads })

    file-is-long : (next : File → Answer) (which : LimitKind) (count : ℕ) → which ≡ FileBytes → count ≡ most_bytes + 1
        → IsLonger t old source most_bytes →
        if_file next (old.held source) ≡ outcome (Limit which count)
    file-is-long next which count kind number longer =
        let long = longer held in
        bytes-are-counted exact old source next long.0 long.1 long.2
        ∙ (λ i. outcome (Limit ((sym kind) i) ((sym number) i)))

    pub copy-answers : (target : List ℕ) (o : Outcome) →
        OnDone o (of_copy t old new source target).finished → OnUsage o ⊥ → OnNotBuilt o ⊥ →
        IfFile o (of_copy t old new source target).file → IfScript o (λ fault. ⊥) → IfCycle o (λ walk. ⊥) →
        IfLimit o (of_copy t old new source target).limit → IfStopped o (of_copy t old new source target).stopped →
        IfDeskFault o (Counts entry exit) → Answers o due-copy entry exit
    copy-answers target Done d u n i s k l w c = is-due due-copy Done (copied-is-done d.0 d.1)
    copy-answers target Usage d u n i s k l w c = absurd u
    copy-answers target NotBuilt d u n i s k l w c = absurd n
    copy-answers target (outcomes.File fault) d u n i s k l w c =
        is-due due-copy (outcomes.File fault) (fault-is-told exact old source (λ (f : File). outcome Done) fault
        (i held))
    copy-answers target (Script fault) d u n i s k l w c = absurd s
    copy-answers target (Cycle walk) d u n i s k l w c = absurd k
    copy-answers target (Limit which count) d u n i s k l w c =
        is-due due-copy (Limit which count) (file-is-long (λ (f : File). outcome Done) which count l.0 l.1 l.2)
    copy-answers target (ReadDesk before after) d u n i s k l w c = reading-failed due-copy before after c
    copy-answers target (WriteDesk before after file taken) d u n i s k l w c =
        writing-failed due-copy before after file taken (copied-is-done w.1.0 w.1.1) c
    copy-answers target NoMemory d u n i s k l w c = no-memory due-copy

    -- ---- a listing

    module _ (listing : Listing) where
      abbrev due-listing : Answer
      due-listing = if_file (λ (f : File). outcome (listing_outcome listing f)) (old.held source)

      listed-is-done : (text : List ℕ) → IsListingDue t old source listing text → due-listing ≡ outcome Done
      listed-is-done text due =
          let is = due held in
          file-goes-on exact old source (λ (f : File). outcome (listing_outcome listing f)) is.0 is.1
          ∙ ap (λ o. outcome (told_of o)) is.3

      pub listing-answers : (target : List ℕ) (o : Outcome) →
          OnDone o (of_listing t old new source listing target).finished → OnUsage o ⊥ → OnNotBuilt o ⊥ →
          IfFile o (of_listing t old new source listing target).file → IfScript o (λ fault. ⊥) → IfCycle o (λ walk. ⊥) →
          IfLimit o (of_listing t old new source listing target).limit →
          IfStopped o (of_listing t old new source listing target).stopped → IfDeskFault o (Counts entry exit) →
          Answers o due-listing entry exit
      listing-answers target Done d u n i s k l w c = is-due due-listing Done (listed-is-done d.0 d.1)
      listing-answers target Usage d u n i s k l w c = absurd u
      listing-answers target NotBuilt d u n i s k l w c = absurd n
      listing-answers target (outcomes.File fault) d u n i s k l w c =
          is-due due-listing (outcomes.File fault)
          (fault-is-told exact old source (λ (f : File). outcome (listing_outcome listing f)) fault (i held))
      listing-answers target (Script fault) d u n i s k l w c = absurd s
      listing-answers target (Cycle walk) d u n i s k l w c = absurd k
      listing-answers target (Limit which count) d u n i s k l w c = elim l [
        | inl long ↦ is-due due-listing (Limit which count)
            (file-is-long (λ (f : File). outcome (listing_outcome listing f)) which count long.0 long.1 long.2)
        | inr passed ↦ (let is = passed held in is-due due-listing (Limit which count)
            (file-goes-on exact old source (λ (f : File). outcome (listing_outcome listing f)) is.0 is.1
            ∙ ap outcome is.2))
      ]
      listing-answers target (ReadDesk before after) d u n i s k l w c = reading-failed due-listing before after c
      listing-answers target (WriteDesk before after file taken) d u n i s k l w c =
          writing-failed due-listing before after file taken (listed-is-done w.1.0 w.1.1) c
      listing-answers target NoMemory d u n i s k l w c = no-memory due-listing

    -- ---- a rewriting

    module _ (script : List ℕ) where
      abbrev due-rewriting : Answer
      due-rewriting = if_file (if_script (old.held script)) (old.held source)

      by-lines : (f : File) (lines : List ℕ) → HoldsFile old source f → HoldsScript old script lines
          → due-rewriting ≡ by_run f lines
      by-lines f lines file is =
          file-goes-on exact old source (if_script (old.held script)) f file ∙ script-goes-on old script f lines is

      read-limit-is-due : (which : LimitKind) (count : ℕ) → IsReadLimit t old source script which count
          → due-rewriting ≡ outcome (Limit which count)
      read-limit-is-due FileBytes count h = file-is-long (if_script (old.held script)) FileBytes count refl h.0 h.1
      read-limit-is-due ScriptBytes count h =
          let long = h.1 held in
          let file = h.2 held in
          file-goes-on exact old source (if_script (old.held script)) file.0 file.1
          ∙ script-bytes-are-counted old script file.0 long.0 long.1 long.2
          ∙ ap (λ n. outcome (Limit ScriptBytes n)) (sym h.0)
      read-limit-is-due ScriptLines count h =
          let is = h.1 held in
          file-goes-on exact old source (if_script (old.held script)) is.0 is.1
          ∙ script-lines-are-counted old script is.0 is.2
          ∙ ap (λ n. outcome (Limit ScriptLines n)) (sym h.0)
      read-limit-is-due Steps count h = absurd h
      read-limit-is-due Rank count h = absurd h
      read-limit-is-due Keys count h = absurd h
      read-limit-is-due WordPairs count h = absurd h
      read-limit-is-due WordPower count h = absurd h
      read-limit-is-due Uses count h = absurd h
      read-limit-is-due Depth count h = absurd h
      read-limit-is-due Nodes count h = absurd h
      read-limit-is-due Pairs count h = absurd h

      -- where a run is refused for what is told by an outcome
      refused-is-due : (o : Outcome) (fault : SessionFault) → IsRefusedRun t old source script fault
          → ((f : File) (lines : List ℕ) → IsRunRefused f lines fault → IsRunAnswer f lines o)
          → Answers o due-rewriting entry exit
      refused-is-due o fault h answered =
          let is = h held in
          run-is-due due-rewriting o is.0 is.1 (by-lines is.0 is.1 is.2 is.3) (answered is.0 is.1 is.4)

      module _ (target history : List ℕ) where
        abbrev due-then : Due
        due-then = of_rewrite t old new source script target history

        pub rewrite-answers : (o : Outcome) → OnDone o due-then.finished → OnUsage o ⊥ → OnNotBuilt o ⊥ →
            IfFile o due-then.file → IfScript o due-then.script → IfCycle o due-then.cycle → IfLimit o due-then.limit
            → IfStopped o due-then.stopped →
            IfDeskFault o (Counts entry exit) → Answers o due-rewriting entry exit
        rewrite-answers Done d u n i s k l w c =
            let is = d.2 held in
            run-is-due due-rewriting Done is.0 is.2.lines (by-lines is.0 is.2.lines is.2.file is.2.held)
            (is.1, is.2.run)
        rewrite-answers Usage d u n i s k l w c = absurd u
        rewrite-answers NotBuilt d u n i s k l w c = absurd n
        rewrite-answers (outcomes.File fault) d u n i s k l w c =
            is-due due-rewriting (outcomes.File fault)
            (fault-is-told exact old source (if_script (old.held script)) fault (i held))
        rewrite-answers (Script fault) d u n i s k l w c =
            refused-is-due (Script fault) (faults.Script fault) s (λ f lines is. is)
        rewrite-answers (Cycle walk) d u n i s k l w c =
            refused-is-due (Cycle walk) (faults.Cycle walk) k (λ f lines is. is)
        rewrite-answers (Limit which count) d u n i s k l w c = elim l [
          | inl read ↦ is-due due-rewriting (Limit which count) (read-limit-is-due which count read)
          | inr passed ↦ refused-is-due (Limit which count) (faults.Limit which count) passed (λ f lines is. is)
        ]
        rewrite-answers (ReadDesk before after) d u n i s k l w c = reading-failed due-rewriting before after c
        rewrite-answers (WriteDesk before after file taken) d u n i s k l w c =
            let is = w.2 held in
            writing-of-run-failed due-rewriting before after file taken is.0 is.2.lines
            (by-lines is.0 is.2.lines is.2.file is.2.held) c
        rewrite-answers NoMemory d u n i s k l w c = no-memory due-rewriting
