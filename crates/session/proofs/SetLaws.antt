-- What taking back does to a session, and what setting a rule or the version of the output does.
use Rattle.std.proofs.Common.{◌≡◌, ◌∙◌, ap, sym, subst, refl, inr, true, ℕ, List, [], ◌∷◌, ◌++◌}
use Rattle.std.specs.Prelude.{◌⊎◌, length, reverse}
use Rattle.lists.proofs.Entries.{All-none}
use Rattle.lists.proofs.Members.{Contains-none, reverse-push}
use Rattle.orientation.specs.declared.kind.Kind.{Kind}
use Rattle.orientation.specs.declared.rule.Rule.{Rule}
use Rattle.orientation.specs.Rules.{usual}
use Rattle.location_words.specs.declared.pair.Pair.{Pair}
use Rattle.expansion_laws.specs.Requests.{Request as TreeRequest}
use Rattle.requests.specs.declared.request.Request.{Request}
use Rattle.requests.specs.Numbered.{ActFits, IsHeldIn}
use Rattle.shape_pool.specs.Rows.{Row}
use Rattle.step_history.specs.Composition.{Done}
use Rattle.brep_file.specs.declared.file.File.{File}
use Rattle.script_requests.specs.AsTrees.{IsWorded}
use Rattle.script_requests.specs.declared.fault.ScriptCode.TheVariants.{NothingToUndo}
use Rattle.script_requests.specs.declared.version.Version.{Version}
use Rattle.script_requests.specs.Refusals.{told}
use Rattle.script_text.specs.declared.command.Command.TheVariants.{OutputFirst, Prune, Undo, Until}
use Rattle.session.specs.Carrying.{TakesBack}
use Rattle.session.specs.Commands.{GoesOn, IsAccepted, IsRefusedFor}
use Rattle.session.specs.declared.fault.SessionFault.{SessionFault}
use Rattle.session.specs.declared.fault.SessionFault.TheVariants.{Script}
use Rattle.session.specs.Refusals.{IsUndoRefused}
use Rattle.session.specs.Standing.{AreVersions, Stands}
use Rattle.session.specs.States.{at_rest, in_first_version, pruning, State, stopping_at, with_steps}
use Rattle.session.specs.Views.{View}
use Rattle.session.proofs.EndLaws.{rest-stands}
use Rattle.session.proofs.StepAnswers.{asks-none, asks-some}

-- ---- what is told of a state
takes-asked : (s : State) (rs : List TreeRequest) (ds : List Done) → (rs ≡ [] → ⊥) → TakesBack s rs ds (at_rest s)
takes-asked s [] ds some = absurd (some refl)
takes-asked s (r ∷ rs) ds some = refl

takes-step : (s : State) (rs : List TreeRequest) (d : Done) (ds : List Done) → rs ≡ [] →
    TakesBack s rs (d ∷ ds) (with_steps s ds)
takes-step s [] d ds none = refl
takes-step s (r ∷ rs) d ds none = absurd cc

module _ (f : File) (s : State) (line : ℕ) (fault : SessionFault) where
  undo-asked : (rs : List TreeRequest) (ds : List Done) → (rs ≡ [] → ⊥) → IsUndoRefused f s line rs ds fault → ⊥
  undo-asked [] ds some h = some refl
  undo-asked (r ∷ rs) [] some h = h
  undo-asked (r ∷ rs) (d ∷ ds) some h = h

  undo-steps : (rs : List TreeRequest) (ds : List Done) → (ds ≡ [] → ⊥) → IsUndoRefused f s line rs ds fault → ⊥
  undo-steps rs [] some h = some refl
  undo-steps [] (d ∷ ds) some h = h
  undo-steps (r ∷ rs) (d ∷ ds) some h = h

  undo-nothing : (rs : List TreeRequest) (ds : List Done) → rs ≡ [] → ds ≡ [] →
      fault ≡ Script (told line NothingToUndo 0 0) → IsUndoRefused f s line rs ds fault
  undo-nothing [] [] e g is = is
  undo-nothing (r ∷ rs) ds e g is = absurd cc
  undo-nothing [] (d ∷ ds) e g is = absurd cc

no-steps : (f : File) (words : List (List Pair)) (rows : List Row) (ds : List Done) →
    AreVersions f words rows [] ds → ds ≡ []
no-steps f words rows [] h = refl
no-steps f words rows (d ∷ ds) h = absurd h

some-steps : (f : File) (words : List (List Pair)) (rows : List Row) (v : Version) (vs : List Version)
    (ds : List Done) → AreVersions f words rows (v ∷ vs) ds → ds ≡ [] → ⊥
some-steps f words rows v vs [] h e = h
some-steps f words rows v vs (d ∷ ds) h e = absurd cc

module _ (v : View) where
  -- ---- the step that isn't finished is taken back
  pub undo-asked-on : (asked : List Request) (rule : Rule) → (v.asked ≡ [] → ⊥) → asked ≡ [] → rule ≡ usual →
      GoesOn v (record v { asked = asked; rule = rule }) Undo
  undo-asked-on asked rule some none is = λ s st.
      (at_rest s, takes-asked s s.requests s.steps (asks-some v s st some), rest-stands v s asked rule none is st)

  pub undo-asked-accepted : (line : ℕ) → (v.asked ≡ [] → ⊥) → IsAccepted v line Undo
  undo-asked-accepted line some = λ s st fault h.
      undo-asked v.file s line fault s.requests s.steps (asks-some v s st some) h

  -- ---- the last step is taken back
  module _ (earlier : List Version) (last : Version) (are : v.versions ≡ earlier ++ last ∷ []) where
    turned : (s : State) → Stands v s → AreVersions v.file v.words v.rows (last ∷ reverse earlier) s.steps
    turned s st =
        subst (λ l. AreVersions v.file v.words v.rows l s.steps) (ap reverse are ∙ reverse-push earlier last)
        st.versions

    steps-stand : (s : State) (st : Stands v s) (ds : List Done) →
        AreVersions v.file v.words v.rows (reverse earlier) ds →
        Stands (record v { versions = earlier; asked = []; rule = usual }) (with_steps s ds)
    steps-stand s st ds h =
        let r = rest-stands v s [] usual refl refl st in record {
          sound = st.sound;
          within = st.within;
          stocked = record {
            loaded = st.stocked.loaded;
            kinds = st.stocked.kinds;
            origins = st.stocked.origins;
            held = st.stocked.held;
            over_datums = st.stocked.over_datums;
          };
          first_held = st.first_held;
          first = st.first;
          first_word = st.first_word;
          start_held = st.start_held;
          start = st.start;
          versions = h;
          asked = record {
            held = All-none (IsHeldIn v.rows);
            worded = All-none (IsWorded (length v.words));
            fit = All-none (λ (r : Request). ActFits v.rows r.source.0 r.act);
            stands = refl;
            over_datums = λ r by m e. absurd (Contains-none r m);
          };
          rule = refl;
          output = st.output;
          version = st.version;
          carried = st.carried;
        }

    goes : (s : State) (st : Stands v s) (ds : List Done) → s.requests ≡ [] →
        AreVersions v.file v.words v.rows (last ∷ reverse earlier) ds →
        (next : State) × TakesBack s s.requests ds next ×
        Stands (record v { versions = earlier; asked = []; rule = usual }) next
    goes s st [] none h = absurd h
    goes s st (d ∷ ds) none h =
        (with_steps s ds, takes-step s s.requests d ds none, steps-stand s st ds h.1)

    pub undo-step-on : (rule : Rule) → v.asked ≡ [] → rule ≡ usual →
        GoesOn v (record v { versions = earlier; rule = rule }) Undo
    undo-step-on rule none is = λ s st.
        let g = goes s st s.steps (asks-none v s st none) (turned s st) in (
          g.0,
          g.1,
          subst (λ r. Stands (record v { versions = earlier; rule = r }) g.0) (sym is)
              (subst (λ a. Stands (record v { versions = earlier; asked = a; rule = usual }) g.0) (sym none) g.2),
        )

    pub undo-step-accepted : (line : ℕ) → IsAccepted v line Undo
    undo-step-accepted line = λ s st fault h.
        undo-steps v.file s line fault s.requests s.steps
        (some-steps v.file v.words v.rows last (reverse earlier) s.steps (turned s st)) h

  -- ---- there is nothing to take back
  pub undo-refused : (line : ℕ) → v.versions ≡ [] → v.asked ≡ [] →
      IsRefusedFor v line Undo (Script (told line NothingToUndo 0 0))
  undo-refused line no_version none = λ s st.
      inr (undo-nothing v.file s line (Script (told line NothingToUndo 0 0)) s.requests s.steps
      (asks-none v s st none)
      (no-steps v.file v.words v.rows s.steps
      (subst (λ l. AreVersions v.file v.words v.rows l s.steps) (ap reverse no_version) st.versions))
      refl)

  -- ---- the rule and the version of the output
  set : (s : State) (rule r : Rule) (output o : ℕ) → r ≡ rule → o ≡ output →
      (output ≡ v.file.version) ⊎ (output ≡ 1) → Stands v s →
      Stands (record v { rule = rule; output = output }) (record s { rule = r; output = o })
  set s rule r output o e g version st = record {
    sound = st.sound;
    within = st.within;
    stocked = record {
      loaded = st.stocked.loaded;
      kinds = st.stocked.kinds;
      origins = st.stocked.origins;
      held = st.stocked.held;
      over_datums = st.stocked.over_datums;
    };
    first_held = st.first_held;
    first = st.first;
    first_word = st.first_word;
    start_held = st.start_held;
    start = st.start;
    versions = st.versions;
    asked = record {
      held = st.asked.held;
      worded = st.asked.worded;
      fit = st.asked.fit;
      stands = st.asked.stands;
      over_datums = st.asked.over_datums;
    };
    rule = e;
    output = g;
    version = version;
    carried = st.carried;
  }

  a_rule : Kind → Rule → Rule
  a_rule k r = record { stop = k; prune = r.prune }

  a_pruned : Rule → Rule
  a_pruned r = record { stop = r.stop; prune = true }

  pub stop-on : (kind : Kind) → GoesOn v (record v { rule = record { stop = kind; prune = v.rule.prune } }) (Until kind)
  unfolding a_rule
  stop-on kind = λ s st. (
    stopping_at s kind,
    refl,
    set s (record { stop = kind; prune = v.rule.prune }) (record { stop = kind; prune = s.rule.prune }) v.output
        s.output (ap (λ r. a_rule kind r) st.rule) st.output st.version st,
  )

  pub prune-on : GoesOn v (record v { rule = record { stop = v.rule.stop; prune = true } }) Prune
  unfolding a_pruned
  prune-on = λ s st. (
    pruning s,
    refl,
    set s (record { stop = v.rule.stop; prune = true }) (record { stop = s.rule.stop; prune = true }) v.output s.output
        (ap (λ r. a_pruned r) st.rule) st.output st.version st,
  )

  pub first-version-on : GoesOn v (record v { output = 1 }) OutputFirst
  first-version-on = λ s st. (
    in_first_version s,
    refl,
    set s v.rule s.rule 1 1 st.rule refl (inr refl) st,
  )
