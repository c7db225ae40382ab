-- What the end of a step does to a session.
use Rattle.std.proofs.Common.{◌≡◌, ◌<◌, ◌∙◌, ap, sym, subst, refl, ℕ, suc, Bool, List, [], ◌∷◌, ◌++◌}
use Rattle.std.proofs.Common.{arith, eqb-true, true≢false, true, false, Result, Ok, Err, OnErr, OnOk}
use Rattle.std.specs.Prelude.{◌==◌, length, reverse}
use Rattle.lists.proofs.Members.{Contains-none}
use Rattle.lists.proofs.Entries.{All-none}
use Rattle.orientation.specs.declared.rule.Rule.{Rule}
use Rattle.orientation.specs.Rules.{usual}
use Rattle.location_words.specs.declared.pair.Pair.{Pair}
use Rattle.graph_walks.specs.Walks.{WalksAreDetermined}
use Rattle.expansion_laws.specs.Graph.{edges}
use Rattle.expansion_laws.specs.Keeping.{OriginsStay, Passes, WordsStay}
use Rattle.expansion_laws.specs.Requests.{Request as TreeRequest}
use Rattle.expansion_laws.specs.Rewriting.{StepsTo}
use Rattle.expansion_laws.specs.Steps.{Step}
use Rattle.expansion_laws.specs.Subtrees.{SubtreesStand}
use Rattle.expansion_laws.specs.Trees.{Use}
use Rattle.key_results.specs.Words.{GrowsTo}
use Rattle.shape_pool.specs.declared.node.UseOf.{UseOf}
use Rattle.step_history.specs.declared.history.StepHistory.{StepHistory}
use Rattle.shape_pool.specs.Calls.{Keeps, KeepsLoaded}
use Rattle.shape_pool.specs.Laws.{IsSound}
use Rattle.shape_pool.specs.Rows.{Row, HasPlaces}
use Rattle.requests.specs.declared.request.Request.{Request}
use Rattle.requests.specs.Numbered.{a_table, ActFits, IsHeldIn}
use Rattle.requests.specs.Plans.{IsPlan, StepPlan}
use Rattle.requests.specs.Readings.{FitsByTrees}
use Rattle.reshape.specs.Answers.{IsWithinLimits, RisesByKeys}
use Rattle.reshape.specs.Readings.{InSteps, IsCarriedOut}
use Rattle.file_loading.specs.Staying.{LoadingStays}
use Rattle.brep_file.specs.declared.file.File.{File}
use Rattle.script_requests.specs.AsTrees.{IsWorded}
use Rattle.script_requests.specs.declared.version.Version.{Version}
use Rattle.script_requests.specs.Named.{last_root}
use Rattle.step_history.specs.Numbered.{IsHeld}
use Rattle.script_text.specs.declared.command.Command.{Command}
use Rattle.script_text.specs.declared.command.Command.TheVariants.{Apply}
use Rattle.session.specs.Carrying.{Ends}
use Rattle.session.specs.Commands.{GoesOn, IsAccepted, IsAsItWas, IsRefusedFor, RisesBy}
use Rattle.session.specs.declared.fault.SessionFault.{SessionFault}
use Rattle.session.specs.Refusals.{most_steps}
use Rattle.session.specs.Standing.{InStates, IsSession, IsUseHeld, Stands}
use Rattle.session.specs.States.{after_step, at_rest, root_of, State, step_of}
use Rattle.session.specs.Stepped.{IsPlanFault, IsStepFault, IsVersionAdded}
use Rattle.session.specs.Views.{history_of_view, root_of_view, View}
use Rattle.session.proofs.LastLaws.{last-history-held}
use Rattle.session.proofs.Staying.{stands-still}
use Rattle.session.proofs.StepAnswers.{asks-none, asks-some, due-refusal, plan-due, rises, step-accepted, step-due}
use Rattle.session.proofs.StepAnswers.{step-rises, within-rank}
use Rattle.session.proofs.StepTurns.{before-held, new-root, next-stands, steps}

-- a session by its parts
abbrev pub a-session : File → List (List Pair) → List Row → UseOf → StepHistory → List Version → List Request → Rule →
    ℕ → ℕ →
    View
a-session file words rows first start versions asked rule output carried = record {
  file = file;
  words = words;
  rows = rows;
  first = first;
  start = start;
  versions = versions;
  asked = asked;
  rule = rule;
  output = output;
  carried = carried;
}

ends-none : (f : File) (s : State) (rs : List TreeRequest) → rs ≡ [] → Ends f s rs (at_rest s)
ends-none f s [] e = refl
ends-none f s (r ∷ rs) e = absurd cc

ends-some : (f : File) (s : State) (rs : List TreeRequest) (root : Use) → (rs ≡ [] → ⊥) →
    StepsTo (step_of f s) (root_of f s) root → Ends f s rs (after_step f s root)
ends-some f s [] root some made = absurd (some refl)
ends-some f s (r ∷ rs) root some made = (root, made, refl)

-- ---- what the calls tell
pub on-err : {A E : Type 0} (r : Result A E) (P : Type 0) → P → OnErr r P
on-err (Ok x) P p = tt
on-err (Err e) P p = p

pub on-ok : {A E : Type 0} (r : Result A E) (P : Type 0) → P → OnOk r P
on-ok (Ok x) P p = p
on-ok (Err e) P p = tt

pub empty-is : (xs : List Request) (b : Bool) → b ≡ (length xs == 0) → b ≡ true → xs ≡ []
empty-is [] b e t = refl
empty-is (x ∷ xs) b e t = let same = eqb-true (length (x ∷ xs)) 0 (sym e ∙ t) in absurd (omega (arith, same))

pub filled-is : (xs : List Request) (b : Bool) → b ≡ (length xs == 0) → b ≡ false → xs ≡ [] → ⊥
filled-is [] b e f h = true≢false (sym e ∙ f)
filled-is (x ∷ xs) b e f h = absurd cc

module _ (rows : List Row) (rule : Rule) (first : UseOf) (vs vs' : List Version) (xs xs' : List Request) (root : UseOf)
    (root-is : root ≡ last_root first (reverse vs')) (vs-are : vs' ≡ vs) (xs-are : xs' ≡ xs) where
  same-root : root ≡ last_root first (reverse vs)
  same-root = root-is ∙ ap (λ l. last_root first (reverse l)) vs-are

  pub plan-here : (plan : StepPlan) → IsPlan rows (a_table xs' rule) root.id.0 plan →
      IsPlan rows (a_table xs rule) (last_root first (reverse vs)).id.0 plan
  plan-here plan h =
      subst (λ r. IsPlan rows (a_table xs rule) r.id.0 plan) same-root
      (subst (λ l. IsPlan rows (a_table l rule) root.id.0 plan) xs-are h)

  pub fault-here : (count : ℕ) (fault : SessionFault) → IsPlanFault rows (a_table xs' rule) root.id.0 count fault →
      IsPlanFault rows (a_table xs rule) (last_root first (reverse vs)).id.0 count fault
  fault-here count fault h =
      subst (λ r. IsPlanFault rows (a_table xs rule) r.id.0 count fault) same-root
      (subst (λ l. IsPlanFault rows (a_table l rule) root.id.0 count fault) xs-are h)

module _ (v : View) where
  -- ---- at rest
  rests : (s : State) → Stands v s → Stands (record v { asked = []; rule = usual }) (at_rest s)
  rests s st = record {
    sound = st.sound;
    within = st.within;
    stocked = record {
      loaded = st.stocked.loaded;
      kinds = st.stocked.kinds;
      origins = st.stocked.origins;
      held = st.stocked.held;
      over_datums = st.stocked.over_datums;
    };
    first_held = st.first_held;
    first = st.first;
    first_word = st.first_word;
    start_held = st.start_held;
    start = st.start;
    versions = st.versions;
    asked = record {
      held = All-none (IsHeldIn v.rows);
      worded = All-none (IsWorded (length v.words));
      fit = All-none (λ (r : Request). ActFits v.rows r.source.0 r.act);
      stands = refl;
      over_datums = λ r by m e. absurd (Contains-none r m);
    };
    rule = refl;
    output = st.output;
    version = st.version;
    carried = st.carried;
  }

  pub rest-stands : (s : State) (asked : List Request) (rule : Rule) → asked ≡ [] → rule ≡ usual → Stands v s →
      Stands (record v { asked = asked; rule = rule }) (at_rest s)
  rest-stands s asked rule none is st =
      subst (λ a. Stands (record v { asked = a; rule = rule }) (at_rest s)) (sym none)
      (subst (λ r. Stands (record v { asked = []; rule = r }) (at_rest s)) (sym is) (rests s st))

  pub none-goes-on : (rule : Rule) → v.asked ≡ [] → rule ≡ usual → GoesOn v (record v { rule = rule }) Apply
  none-goes-on rule none is = λ s st. (
    at_rest s,
    ends-none v.file s s.requests (asks-none v s st none),
    rest-stands s v.asked rule none is st,
  )

  pub session-on : (new : View) (c : Command) → IsSession v → GoesOn v new c → IsSession new
  session-on new c held on = let next = on held.0 held.1 in (next.0, next.2)

  -- ---- a step without a plan
  pub plan-refused : (line : ℕ) (fault : SessionFault) → (v.asked ≡ [] → ⊥) →
      IsPlanFault v.rows (a_table v.asked v.rule) (root_of_view v).id.0 v.carried fault →
      IsRefusedFor v line Apply fault
  plan-refused line fault some h = λ s st. due-refusal v s st line fault some (plan-due v s st fault h)

  pub root-held : IsSession v → IsUseHeld v.words v.rows (root_of_view v)
  root-held held = before-held v held.0 held.1

  pub history-held : IsSession v → IsHeld v.rows (history_of_view v)
  history-held held =
      last-history-held v.file v.words v.rows v.start held.1.start_held (reverse v.versions) held.0.steps
      held.1.versions

  -- ---- a step with a plan
  module _ (staying : LoadingStays) (sound : IsSound v.rows) (words : List (List Pair)) (grows : GrowsTo v.words words)
      (plan : StepPlan) (planned : IsPlan v.rows (a_table v.asked v.rule) (root_of_view v).id.0 plan)
      (room : v.carried < most_steps) (some : v.asked ≡ [] → ⊥) where
    abbrev pub mid : View
    mid = record v { words = words }

    abbrev n : ℕ
    n = length v.words

    a-set-back : List Row → List Version → View
    a-set-back rows versions = record v { words = words; rows = rows; versions = versions }

    set-back : (rows : List Row) (versions : List Version) → rows ≡ v.rows → versions ≡ v.versions →
        record v { words = words; rows = rows; versions = versions } ≡ mid
    unfolding a-set-back
    set-back rows versions e f =
        ap (λ r. a-set-back r versions) e ∙ ap (λ l. a-set-back v.rows l) f

    mid-stands : (s : State) → Stands v s → Stands mid s
    mid-stands s st = stands-still staying v words sound grows.kept grows.table s st

    pub mid-session : IsSession v → (rows : List Row) (versions : List Version) → rows ≡ v.rows →
        versions ≡ v.versions → IsSession (record v { words = words; rows = rows; versions = versions })
    mid-session held rows versions e f =
        subst IsSession (sym (set-back rows versions e f)) (held.0, mid-stands held.0 held.1)

    carried : (s : State) → Stands v s →
        IsCarriedOut v.rows n (root_of_view v).id.0 plan (a_table v.asked v.rule)
    carried s st = record { planned = planned; held = st.asked.held; placed = st.asked.worded; fit = st.asked.fit }

    pub step-refused : (line : ℕ) (fault : SessionFault) →
        IsStepFault v.rows v.rows n words plan v.first (root_of_view v) (history_of_view v) fault →
        IsRefusedFor v line Apply fault
    step-refused line fault h = λ s st.
        let t = mid-stands s st in
        due-refusal mid s t line fault some
        (step-due mid s t n plan (carried s st) (within-rank mid s t plan room planned) v.rows fault h)

    pub as-it-was : (rows : List Row) (versions : List Version) → rows ≡ v.rows → versions ≡ v.versions →
        IsAsItWas v (record v { words = words; rows = rows; versions = versions })
    as-it-was rows versions e f =
        subst (λ z. IsAsItWas v z) (sym (set-back rows versions e f))
        (record { is = refl; kept = grows.kept; stands = mid-stands })

    pub count-rises : (old new : ℕ) →
        InSteps v.rows n (root_of_view v).id.0 plan words (RisesByKeys v.rows (root_of_view v) old new) →
        InStates v (λ s. RisesBy v.file s Apply old new)
    count-rises old new h = λ s st.
        let t = mid-stands s st in
        rises mid s t old new some (step-rises mid s t n plan (carried s st) (within-rank mid s t plan room planned) old
        new h)

    pub is-accepted : ((t : Step) → WalksAreDetermined (edges t)) → (line : ℕ) →
        InSteps v.rows n (root_of_view v).id.0 plan words (IsWithinLimits v.rows (root_of_view v)) →
        IsAccepted v line Apply
    is-accepted determined line h = λ s st.
        let t = mid-stands s st in
        step-accepted mid s t n plan (carried s st) (within-rank mid s t plan room planned) determined h line

    module _ (origins_stay : (s : Step) (among : ℕ → Bool) → OriginsStay s (Passes among))
        (words_stay : (s : Step) (among : ℕ → Bool) → WordsStay s (Passes among)) (stand : SubtreesStand)
        (by_trees : FitsByTrees v.rows) (rows : List Row) (sound' : IsSound rows) (keeps : Keeps v.rows rows)
        (loaded : KeepsLoaded v.rows rows) (places : HasPlaces rows (length words)) (versions : List Version)
        (added : IsVersionAdded v.rows rows n words plan v.first v.start v.versions versions) (asked : List Request)
        (rule : Rule) (count : ℕ) (none : asked ≡ []) (is : rule ≡ usual) (counted : count ≡ suc v.carried) where
      abbrev pub after : View
      after = record v {
        words = words;
        rows = rows;
        versions = versions;
        asked = asked;
        rule = rule;
        carried = count;
      }

      a-view : List Version → List Request → Rule → ℕ → View
      a-view vs rs r k = record v { words = words; rows = rows; versions = vs; asked = rs; rule = r; carried = k }

      is-after : after ≡ a-view (v.versions ++ added.0 ∷ []) [] usual (suc v.carried)
      unfolding a-view
      is-after =
          ap (λ vs. a-view vs asked rule count) added.1 ∙
          ap (λ rs. a-view (v.versions ++ added.0 ∷ []) rs rule count) none ∙
          ap (λ r. a-view (v.versions ++ added.0 ∷ []) [] r count) is ∙
          ap (λ k. a-view (v.versions ++ added.0 ∷ []) [] usual k) counted

      pub step-goes-on : GoesOn v after Apply
      unfolding a-view
      step-goes-on = λ s st.
          let t = mid-stands s st in
          let root =
          new-root staying origins_stay words_stay stand mid s t sound by_trees n plan (carried s st) rows sound' keeps
          loaded places added.0 added.2 in (
            after_step v.file s root,
            ends-some v.file s s.requests root (asks-some v s st some)
                (steps staying origins_stay words_stay stand mid s t sound by_trees n plan (carried s st) rows sound'
                keeps
                loaded places added.0 added.2),
            next-stands staying origins_stay words_stay stand mid s t sound by_trees n plan (carried s st) rows sound'
                keeps loaded places added.0 added.2 after is-after,
          )
