-- Why a step of a session is refused, that one that is carried out isn't, and how far a count rises.
use Rattle.std.proofs.Common.{◌≡◌, ◌≤◌, ◌<◌, ◌+◌, ◌∙◌, ap, sym, subst, refl, inl, inr, ℕ, List, [], ◌∷◌, map}
use Rattle.std.specs.Prelude.{◌⊎◌, length}
use Rattle.lists.specs.Distinct.{Counts}
use Rattle.location_words.specs.declared.pair.Pair.{Pair}
use Rattle.graph_walks.specs.Walks.{WalksAreDetermined}
use Rattle.expansion_laws.specs.Graph.{edges, HasCycle, IsFirstCycle, IsRank}
use Rattle.expansion_laws.specs.Keys.{IsKeyOfStep}
use Rattle.expansion_laws.specs.Requests.{Request as TreeRequest}
use Rattle.expansion_laws.specs.Steps.{Step}
use Rattle.expansion_laws.specs.Trees.{Tree, Use}
use Rattle.shape_pool.specs.Rows.{Row, tree_at, trees_of}
use Rattle.requests.specs.declared.request.Request.{Request}
use Rattle.requests.specs.Plans.{InReadings, IsCycleBy, IsPlan, IsRankPast, StepPlan}
use Rattle.requests.specs.Plans.{IsWithinRank as IsWithinRankBy}
use Rattle.requests.specs.Readings.{request_by, requests_by}
use Rattle.key_results.specs.declared.fault.ApplyFault.TheVariants as apply_faults
use Rattle.key_results.specs.declared.fault.LimitKind.TheVariants as kinds
use Rattle.reshape.specs.Answers.{IsDueLimit, IsWithinLimits, RisesByKeys}
use Rattle.reshape.specs.Limits.{groups, IsFirstFault, PassAll}
use Rattle.reshape.specs.Readings.{InSteps, IsCarriedOut}
use Rattle.file_loading.specs.Loading.{kind_of_record}
use Rattle.script_text.specs.declared.command.Command.TheVariants.{Apply}
use Rattle.session.specs.Commands.{RisesByStep}
use Rattle.session.specs.declared.fault.SessionFault.{SessionFault}
use Rattle.session.specs.declared.fault.SessionFault.TheVariants.{Script, Cycle, Limit, NoMemory}
use Rattle.session.specs.Refusals.{most_steps, HasRoom, IsDueRefusal, IsRefused, IsWithinRank}
use Rattle.session.specs.Stepped.{IsPlanFault, IsStepFault}
use Rattle.session.specs.States.{root_of, State, step_of}
use Rattle.session.specs.Standing.{Stands}
use Rattle.session.specs.Views.{history_of_view, root_of_view, View}
use Rattle.session.proofs.StepLimits.{accepted, past, refused-of, IsDue}
use Rattle.session.proofs.StepReads.{reading}
use Rattle.session.proofs.StepTurns.{in-step, root-is, step-eq, table, word}

mapped-some : (f : Request → TreeRequest) (xs : List Request) → (xs ≡ [] → ⊥) → map f xs ≡ [] → ⊥
mapped-some f [] some e = some refl
mapped-some f (x ∷ xs) some e = absurd cc

module _ (v : View) (s : State) (st : Stands v s) where
  abbrev w : ℕ → List Pair
  w = word v s st

  root-tree : tree_at w v.rows (root_of_view v).id.0 ≡ (root_of v.file s).tree
  root-tree = ap (λ (z : Use). z.tree) (root-is v s st)

  -- requests are asked for where numbers are
  pub asks-some : (v.asked ≡ [] → ⊥) → s.requests ≡ [] → ⊥
  asks-some some e = mapped-some (request_by w v.rows) v.asked some (sym st.asked.stands ∙ e)

  pub asks-none : v.asked ≡ [] → s.requests ≡ []
  asks-none e = st.asked.stands ∙ ap (λ l. requests_by w v.rows l) e

  -- a fact of each reading of the table
  in-reading : (P : Step → (ℕ → Tree) → Type 0) → InReadings v.rows (table v s st) P →
      P (step_of v.file s) (tree_at w v.rows)
  in-reading P h =
      subst (λ z. P z (tree_at w v.rows)) (step-eq v s st)
      (h (kind_of_record v.file) w (length v.words)
      (reading v.file v.words v.rows v.asked v.rule s st.asked st.rule st.stocked.loaded st.stocked.kinds))

  room : v.carried < most_steps → HasRoom v.file s
  room lt = subst (λ n. n < most_steps) st.carried lt

  pub within-rank : (plan : StepPlan) → v.carried < most_steps →
      IsPlan v.rows (table v s st) (root_of_view v).id.0 plan → IsWithinRank v.file s
  within-rank plan lt p =
      let root = (root_of_view v).id.0 in
      let r = in-reading (IsWithinRankBy root) p.within in (
        (room lt, subst (λ x. HasCycle (step_of v.file s) x → ⊥) root-tree r.no_cycle),
        (r.rank.0, subst (λ x. IsRank (step_of v.file s) x r.rank.0) root-tree r.rank.1, r.rank.2),
      )

  -- ---- refusals
  pub plan-due : (fault : SessionFault) →
      IsPlanFault v.rows (table v s st) (root_of_view v).id.0 v.carried fault →
      (fault ≡ NoMemory) ⊎ IsDue v.file s fault
  plan-due (Script x) h = absurd h
  plan-due NoMemory h = inl refl
  plan-due (Cycle walk) h =
      let root = (root_of_view v).id.0 in
      let c = in-reading (IsCycleBy walk root) h.1 in
      inr (room h.0, (c.0, subst (λ x. IsFirstCycle (step_of v.file s) x c.0) root-tree c.1, c.2))
  plan-due (Limit kinds.Steps n) h = inr (subst (λ m. most_steps ≤ m) st.carried h.0, h.1)
  plan-due (Limit kinds.Rank n) h =
      let root = (root_of_view v).id.0 in
      let r = in-reading (IsRankPast n root) h.1 in
      inr (
        (room h.0, subst (λ x. HasCycle (step_of v.file s) x → ⊥) root-tree r.0),
        subst (λ x. IsRank (step_of v.file s) x n) root-tree r.1,
        r.2,
      )
  plan-due (Limit kinds.FileBytes n) h = absurd h
  plan-due (Limit kinds.ScriptBytes n) h = absurd h
  plan-due (Limit kinds.ScriptLines n) h = absurd h
  plan-due (Limit kinds.Keys n) h = absurd h
  plan-due (Limit kinds.WordPairs n) h = absurd h
  plan-due (Limit kinds.WordPower n) h = absurd h
  plan-due (Limit kinds.Uses n) h = absurd h
  plan-due (Limit kinds.Depth n) h = absurd h
  plan-due (Limit kinds.Nodes n) h = absurd h
  plan-due (Limit kinds.Pairs n) h = absurd h

  module _ (n : ℕ) (plan : StepPlan)
      (carried : IsCarriedOut v.rows n (root_of_view v).id.0 plan (table v s st)) (within : IsWithinRank v.file s) where
    pub step-due : (new : List Row) (fault : SessionFault) →
        IsStepFault v.rows new n v.words plan v.first (root_of_view v) (history_of_view v) fault →
        (fault ≡ NoMemory) ⊎ IsDue v.file s fault
    step-due new (Script x) h = absurd h
    step-due new (Cycle walk) h = absurd h
    step-due new NoMemory h = inl refl
    step-due new (Limit which count) h =
        let due =
        in-step v s st n plan (IsDueLimit v.rows (root_of_view v) (apply_faults.Limit which count)) carried h in
        inr (past v.file s (trees_of w v.rows) st.stocked.held within which count
        (subst (λ z. IsFirstFault (groups (step_of v.file s) z (trees_of w v.rows)) which count) (root-is v s st) due))

    -- ---- acceptance
    pub step-accepted : ((t : Step) → WalksAreDetermined (edges t)) →
        InSteps v.rows n (root_of_view v).id.0 plan v.words (IsWithinLimits v.rows (root_of_view v)) →
        (line : ℕ) (fault : SessionFault) → IsRefused v.file s line Apply fault → ⊥
    step-accepted determined h line fault r =
        let passes =
        subst (λ z. PassAll (groups (step_of v.file s) z (trees_of w v.rows))) (root-is v s st)
        (in-step v s st n plan (IsWithinLimits v.rows (root_of_view v)) carried h) in
        accepted v.file s (trees_of w v.rows) st.stocked.held within passes (determined (step_of v.file s)) s.requests
        fault r

    -- ---- counts
    pub step-rises : (old new : ℕ) →
        InSteps v.rows n (root_of_view v).id.0 plan v.words (RisesByKeys v.rows (root_of_view v) old new) → (m : ℕ) →
        Counts (IsKeyOfStep (step_of v.file s) (root_of v.file s)) m → new ≤ old + m
    step-rises old new h m counts =
        in-step v s st n plan (RisesByKeys v.rows (root_of_view v) old new) carried h m
        (subst (λ z. Counts (IsKeyOfStep (step_of v.file s) z) m) (sym (root-is v s st)) counts)

  -- ---- as clauses say it
  pub due-refusal : (line : ℕ) (fault : SessionFault) → (v.asked ≡ [] → ⊥) →
      (fault ≡ NoMemory) ⊎ IsDue v.file s fault → IsDueRefusal v.file s line Apply fault
  due-refusal line fault some (inl e) = inl e
  due-refusal line fault some (inr due) =
      inr (refused-of v.file s s.requests fault (asks-some some) due)

rises-of : (v : View) (s : State) (rs : List TreeRequest) (old new : ℕ) → (rs ≡ [] → ⊥) →
    ((m : ℕ) → Counts (IsKeyOfStep (step_of v.file s) (root_of v.file s)) m → new ≤ old + m) →
    RisesByStep v.file s rs old new
rises-of v s [] old new some h = absurd (some refl)
rises-of v s (r ∷ rs) old new some h = h

pub rises : (v : View) (s : State) → Stands v s → (old new : ℕ) → (v.asked ≡ [] → ⊥) →
    ((m : ℕ) → Counts (IsKeyOfStep (step_of v.file s) (root_of v.file s)) m → new ≤ old + m) →
    RisesByStep v.file s s.requests old new
rises v s st old new some h = rises-of v s s.requests old new (asks-some v s st some) h
