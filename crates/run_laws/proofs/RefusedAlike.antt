-- States that are alike: each command is refused for the same in both.
use Rattle.std.proofs.Common.{◌≡◌, ◌∙◌, refl, ap, subst, subst₂}
use Rattle.std.specs.Prelude.{◌≤◌, ◌<◌, ◌++◌, ℕ, List, [], ◌∷◌, length}
use Rattle.std.specs.List.{flat_map}
use Rattle.expansion_laws.specs.Trees.{Tree, Use}
use Rattle.expansion_laws.specs.Graph.{edges, IsRank}
use Rattle.expansion_laws.specs.Measures.{subtrees}
use Rattle.expansion_laws.specs.Requests.{Request}
use Rattle.graph_walks.specs.Walks.{HasCycle as WalksHaveCycle, IsRank as IsRankOfWalks}
use Rattle.graph_walks.specs.Walks.{IsFirstCycle as IsFirstCycleOfWalks}
use Rattle.step_history.specs.Composition.{Done}
use Rattle.brep_file.specs.declared.file.File.{File}
use Rattle.key_results.specs.declared.fault.LimitKind.{LimitKind}
use Rattle.key_results.specs.declared.fault.LimitKind.TheVariants.{Steps, Rank}
use Rattle.reshape.specs.Limits.{groups, IsFirstFault}
use Rattle.script_text.specs.declared.command.Command.{Command}
use Rattle.script_text.specs.declared.command.Command.TheVariants as commands
use Rattle.session.specs.declared.fault.SessionFault.{SessionFault}
use Rattle.session.specs.declared.fault.SessionFault.TheVariants.{Script, Cycle, Limit, NoMemory}
use Rattle.session.specs.Refusals.{most_steps, HasRoom, HasNoCycle, IsWithinRank, IsPast, IsStepRefused}
use Rattle.session.specs.Refusals.{IsUndoRefused, IsAskRefused, IsRefused}
use Rattle.session.specs.States.{State, root_of, step_of, held_trees, record_trees}
use Rattle.run_laws.proofs.AskedAlike.{TreesTell}
use Rattle.run_laws.proofs.LimitsAlike.{first-faults}
use Rattle.run_laws.proofs.NamesAlike.{AllDoneAlike, amiss}
use Rattle.run_laws.proofs.StatesAlike.{StateAlike, not-empty, root-same, state-back, step-alike}
use Rattle.run_laws.proofs.StepsAlike.{AskAlike, ask-back, edges-same, lift}

module _ (f : File) (s t : State) (a : StateAlike s t) where
  edges-are : edges (step_of f s) ≡ edges (step_of f t)
  edges-are =
      lift (λ z. edges (step_of f s) ≡ edges z) (λ kinds rule rs qs b e. e ∙ edges-same kinds rule rs qs b)
      (step_of f s) (step_of f t) (step-alike f s t a) refl

  -- what is said of the graph from the root
  pub graph-over : (P : (Tree → List Tree) → Tree → Type 0) → P (edges (step_of f s)) (root_of f s).tree →
      P (edges (step_of f t)) (root_of f t).tree
  graph-over P h = subst₂ P edges-are (ap (λ (u : Use). u.tree) (root-same f s t a)) h

  room-over : HasRoom f s → HasRoom f t
  room-over h = subst (λ (l : List Use). length l < most_steps) a.made h

  held-same : held_trees f s ≡ held_trees f t
  held-same = ap (λ (l : List Use). record_trees f (length f.records) ++ flat_map (λ u. subtrees u.tree) l) a.made

  faults-over : (which : LimitKind) (n : ℕ) →
      IsFirstFault (groups (step_of f s) (root_of f s) (held_trees f s)) which n →
      IsFirstFault (groups (step_of f t) (root_of f t) (held_trees f t)) which n
  faults-over which n h =
      subst₂ (λ u l. IsFirstFault (groups (step_of f t) u l) which n) (root-same f s t a) held-same
      (lift (λ z. IsFirstFault (groups z (root_of f s) (held_trees f s)) which n)
      (λ kinds rule rs qs b. first-faults kinds rule (root_of f s) (held_trees f s) rs qs b which n)
      (step_of f s) (step_of f t) (step-alike f s t a) h)

module _ (f : File) where
  no-cycle-over : (s t : State) → StateAlike s t → HasNoCycle f s → HasNoCycle f t
  no-cycle-over s t a (room, none) = (
    room-over f s t a room,
    (λ c. none (graph-over f t s (state-back s t a) WalksHaveCycle c)),
  )

  rank-over : (s t : State) → StateAlike s t → (n : ℕ) → IsRank (step_of f s) (root_of f s).tree n →
      IsRank (step_of f t) (root_of f t).tree n
  rank-over s t a n h = graph-over f s t a (λ e x. IsRankOfWalks e x n) h

  within-over : (s t : State) → StateAlike s t → IsWithinRank f s → IsWithinRank f t
  within-over s t a (none, (m, rank, le)) = (no-cycle-over s t a none, (m, rank-over s t a m rank, le))

  past-over : (s t : State) → StateAlike s t → (which : LimitKind) (n : ℕ) → IsPast f s which n → IsPast f t which n
  past-over s t a Steps n (le, e) = (subst (λ (l : List Use). most_steps ≤ length l) a.made le, e)
  past-over s t a Rank n (none, rank, lt) = (no-cycle-over s t a none, rank-over s t a n rank, lt)
  past-over s t a which n h = (within-over s t a h.0, faults-over f s t a which n h.1)

  module _ (tell : TreesTell) (s t : State) (a : StateAlike s t) where
    step-refused : (rs qs : List Request) → AskAlike rs qs → (fault : SessionFault) → IsStepRefused f s rs fault →
        IsStepRefused f t qs fault
    step-refused [] qs b fault h = absurd h
    step-refused (r ∷ rs) [] b fault h = absurd (not-empty tell r rs (ask-back (r ∷ rs) [] b))
    step-refused (r ∷ rs) (q ∷ qs) b (Script fault) h = absurd h
    step-refused (r ∷ rs) (q ∷ qs) b (Cycle walk) (room, (trees, is, e)) = (
      room-over f s t a room,
      (trees, graph-over f s t a (λ g x. IsFirstCycleOfWalks g x trees) is, e),
    )
    step-refused (r ∷ rs) (q ∷ qs) b (Limit which n) h = past-over s t a which n h
    step-refused (r ∷ rs) (q ∷ qs) b NoMemory h = absurd h

    undo-refused : (line : ℕ) (rs qs : List Request) → AskAlike rs qs → (ds es : List Done) → AllDoneAlike ds es →
        (fault : SessionFault) → IsUndoRefused f s line rs ds fault → IsUndoRefused f t line qs es fault
    undo-refused line [] [] b [] [] c fault h = h
    undo-refused line [] (q ∷ qs) b ds es c fault h = absurd (not-empty tell q qs b)
    undo-refused line [] [] b [] (d ∷ es) c fault h = absurd c
    undo-refused line [] [] b (d ∷ ds) es c fault h = absurd h
    undo-refused line (r ∷ rs) qs b ds es c fault h = absurd h

    ask-refused : (line : ℕ) (c : Command) (fault : SessionFault) → IsAskRefused f s line c fault →
        IsAskRefused f t line c fault
    ask-refused line c (Script fault) h = amiss f s.steps t.steps a.steps line c fault h
    ask-refused line c (Cycle walk) h = absurd h
    ask-refused line c (Limit which n) h = absurd h
    ask-refused line c NoMemory h = absurd h

    pub refused-over : (line : ℕ) (c : Command) (fault : SessionFault) → IsRefused f s line c fault →
        IsRefused f t line c fault
    refused-over line (commands.Replace sel tgt) fault h = ask-refused line (commands.Replace sel tgt) fault h
    refused-over line (commands.Remove sel) fault h = ask-refused line (commands.Remove sel) fault h
    refused-over line (commands.Merge names) fault h = ask-refused line (commands.Merge names) fault h
    refused-over line (commands.Sew names) fault h = ask-refused line (commands.Sew names) fault h
    refused-over line commands.Apply fault h = step-refused s.requests t.requests a.requests fault h
    refused-over line commands.Undo fault h =
        undo-refused line s.requests t.requests a.requests s.steps t.steps a.steps fault h
    refused-over line (commands.Until kind) fault h = absurd h
    refused-over line commands.Prune fault h = absurd h
    refused-over line commands.OutputFirst fault h = absurd h
