-- Why a step is refused, and that one that is carried out isn't.
use Rattle.std.proofs.Common.{◌≡◌, refl, arith, inl, inr, ℕ, List, [], ◌∷◌, ◌++◌}
use Rattle.std.specs.Prelude.{◌↔◌, Contains}
use Rattle.std.proofs.lemmas.List.Elements.{All-weaker}
use Rattle.graph_walks.specs.Walks.{WalksAreDetermined}
use Rattle.expansion_laws.specs.Graph.{edges}
use Rattle.expansion_laws.specs.Requests.{Request}
use Rattle.expansion_laws.specs.StepMeasures.{IsHeldTree}
use Rattle.expansion_laws.specs.Steps.{Step}
use Rattle.expansion_laws.specs.Trees.{Tree, Use}
use Rattle.key_results.specs.declared.fault.LimitKind.{LimitKind}
use Rattle.key_results.specs.declared.fault.LimitKind.TheVariants as kinds
use Rattle.reshape.specs.Limits.{groups, first_groups, IsFirstFault, IsNodesFault, PassAll}
use Rattle.brep_file.specs.declared.file.File.{File}
use Rattle.session.specs.declared.fault.SessionFault.{SessionFault}
use Rattle.session.specs.declared.fault.SessionFault.TheVariants.{Script, Cycle, Limit, NoMemory}
use Rattle.session.specs.Refusals.{IsCycle, IsPast, IsStepRefused, IsWithinRank}
use Rattle.session.specs.States.{State, held_trees, root_of, step_of}

-- ---- the groups of tests
-- a fault that isn't one of the first groups' is one of the last's
last-moves : (gs : List (LimitKind → ℕ → Type 0)) (a b : LimitKind → ℕ → Type 0) (which : LimitKind) (n : ℕ) →
    (a which n → b which n) → IsFirstFault (gs ++ a ∷ []) which n → IsFirstFault (gs ++ b ∷ []) which n
last-moves [] a b which n on (inl h) = inl (on h)
last-moves [] a b which n on (inr h) = absurd h.1
last-moves (g ∷ gs) a b which n on (inl h) = inl h
last-moves (g ∷ gs) a b which n on (inr h) = inr (h.0, last-moves gs a b which n on h.1)

passed : (gs : List (LimitKind → ℕ → Type 0)) (which : LimitKind) (n : ℕ) → PassAll gs → IsFirstFault gs which n → ⊥
passed [] which n p h = h
passed (g ∷ gs) which n p (inl h) = p.0 which n h
passed (g ∷ gs) which n p (inr h) = passed gs which n p.1 h.1

nodes-move : (s : Step) (root : Use) (a b : List Tree) → ((x : Tree) → Contains a x → Contains b x) →
    (which : LimitKind) (n : ℕ) → IsNodesFault s root a which n → IsNodesFault s root b which n
nodes-move s root a b on kinds.Nodes n h =
    let more = h.2 in (
      h.0,
      h.1,
      (
        more.0,
        more.1,
        All-weaker (IsHeldTree a (h.0 ∷ [])) (IsHeldTree b (h.0 ∷ []))
            (λ x held. elim held [ inl m ↦ inl (on x m) | inr m ↦ inr m ]) more.0 more.2,
        more.3,
      ),
      h.3,
    )
nodes-move s root a b on kinds.FileBytes n h = absurd h
nodes-move s root a b on kinds.ScriptBytes n h = absurd h
nodes-move s root a b on kinds.ScriptLines n h = absurd h
nodes-move s root a b on kinds.Steps n h = absurd h
nodes-move s root a b on kinds.Rank n h = absurd h
nodes-move s root a b on kinds.Keys n h = absurd h
nodes-move s root a b on kinds.WordPairs n h = absurd h
nodes-move s root a b on kinds.WordPower n h = absurd h
nodes-move s root a b on kinds.Uses n h = absurd h
nodes-move s root a b on kinds.Depth n h = absurd h
nodes-move s root a b on kinds.Pairs n h = absurd h

pub groups-move : (s : Step) (root : Use) (a b : List Tree) → ((x : Tree) → Contains a x → Contains b x) →
    (which : LimitKind) (n : ℕ) → IsFirstFault (groups s root a) which n → IsFirstFault (groups s root b) which n
groups-move s root a b on which n h =
    last-moves (first_groups s root) (IsNodesFault s root a) (IsNodesFault s root b) which n
    (nodes-move s root a b on which n) h

-- no group has a fault of the number of steps, or of the rank
no-steps : (s : Step) (root : Use) (held : List Tree) (n : ℕ) → IsFirstFault (groups s root held) kinds.Steps n → ⊥
no-steps s root held n (inl h) = h
no-steps s root held n (inr (p, inl h)) = h
no-steps s root held n (inr (p, inr (q, inl h))) = h
no-steps s root held n (inr (p, inr (q, inr (r, inl h)))) = h
no-steps s root held n (inr (p, inr (q, inr (r, inr (t, inl h))))) = h
no-steps s root held n (inr (p, inr (q, inr (r, inr (t, inr h))))) = h.1

no-rank : (s : Step) (root : Use) (held : List Tree) (n : ℕ) → IsFirstFault (groups s root held) kinds.Rank n → ⊥
no-rank s root held n (inl h) = h
no-rank s root held n (inr (p, inl h)) = h
no-rank s root held n (inr (p, inr (q, inl h))) = h
no-rank s root held n (inr (p, inr (q, inr (r, inl h)))) = h
no-rank s root held n (inr (p, inr (q, inr (r, inr (t, inl h))))) = h
no-rank s root held n (inr (p, inr (q, inr (r, inr (t, inr h))))) = h.1

-- ---- refusals in a state
module _ (f : File) (s : State) where
  -- why its step is refused where it has requests
  abbrev pub IsDue : SessionFault → Type 0
  IsDue (Script fault) = ⊥
  IsDue (Cycle walk) = IsCycle f s walk
  IsDue (Limit which n) = IsPast f s which n
  IsDue NoMemory = ⊥

  pub refused-of : (rs : List Request) (fault : SessionFault) → (rs ≡ [] → ⊥) → IsDue fault → IsStepRefused f s rs fault
  refused-of [] fault some due = absurd (some refl)
  refused-of (r ∷ rs) (Script fault) some due = due
  refused-of (r ∷ rs) (Cycle walk) some due = due
  refused-of (r ∷ rs) (Limit which n) some due = due
  refused-of (r ∷ rs) NoMemory some due = due

  pub due-of : (rs : List Request) (fault : SessionFault) → IsStepRefused f s rs fault → IsDue fault
  due-of [] fault h = absurd h
  due-of (r ∷ rs) (Script fault) h = h
  due-of (r ∷ rs) (Cycle walk) h = h
  due-of (r ∷ rs) (Limit which n) h = h
  due-of (r ∷ rs) NoMemory h = h

  -- a fault of the groups of tests
  move : (held : List Tree) → ((x : Tree) → Contains held x ↔ Contains (held_trees f s) x) → (which : LimitKind)
      (n : ℕ) → IsFirstFault (groups (step_of f s) (root_of f s) held) which n →
      IsFirstFault (groups (step_of f s) (root_of f s) (held_trees f s)) which n
  move held same which n h =
      groups-move (step_of f s) (root_of f s) held (held_trees f s) (λ x. (same x).0) which n h

  pub past : (held : List Tree) → ((x : Tree) → Contains held x ↔ Contains (held_trees f s) x) → IsWithinRank f s →
      (which : LimitKind) (n : ℕ) → IsFirstFault (groups (step_of f s) (root_of f s) held) which n → IsPast f s which n
  past held same within kinds.Steps n h = absurd (no-steps (step_of f s) (root_of f s) held n h)
  past held same within kinds.Rank n h = absurd (no-rank (step_of f s) (root_of f s) held n h)
  past held same within kinds.FileBytes n h = (within, move held same kinds.FileBytes n h)
  past held same within kinds.ScriptBytes n h = (within, move held same kinds.ScriptBytes n h)
  past held same within kinds.ScriptLines n h = (within, move held same kinds.ScriptLines n h)
  past held same within kinds.Keys n h = (within, move held same kinds.Keys n h)
  past held same within kinds.WordPairs n h = (within, move held same kinds.WordPairs n h)
  past held same within kinds.WordPower n h = (within, move held same kinds.WordPower n h)
  past held same within kinds.Uses n h = (within, move held same kinds.Uses n h)
  past held same within kinds.Depth n h = (within, move held same kinds.Depth n h)
  past held same within kinds.Nodes n h = (within, move held same kinds.Nodes n h)
  past held same within kinds.Pairs n h = (within, move held same kinds.Pairs n h)

  -- ---- acceptance
  module _ (held : List Tree) (same : (x : Tree) → Contains held x ↔ Contains (held_trees f s) x)
      (within : IsWithinRank f s) (passes : PassAll (groups (step_of f s) (root_of f s) held))
      (determined : WalksAreDetermined (edges (step_of f s))) where
    in-groups : (which : LimitKind) (n : ℕ) →
        IsFirstFault (groups (step_of f s) (root_of f s) (held_trees f s)) which n → ⊥
    in-groups which n h =
        passed (groups (step_of f s) (root_of f s) held) which n passes
        (groups-move (step_of f s) (root_of f s) (held_trees f s) held (λ x. (same x).1) which n h)

    not-past : (which : LimitKind) (n : ℕ) → IsPast f s which n → ⊥
    not-past kinds.Steps n h = let room = within.0.0 in omega (arith, room, h.0)
    not-past kinds.Rank n h =
        let one = determined.one_rank (root_of f s).tree n within.1.0 h.1 within.1.1 in
        let most = within.1.2 in
        omega (arith, one, most, h.2)
    not-past kinds.FileBytes n h = in-groups kinds.FileBytes n h.1
    not-past kinds.ScriptBytes n h = in-groups kinds.ScriptBytes n h.1
    not-past kinds.ScriptLines n h = in-groups kinds.ScriptLines n h.1
    not-past kinds.Keys n h = in-groups kinds.Keys n h.1
    not-past kinds.WordPairs n h = in-groups kinds.WordPairs n h.1
    not-past kinds.WordPower n h = in-groups kinds.WordPower n h.1
    not-past kinds.Uses n h = in-groups kinds.Uses n h.1
    not-past kinds.Depth n h = in-groups kinds.Depth n h.1
    not-past kinds.Nodes n h = in-groups kinds.Nodes n h.1
    not-past kinds.Pairs n h = in-groups kinds.Pairs n h.1

    not-due : (fault : SessionFault) → IsDue fault → ⊥
    not-due (Script fault) h = h
    not-due (Cycle walk) h =
        let root = (root_of f s).tree in
        within.0.1 (determined.has_cycle root h.1.0 (determined.first_is_cycle root h.1.0 h.1.1))
    not-due (Limit which n) h = not-past which n h
    not-due NoMemory h = h

    pub accepted : (rs : List Request) (fault : SessionFault) → IsStepRefused f s rs fault → ⊥
    accepted rs fault h = not-due fault (due-of rs fault h)
