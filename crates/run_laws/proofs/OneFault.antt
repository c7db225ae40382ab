-- The faults of one command in one state agree.
use Rattle.std.proofs.Common.{◌≡◌, ◌∙◌, refl, sym, ap, ap₂, inl, inr, arith}
use Rattle.std.specs.Prelude.{◌⊎◌, ◌≤◌, ◌<◌, ℕ, suc, min, List, [], ◌∷◌, length, map}
use Rattle.location_words.specs.declared.pair.Pair.{Pair}
use Rattle.graph_walks.specs.Walks.{WalksAreDetermined}
use Rattle.expansion_laws.specs.Trees.{Tree, Use, origin}
use Rattle.expansion_laws.specs.Graph.{edges, HasCycle, IsRank}
use Rattle.expansion_laws.specs.Measures.{depth}
use Rattle.expansion_laws.specs.Requests.{Request}
use Rattle.expansion_laws.specs.Rewriting.{StepsTo}
use Rattle.expansion_laws.specs.RewritingLaws.{IsDetermined}
use Rattle.expansion_laws.specs.SlowMeasures.{MeasuresAreDetermined}
use Rattle.expansion_laws.specs.StepMeasures.{IsUseCount, IsWordMade, IsWordOfKey}
use Rattle.expansion_laws.specs.Steps.{Step}
use Rattle.shape_pool.specs.Rows.{most_nodes}
use Rattle.step_history.specs.Composition.{Done}
use Rattle.brep_file.specs.declared.file.File.{File}
use Rattle.key_results.specs.Derivations.{most_told}
use Rattle.key_results.specs.Faults.{IsWordFault}
use Rattle.key_results.specs.declared.fault.LimitKind.{LimitKind}
use Rattle.key_results.specs.declared.fault.LimitKind.TheVariants.{Steps, Rank, Keys, Uses, WordPairs, WordPower}
use Rattle.key_results.specs.declared.fault.LimitKind.TheVariants.{Depth, Nodes}
use Rattle.requests.specs.Plans.{most_rank}
use Rattle.reshape.specs.Limits.{groups, IsFirstFault, IsKeysFault, IsUsesFault, IsDepthFault}
use Rattle.reshape.specs.Limits.{IsNodesFault}
use Rattle.script_text.specs.declared.command.Command.{Command}
use Rattle.script_text.specs.declared.command.Command.TheVariants as commands
use Rattle.session.specs.declared.fault.SessionFault.{SessionFault}
use Rattle.session.specs.declared.fault.SessionFault.TheVariants.{Script, Cycle, Limit, NoMemory}
use Rattle.session.specs.Refusals.{most_steps, HasRoom, HasNoCycle, IsWithinRank, IsPast, IsCycle, IsStepRefused}
use Rattle.session.specs.Refusals.{IsUndoRefused, IsAskRefused}
use Rattle.session.specs.States.{State, root_of, step_of, held_trees}
use Rattle.run_laws.specs.Agreeing.{FaultsAgree, IsOfWords}
use Rattle.run_laws.proofs.OneAmiss.{amiss-one}
use Rattle.run_laws.proofs.RunsAlike.{OneFault}
use Rattle.run_laws.proofs.StatesAlike.{one-root}

-- ---- groups of tests
abbrev Group : Type 1
Group = LimitKind → ℕ → Type 0

-- the faults of a group agree
abbrev FaultsOf : Group → Type 0
FaultsOf g = (w v : LimitKind) (m n : ℕ) → g w m → g v n → FaultsAgree (Limit w m) (Limit v n)

data AllAgree : List Group → Type 1 where
  no_group : AllAgree []
  one_group : {g : Group} {gs : List Group} → FaultsOf g → AllAgree gs → AllAgree (g ∷ gs)

first-agree : {gs : List Group} → AllAgree gs → FaultsOf (IsFirstFault gs)
first-agree no_group w v m n h k = absurd h
first-agree (one_group here rest) w v m n (inl h) (inl k) = here w v m n h k
first-agree (one_group here rest) w v m n (inl h) (inr k) = absurd (k.0 w m h)
first-agree (one_group here rest) w v m n (inr h) (inl k) = absurd (h.0 v n k)
first-agree (one_group here rest) w v m n (inr h) (inr k) = first-agree rest w v m n h.1 k.1

word-fault : (W : List Pair → Type 0) (w : LimitKind) (m : ℕ) → IsWordFault W w m → IsOfWords w
word-fault W WordPairs m h = tt
word-fault W WordPower m h = tt
word-fault W _ m h = absurd h

module _ (s : Step) (root : Use) (held : List Tree) where
  keys-fault : (w : LimitKind) (m : ℕ) → IsKeysFault s root w m → IsOfWords w
  keys-fault Keys m h = tt
  keys-fault w m h = word-fault (IsWordOfKey s root) w m h

  uses-fault : (w : LimitKind) (m : ℕ) → IsUsesFault s root w m →
      (x : ℕ) × (w ≡ Uses) × IsUseCount s root x × (m ≡ min x most_told)
  uses-fault Uses m (x, is, past, e) = (x, refl, is, e)
  uses-fault _ m h = absurd h

  depth-fault : (w : LimitKind) (m : ℕ) → IsDepthFault s root w m →
      (new : Use) × (w ≡ Depth) × StepsTo s root new × (m ≡ depth new.tree)
  depth-fault Depth m (new, to, past, e) = (new, refl, to, e)
  depth-fault _ m h = absurd h

  nodes-fault : (w : LimitKind) (m : ℕ) → IsNodesFault s root held w m → (w ≡ Nodes) × (m ≡ suc most_nodes)
  nodes-fault Nodes m (new, to, more, e) = (refl, e)
  nodes-fault _ m h = absurd h

  module _ (count : MeasuresAreDetermined s root)
      (single : (a b : Use) → StepsTo s root a → StepsTo s root b → a ≡ b) where
    uses-agree : FaultsOf (IsUsesFault s root)
    uses-agree w v m n h k =
        let a = uses-fault w m h in
        let b = uses-fault v n k in
        let same = count.uses_made a.0 b.0 a.2 b.2 in
        inl (ap₂ Limit (a.1 ∙ sym b.1) (a.3 ∙ ap (λ x. min x most_told) same ∙ sym b.3))

    depth-agree : FaultsOf (IsDepthFault s root)
    depth-agree w v m n h k =
        let a = depth-fault w m h in
        let b = depth-fault v n k in
        let same = single a.0 b.0 a.2 b.2 in
        inl (ap₂ Limit (a.1 ∙ sym b.1) (a.3 ∙ ap (λ (u : Use). depth u.tree) same ∙ sym b.3))

    nodes-agree : FaultsOf (IsNodesFault s root held)
    nodes-agree w v m n h k =
        let a = nodes-fault w m h in
        let b = nodes-fault v n k in inl (ap₂ Limit (a.0 ∙ sym b.0) (a.1 ∙ sym b.1))

    groups-agree : FaultsOf (IsFirstFault (groups s root held))
    groups-agree = first-agree {gs = groups s root held}
        (one_group (λ w v m n h k. inr (keys-fault w m h, keys-fault v n k))
        (one_group uses-agree
        (one_group (λ w v m n h k. inr (word-fault (IsWordMade s root) w m h, word-fault (IsWordMade s root) v n k))
        (one_group depth-agree
        (one_group nodes-agree no_group)))))

-- ---- the end of a step
module _ (f : File) (s : State) where
  abbrev Later : LimitKind → ℕ → Type 0
  Later w m = IsWithinRank f s × IsFirstFault (groups (step_of f s) (root_of f s) (held_trees f s)) w m

  abbrev PastRank : ℕ → Type 0
  PastRank m = HasNoCycle f s × IsRank (step_of f s) (root_of f s).tree m × (most_rank < m)

  -- which limit is passed
  abbrev Passed : LimitKind → ℕ → Type 0
  Passed w m =
      ((w ≡ Steps) × (most_steps ≤ length s.made) × (m ≡ suc most_steps)) ⊎ (((w ≡ Rank) × PastRank m) ⊎ Later w m)

  passed : (w : LimitKind) (m : ℕ) → IsPast f s w m → Passed w m
  passed Steps m (le, e) = inl (refl, le, e)
  passed Rank m h = inr (inl (refl, h))
  passed w m h = inr (inr h)

  no-room : most_steps ≤ length s.made → HasRoom f s → ⊥
  no-room le lt = omega arith

  not-full : (w : LimitKind) (m : ℕ) → ((w ≡ Rank) × PastRank m) ⊎ Later w m → most_steps ≤ length s.made → ⊥
  not-full w m (inl h) le = no-room le h.1.0.0
  not-full w m (inr h) le = no-room le h.0.0.0

  no-cycle : (w : LimitKind) (m : ℕ) → Passed w m → HasRoom f s → HasCycle (step_of f s) (root_of f s).tree → ⊥
  no-cycle w m (inl h) room c = no-room h.1 room
  no-cycle w m (inr (inl h)) room c = h.1.0.1 c
  no-cycle w m (inr (inr h)) room c = h.0.0.1 c

  module _ (walks : WalksAreDetermined (edges (step_of f s)))
      (agree : FaultsOf (IsFirstFault (groups (step_of f s) (root_of f s) (held_trees f s)))) where
    rank-within : (m : ℕ) → PastRank m → IsWithinRank f s → ⊥
    rank-within m (none, is, past) (no_cycle, (n, rank, within)) =
        let same = walks.one_rank (root_of f s).tree m n is rank in omega (arith, same, past, within)

    passed-one : (w v : LimitKind) (m n : ℕ) → Passed w m → Passed v n → FaultsAgree (Limit w m) (Limit v n)
    passed-one w v m n (inl (is, le, e)) (inl (is', le', g)) = inl (ap₂ Limit (is ∙ sym is') (e ∙ sym g))
    passed-one w v m n (inl (is, le, e)) (inr k) = absurd (not-full v n k le)
    passed-one w v m n (inr h) (inl (is, le, e)) = absurd (not-full w m h le)
    passed-one w v m n (inr (inl (is, h))) (inr (inl (is', k))) =
        inl (ap₂ Limit (is ∙ sym is') (walks.one_rank (root_of f s).tree m n h.1 k.1))
    passed-one w v m n (inr (inl (is, h))) (inr (inr k)) = absurd (rank-within m h k.0)
    passed-one w v m n (inr (inr h)) (inr (inl (is, k))) = absurd (rank-within n k h.0)
    passed-one w v m n (inr (inr h)) (inr (inr k)) = agree w v m n h.1 k.1

    has-cycle : (walk : List ℕ) → IsCycle f s walk → HasCycle (step_of f s) (root_of f s).tree
    has-cycle walk (room, (trees, is, e)) =
        walks.has_cycle (root_of f s).tree trees (walks.first_is_cycle (root_of f s).tree trees is)

    cycle-one : (a b : List ℕ) → IsCycle f s a → IsCycle f s b → a ≡ b
    cycle-one a b (room, (xs, is, e)) (room', (ys, is', g)) =
        e ∙ ap (map origin) (walks.one_first_cycle (root_of f s).tree xs ys is is') ∙ sym g

    step-one : (rs : List Request) (a b : SessionFault) → IsStepRefused f s rs a → IsStepRefused f s rs b →
        FaultsAgree a b
    step-one [] a b h k = absurd h
    step-one (r ∷ rs) (Cycle a) (Cycle b) h k = inl (ap Cycle (cycle-one a b h k))
    step-one (r ∷ rs) (Cycle a) (Limit w m) h k = absurd (no-cycle w m (passed w m k) h.0 (has-cycle a h))
    step-one (r ∷ rs) (Limit w m) (Cycle a) h k = absurd (no-cycle w m (passed w m h) k.0 (has-cycle a k))
    step-one (r ∷ rs) (Limit w m) (Limit v n) h k = passed-one w v m n (passed w m h) (passed v n k)
    step-one (r ∷ rs) (Script a) b h k = absurd h
    step-one (r ∷ rs) NoMemory b h k = absurd h
    step-one (r ∷ rs) (Cycle a) (Script b) h k = absurd k
    step-one (r ∷ rs) (Cycle a) NoMemory h k = absurd k
    step-one (r ∷ rs) (Limit w m) (Script b) h k = absurd k
    step-one (r ∷ rs) (Limit w m) NoMemory h k = absurd k

  undo-one : (line : ℕ) (rs : List Request) (ds : List Done) (a b : SessionFault) → IsUndoRefused f s line rs ds a →
      IsUndoRefused f s line rs ds b → FaultsAgree a b
  undo-one line [] [] a b h k = inl (h ∙ sym k)
  undo-one line [] (d ∷ ds) a b h k = absurd h
  undo-one line (r ∷ rs) ds a b h k = absurd h

  ask-one : (line : ℕ) (c : Command) (a b : SessionFault) → IsAskRefused f s line c a → IsAskRefused f s line c b →
      FaultsAgree a b
  ask-one line c (Script a) (Script b) h k = inl (ap Script (amiss-one f s.steps line c a b h k))
  ask-one line c (Script a) (Cycle b) h k = absurd k
  ask-one line c (Script a) (Limit w m) h k = absurd k
  ask-one line c (Script a) NoMemory h k = absurd k
  ask-one line c (Cycle a) b h k = absurd h
  ask-one line c (Limit w m) b h k = absurd h
  ask-one line c NoMemory b h k = absurd h

pub one-fault : (f : File) → ((s : Step) → IsDetermined s) → ((s : Step) → WalksAreDetermined (edges s)) →
    ((s : Step) (root : Use) → MeasuresAreDetermined s root) → OneFault f
one-fault f one walks counts s line (commands.Replace sel tgt) a b h k =
    ask-one f s line (commands.Replace sel tgt) a b h k
one-fault f one walks counts s line (commands.Remove sel) a b h k = ask-one f s line (commands.Remove sel) a b h k
one-fault f one walks counts s line (commands.Merge names) a b h k = ask-one f s line (commands.Merge names) a b h k
one-fault f one walks counts s line (commands.Sew names) a b h k = ask-one f s line (commands.Sew names) a b h k
one-fault f one walks counts s line commands.Apply a b h k =
    step-one f s (walks (step_of f s))
    (groups-agree (step_of f s) (root_of f s) (held_trees f s) (counts (step_of f s) (root_of f s))
    (one-root one (step_of f s) (root_of f s))) s.requests a b h k
one-fault f one walks counts s line commands.Undo a b h k = undo-one f s line s.requests s.steps a b h k
one-fault f one walks counts s line (commands.Until kind) a b h k = absurd h
one-fault f one walks counts s line commands.Prune a b h k = absurd h
one-fault f one walks counts s line commands.OutputFirst a b h k = absurd h
