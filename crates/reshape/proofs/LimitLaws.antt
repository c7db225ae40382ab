-- The limits of a step, group by group.
use Rattle.std.proofs.Common.{◌≡◌, ◌≤◌, ◌<◌, ◌∙◌, ◌++◌, ◌∷◌, ◌⊎◌, ℕ, suc, Bool, false, List, [], map, length, Contains}
use Rattle.std.proofs.Common.{arith, refl, sym, ap, subst, Some, None, inl, inr, eqb-true}
use Rattle.std.specs.Prelude.{max, min, nat_eq, if◌then◌else◌}
use Rattle.std.proofs.lemmas.List.Elements.{All-contains}
use Rattle.lists.proofs.Cases.{by_test}
use Rattle.lists.proofs.Distinct.{length-le_from_distinct}
use Rattle.lists.proofs.Members.{Contains-cases, Contains-none}
use Rattle.orientation.specs.declared.turn.Turn.{Turn}
use Rattle.location_words.specs.declared.pair.Pair.{Pair}
use Rattle.location_words.specs.Faults.{fault_of}
use Rattle.expansion_laws.specs.Trees.{Tree, Use, uses_of}
use Rattle.expansion_laws.specs.Contexts.{carried}
use Rattle.expansion_laws.specs.Measures.{depth, uses_depth, OccursIn}
use Rattle.expansion_laws.specs.Rewriting.{StepsTo}
use Rattle.expansion_laws.specs.SlowMeasures.{MeasuresAreDetermined}
use Rattle.expansion_laws.specs.StepMeasures.{IsHeldTree, IsUseCount, IsWordMade}
use Rattle.expansion_laws.specs.Steps.{Step, root_of}
use Rattle.shape_pool.specs.Rows.{most_depth, most_nodes}
use Rattle.key_results.specs.declared.fault.ApplyFault.{ApplyFault}
use Rattle.key_results.specs.declared.fault.ApplyFault.TheVariants.{Limit, NoMemory}
use Rattle.key_results.specs.declared.fault.LimitKind.{LimitKind}
use Rattle.key_results.specs.declared.fault.LimitKind.TheVariants.{FileBytes, ScriptBytes, ScriptLines}
use Rattle.key_results.specs.declared.fault.LimitKind.TheVariants.{Steps, Rank, Keys, WordPairs}
use Rattle.key_results.specs.declared.fault.LimitKind.TheVariants.{WordPower, Uses, Depth, Nodes, Pairs}
use Rattle.key_results.specs.Derivations.{deepest, most_told}
use Rattle.key_results.specs.Faults.{IsDueAmong}
use Rattle.key_results.specs.Grown.{AreMoreThan}
use Rattle.reshape.specs.Limits.{first_groups, most_uses, root_depth, IsDepthFault, IsDueOf, IsFirstFault}
use Rattle.reshape.specs.Limits.{IsKeysFault, IsNodesFault, IsPastUses, IsUsesFault, IsWordsFault, PassAll, Passes}
use Rattle.reshape.specs.Collecting.{IsKeysDue}

-- ---- the first group in which a test fails
pub first-more : (gs more : List (LimitKind → ℕ → Type 0)) (which : LimitKind) (n : ℕ) → IsFirstFault gs which n →
    IsFirstFault (gs ++ more) which n
first-more [] more which n h = absurd h
first-more (g ∷ gs) more which n h = elim h [ inl a ↦ inl a | inr b ↦ inr (b.0, first-more gs more which n b.1) ]

pub due-more : (gs more : List (LimitKind → ℕ → Type 0)) (fault : ApplyFault) → IsDueOf gs fault →
    IsDueOf (gs ++ more) fault
due-more gs more (Limit which n) h = first-more gs more which n h
due-more gs more NoMemory h = tt

-- a fault of the group after those that pass
pub fault-after : (gs : List (LimitKind → ℕ → Type 0)) (g : LimitKind → ℕ → Type 0)
    (more : List (LimitKind → ℕ → Type 0)) (which : LimitKind) (n : ℕ) →
    PassAll gs → g which n → IsFirstFault (gs ++ g ∷ more) which n
fault-after [] g more which n p h = inl h
fault-after (f ∷ gs) g more which n p h = inr (p.0, fault-after gs g more which n p.1 h)

-- a fault that is due among some words is due among more
pub among-more : (V W : List Pair → Type 0) (fault : ApplyFault) → ((w : List Pair) → V w → W w) → IsDueAmong V fault →
    IsDueAmong W fault
among-more V W (Limit WordPairs n) f d = (d.0, f d.0 d.1, d.2)
among-more V W (Limit WordPower n) f d = (d.0, f d.0 d.1, d.2)
among-more V W (Limit FileBytes n) f d = d
among-more V W (Limit ScriptBytes n) f d = d
among-more V W (Limit ScriptLines n) f d = d
among-more V W (Limit Steps n) f d = d
among-more V W (Limit Rank n) f d = d
among-more V W (Limit Keys n) f d = d
among-more V W (Limit Uses n) f d = d
among-more V W (Limit Depth n) f d = d
among-more V W (Limit Nodes n) f d = d
among-more V W (Limit Pairs n) f d = d
among-more V W NoMemory f d = tt

none-some : {X : Type 0} (x : X) → None ≡ Some x → ⊥
none-some x e = absurd cc

module _ (s : Step) (root : Use) where
  -- ---- keys
  pub keys-due : (fault : ApplyFault) → IsKeysDue s root fault → IsDueOf (first_groups s root) fault
  keys-due (Limit which n) h = inl h
  keys-due NoMemory h = tt

  -- ---- uses
  pub uses-pass : MeasuresAreDetermined s root → (total : ℕ) → IsUseCount s root total → total ≤ most_uses →
      Passes (IsUsesFault s root)
  uses-pass one total is le Uses n h =
      (let same = one.uses_made total h.0 is h.1 in let past = h.2 in omega (arith, same, past, le))
  uses-pass one total is le FileBytes n h = h
  uses-pass one total is le ScriptBytes n h = h
  uses-pass one total is le ScriptLines n h = h
  uses-pass one total is le Steps n h = h
  uses-pass one total is le Rank n h = h
  uses-pass one total is le Keys n h = h
  uses-pass one total is le WordPairs n h = h
  uses-pass one total is le WordPower n h = h
  uses-pass one total is le Depth n h = h
  uses-pass one total is le Nodes n h = h
  uses-pass one total is le Pairs n h = h

  pub uses-due : (total : ℕ) → IsUseCount s root total → Passes (IsKeysFault s root) → (fault : ApplyFault) →
      IsPastUses total fault →
      IsDueOf (first_groups s root) fault
  uses-due total is keys fault past = elim past [
    | inl none ↦ subst (IsDueOf (first_groups s root)) (sym none) tt
    | inr h ↦ subst (IsDueOf (first_groups s root)) (sym h.0) (inr (keys, inl (total, is, h.1, refl)))
  ]

  -- ---- words
  pub words-pass : ((w : List Pair) → IsWordMade s root w → fault_of w ≡ None) → Passes (IsWordsFault s root)
  words-pass small WordPairs n h = none-some _ (sym (small h.0 h.1) ∙ h.2)
  words-pass small WordPower n h = none-some _ (sym (small h.0 h.1) ∙ h.2)
  words-pass small FileBytes n h = h
  words-pass small ScriptBytes n h = h
  words-pass small ScriptLines n h = h
  words-pass small Steps n h = h
  words-pass small Rank n h = h
  words-pass small Keys n h = h
  words-pass small Uses n h = h
  words-pass small Depth n h = h
  words-pass small Nodes n h = h
  words-pass small Pairs n h = h

  pub words-due : Passes (IsKeysFault s root) → Passes (IsUsesFault s root) → (fault : ApplyFault) →
      IsDueAmong (IsWordMade s root) fault →
      IsDueOf (first_groups s root) fault
  words-due keys uses (Limit which n) h = inr (keys, inr (uses, inl h))
  words-due keys uses NoMemory h = tt

  -- ---- depth
  pub depth-pass : (new : Use) → ((other : Use) → StepsTo s root other → other ≡ new) → depth new.tree ≤ most_depth →
      Passes (IsDepthFault s root)
  depth-pass new one le Depth n h =
      (let same = ap (λ (u : Use). depth u.tree) (one h.0 h.1) in let past = h.2 in omega (arith, same, past, le))
  depth-pass new one le FileBytes n h = h
  depth-pass new one le ScriptBytes n h = h
  depth-pass new one le ScriptLines n h = h
  depth-pass new one le Steps n h = h
  depth-pass new one le Rank n h = h
  depth-pass new one le Keys n h = h
  depth-pass new one le WordPairs n h = h
  depth-pass new one le WordPower n h = h
  depth-pass new one le Uses n h = h
  depth-pass new one le Nodes n h = h
  depth-pass new one le Pairs n h = h

  pub depth-due : Passes (IsKeysFault s root) → Passes (IsUsesFault s root) → Passes (IsWordsFault s root) →
      (new : Use) → StepsTo s root new → (d : ℕ) →
      d ≡ depth new.tree → most_depth < d → (fault : ApplyFault) → fault ≡ Limit Depth d →
      IsDueOf (first_groups s root) fault
  depth-due keys uses words new steps d e past fault is =
      subst (IsDueOf (first_groups s root)) (sym is)
      (inr (keys, inr (uses, inr (words, inl (new, steps, subst (λ (n : ℕ). most_depth < n) e past, e)))))

-- ---- nodes
module _ (s : Step) (root : Use) (held : List Tree) (new : Use) where
  held-tree : (x : Tree) → IsHeldTree held (new ∷ []) x → Contains held x ⊎ OccursIn x new.tree
  held-tree x q = elim q [
    | inl c ↦ inl c
    | inr r ↦ (elim (Contains-cases new r.0 [] r.1) [
      | inl e ↦ inr (subst (λ (u : Use). OccursIn x u.tree) (sym e) r.2)
      | inr none ↦ absurd (Contains-none r.0 none)
    ])
  ]

  few-trees : (trees : List Tree) → ((x : Tree) → Contains held x ⊎ OccursIn x new.tree → Contains trees x) →
      length trees ≤ most_nodes → AreMoreThan most_nodes (IsHeldTree held (new ∷ [])) → ⊥
  few-trees trees are few h =
      let le = length-le_from_distinct h.0 trees h.1
      (λ x c. are x (held-tree x (All-contains (IsHeldTree held (new ∷ [])) h.0 x h.2 c))) in
      let many = h.3 in
      omega (arith, le, few, many)

  -- where the trees held and those of the new root are among so many
  pub nodes-pass : ((other : Use) → StepsTo s root other → other ≡ new) → (trees : List Tree) →
      ((x : Tree) → Contains held x ⊎ OccursIn x new.tree → Contains trees x) → length trees ≤ most_nodes →
      Passes (IsNodesFault s root held)
  nodes-pass one trees are few Nodes n h =
      few-trees trees are few
      (subst (λ (u : Use). AreMoreThan most_nodes (IsHeldTree held (u ∷ []))) (one h.0 h.1) h.2)
  nodes-pass one trees are few FileBytes n h = h
  nodes-pass one trees are few ScriptBytes n h = h
  nodes-pass one trees are few ScriptLines n h = h
  nodes-pass one trees are few Steps n h = h
  nodes-pass one trees are few Rank n h = h
  nodes-pass one trees are few Keys n h = h
  nodes-pass one trees are few WordPairs n h = h
  nodes-pass one trees are few WordPower n h = h
  nodes-pass one trees are few Uses n h = h
  nodes-pass one trees are few Depth n h = h
  nodes-pass one trees are few Pairs n h = h

-- ---- the depth of a new root
uses-depth : (us : List Use) → uses_depth (uses_of us) ≡ deepest us
uses-depth [] = refl
uses-depth (u ∷ us) = ap (max (depth u.tree)) (uses-depth us)

not-one : (n : ℕ) → nat_eq (suc (suc n)) 1 ≡ false
not-one n =
    by_test (nat_eq (suc (suc n)) 1) (λ t. absurd (let e = eqb-true (suc (suc n)) 1 t in omega (arith, e))) (λ f. f)

pub root-depth : (rs : List Use) → depth (root_of rs).tree ≡ root_depth (length rs) (deepest rs)
root-depth [] = refl
root-depth (r ∷ []) = omega arith
root-depth (r ∷ q ∷ rs) =
    ap suc (uses-depth (r ∷ q ∷ rs)) ∙
    sym (ap (λ (b : Bool). if b then deepest (r ∷ q ∷ rs) else suc (deepest (r ∷ q ∷ rs))) (not-one (length rs)))

pub deepest-carried : (t : Turn) (w : List Pair) (rs : List Use) → deepest (map (carried t w) rs) ≡ deepest rs
deepest-carried t w [] = refl
deepest-carried t w (r ∷ rs) = ap (max (depth r.tree)) (deepest-carried t w rs)

-- ---- a count that is told as far as a type reaches
min-small : (a b k : ℕ) → min a b ≤ k → k < b → a ≤ k
min-small a b k h lt = omega (arith, h, lt)

min-past : (a b k : ℕ) → k < min a b → k < a
min-past a b k h = omega (arith, h)

much : most_uses < most_told
much = omega arith

pub small-of-min : (total told : ℕ) → told ≡ min total most_told → told ≤ most_uses → total ≤ most_uses
small-of-min total told e h = min-small total most_told most_uses (subst (λ (n : ℕ). n ≤ most_uses) e h) much

pub past-of-min : (total told : ℕ) → told ≡ min total most_told → most_uses < told → most_uses < total
past-of-min total told e h = min-past total most_told most_uses (subst (λ (n : ℕ). most_uses < n) e h)
