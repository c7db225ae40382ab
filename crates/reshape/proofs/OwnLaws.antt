-- The trees of their own that come of keys occur in the new root. So why nodes aren't made is why the step isn't.
use Rattle.std.proofs.Common.{◌≡◌, ◌≤◌, ◌<◌, ◌∙◌, ◌∷◌, ◌⊎◌, ℕ, suc, Bool, true, List, [], All, Contains, map, length}
use Rattle.std.proofs.Common.{arith, refl, sym, ap, subst, slice_get, Option, Some, inl, inr}
use Rattle.std.specs.Prelude.{nat_lt, if◌then◌else◌}
use Rattle.std.specs.Option.{option_map_or}
use Rattle.std.proofs.lemmas.Bool.{ltb-true, ltb-false}
use Rattle.std.proofs.lemmas.List.Elements.{All-contains, All-weaker}
use Rattle.std.proofs.lemmas.Option.{slice_get_within}
use Rattle.lists.proofs.Cases.{by_test}
use Rattle.lists.proofs.Members.{Contains-here}
use Rattle.lists.proofs.Places.{at_place}
use Rattle.location_words.specs.declared.pair.Pair.{Pair}
use Rattle.location_words.specs.Pairs.{IsWord}
use Rattle.expansion_laws.specs.Trees.{Tree, Use}
use Rattle.expansion_laws.specs.Contexts.{bare, carried}
use Rattle.expansion_laws.specs.Graph.{IsRank}
use Rattle.expansion_laws.specs.Measures.{depth, OccursIn}
use Rattle.expansion_laws.specs.Rewriting.{StepsTo}
use Rattle.expansion_laws.specs.StepMeasures.{IsHeldTree}
use Rattle.expansion_laws.specs.Steps.{Step, root_of}
use Rattle.expansion_laws.specs.Subtrees.{SubtreesStand}
use Rattle.shape_pool.specs.declared.node.NodeId.{NodeId}
use Rattle.shape_pool.specs.Laws.{TellsBelow}
use Rattle.shape_pool.specs.Rows.{Row, most_depth, most_nodes, tree_at, trees_of, HasPlaces}
use Rattle.key_results.specs.declared.derive.Visit.{Visit}
use Rattle.key_results.specs.declared.fault.ApplyFault.{ApplyFault}
use Rattle.key_results.specs.declared.fault.ApplyFault.TheVariants.{Limit, NoMemory}
use Rattle.key_results.specs.declared.fault.LimitKind.TheVariants.{FileBytes, ScriptBytes, ScriptLines}
use Rattle.key_results.specs.declared.fault.LimitKind.TheVariants.{Steps, Rank, Keys, WordPairs}
use Rattle.key_results.specs.declared.fault.LimitKind.TheVariants.{WordPower, Uses, Depth, Nodes, Pairs}
use Rattle.key_results.specs.declared.parts.Outgrowth.{Outgrowth}
use Rattle.key_results.specs.declared.parts.Part.{Part}
use Rattle.key_results.specs.Derivations.{results_at, results_of, AreLinked}
use Rattle.key_results.specs.Derived.{DerivesResults}
use Rattle.key_results.specs.Grown.{AreMoreThan, IsMakingRefused, IsOwn, IsRootRefused, StandForParts}
use Rattle.key_results.specs.Parts.{is_own_at, own_at, results_by, results_in, use_of_part, AreHeldParts, ArePartsOfOwn}
use Rattle.key_results.specs.Results.{GiveResults}
use Rattle.reshape.specs.Deriving.{HaveLaws, IsDerivedStep}
use Rattle.reshape.specs.Limits.{first_groups, groups, IsDueOf, IsNodesFault}
use Rattle.reshape.specs.Making.{AreMadeNodes, IsUnmade}
use Rattle.reshape.proofs.KindLaws.{own-there}
use Rattle.reshape.proofs.LimitLaws.{fault-after}
use Rattle.reshape.proofs.MadeLaws.{root-is, root-made}
use Rattle.reshape.proofs.OccurLaws.{depth-occurs, listed-tree, tree-listed}
use Rattle.reshape.proofs.VisitLaws.{results-occur}

more-than : {X : Type 0} (n : ℕ) (P Q : X → Type 0) → ((x : X) → P x → Q x) → AreMoreThan n P → AreMoreThan n Q
more-than n P Q f h = (h.0, h.1, All-weaker P Q f h.0 h.2, h.3)

module _ (rows : List Row) (s : Step) (word : ℕ → List Pair) (root : Use) (visits : List Visit)
    (outgrowths : List Outgrowth) (parts : List Part)
    (d : IsDerivedStep rows s word root visits outgrowths parts) (linked : AreLinked visits)
    (told : DerivesResults s word rows d.derived.keys visits)
    (laws : HaveLaws s) (rank : ℕ) (ranked : IsRank s root.tree rank) (identity : word 0 ≡ [])
    (is_word : IsWord root.word)
    (gives : GiveResults word (tree_at word rows) s.rule.prune visits outgrowths) where
  abbrev R : List (List Use)
  R = results_of word (tree_at word rows) s.rule.prune visits

  abbrev pub new_root : Use
  new_root = root_of (map (carried root.turn root.word) (results_at R d.derived.are.last.0))

  abbrev held : List Tree
  held = trees_of word rows

  pub root-steps : StepsTo s root new_root
  root-steps =
      root-made rows s word root visits d.derived linked told laws rank ranked identity
      is_word

  pub root-only : (new : Use) → StepsTo s root new → new ≡ new_root
  root-only =
      root-is rows s word root visits d.derived linked told laws rank ranked identity
      is_word

  own-result : (k : ℕ) (o : Outgrowth) → slice_get outgrowths k ≡ Some o → o.own ≡ true →
      Contains (results_at R k) (bare (own_at R k))
  own-result k o e own =
      let within = slice_get_within outgrowths k o e in
      let long = d.out.long in
      let given = gives linked d.out k (omega (arith, within, long)) in
      let by : results_in word (own_at R) outgrowths k ≡ bare (own_at R k) ∷ [] =
      ap (λ (q : Option Outgrowth). option_map_or (results_by word (own_at R) k) q []) e ∙
      ap (λ (b : Bool). if b then bare (own_at R k) ∷ [] else map (use_of_part word (own_at R)) o.parts.items) own in
      subst (λ (l : List Use). Contains l (bare (own_at R k))) (sym by ∙ given) (Contains-here (bare (own_at R k)) [])

  -- a result of a key occurs in the new root
  pub result-occurs : (k : ℕ) → k < length visits → (u : Use) → Contains (results_at R k) u →
      OccursIn u.tree new_root.tree
  result-occurs k lt u m =
      let long = d.derived.derives.long in
      let key = at_place d.derived.keys k (omega (arith, lt, long)) in
      results-occur s word rows d.derived.keys visits root laws.stand laws.determined laws.have_keys rank ranked
      d.derived.are.whole identity told laws.occur
      new_root root-steps k key.0 key.1 u m

  pub own-occurs : (x : Tree) → IsOwn word (tree_at word rows) s.rule.prune visits outgrowths x →
      OccursIn x new_root.tree
  own-occurs x h =
      let within = slice_get_within outgrowths h.0 h.1 h.2 in
      let long = d.out.long in
      subst (λ (y : Tree). OccursIn y new_root.tree) h.4
      (result-occurs h.0 (omega (arith, within, long)) (bare (own_at R h.0)) (own-result h.0 h.1 h.2 h.3))

  pub depth-within : depth new_root.tree ≤ most_depth
  depth-within =
      by_test (nat_lt most_depth (depth new_root.tree))
      (λ t.
      absurd (d.passes.1.1.1.0 Depth (depth new_root.tree)
      (new_root, root-steps, ltb-true most_depth (depth new_root.tree) t, refl)))
      (λ f. let a = ltb-false most_depth (depth new_root.tree) f in omega (arith, a))

  -- ---- why nodes aren't made
  nodes-due : AreMoreThan most_nodes (λ x. Contains held x ⊎ OccursIn x new_root.tree) → (n : ℕ) → n ≡ suc most_nodes →
      IsDueOf (groups s root held) (Limit Nodes n)
  nodes-due many n e =
      fault-after (first_groups s root) (IsNodesFault s root held) [] Nodes n d.passes (
        new_root,
        root-steps,
        more-than most_nodes (λ x. Contains held x ⊎ OccursIn x new_root.tree) (IsHeldTree held (new_root ∷ []))
            (λ x h. elim h [ inl a ↦ inl a | inr b ↦ inr (new_root, Contains-here new_root [], b) ]) many,
        e,
      )

  too-deep : (x : Tree) → OccursIn x new_root.tree → most_depth < depth x → ⊥
  too-deep x o lt = let a = depth-occurs x new_root.tree o in let b = depth-within in omega (arith, a, b, lt)

  pub making-due : (fault : ApplyFault) → IsMakingRefused rows visits outgrowths fault word s.rule.prune →
      IsDueOf (groups s root held) fault
  making-due (Limit Nodes n) h =
      nodes-due
      (more-than most_nodes (λ x. Contains held x ⊎ IsOwn word (tree_at word rows) s.rule.prune visits outgrowths x)
      (λ x. Contains held x ⊎ OccursIn x new_root.tree) (λ x q. elim q [ inl a ↦ inl a | inr b ↦ inr (own-occurs x b) ])
      h.0) n h.1
  making-due (Limit Depth n) h = absurd (too-deep h.0 (own-occurs h.0 h.1) h.2)
  making-due (Limit FileBytes n) h = absurd h
  making-due (Limit ScriptBytes n) h = absurd h
  making-due (Limit ScriptLines n) h = absurd h
  making-due (Limit Steps n) h = absurd h
  making-due (Limit Rank n) h = absurd h
  making-due (Limit Keys n) h = absurd h
  making-due (Limit WordPairs n) h = absurd h
  making-due (Limit WordPower n) h = absurd h
  making-due (Limit Uses n) h = absurd h
  making-due (Limit Pairs n) h = absurd h
  making-due NoMemory h = tt

  -- ---- why the new root isn't made
  module _ (mid : List Row) (nodes : List NodeId) (are : AreMadeNodes rows mid visits outgrowths nodes) where
    -- a tree that is held then was held, or is of its own
    pub held-so-far : (i : ℕ) → i < length mid →
        Contains held (tree_at word mid i) ⊎ IsOwn word (tree_at word rows) s.rule.prune visits outgrowths
        (tree_at word mid i)
    held-so-far i lt =
        by_test (nat_lt i (length rows))
        (λ e. let a = ltb-true i (length rows) e in inl
        (subst (Contains held) (sym (are.kept.trees word i a)) (tree-listed word rows i a)))
        (λ e. let a = ltb-false i (length rows) e in
        let h = are.more i (omega (arith, a)) lt in
        let q = own-there outgrowths h.0 h.4 in
        inr (
          h.0,
          q.0,
          q.1,
          q.2,
          sym (are.stand word h.0 q.0 h.1 s.rule.prune d.out q.1 h.2 q.2) ∙
              ap (tree_at word mid) h.3,
        ))

    pub parts-stand : ArePartsOfOwn outgrowths parts → StandForParts word mid parts nodes (own_at R)
    parts-stand root_own p n m e =
        let own = All-contains (λ (q : Part). is_own_at outgrowths q.of ≡ true) parts p root_own m in
        let o = own-there outgrowths p.of own in
        are.stand word p.of o.0 n s.rule.prune d.out o.1 e o.2

    held-or-occurs : (x : Tree) → Contains (trees_of word mid) x → Contains held x ⊎ OccursIn x new_root.tree
    held-or-occurs x m =
        let i = listed-tree word mid x m in
        subst (λ (y : Tree). Contains held y ⊎ OccursIn y new_root.tree) i.2
        (elim (held-so-far i.0 i.1) [ inl a ↦ inl a | inr b ↦ inr (own-occurs (tree_at word mid i.0) b) ])

    root-refused : OccursIn new_root.tree new_root.tree → (fault : ApplyFault) →
        IsRootRefused word mid (map (carried root.turn root.word) (results_at R d.derived.are.last.0)) fault →
        IsDueOf (groups s root held) fault
    root-refused itself (Limit Nodes n) h =
        nodes-due (more-than most_nodes (λ x. Contains (trees_of word mid) x ⊎ (x ≡ new_root.tree))
        (λ x. Contains held x ⊎ OccursIn x new_root.tree)
        (λ x q. elim q [
          | inl a ↦ held-or-occurs x a
          | inr e ↦ inr (subst (λ (y : Tree). OccursIn y new_root.tree) (sym e) itself)
        ]) h.0) n h.1
    root-refused itself (Limit Depth n) h = absurd (too-deep new_root.tree itself h.0)
    root-refused itself (Limit FileBytes n) h = absurd h
    root-refused itself (Limit ScriptBytes n) h = absurd h
    root-refused itself (Limit ScriptLines n) h = absurd h
    root-refused itself (Limit Steps n) h = absurd h
    root-refused itself (Limit Rank n) h = absurd h
    root-refused itself (Limit Keys n) h = absurd h
    root-refused itself (Limit WordPairs n) h = absurd h
    root-refused itself (Limit WordPower n) h = absurd h
    root-refused itself (Limit Uses n) h = absurd h
    root-refused itself (Limit Pairs n) h = absurd h
    root-refused itself NoMemory h = tt

  -- why the step isn't carried out
  pub unmade-due : SubtreesStand → ArePartsOfOwn outgrowths parts → (n : ℕ) → TellsBelow n word → HasPlaces rows n →
      AreHeldParts n outgrowths →
      All (λ (p : Part). p.place.0 < n) parts → (fault : ApplyFault) → IsUnmade rows visits outgrowths parts fault →
      IsDueOf (groups s root held) fault
  unmade-due stand root_own n tells places held_parts placed fault h = elim h [
    | inl none ↦ subst (IsDueOf (groups s root held)) (sym none) tt
    | inr g ↦ elim g [
      | inl unmade ↦ making-due fault (unmade word s.rule.prune n tells places held_parts d.out)
      | inr r ↦ root-refused r.mid r.nodes r.are (stand.itself new_root.tree) fault
          (subst (λ (l : List Use). IsRootRefused word r.mid l fault) d.of_root
          (r.why word (own_at R) n tells (r.places n places held_parts) placed
          (parts-stand r.mid r.nodes r.are root_own)))
    ]
  ]
