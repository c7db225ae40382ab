-- A step that is derived by keys, in a reading: its limits, group by group.
use Rattle.std.proofs.Common.{◌≡◌, ◌≤◌, ◌<◌, ◌∙◌, ℕ, List, [], All, Contains, map, length}
use Rattle.std.proofs.Common.{refl, sym, ap}
use Rattle.std.proofs.lemmas.List.{length-map}
use Rattle.location_words.specs.declared.pair.Pair.{Pair}
use Rattle.location_words.specs.Laws.{LimitsTell}
use Rattle.location_words.specs.Tables.{IsTable}
use Rattle.expansion_laws.specs.Trees.{Use}
use Rattle.expansion_laws.specs.Contexts.{carried}
use Rattle.expansion_laws.specs.Graph.{IsRank}
use Rattle.expansion_laws.specs.Measures.{depth}
use Rattle.expansion_laws.specs.Rewriting.{StepsTo}
use Rattle.expansion_laws.specs.SlowMeasures.{key_eq}
use Rattle.expansion_laws.specs.StepMeasures.{IsUseCount, IsWordMade}
use Rattle.expansion_laws.specs.Steps.{Step, root_of}
use Rattle.shape_pool.specs.declared.node.UseOf.{UseOf}
use Rattle.shape_pool.specs.Rows.{Row, most_depth, tree_at, use_by, HasPlaces}
use Rattle.requests.specs.Plans.{StepPlan}
use Rattle.key_results.specs.declared.derive.Visit.{Visit}
use Rattle.key_results.specs.declared.fault.ApplyFault.{ApplyFault}
use Rattle.key_results.specs.declared.fault.ApplyFault.TheVariants.{Limit}
use Rattle.key_results.specs.declared.fault.LimitKind.TheVariants.{Depth}
use Rattle.key_results.specs.declared.parts.Outgrowth.{Outgrowth}
use Rattle.key_results.specs.declared.parts.Part.{Part}
use Rattle.key_results.specs.Derivations.{deepest, results_at, results_of, sizes_from, AreLinked}
use Rattle.key_results.specs.Derived.{DerivesResults}
use Rattle.key_results.specs.Faults.{IsDueAmong}
use Rattle.key_results.specs.Parts.{own_at, use_of_part, words_of, AreHeldParts, AreOutgrowths, IsJoinedWord}
use Rattle.reshape.specs.Readings.{IsStepOf}
use Rattle.reshape.specs.Limits.{first_groups, most_uses, root_depth, IsDepthFault, IsDueOf}
use Rattle.reshape.specs.Limits.{IsKeysFault, IsPastUses, IsUsesFault, IsWordsFault, Passes}
use Rattle.reshape.specs.Collecting.{IsDerivedBy}
use Rattle.reshape.specs.Deriving.{HaveLaws}
use Rattle.reshape.proofs.StepLaws.{ranked, zero-word}
use Rattle.reshape.proofs.UseCountLaws.{use-count}
use Rattle.reshape.proofs.MadeLaws.{joined-is-made, root-is, root-made, root-word-made, word-small}
use Rattle.reshape.proofs.LimitLaws.{among-more, deepest-carried, depth-due, depth-pass}
use Rattle.reshape.proofs.LimitLaws.{root-depth, uses-due, uses-pass, words-due, words-pass}

module _ (rows : List Row) (n : ℕ) (plan : StepPlan) (table : List (List Pair)) (u : UseOf) (s : Step)
    (word : ℕ → List Pair)
    (it : IsStepOf rows n u.id.0 plan table s word) (is_table : IsTable table) (le : n ≤ length table)
    (places : HasPlaces rows n)
    (laws : HaveLaws s) (visits : List Visit) (derived : IsDerivedBy rows s word (use_by word (tree_at word rows) u)
    visits) (linked : AreLinked visits) where
  abbrev root : Use
  root = use_by word (tree_at word rows) u

  abbrev R : List (List Use)
  R = results_of word (tree_at word rows) s.rule.prune visits

  abbrev last : ℕ
  last = derived.are.last.0

  abbrev root_results : List Use
  root_results = map (carried root.turn root.word) (results_at R last)

  identity : word 0 ≡ []
  identity = zero-word rows n u.id.0 plan table s word it is_table le places

  pub told : DerivesResults s word rows derived.keys visits
  told = laws.derive word rows derived.keys visits identity it.reads.told.words linked derived.derives

  rank : (r : ℕ) × IsRank s root.tree r
  rank = let k = (ranked rows n u.id.0 plan table s word it is_table le places).rank in (k.0, k.1)

  -- ---- the new root
  pub root-steps : StepsTo s root (root_of root_results)
  root-steps =
      root-made rows s word root visits derived linked told laws rank.0 rank.1 identity
      (it.reads.told.words u.place.0)

  pub root-only : (new : Use) → StepsTo s root new → new ≡ root_of root_results
  root-only =
      root-is rows s word root visits derived linked told laws rank.0 rank.1 identity
      (it.reads.told.words u.place.0)

  -- ---- keys and uses
  pub keys-pass : Passes (IsKeysFault s root)
  keys-pass = derived.are.within

  use-total : IsUseCount s root (sizes_from word (tree_at word rows) s.rule.prune [] visits)
  use-total =
      use-count key_eq (λ k l. (laws.keys_tell k l).0) (λ k. (laws.keys_tell k k).1 refl) s word rows root derived.keys
      visits laws identity derived.are.whole derived.derives told

  pub uses-pass-here : sizes_from word (tree_at word rows) s.rule.prune [] visits ≤ most_uses →
      Passes (IsUsesFault s root)
  uses-pass-here few =
      uses-pass s root (laws.measures root) (sizes_from word (tree_at word rows) s.rule.prune [] visits) use-total few

  pub uses-fault : (fault : ApplyFault) → IsPastUses (sizes_from word (tree_at word rows) s.rule.prune [] visits)
      fault → IsDueOf (first_groups s root) fault
  uses-fault fault past =
      uses-due s root (sizes_from word (tree_at word rows) s.rule.prune [] visits) use-total keys-pass fault past

  -- ---- words
  pub joined-fault : Passes (IsUsesFault s root) → (fault : ApplyFault) →
      IsDueAmong (IsJoinedWord word R visits) fault → IsDueOf (first_groups s root) fault
  joined-fault uses fault due =
      words-due s root keys-pass uses fault (among-more (IsJoinedWord word R visits) (IsWordMade s root) fault
      (joined-is-made rows s word root visits derived linked told laws rank.0 rank.1 identity
      (it.reads.told.words u.place.0)) due)

  pub root-fault : Passes (IsUsesFault s root) → (fault : ApplyFault) →
      IsDueAmong (Contains (words_of root_results)) fault → IsDueOf (first_groups s root) fault
  root-fault uses fault due =
      words-due s root keys-pass uses fault (among-more (Contains (words_of root_results)) (IsWordMade s root) fault
      (root-word-made rows s word root visits derived linked told laws rank.0 rank.1 identity
      (it.reads.told.words u.place.0)) due)

  pub words-pass-here : (outgrowths : List Outgrowth) → AreOutgrowths word R s.rule.prune visits outgrowths →
      (parts : List Part) →
      map (use_of_part word (own_at R)) parts ≡ root_results → LimitsTell → AreHeldParts (length table) outgrowths →
      All (λ (p : Part). p.place.0 < length table) parts → Passes (IsWordsFault s root)
  words-pass-here outgrowths out parts of-root limits held root-held =
      words-pass s root (word-small rows s word root visits derived linked told laws rank.0 rank.1
      identity (it.reads.told.words u.place.0) outgrowths out parts of-root limits table is_table it.reads.told held
      root-held)

  -- ---- the depth
  pub depth-is : (parts : List Part) → map (use_of_part word (own_at R)) parts ≡ root_results → (below : ℕ) →
      below ≡ deepest (results_at R last) →
      root_depth (length parts) below ≡ depth (root_of root_results).tree
  depth-is parts of-root below e =
      let a = length-map parts (use_of_part word (own_at R)) in
      let b = ap (λ (l : List Use). length l) of-root in
      let long : length parts ≡ length root_results = sym a ∙ b in
      (λ i. root_depth (long i) ((e ∙ sym (deepest-carried root.turn root.word (results_at R last))) i)) ∙
      sym (root-depth root_results)

  pub depth-pass-here : depth (root_of root_results).tree ≤ most_depth → Passes (IsDepthFault s root)
  depth-pass-here few = depth-pass s root (root_of root_results) root-only few

  pub depth-fault : Passes (IsUsesFault s root) → Passes (IsWordsFault s root) → (d : ℕ) →
      d ≡ depth (root_of root_results).tree → most_depth < d →
      (fault : ApplyFault) → fault ≡ Limit Depth d → IsDueOf (first_groups s root) fault
  depth-fault uses words d e past fault is =
      depth-due s root keys-pass uses words (root_of root_results) root-steps d e past fault is
