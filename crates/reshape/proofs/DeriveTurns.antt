-- The turns of a derivation.
use Rattle.std.proofs.Common.{◌≡◌, ◌≤◌, ◌<◌, ◌-◌, ◌∙◌, ℕ, Bool, List, [], All, map, length}
use Rattle.std.proofs.Common.{arith, refl, sym, ap, subst, slice_get, Option, Some}
use Rattle.std.specs.Prelude.{unwrap_or}
use Rattle.std.proofs.lemmas.List.Elements.{All-weaker}
use Rattle.lists.proofs.Entries.{slice_get-mapped}
use Rattle.lists.proofs.Places.{at_place}
use Rattle.location_words.specs.declared.pair.Pair.{Pair}
use Rattle.expansion_laws.specs.Trees.{Tree, Use}
use Rattle.expansion_laws.specs.Steps.{Step}
use Rattle.shape_pool.specs.Rows.{Row}
use Rattle.key_results.specs.declared.derive.Visit.{Visit}
use Rattle.key_results.specs.declared.parts.Outgrowth.{Outgrowth}
use Rattle.key_results.specs.declared.weighing.Weight.{Weight}
use Rattle.key_results.specs.Derivations.{results_at, results_of}
use Rattle.key_results.specs.Parts.{AreHeldParts, IsHeldPart}
use Rattle.key_results.specs.Weights.{weight}
use Rattle.std.proofs.Common.{Contains}
use Rattle.location_words.specs.Laws.{LimitsTell}
use Rattle.location_words.specs.Tables.{IsTable}
use Rattle.expansion_laws.specs.Contexts.{carried}
use Rattle.expansion_laws.specs.Measures.{depth}
use Rattle.expansion_laws.specs.Steps.{root_of}
use Rattle.shape_pool.specs.declared.node.UseOf.{UseOf}
use Rattle.shape_pool.specs.Rows.{most_depth, tree_at, use_by, HasPlaces}
use Rattle.requests.specs.Plans.{StepPlan}
use Rattle.key_results.specs.declared.fault.ApplyFault.{ApplyFault}
use Rattle.key_results.specs.declared.fault.ApplyFault.TheVariants.{Limit}
use Rattle.key_results.specs.declared.fault.LimitKind.TheVariants.{Depth}
use Rattle.key_results.specs.declared.parts.Part.{Part}
use Rattle.key_results.specs.Derivations.{sizes_from, AreLinked}
use Rattle.key_results.specs.Faults.{IsDueAmong}
use Rattle.key_results.specs.Parts.{own_at, results_in, use_of_part, words_of, AreOutgrowths, IsJoinedWord}
use Rattle.key_results.specs.Results.{FollowVisits, GiveResults}
use Rattle.reshape.specs.Readings.{IsStepOf}
use Rattle.reshape.specs.Limits.{first_groups, most_uses, root_depth, IsDueOf}
use Rattle.reshape.specs.Limits.{IsPastUses, IsUsesFault, IsWordsFault, Passes}
use Rattle.reshape.specs.Collecting.{IsDerivedBy}
use Rattle.reshape.specs.Deriving.{HaveLaws, IsDerivedStep}
use Rattle.reshape.proofs.DeriveLaws.{depth-fault, depth-is, depth-pass-here, joined-fault, keys-pass}
use Rattle.reshape.proofs.DeriveLaws.{root-fault, uses-fault, uses-pass-here, words-pass-here}

-- the root's key is the last
pub last-place : (rows : List Row) (s : Step) (word : ℕ → List Pair) (root : Use) (visits : List Visit)
    (derived : IsDerivedBy rows s word root visits) →
    (many : ℕ) → many ≡ length visits → many - 1 ≡ derived.are.last.0
last-place rows s word root visits derived many e =
    let long = derived.derives.long in
    let last = derived.are.last.2 in
    omega (arith, e, long, last)

-- parts that are held, among more words
pub parts-wider : (n m : ℕ) (outgrowths : List Outgrowth) → n ≤ m → AreHeldParts n outgrowths →
    AreHeldParts m outgrowths
parts-wider n m outgrowths le held k o e =
    All-weaker (IsHeldPart k n) (IsHeldPart k m) (λ p h. (h.0, let a = h.1 in omega (arith, a, le))) o.parts.items
    (held k o e)

-- what a key weighs
pub weight-at : (word : ℕ → List Pair) (tree : ℕ → Tree) (prune : Bool) (visits : List Visit) (weights : List Weight)
    (k : ℕ) → FollowVisits word tree prune →
    weights ≡ map weight (results_of word tree prune visits) → k < length visits →
    slice_get weights k ≡ Some (weight (results_at (results_of word tree prune visits) k))
weight-at word tree prune visits weights k follow e lt =
    let R = results_of word tree prune visits in
    let long : length R ≡ length visits = follow.long visits in
    let x = at_place R k (omega (arith, lt, long)) in
    ap (λ (l : List Weight). slice_get l k) e ∙ slice_get-mapped weight R k x.0 x.1 ∙
    ap (λ (l : List Use). Some (weight l)) (sym (ap (λ (o : Option (List Use)). unwrap_or o []) x.1))

-- a depth is past the limit, which is told
abbrev pub IsDeepFault : ℕ → Weight → ApplyFault → Type 0
IsDeepFault count w fault = (fault ≡ Limit Depth (root_depth count w.depth)) × (most_depth < root_depth count w.depth)

-- ---- by the lists that callees see
module _ (rows : List Row) (n : ℕ) (plan : StepPlan) (table : List (List Pair)) (u : UseOf) (s : Step)
    (word : ℕ → List Pair)
    (it : IsStepOf rows n u.id.0 plan table s word) (is_table : IsTable table) (le : n ≤ length table)
    (places : HasPlaces rows n)
    (laws : HaveLaws s) (visits : List Visit) (derived : IsDerivedBy rows s word (use_by word (tree_at word rows) u)
    visits) (linked : AreLinked visits)
    (seen : List Visit) (same : seen ≡ visits) (prune : Bool) (rule : prune ≡ s.rule.prune) where
  abbrev root : Use
  root = use_by word (tree_at word rows) u

  abbrev tree : ℕ → Tree
  tree = tree_at word rows

  abbrev R : List (List Use)
  R = results_of word tree s.rule.prune visits

  abbrev last : ℕ
  last = derived.are.last.0

  abbrev root_results : List Use
  root_results = map (carried root.turn root.word) (results_at R last)

  total : sizes_from word tree prune [] seen ≡ sizes_from word tree s.rule.prune [] visits
  total i = sizes_from word tree (rule i) [] (same i)

  pub uses-turn : (fault : ApplyFault) → IsPastUses (sizes_from word tree prune [] seen) fault →
      IsDueOf (first_groups s root) fault
  uses-turn fault h =
      uses-fault rows n plan table u s word it is_table le places laws visits derived linked fault
      (subst (λ (k : ℕ). IsPastUses k fault) total h)

  pub few-turn : sizes_from word tree prune [] seen ≤ most_uses → Passes (IsUsesFault s root)
  few-turn h =
      uses-pass-here rows n plan table u s word it is_table le places laws visits derived linked
      (subst (λ (k : ℕ). k ≤ most_uses) total h)

  pub joined-turn : sizes_from word tree prune [] seen ≤ most_uses → (fault : ApplyFault) →
      IsDueAmong (IsJoinedWord word (results_of word tree prune seen) seen) fault → IsDueOf (first_groups s root) fault
  joined-turn few fault h =
      joined-fault rows n plan table u s word it is_table le places laws visits derived linked (few-turn few) fault
      (subst (λ (z : List Visit). IsDueAmong (IsJoinedWord word (results_of word tree s.rule.prune z) z) fault) same
      (subst (λ (b : Bool). IsDueAmong (IsJoinedWord word (results_of word tree b seen) seen) fault) rule h))

  pub out-turn : (outgrowths : List Outgrowth) →
      AreOutgrowths word (results_of word tree prune seen) prune seen outgrowths →
      AreOutgrowths word R s.rule.prune visits outgrowths
  out-turn outgrowths h =
      subst (λ (z : List Visit). AreOutgrowths word (results_of word tree s.rule.prune z) s.rule.prune z outgrowths)
      same
      (subst (λ (b : Bool). AreOutgrowths word (results_of word tree b seen) b seen outgrowths) rule h)

  module _ (outgrowths : List Outgrowth) (out : AreOutgrowths word (results_of word tree prune seen) prune seen
      outgrowths)
      (gives : GiveResults word tree s.rule.prune visits outgrowths) (came : List Outgrowth)
      (came_is : came ≡ outgrowths) (key : ℕ)
      (is_last : key ≡ last) (few : sizes_from word tree prune [] seen ≤ most_uses) where
    gives-last : results_in word (own_at R) came key ≡ results_at R last
    gives-last =
        let long = derived.derives.long in
        let at = derived.are.last.2 in
        (λ i. results_in word (own_at R) (came_is i) (is_last i)) ∙
        gives linked (out-turn outgrowths out) last (omega (arith, long, at))

    pub root-turn : (fault : ApplyFault) → IsDueAmong
        (Contains (words_of (map (carried u.turn (word u.place.0)) (results_in word (own_at R) came key)))) fault →
        IsDueOf (first_groups s root) fault
    root-turn fault h =
        root-fault rows n plan table u s word it is_table le places laws visits derived linked (few-turn few) fault
        (subst (λ (l : List Use). IsDueAmong (Contains (words_of (map (carried u.turn (word u.place.0)) l))) fault)
        gives-last h)

    module _ (parts : List Part) (of_parts : map (use_of_part word (own_at R)) parts ≡
        map (carried u.turn (word u.place.0)) (results_in word (own_at R) came key))
        (limits : LimitsTell) (held : AreHeldParts (length table) outgrowths)
        (root_held : All (λ (p : Part). p.place.0 < length table) parts)
        (weights : List Weight) (weighed : weights ≡ map weight (results_of word tree prune seen)) where
      of-root : map (use_of_part word (own_at R)) parts ≡ root_results
      of-root = of_parts ∙ ap (map (carried u.turn (word u.place.0))) gives-last

      words-turn : Passes (IsWordsFault s root)
      words-turn =
          words-pass-here rows n plan table u s word it is_table le places laws visits derived linked outgrowths
          (out-turn outgrowths out) parts of-root limits
          held root_held

      at-key : slice_get weights key ≡ Some (weight (results_at R last))
      at-key =
          let long = derived.derives.long in
          let at = derived.are.last.2 in
          ap (slice_get weights) is_last ∙
          weight-at word tree s.rule.prune visits weights last (laws.follow word tree s.rule.prune)
          (weighed ∙ (λ i. map weight (results_of word tree (rule i) (same i)))) (omega (arith, long, at))

      deep : root_depth (length parts) (weight (results_at R last)).depth ≡ depth (root_of root_results).tree
      deep =
          depth-is rows n plan table u s word it is_table le places laws visits derived linked parts of-root
          (weight (results_at R last)).depth refl

      pub depth-turn : (fault : ApplyFault) → ((w : Weight) → slice_get weights key ≡ Some w →
          (fault ≡ Limit Depth (root_depth (length parts) w.depth)) ×
          (most_depth < root_depth (length parts) w.depth)) → IsDueOf (first_groups s root) fault
      depth-turn fault h =
          let d = h (weight (results_at R last)) at-key in
          depth-fault rows n plan table u s word it is_table le places laws visits derived linked (few-turn few)
          words-turn
          (root_depth (length parts) (weight (results_at R last)).depth) deep d.1 fault d.0

      pub derived-turn : ((w : Weight) → slice_get weights key ≡ Some w →
          root_depth (length parts) w.depth ≤ most_depth) →
          IsDerivedStep rows s word root visits outgrowths parts
      derived-turn h = record {
        derived = derived;
        out = out-turn outgrowths out;
        of_root = of-root;
        passes = (
          keys-pass rows n plan table u s word it is_table le places laws visits derived linked,
          (
            few-turn few,
            (
              words-turn,
              (
                depth-pass-here rows n plan table u s word it is_table le places laws visits derived linked
                    (subst (λ (d : ℕ). d ≤ most_depth) deep (h (weight (results_at R last)) at-key)),
                tt,
              ),
            ),
          ),
        );
      }
