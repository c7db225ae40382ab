-- A step that is derived by keys: its visits, what comes of each, and the results of its root.
use Rattle.std.specs.Prelude.{◌≡◌, ◌↔◌, ℕ, Bool, true, List, [], map}
use Rattle.location_words.specs.declared.pair.Pair.{Pair}
use Rattle.location_words.specs.Pairs.{IsWord}
use Rattle.expansion_laws.specs.Trees.{Tree, Use}
use Rattle.expansion_laws.specs.Contexts.{carried}
use Rattle.expansion_laws.specs.DerivedVisits.{VisitsResultsOccur}
use Rattle.expansion_laws.specs.Keeping.{ResultsHaveTheKind}
use Rattle.expansion_laws.specs.KeyReach.{VisitsHaveKeys}
use Rattle.expansion_laws.specs.Keys.{Key as TreeKey}
use Rattle.expansion_laws.specs.RewritingLaws.{DemandsAreEdges, IsDetermined, KeysStandForVisits, ResultsAreCarried}
use Rattle.expansion_laws.specs.SlowMeasures.{key_eq, MeasuresAreDetermined}
use Rattle.expansion_laws.specs.Steps.{Step}
use Rattle.shape_pool.specs.Rows.{Row, tree_at}
use Rattle.key_results.specs.declared.derive.Visit.{Visit}
use Rattle.key_results.specs.declared.key.Key.{Key}
use Rattle.key_results.specs.declared.parts.Outgrowth.{Outgrowth}
use Rattle.key_results.specs.declared.parts.Part.{Part}
use Rattle.key_results.specs.Derivations.{results_at, results_of, AreLinked}
use Rattle.key_results.specs.Derived.{DerivesResults, IsDerivation}
use Rattle.key_results.specs.Parts.{own_at, use_of_part, AreOutgrowths}
use Rattle.key_results.specs.Results.{FollowVisits}
use Rattle.reshape.specs.Limits.{first_groups, PassAll}
use Rattle.reshape.specs.Collecting.{IsDerivedBy}

-- what is known of every step
pub record HaveLaws (s : Step) : Type 0 where
  pub stand : KeysStandForVisits s
  pub keys_tell : (k l : TreeKey) → (key_eq k l ≡ true) ↔ (k ≡ l)
  pub determined : IsDetermined s
  pub have_keys : VisitsHaveKeys s
  pub carry : ResultsAreCarried s
  pub measures : (root : Use) → MeasuresAreDetermined s root
  pub occur : VisitsResultsOccur s
  pub kinds : ResultsHaveTheKind s
  pub demands_are : DemandsAreEdges s
  pub follow : (word : ℕ → List Pair) (tree : ℕ → Tree) (prune : Bool) → FollowVisits word tree prune
  pub derive : (word : ℕ → List Pair) (rows : List Row) (keys : List Key) (visits : List Visit) → word 0 ≡ [] →
      ((i : ℕ) → IsWord (word i)) → AreLinked visits → IsDerivation s word rows keys visits →
      DerivesResults s word rows keys visits

-- A step is derived: its visits, what comes of each, and the results of its root as parts. No limit is passed before
-- nodes are made.
pub record IsDerivedStep (rows : List Row) (s : Step) (word : ℕ → List Pair) (root : Use) (visits : List Visit)
    (outgrowths : List Outgrowth)
    (parts : List Part) : Type 0 where
  pub derived : IsDerivedBy rows s word root visits
  pub out : AreOutgrowths word (results_of word (tree_at word rows) s.rule.prune visits) s.rule.prune visits outgrowths
  pub of_root : map (use_of_part word (own_at (results_of word (tree_at word rows) s.rule.prune visits))) parts ≡
      map (carried root.turn root.word) (results_at (results_of word (tree_at word rows) s.rule.prune visits)
      derived.are.last.0)
  pub passes : PassAll (first_groups s root)
