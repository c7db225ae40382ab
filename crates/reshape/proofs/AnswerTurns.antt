-- The answer of a step that is carried out, and why one isn't, in each reading.
use Rattle.std.proofs.Common.{◌≡◌, ◌≤◌, ◌<◌, ◌+◌, ◌∷◌, ℕ, List, [], All, length, arith, refl}
use Rattle.orientation.specs.declared.kind.Kind.{Kind}
use Rattle.location_words.specs.declared.pair.Pair.{Pair}
use Rattle.location_words.specs.Tables.{IsTable}
use Rattle.expansion_laws.specs.Trees.{Tree, Use}
use Rattle.expansion_laws.specs.Graph.{IsRank}
use Rattle.expansion_laws.specs.Steps.{Step}
use Rattle.expansion_laws.specs.Subtrees.{SubtreesStand}
use Rattle.shape_pool.specs.declared.node.UseOf.{UseOf}
use Rattle.shape_pool.specs.Laws.{IsSound}
use Rattle.shape_pool.specs.Rows.{Row, tree_at, use_by, HasPlaces}
use Rattle.requests.specs.Numbered.{Table}
use Rattle.requests.specs.Plans.{StepPlan}
use Rattle.requests.specs.Readings.{step_by}
use Rattle.key_results.specs.declared.derive.Visit.{Visit}
use Rattle.key_results.specs.declared.fault.ApplyFault.{ApplyFault}
use Rattle.key_results.specs.declared.parts.Outgrowth.{Outgrowth}
use Rattle.key_results.specs.declared.parts.Part.{Part}
use Rattle.key_results.specs.declared.rewritten.Rewritten.{Rewritten}
use Rattle.key_results.specs.Derivations.{AreLinked, AreVisitsHeld}
use Rattle.key_results.specs.Derived.{DerivesResults}
use Rattle.key_results.specs.Parts.{AreHeldParts, AreOfOwn, ArePartsOfOwn}
use Rattle.key_results.specs.Results.{AreTreesOfNodes, GiveResults}
use Rattle.reshape.specs.Answers.{IsDueLimit, IsRewritten, IsWithinLimits, RisesByKeys}
use Rattle.reshape.specs.Deriving.{HaveLaws, IsDerivedStep}
use Rattle.reshape.specs.Limits.{first_groups, groups, IsDueOf, IsNodesFault}
use Rattle.reshape.specs.Making.{IsMade, IsUnmade}
use Rattle.reshape.specs.Readings.{IsCarriedOut, IsStepOf, Reads}
use Rattle.reshape.proofs.AnswerLaws.{all-pass, held, images, replaced, rises, steps}
use Rattle.reshape.proofs.DeriveLaws.{told}
use Rattle.reshape.proofs.LimitLaws.{due-more}
use Rattle.reshape.proofs.OwnLaws.{unmade-due}
use Rattle.reshape.proofs.StepLaws.{ranked, tells-words, zero-word}
use Rattle.reshape.proofs.UseLaws.{wider-places}

-- the step of a table is one that a plan carries out
pub step-of : (rows : List Row) (n root : ℕ) (plan : StepPlan) (table : List (List Pair)) (t : Table) (kind : ℕ → Kind)
    (word : ℕ → List Pair) →
    IsCarriedOut rows n root plan t → Reads rows table kind word →
    IsStepOf rows n root plan table (step_by word rows kind t) word
step-of rows n root plan table t kind word carried reads =
    record { given = t; kind = kind; carried = carried; reads = reads; is = refl }

-- a fault of the first groups is one of all
pub first-due : (s : Step) (root : Use) (held : List Tree) (fault : ApplyFault) → IsDueOf (first_groups s root) fault →
    IsDueOf (groups s root held) fault
first-due s root held fault h = due-more (first_groups s root) (IsNodesFault s root held ∷ []) fault h

-- what doesn't rise rises by no more than the number of keys
pub still-rises : (old n : ℕ) → old ≤ old + n
still-rises old n = omega arith

module _ (rows : List Row) (n : ℕ) (plan : StepPlan) (table : List (List Pair)) (u : UseOf) (s : Step)
    (word : ℕ → List Pair)
    (it : IsStepOf rows n u.id.0 plan table s word) (is_table : IsTable table) (le : n ≤ length table)
    (places : HasPlaces rows n)
    (laws : HaveLaws s) (visits : List Visit) (outgrowths : List Outgrowth) (parts : List Part)
    (d : IsDerivedStep rows s word (use_by word (tree_at word rows) u) visits outgrowths parts)
    (linked : AreLinked visits)
    (gives : GiveResults word (tree_at word rows) s.rule.prune visits outgrowths) (subtrees : SubtreesStand)
    (root_own : ArePartsOfOwn outgrowths parts) where
  abbrev root : Use
  root = use_by word (tree_at word rows) u

  identity : word 0 ≡ []
  identity = zero-word rows n u.id.0 plan table s word it is_table le places

  told-here : DerivesResults s word rows d.derived.keys visits
  told-here = told rows n plan table u s word it is_table le places laws visits d.derived linked

  rank : (r : ℕ) × IsRank s root.tree r
  rank = let k = (ranked rows n u.id.0 plan table s word it is_table le places).rank in (k.0, k.1)

  pub refused-turn : AreHeldParts (length table) outgrowths → All (λ (p : Part). p.place.0 < length table) parts →
      (fault : ApplyFault) →
      IsUnmade rows visits outgrowths parts fault → IsDueLimit rows u fault s word
  refused-turn held_parts placed fault h =
      unmade-due rows s word root visits outgrowths parts d linked told-here laws rank.0 rank.1 identity
      (it.reads.told.words u.place.0) gives subtrees root_own
      (length table) (tells-words table word (length table) is_table it.reads.told (omega arith))
      (wider-places rows n (length table) le places) held_parts placed
      fault h

  pub rises-turn : (old new : ℕ) → new ≤ old + length visits → RisesByKeys rows u old new s word
  rises-turn old new few k c =
      let most = rises rows s word root visits outgrowths parts d k c in omega (arith, few, most)

  module _ (new : List Row) (sound_new : IsSound new) (visits_held : AreVisitsHeld rows visits)
      (of_own : AreOfOwn outgrowths) (made : Rewritten)
      (m : IsMade rows new visits outgrowths parts made)
      (law : AreTreesOfNodes rows new word s.rule.prune visits outgrowths m.nodes) where
    pub rewritten-turn : IsRewritten rows new u made s word
    rewritten-turn = record {
      steps =
          steps rows new sound_new s word root visits outgrowths parts d linked told-here laws rank.0 rank.1 identity
          (it.reads.told.words u.place.0) gives
          visits_held of_own root_own subtrees made m law;
      images =
          images rows new sound_new s word root visits outgrowths parts d linked told-here laws rank.0 rank.1 identity
          (it.reads.told.words u.place.0) gives
          visits_held of_own root_own subtrees made m law;
      replaced =
          replaced rows new sound_new s word root visits outgrowths parts d linked told-here laws rank.0 rank.1 identity
          (it.reads.told.words u.place.0) gives visits_held of_own root_own subtrees made m law;
      held =
          held rows new sound_new s word root visits outgrowths parts d linked told-here laws rank.0 rank.1 identity
          (it.reads.told.words u.place.0) gives
          visits_held of_own root_own subtrees made m law;
    }

    pub within-turn : IsWithinLimits rows u s word
    within-turn =
        all-pass rows new sound_new s word root visits outgrowths parts d linked told-here laws rank.0 rank.1 identity
        (it.reads.told.words u.place.0) gives
        visits_held of_own root_own subtrees made m law
