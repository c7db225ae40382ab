-- What is made of a derivation: its nodes and the new root over them, or why they aren't made.
use Rattle.std.specs.Prelude.{◌≡◌, ◌⊎◌, ◌↔◌, ℕ, ◌<◌, ◌≤◌, Bool, true, false, List, [], map, length, All, Contains}
use Rattle.std.specs.List.Sorted.{IsStrictlySortedBy}
use Rattle.location_words.specs.declared.pair.Pair.{Pair}
use Rattle.expansion_laws.specs.Trees.{Tree}
use Rattle.expansion_laws.specs.Steps.{root_of}
use Rattle.step_history.specs.Numbered.{pair_cmp}
use Rattle.shape_pool.specs.declared.node.NodeId.{NodeId}
use Rattle.shape_pool.specs.Calls.{Keeps}
use Rattle.shape_pool.specs.Laws.{TellsBelow}
use Rattle.shape_pool.specs.Rows.{Row, tree_at, use_by, HasPlaces}
use Rattle.key_results.specs.declared.derive.Visit.{Visit}
use Rattle.key_results.specs.declared.fault.ApplyFault.{ApplyFault}
use Rattle.key_results.specs.declared.fault.ApplyFault.TheVariants.{NoMemory}
use Rattle.key_results.specs.declared.parts.Outgrowth.{Outgrowth}
use Rattle.key_results.specs.declared.parts.Part.{Part}
use Rattle.key_results.specs.declared.rewritten.Rewritten.{Rewritten}
use Rattle.key_results.specs.Derivations.{results_of}
use Rattle.key_results.specs.Grown.{AreNewOwn, IsMakingRefused, IsRootRefused, KeepKinds, StandForOwn, StandForParts}
use Rattle.key_results.specs.Pairs.{IsPairOf, IsUnseen}
use Rattle.key_results.specs.Parts.{use_of_part, AreHeldParts, AreOutgrowths}

-- the nodes of all keys
pub record AreMadeNodes (old mid : List Row) (visits : List Visit) (outgrowths : List Outgrowth)
    (nodes : List NodeId) : Type 0 where
  pub long : length nodes ≡ length visits
  pub kinds : KeepKinds old mid visits nodes
  pub stand : StandForOwn old mid visits outgrowths nodes
  pub more : AreNewOwn old mid outgrowths nodes
  pub kept : Keeps old mid

-- the nodes, the new root and the pairs that are answered
pub record IsMade (old new : List Row) (visits : List Visit) (outgrowths : List Outgrowth) (parts : List Part)
    (made : Rewritten) : Type 0 where
  pub mid : List Row
  pub nodes : List NodeId
  pub are : AreMadeNodes old mid visits outgrowths nodes
  pub kept : Keeps mid new
  pub root_is : (word : ℕ → List Pair) (own : ℕ → Tree) → word 0 ≡ [] → StandForParts word mid parts nodes own →
      use_by word (tree_at word new) made.root ≡ root_of (map (use_of_part word own) parts)
  pub root_held : made.root.id.0 < length new
  pub root_place : (n : ℕ) → 0 < n → All (λ (p : Part). p.place.0 < n) parts → made.root.place.0 < n
  pub root_more : (i : ℕ) → length mid ≤ i → i < length new → i ≡ made.root.id.0
  pub images_are : (p : NodeId × NodeId) → Contains made.images p ↔
      (IsPairOf visits outgrowths nodes true p ⊎ ((p.1 ≡ p.0) × IsUnseen new visits p.0.0))
  pub replaced_are : (p : NodeId × NodeId) → Contains made.replaced p ↔ IsPairOf visits outgrowths nodes false p
  pub images_ascend : IsStrictlySortedBy pair_cmp made.images
  pub replaced_ascend : IsStrictlySortedBy pair_cmp made.replaced

-- the nodes aren't made, or the new root isn't
abbrev pub AreUnmade : List Row → List Visit → List Outgrowth → ApplyFault → Type 0
AreUnmade old visits outgrowths fault =
    (word : ℕ → List Pair) (prune : Bool) (n : ℕ) → TellsBelow n word → HasPlaces old n → AreHeldParts n outgrowths →
    AreOutgrowths word (results_of word (tree_at word old) prune visits) prune visits outgrowths →
    IsMakingRefused old visits outgrowths fault word prune

pub record IsRootUnmade (old : List Row) (visits : List Visit) (outgrowths : List Outgrowth) (parts : List Part)
    (fault : ApplyFault) : Type 0 where
  pub mid : List Row
  pub nodes : List NodeId
  pub are : AreMadeNodes old mid visits outgrowths nodes
  pub places : (n : ℕ) → HasPlaces old n → AreHeldParts n outgrowths → HasPlaces mid n
  pub why : (word : ℕ → List Pair) (own : ℕ → Tree) (n : ℕ) → TellsBelow n word → HasPlaces mid n →
      All (λ (p : Part). p.place.0 < n) parts → StandForParts word mid parts nodes own →
      IsRootRefused word mid (map (use_of_part word own) parts) fault

abbrev pub IsUnmade : List Row → List Visit → List Outgrowth → List Part → ApplyFault → Type 0
IsUnmade old visits outgrowths parts fault =
    (fault ≡ NoMemory) ⊎ (AreUnmade old visits outgrowths fault ⊎ IsRootUnmade old visits outgrowths parts fault)
