-- The tree of its own that comes of a key, by the nodes of earlier keys.
use Rattle.std.proofs.Common.{◌≡◌, ◌<◌, ℕ, Bool, true, false, List, map, ◌∷◌, [], All, Contains, length}
use Rattle.std.proofs.Common.{arith, sym, ◌∙◌, ap, refl, slice_get, slice_index_or, Some, if◌then◌else◌}
use Rattle.std.specs.Prelude.{◌&&◌, not}
use Rattle.std.proofs.lemmas.List.Elements.{All-contains}
use Rattle.std.proofs.lemmas.Option.{slice_get-get_or}
use Rattle.lists.specs.Sameness.{is_empty}
use Rattle.lists.proofs.Members.{map-map}
use Rattle.location_words.specs.declared.pair.Pair.{Pair}
use Rattle.expansion_laws.specs.Trees.{Tree, Use, a_single, origin, tree_of}
use Rattle.expansion_laws.specs.Contexts.{bare}
use Rattle.shape_pool.specs.declared.node.NodeId.{NodeId}
use Rattle.shape_pool.specs.Rows.{Row, origin_at, use_by, tree_at}
use Rattle.shape_pool.specs.Calls.{Keeps}
use Rattle.shape_pool.specs.Laws.{IsSound}
use Rattle.key_results.specs.declared.derive.Outcome.{Outcome}
use Rattle.key_results.specs.declared.derive.Outcome.TheVariants.{Stays, Rebuilt, Joined}
use Rattle.key_results.specs.declared.derive.Visit.{Visit}
use Rattle.key_results.specs.declared.parts.Part.{Part}
use Rattle.key_results.specs.declared.parts.Outgrowth.{Outgrowth}
use Rattle.key_results.specs.Derivations.{joined_by, made_of, results_at, results_of, AreLinked}
use Rattle.key_results.specs.Parts.{use_of_part, own_at, is_own_at, first_tree}
use Rattle.key_results.specs.Parts.{has_own, IsOutgrowth, AreOutgrowths, ArePartsOfOwn}
use Rattle.key_results.specs.Grown.{node_use, node_uses, StandForOwn}
use Rattle.key_results.proofs.ResultLaws.{results-entry}
use Rattle.key_results.proofs.PartLaws.{is-empty-map}
use Rattle.key_results.proofs.OwnerLaws.{own-place}

pub by-outcome : {P : Type 0} (o : Outcome) → (o ≡ Stays → P) → (o ≡ Rebuilt → P) → (o ≡ Joined → P) → P
by-outcome Stays f g h = f refl
by-outcome Rebuilt f g h = g refl
by-outcome Joined f g h = h refl

first-if : (b : Bool) (y : Tree) → not b ≡ true → first_tree (if b then [] else bare y ∷ []) ≡ y
first-if true y e = absurd cc
first-if false y e = refl

module _ (word : ℕ → List Pair) (R : List (List Use)) (prune : Bool) (k : ℕ) (v : Visit) (o : Outgrowth) (x : Tree)
    (entry : results_at R k ≡ made_of v.outcome prune (is_empty v.links.items) x
    (joined_by word v.mover R v.links.items))
    (is : IsOutgrowth word R prune v o) (own : o.own ≡ true) where
  abbrev J : List Use
  J = joined_by word v.mover R v.links.items

  pub own-stays : v.outcome ≡ Stays → own_at R k ≡ x
  own-stays e = ap first_tree entry ∙ ap (λ oc. first_tree (made_of oc prune (is_empty v.links.items) x J)) e

  pub own-rebuilt : v.outcome ≡ Rebuilt → own_at R k ≡
      tree_of (origin x) (map (use_of_part word (own_at R)) o.parts.items)
  own-rebuilt e =
      let same : is_empty J ≡ is_empty o.parts.items =
      ap is_empty is.parts ∙ is-empty-map (use_of_part word (own_at R)) o.parts.items in
      let whole : not (prune && not (is_empty v.links.items) && is_empty J) ≡ true =
      ap (λ b. not (prune && not (is_empty v.links.items) && b)) same ∙
      ap (λ oc. has_own oc prune (is_empty v.links.items) (is_empty o.parts.items)) (sym e) ∙ sym is.own ∙ own in
      ap first_tree entry ∙ ap (λ oc. first_tree (made_of oc prune (is_empty v.links.items) x J)) e ∙
      first-if (prune && not (is_empty v.links.items) && is_empty J) (tree_of (origin x) J) whole ∙
      ap (tree_of (origin x)) is.parts

  pub own-joined : v.outcome ≡ Joined → ⊥
  own-joined e =
      let wrong : true ≡ false = sym own ∙ is.own ∙
      ap (λ oc. has_own oc prune (is_empty v.links.items) (is_empty o.parts.items)) e in
      absurd cc

-- the uses of the nodes of parts stand for what the parts stand for
pub uses-of-parts : (word : ℕ → List Pair) (tree own : ℕ → Tree) (d : NodeId) (nodes : List NodeId)
    (parts : List Part) →
    ((p : Part) → Contains parts p → tree (slice_index_or nodes p.of d).0 ≡ own p.of) →
    map (use_by word tree) (node_uses d nodes parts) ≡ map (use_of_part word own) parts
uses-of-parts word tree own d nodes parts same =
    map-map (node_use d nodes) (use_by word tree) (use_of_part word own) parts
    (λ p c i. a_single p.turn (word p.place.0) (same p c i))

module _ (old cur : List Row) (keeps : Keeps old cur) (sound : IsSound cur) (visits : List Visit)
    (linked : AreLinked visits)
    (outgrowths : List Outgrowth) (nodes : List NodeId) (stand : StandForOwn old cur visits outgrowths nodes)
    (word : ℕ → List Pair) (prune : Bool)
    (are : AreOutgrowths word (results_of word (tree_at word old) prune visits) prune visits outgrowths) where
  abbrev R : List (List Use)
  R = results_of word (tree_at word old) prune visits

  -- the node of a part stands for its tree
  pub part-stands : (d : NodeId) (parts : List Part) → ArePartsOfOwn outgrowths parts →
      All (λ (p : Part). p.of < length nodes) parts →
      (p : Part) → Contains parts p → tree_at word cur (slice_index_or nodes p.of d).0 ≡ own_at R p.of
  part-stands d parts owners within p c =
      let q =
      own-place outgrowths p.of (All-contains (λ (p : Part). is_own_at outgrowths p.of ≡ true) parts p owners c) in
      stand word p.of q.0 (slice_index_or nodes p.of d) prune are q.1
      (slice_get-get_or nodes p.of d (All-contains (λ (p : Part). p.of < length nodes) parts p within c)) q.2

  module _ (k : ℕ) (v : Visit) (o : Outgrowth) (at : slice_get visits k ≡ Some v)
      (has : slice_get outgrowths k ≡ Some o)
      (own : o.own ≡ true) (within : v.id.0 < length old) where
    abbrev entry : results_at R k ≡ made_of v.outcome prune (is_empty v.links.items) (tree_at word old v.id.0)
        (joined_by word v.mover R v.links.items)
    entry = results-entry word (tree_at word old) prune visits linked k v at

    -- the tree of a key's own over the nodes of its parts
    pub own-over : (d : NodeId) → ArePartsOfOwn outgrowths o.parts.items →
        All (λ (p : Part). p.of < length nodes) o.parts.items → v.outcome ≡ Rebuilt →
        own_at R k ≡
        tree_of (origin_at cur v.id.0) (map (use_by word (tree_at word cur)) (node_uses d nodes o.parts.items))
    own-over d owners held e =
        let grows = keeps.grows in
        let same : origin (tree_at word old v.id.0) ≡ origin_at cur v.id.0 =
        ap origin (sym (keeps.trees word v.id.0 within) ∙
        sound.trees_of_uses word v.id.0 (omega (arith, within, grows))) in
        own-rebuilt word R prune k v o (tree_at word old v.id.0) entry (are.each k v o at has) own e ∙
        (λ i. tree_of (same i) (sym (uses-of-parts word (tree_at word cur) (own_at R) d nodes o.parts.items
        (part-stands d o.parts.items owners held)) i))

    pub own-kept : v.outcome ≡ Stays → own_at R k ≡ tree_at word old v.id.0
    own-kept = own-stays word R prune k v o (tree_at word old v.id.0) entry (are.each k v o at has) own

    pub own-never : v.outcome ≡ Joined → ⊥
    own-never = own-joined word R prune k v o (tree_at word old v.id.0) entry (are.each k v o at has) own
