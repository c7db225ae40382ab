-- What numbers say stands for what trees do.
use Rattle.std.proofs.Common.{◌≡◌, ◌<◌, ◌∙◌, refl, sym, ap, subst, arith, length, map}
use Rattle.std.specs.Prelude.{◌↔◌, ℕ, List, [], ◌∷◌, Contains}
use Rattle.std.proofs.lemmas.List.Elements.{All-contains}
use Rattle.lists.proofs.Members.{Contains-map, Contains-map_cases}
use Rattle.location_words.specs.declared.pair.Pair.{Pair}
use Rattle.orientation.specs.Kinds.{rank_of}
use Rattle.orientation.specs.declared.kind.Kind.{Kind}
use Rattle.expansion_laws.specs.Trees.{Tree, Use, uses, uses_of, list_of}
use Rattle.expansion_laws.specs.Measures.{OccursIn, StandsBelow}
use Rattle.shape_pool.specs.declared.node.NodeId.{NodeId}
use Rattle.shape_pool.specs.declared.node.UseOf.{UseOf}
use Rattle.shape_pool.specs.Rows.{Row, kind_at, uses_at, use_by, tree_at}
use Rattle.shape_pool.specs.Laws.{IsSound}
use Rattle.step_history.specs.declared.history.StepHistory.{StepHistory}
use Rattle.step_history.specs.History.{IsGone, IsSupported, ListsPairs, ListsTrees, history_of, images_of, generated_of}
use Rattle.step_history.specs.Numbered.{ArePairsHeld, IsHeld, IsReading, IsStepAt, IsGoneAt, OccursAt, StandsBelowAt, Tells, TellsStep, tree_by}
use Rattle.step_history.specs.Changes.{Becomes, TakesPlace, kind_in}
use Rattle.step_history.proofs.GatherLaws.{named_by}
use Rattle.step_history.proofs.StepLaws.{first-held, occurs-held, second-held}

list-back : (us : List Use) → list_of (uses_of us) ≡ us
list-back [] = refl
list-back (u ∷ us) = ap (λ l. u ∷ l) (list-back us)

module _ (rows : List Row) (sound : IsSound rows) (kind_of : Tree → Kind) (word : ℕ → List Pair) (n : ℕ) (reading : IsReading rows kind_of word n) where
  -- ---- numbers and their trees
  same-number : (i j : ℕ) → i < length rows → j < length rows → tree_at word rows i ≡ tree_at word rows j → i ≡ j
  same-number i j a b e = (sound.ids_tell_trees n word reading.placed reading.told i j a b).1 e

  pub same-id : (i j : NodeId) → i.0 < length rows → j.0 < length rows → tree_by word rows i ≡ tree_by word rows j → i ≡ j
  same-id i j a b e = named_by i j (same-number i.0 j.0 a b e)

  pub occurs : (root i : ℕ) → root < length rows → OccursAt rows root i → OccursIn (tree_at word rows i) (tree_at word rows root)
  occurs root i held r = sound.ids_of_subtrees.subtree word root i held r

  pub occurs-back : (root i : ℕ) → root < length rows → i < length rows → OccursIn (tree_at word rows i) (tree_at word rows root) → OccursAt rows root i
  occurs-back root i held own m =
      let f = sound.ids_of_subtrees.reached word root (tree_at word rows i) held m in
      subst (λ z. OccursAt rows root z) (same-number f.0 i (occurs-held rows sound root held f.0 f.1) own f.2) f.1

  -- a tree that occurs is that of a number
  pub number-of : (root : ℕ) (x : Tree) → root < length rows → OccursIn x (tree_at word rows root) → (i : NodeId) × OccursAt rows root i.0 × (tree_by word rows i ≡ x)
  number-of root x held m = let f = sound.ids_of_subtrees.reached word root x held m in (record { 0 = f.0 }, f.1, f.2)

  pub supported : (i : ℕ) → i < length rows → IsSupported (kind_at rows i) → IsSupported (kind_of (tree_at word rows i))
  supported i held s = subst IsSupported (sym (reading.kinds i held)) s

  pub supported-back : (i : ℕ) → i < length rows → IsSupported (kind_of (tree_at word rows i)) → IsSupported (kind_at rows i)
  supported-back i held s = subst IsSupported (reading.kinds i held) s

  uses-are : (i : ℕ) → i < length rows → uses (tree_at word rows i) ≡ map (use_by word (tree_at word rows)) (uses_at rows i)
  uses-are i held = ap uses (sound.trees_of_uses word i held) ∙ list-back (map (use_by word (tree_at word rows)) (uses_at rows i))

  use-held : (i : ℕ) (v : UseOf) → i < length rows → Contains (uses_at rows i) v → v.id.0 < length rows
  use-held i v held m =
      let lt : v.id.0 < i = All-contains (λ (u : UseOf). u.id.0 < i) (uses_at rows i) v (sound.uses_are_earlier i held) m in
      omega (arith, lt, held)

  pub stands : (i above : ℕ) → above < length rows → StandsBelowAt rows i above → StandsBelow (tree_at word rows i) (tree_at word rows above)
  stands i above held h =
      let v = Contains-map_cases (λ (u : UseOf). u.id.0) h.0 (uses_at rows above) h.1 in (
        use_by word (tree_at word rows) v.0,
        subst (λ l. Contains l (use_by word (tree_at word rows) v.0)) (sym (uses-are above held)) (Contains-map (use_by word (tree_at word rows)) v.0 (uses_at rows above) v.1),
        occurs v.0.id.0 i (use-held above v.0 held v.1) (subst (λ z. OccursAt rows z i) (sym v.2) h.2),
      )

  pub stands-back : (i above : ℕ) → above < length rows → i < length rows → StandsBelow (tree_at word rows i) (tree_at word rows above) → StandsBelowAt rows i above
  stands-back i above held own h =
      let v = Contains-map_cases (use_by word (tree_at word rows)) h.0 (uses_at rows above) (subst (λ l. Contains l h.0) (uses-are above held) h.1) in (
        v.0.id.0,
        Contains-map (λ (u : UseOf). u.id.0) v.0 (uses_at rows above) v.1,
        occurs-back v.0.id.0 i (use-held above v.0 held v.1) own (subst (λ (u : Use). OccursIn (tree_at word rows i) u.tree) (sym v.2) h.2),
      )

  -- ---- what is gone
  pub gone-tells : (before after : ℕ) (pairs : List (NodeId × NodeId)) (removed : List NodeId) (R : Tree → Tree → Type 0) → before < length rows → after < length rows →
      ArePairsHeld rows pairs → ListsPairs (tree_by word rows) pairs R → ((t : NodeId) → Contains removed t ↔ IsGoneAt rows before after pairs t) →
      ListsTrees (tree_by word rows) removed (IsGone kind_of (tree_at word rows before) (tree_at word rows after) R)
  gone-tells before after pairs removed R held last pairs_held lists is = (there, back)
    where
      there : (t : NodeId) → Contains removed t → IsGone kind_of (tree_at word rows before) (tree_at word rows after) R (tree_by word rows t)
      there t m =
          let g = (is t).0 m in
          let own = occurs-held rows sound before held t.0 g.1 in (
            supported t.0 own g.0,
            occurs before t.0 held g.1,
            (λ s r. (let p = lists.1 (tree_by word rows t) s r in
                g.2 p.0.1 (subst (λ z. Contains pairs (z, p.0.1)) (same-id p.0.0 t (first-held rows pairs p.0 pairs_held p.1) own p.2) p.1))),
            (λ o. g.3 (occurs-back after t.0 last own o)),
          )

      back : (x : Tree) → IsGone kind_of (tree_at word rows before) (tree_at word rows after) R x → (t : NodeId) × Contains removed t × (tree_by word rows t ≡ x)
      back x g =
          let f = number-of before x held g.1 in
          let own = occurs-held rows sound before held f.0.0 f.1 in
          let e = f.2 in (
            f.0,
            (is f.0).1 (
              supported-back f.0.0 own (subst (λ z. IsSupported (kind_of z)) (sym e) g.0),
              f.1,
              (λ s m. g.2 (tree_by word rows s) (subst (λ z. R z (tree_by word rows s)) e (lists.0 (f.0, s) m))),
              (λ o. g.3 (subst (λ z. OccursIn z (tree_at word rows after)) e (occurs after f.0.0 last o))),
            ),
            e,
          )

  -- ---- a step
  module _ (before after : ℕ) (imaged replacing : List (NodeId × NodeId)) (h : StepHistory) (held : before < length rows) (last : after < length rows)
      (images_held : ArePairsHeld rows imaged) (replaced_held : ArePairsHeld rows replacing) (told_held : IsHeld rows h) (step : IsStepAt rows before after imaged replacing h)
      (R S : Tree → Tree → Type 0) (images_are : ListsPairs (tree_by word rows) imaged R) (replaced_are : ListsPairs (tree_by word rows) replacing S) where
    abbrev first_tree : Tree
    first_tree = tree_at word rows before

    abbrev last_tree : Tree
    last_tree = tree_at word rows after

    images-tell : ListsPairs (tree_by word rows) h.images (images_of kind_of first_tree last_tree R S)
    images-tell = (
      (λ p m. (let i = (step.images p.0 p.1).0 m in
          (supported p.0.0 (first-held rows imaged p images_held i.2) i.0, occurs before p.0.0 held i.1, images_are.0 p i.2))),
      (λ t s r. (let p = images_are.1 t s r.2 in
          let own = first-held rows imaged p.0 images_held p.1 in (
            p.0,
            (step.images p.0.0 p.0.1).1 (
              supported-back p.0.0.0 own (subst (λ z. IsSupported (kind_of z)) (sym p.2) r.0),
              occurs-back before p.0.0.0 held own (subst (λ z. OccursIn z first_tree) (sym p.2) r.1),
              p.1,
            ),
            p.2,
            p.3,
          ))),
    )

    generated-there : (p : NodeId × NodeId) → Contains h.generated p → generated_of kind_of first_tree last_tree R S (tree_by word rows p.0) (tree_by word rows p.1)
    generated-there p m =
        let g = (step.generated p.0 p.1).0 m in
        let first = first-held rows replacing (p.0, g.0) replaced_held g.4 in
        let made = second-held rows replacing (p.0, g.0) replaced_held g.4 in
        let old = first-held rows imaged (g.1, p.1) images_held g.9 in
        let own = second-held rows imaged (g.1, p.1) images_held g.9 in
        let kind = reading.kinds p.0.0 first in let kind' = reading.kinds p.1.0 own in (
          tree_by word rows g.0,
          tree_by word rows g.1,
          supported p.0.0 first g.2,
          occurs before p.0.0 held g.3,
          replaced_are.0 (p.0, g.0) g.4,
          supported p.1.0 own g.5,
          subst (λ k. rank_of (kind_of (tree_by word rows p.1)) < rank_of k) (sym kind) (subst (λ k. rank_of k < rank_of (kind_at rows p.0.0)) (sym kind') g.6),
          stands p.1.0 g.0.0 made g.7,
          (λ o. g.8 (occurs-back before g.1.0 held old o)),
          images_are.0 (g.1, p.1) g.9,
        )

    generated-back : (t s : Tree) → generated_of kind_of first_tree last_tree R S t s →
        (p : NodeId × NodeId) × Contains h.generated p × (tree_by word rows p.0 ≡ t) × (tree_by word rows p.1 ≡ s)
    generated-back t s g =
        let p = replaced_are.1 t g.0 g.4 in
        let q = images_are.1 g.1 s g.9 in
        let first = first-held rows replacing p.0 replaced_held p.1 in
        let made = second-held rows replacing p.0 replaced_held p.1 in
        let old = first-held rows imaged q.0 images_held q.1 in
        let own = second-held rows imaged q.0 images_held q.1 in
        let kind : kind_of t ≡ kind_at rows p.0.0.0 = ap kind_of (sym p.2) ∙ reading.kinds p.0.0.0 first in
        let kind' : kind_of s ≡ kind_at rows q.0.1.0 = ap kind_of (sym q.3) ∙ reading.kinds q.0.1.0 own in (
          (p.0.0, q.0.1),
          (step.generated p.0.0 q.0.1).1 (
            p.0.1,
            q.0.0,
            subst IsSupported kind g.2,
            occurs-back before p.0.0.0 held first (subst (λ z. OccursIn z first_tree) (sym p.2) g.3),
            p.1,
            subst IsSupported kind' g.5,
            subst (λ k. rank_of (kind_at rows q.0.1.0) < rank_of k) kind (subst (λ k. rank_of k < rank_of (kind_of t)) kind' g.6),
            stands-back q.0.1.0 p.0.1.0 made own (subst (λ z. StandsBelow z (tree_by word rows p.0.1)) (sym q.3) (subst (λ z. StandsBelow s z) (sym p.3) g.7)),
            (λ o. g.8 (subst (λ z. OccursIn z first_tree) q.2 (occurs before q.0.0.0 held o))),
            q.1,
          ),
          p.2,
          q.3,
        )

    pub step-tells : Tells (tree_by word rows) h (history_of kind_of first_tree last_tree R S)
    step-tells = record {
      images = images-tell;
      generated = (generated-there, generated-back);
      removed = gone-tells before after h.images h.removed (images_of kind_of first_tree last_tree R S) held last told_held.images images-tell step.removed;
    }

-- so of each change of which the lists are
pub tells-step : (rows : List Row) → IsSound rows → (before after : ℕ) (imaged replacing : List (NodeId × NodeId)) (h : StepHistory) → before < length rows → after < length rows →
    ArePairsHeld rows imaged → ArePairsHeld rows replacing → IsHeld rows h → IsStepAt rows before after imaged replacing h → TellsStep rows before after imaged replacing h
tells-step rows sound before after imaged replacing h held last images_held replaced_held told_held step change first end word n reading e f images_are replaced_are =
    subst (λ (x : Tree). Tells (tree_by word rows) h (history_of (kind_in change) x end.tree (Becomes change first) (TakesPlace change first))) (sym e)
    (subst (λ (y : Tree). Tells (tree_by word rows) h (history_of (kind_in change) (tree_at word rows before) y (Becomes change first) (TakesPlace change first))) (sym f)
    (step-tells rows sound (kind_in change) word n reading before after imaged replacing h held last images_held replaced_held told_held step
    (Becomes change first) (TakesPlace change first) images_are replaced_are))
