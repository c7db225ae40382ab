-- Pairs of numbers and themselves are the history over no step.
use Rattle.std.proofs.Common.{◌≡◌, ◌<◌, ◌∙◌, refl, sym, ap, subst, arith, All, length}
use Rattle.std.specs.Prelude.{◌↔◌, ℕ, List, [], Contains}
use Rattle.std.specs.List.Sorted.{IsStrictlySortedBy}
use Rattle.std.specs.declared.cmp.Ordering.{Ordering}
use Rattle.lists.proofs.Each.{All-from_members}
use Rattle.lists.proofs.Members.{Contains-none}
use Rattle.orientation.specs.declared.kind.Kind.{Kind}
use Rattle.location_words.specs.declared.pair.Pair.{Pair}
use Rattle.expansion_laws.specs.Trees.{Tree}
use Rattle.shape_pool.specs.declared.node.NodeId.{NodeId}
use Rattle.shape_pool.specs.Rows.{Row, kind_at, tree_at}
use Rattle.shape_pool.specs.Laws.{IsSound}
use Rattle.step_history.specs.declared.history.StepHistory.{StepHistory}
use Rattle.step_history.specs.History.{IsSupported}
use Rattle.step_history.specs.Composition.{no_history}
use Rattle.lists.specs.Gathering.{Gathers}
use Rattle.step_history.specs.Numbered.{AreBelow, IsHeld, IsReading, OccursAt, Tells, tree_by}
use Rattle.step_history.proofs.StepLaws.{occurs-held}
use Rattle.history_merge.specs.Merged.{IsStartAt, Stays}

pub sorted-nothing : {X : Type 0} (c : X → X → Ordering) (xs : List X) → xs ≡ [] → IsStrictlySortedBy c xs
unfolding IsStrictlySortedBy
sorted-nothing c xs e = subst (IsStrictlySortedBy c) (sym e) tt

nothing : {X : Type 0} (xs : List X) (x : X) → xs ≡ [] → Contains xs x → ⊥
nothing xs x e m = Contains-none x (subst (λ l. Contains l x) e m)

pub start-at : (rows : List Row) (root : ℕ) (input : List ℕ) (h : StepHistory) → AreBelow rows root input →
    Gathers (Stays rows) input h.images → h.generated ≡ [] → h.removed ≡ [] → IsStartAt rows root h
start-at rows root input h ins stays none none' = record { images = λ t s. (there t s, back t s); generated = none; removed = none' }
  where
    there : (t s : NodeId) → Contains h.images (t, s) → (t ≡ s) × IsSupported (kind_at rows t.0) × OccursAt rows root t.0
    there t s m =
        let g = (stays (t, s)).0 m in
        let w = g.2 in
        (w.1, subst (λ z. IsSupported (kind_at rows z)) w.0 w.2, (ins t.0).0 (subst (λ z. Contains input z) w.0 g.1))

    back : (t s : NodeId) → (t ≡ s) × IsSupported (kind_at rows t.0) × OccursAt rows root t.0 → Contains h.images (t, s)
    back t s g = (stays (t, s)).1 (t.0, (ins t.0).1 g.2, (refl, g.0, g.1))

module _ (rows : List Row) (sound : IsSound rows) (root : ℕ) (held : root < length rows) (h : StepHistory) (is : IsStartAt rows root h) where
  pub start-held : IsHeld rows h
  start-held = record {
    images = All-from_members (λ (p : NodeId × NodeId). (p.0.0 < length rows) × (p.1.0 < length rows)) h.images
        (λ p m. (let g = (is.images p.0 p.1).0 m in let own = occurs-held rows sound root held p.0.0 g.2 in (own, subst (λ (z : NodeId). z.0 < length rows) g.0 own)));
    generated = All-from_members (λ (p : NodeId × NodeId). (p.0.0 < length rows) × (p.1.0 < length rows)) h.generated (λ p m. absurd (nothing h.generated p is.generated m));
    removed = All-from_members (λ (i : NodeId). i.0 < length rows) h.removed (λ i m. absurd (nothing h.removed i is.removed m));
  }

  pub start-tells : (kind_of : Tree → Kind) (word : ℕ → List Pair) (n : ℕ) → IsReading rows kind_of word n →
      Tells (tree_by word rows) h (no_history kind_of (tree_at word rows root))
  start-tells kind_of word n reading = record {
    images = (
      (λ p m. (let g = (is.images p.0 p.1).0 m in
          let own = occurs-held rows sound root held p.0.0 g.2 in
          (ap (tree_by word rows) g.0, subst IsSupported (sym (reading.kinds p.0.0 own)) g.1, sound.ids_of_subtrees.subtree word root p.0.0 held g.2))),
      (λ t s r. (let f = sound.ids_of_subtrees.reached word root t held r.2 in
          let own = occurs-held rows sound root held f.0 f.1 in
          let i : NodeId = record { 0 = f.0 } in
          ((i, i), (is.images i i).1 (refl, subst IsSupported (reading.kinds f.0 own) (subst (λ z. IsSupported (kind_of z)) (sym f.2) r.1), f.1), f.2, f.2 ∙ r.0))),
    );
    generated = ((λ p m. nothing h.generated p is.generated m), (λ t s r. absurd r));
    removed = ((λ i m. nothing h.removed i is.removed m), (λ t r. absurd r));
  }
