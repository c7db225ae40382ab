-- Two histories in a row: by numbers, and so among trees.
use Rattle.std.proofs.Common.{◌≡◌, ◌<◌, ◌∙◌, refl, sym, subst, arith, inl, inr, All, length}
use Rattle.std.specs.Prelude.{◌↔◌, ◌⊎◌, ℕ, List, [], Contains}
use Rattle.lists.proofs.Each.{All-from_members}
use Rattle.lists.proofs.Members.{Contains-none}
use Rattle.location_words.specs.declared.pair.Pair.{Pair}
use Rattle.orientation.specs.declared.kind.Kind.{Kind}
use Rattle.expansion_laws.specs.Trees.{Tree}
use Rattle.shape_pool.specs.declared.node.NodeId.{NodeId}
use Rattle.shape_pool.specs.Rows.{Row, tree_at}
use Rattle.shape_pool.specs.Laws.{IsSound}
use Rattle.step_history.specs.declared.history.StepHistory.{StepHistory}
use Rattle.step_history.specs.Changes.{history_by}
use Rattle.step_history.specs.History.{History, ListsPairs}
use Rattle.step_history.specs.Composition.{chained, followed_by, history_after}
use Rattle.step_history.specs.Numbered.{ArePairsHeld, IsHeld, IsReading, Tells, tree_by}
use Rattle.lists.specs.Gathering.{Adds}
use Rattle.history_merge.specs.Chain.{IsChainAt, TellsChain}
use Rattle.history_merge.specs.Joined.{IsJoined}
use Rattle.step_history.proofs.StepLaws.{first-held, occurs-held, second-held}
use Rattle.step_history.proofs.TellLaws.{gone-tells, same-id}

-- ---- what is added to nothing
pub from_nothing : (P : NodeId × NodeId → Type 0) (none out made : List (NodeId × NodeId)) → none ≡ [] → Adds P none out →
    ((y : NodeId × NodeId) → Contains made y ↔ Contains out y) → (y : NodeId × NodeId) → Contains made y ↔ P y
from_nothing P none out made e adds same y = (
  (λ m. elim ((adds y).0 ((same y).0 m)) [ inl o ↦ absurd (Contains-none y (subst (λ l. Contains l y) e o)) | inr p ↦ p ]),
  (λ p. (same y).1 ((adds y).1 (inr p))),
)

pub from_three : (P Q R : NodeId × NodeId → Type 0) (none a b c made : List (NodeId × NodeId)) → none ≡ [] → Adds P none a → Adds Q a b → Adds R b c →
    ((y : NodeId × NodeId) → Contains made y ↔ Contains c y) → (y : NodeId × NodeId) → Contains made y ↔ (P y ⊎ (Q y ⊎ R y))
from_three P Q R none a b c made e p q r same y = (
  (λ m. elim ((r y).0 ((same y).0 m)) [
    | inl k ↦ elim ((q y).0 k) [
      | inl h ↦ elim ((p y).0 h) [ inl o ↦ absurd (Contains-none y (subst (λ l. Contains l y) e o)) | inr x ↦ inl x ]
      | inr x ↦ inr (inl x)
    ]
    | inr x ↦ inr (inr x)
  ]),
  (λ h. (same y).1 (elim h [
    | inl x ↦ (r y).1 (inl ((q y).1 (inl ((p y).1 (inr x)))))
    | inr k ↦ elim k [ inl x ↦ (r y).1 (inl ((q y).1 (inr x))) | inr x ↦ (r y).1 (inr x) ]
  ])),
)

module _ (rows : List Row) (sound : IsSound rows) (kind_of : Tree → Kind) (word : ℕ → List Pair) (n : ℕ) (reading : IsReading rows kind_of word n) where
  -- ---- one after the other
  pub joined-there : (a b : List (NodeId × NodeId)) (A B : Tree → Tree → Type 0) → ListsPairs (tree_by word rows) a A → ListsPairs (tree_by word rows) b B →
      (p : NodeId × NodeId) → IsJoined a b p → followed_by A B (tree_by word rows p.0) (tree_by word rows p.1)
  joined-there a b A B as_are bs_are p h = (tree_by word rows h.0, as_are.0 (p.0, h.0) h.1, bs_are.0 (h.0, p.1) h.2)

  pub joined-back : (a b : List (NodeId × NodeId)) (A B : Tree → Tree → Type 0) → ArePairsHeld rows a → ArePairsHeld rows b →
      ListsPairs (tree_by word rows) a A → ListsPairs (tree_by word rows) b B → (t s : Tree) → followed_by A B t s →
      (p : NodeId × NodeId) × IsJoined a b p × (tree_by word rows p.0 ≡ t) × (tree_by word rows p.1 ≡ s)
  joined-back a b A B a_held b_held as_are bs_are t s r =
      let p = as_are.1 t r.0 r.1 in
      let q = bs_are.1 r.0 s r.2 in
      let from : NodeId × NodeId = p.0 in
      let to : NodeId × NodeId = q.0 in
      let e : to.0 ≡ from.1 = same-id rows sound kind_of word n reading to.0 from.1 (first-held rows b to b_held q.1) (second-held rows a from a_held p.1) (q.2 ∙ sym p.3) in
      ((from.0, to.1), (from.1, p.1, subst (λ (z : NodeId). Contains b (z, to.1)) e q.1), p.2, q.3)

  module _ (first last : ℕ) (a b h : StepHistory) (held : first < length rows) (ends : last < length rows) (a_held : IsHeld rows a) (b_held : IsHeld rows b)
      (h_held : IsHeld rows h) (is : IsChainAt rows first last a b h) (A B : History) (as_are : Tells (tree_by word rows) a A) (bs_are : Tells (tree_by word rows) b B) where
    images-tell : ListsPairs (tree_by word rows) h.images (followed_by A.images B.images)
    images-tell = (
      (λ p m. joined-there a.images b.images A.images B.images as_are.images bs_are.images p ((is.images p).0 m)),
      (λ t s r. (let f = joined-back a.images b.images A.images B.images a_held.images b_held.images as_are.images bs_are.images t s r in (f.0, (is.images f.0).1 f.1, f.2, f.3))),
    )

    generated-tell : ListsPairs (tree_by word rows) h.generated (λ t x. followed_by A.images B.generated t x ⊎ (followed_by A.generated B.images t x ⊎ followed_by A.generated B.generated t x))
    generated-tell = (
      (λ p m. elim ((is.generated p).0 m) [
        | inl j ↦ inl (joined-there a.images b.generated A.images B.generated as_are.images bs_are.generated p j)
        | inr k ↦ elim k [
          | inl j ↦ inr (inl (joined-there a.generated b.images A.generated B.images as_are.generated bs_are.images p j))
          | inr j ↦ inr (inr (joined-there a.generated b.generated A.generated B.generated as_are.generated bs_are.generated p j))
        ]
      ]),
      (λ t s r. elim r [
        | inl j ↦ (let f = joined-back a.images b.generated A.images B.generated a_held.images b_held.generated as_are.images bs_are.generated t s j in (f.0, (is.generated f.0).1 (inl f.1), f.2, f.3))
        | inr k ↦ elim k [
          | inl j ↦ (let f = joined-back a.generated b.images A.generated B.images a_held.generated b_held.images as_are.generated bs_are.images t s j in (f.0, (is.generated f.0).1 (inr (inl f.1)), f.2, f.3))
          | inr j ↦ (let f = joined-back a.generated b.generated A.generated B.generated a_held.generated b_held.generated as_are.generated bs_are.generated t s j in (f.0, (is.generated f.0).1 (inr (inr f.1)), f.2, f.3))
        ]
      ]),
    )

    pub chained-tells : Tells (tree_by word rows) h (chained kind_of (tree_at word rows first) (tree_at word rows last) A B)
    chained-tells = record {
      images = images-tell;
      generated = generated-tell;
      removed = gone-tells rows sound kind_of word n reading first last h.images h.removed (followed_by A.images B.images) held ends h_held.images images-tell is.removed;
    }

-- ---- all of it
pub chain-held : (rows : List Row) (sound : IsSound rows) (first last : ℕ) (a b h : StepHistory) → first < length rows → IsHeld rows a → IsHeld rows b →
    IsChainAt rows first last a b h → IsHeld rows h
chain-held rows sound first last a b h held a_held b_held is = record {
  images = All-from_members (λ (p : NodeId × NodeId). (p.0.0 < length rows) × (p.1.0 < length rows)) h.images
      (λ p m. join-held a.images b.images a_held.images b_held.images p ((is.images p).0 m));
  generated = All-from_members (λ (p : NodeId × NodeId). (p.0.0 < length rows) × (p.1.0 < length rows)) h.generated
      (λ p m. elim ((is.generated p).0 m) [
        | inl j ↦ join-held a.images b.generated a_held.images b_held.generated p j
        | inr k ↦ elim k [
          | inl j ↦ join-held a.generated b.images a_held.generated b_held.images p j
          | inr j ↦ join-held a.generated b.generated a_held.generated b_held.generated p j
        ]
      ]);
  removed = All-from_members (λ (i : NodeId). i.0 < length rows) h.removed (λ i m. occurs-held rows sound first held i.0 ((is.removed i).0 m).1);
}
  where
    join-held : (xs ys : List (NodeId × NodeId)) → ArePairsHeld rows xs → ArePairsHeld rows ys → (p : NodeId × NodeId) → IsJoined xs ys p →
        (p.0.0 < length rows) × (p.1.0 < length rows)
    join-held xs ys xs_held ys_held p j = (first-held rows xs (p.0, j.0) xs_held j.1, second-held rows ys (j.0, p.1) ys_held j.2)

pub chain-tells : (rows : List Row) → IsSound rows → (first last : ℕ) (a b h : StepHistory) → first < length rows → last < length rows → IsHeld rows a → IsHeld rows b →
    IsHeld rows h → IsChainAt rows first last a b h → TellsChain rows first last a b h
chain-tells rows sound first last a b h held ends a_held b_held h_held is kind_of word n reading root steps next e f as_are bs_are =
    subst (λ (x : Tree). Tells (tree_by word rows) h (chained kind_of x next.after.tree (history_after kind_of root steps) (history_by next.change next.before next.after))) (sym e)
    (subst (λ (y : Tree). Tells (tree_by word rows) h (chained kind_of (tree_at word rows first) y (history_after kind_of root steps) (history_by next.change next.before next.after))) (sym f)
    (chained-tells rows sound kind_of word n reading first last a b h held ends a_held b_held h_held is (history_after kind_of root steps)
    (history_by next.change next.before next.after) as_are bs_are))
