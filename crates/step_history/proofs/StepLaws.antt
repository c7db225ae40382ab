-- What is gathered for a step is its history by numbers.
use Rattle.std.proofs.Common.{◌≡◌, ◌<◌, refl, subst, arith, All, length}
use Rattle.std.specs.Prelude.{◌↔◌, ℕ, List, Contains}
use Rattle.std.proofs.lemmas.List.Elements.{All-contains}
use Rattle.lists.proofs.Each.{All-from_members}
use Rattle.shape_pool.specs.declared.node.NodeId.{NodeId}
use Rattle.shape_pool.specs.Rows.{Row, kind_at}
use Rattle.shape_pool.specs.Laws.{IsSound}
use Rattle.step_history.specs.declared.history.StepHistory.{StepHistory}
use Rattle.step_history.specs.History.{IsSupported}
use Rattle.step_history.specs.Numbered.{AreBelow, AreGone, ArePairsHeld, IsHeld, OccursAt, IsImageAt, IsGeneratedAt, IsGoneAt, IsStepAt}
use Rattle.lists.specs.Gathering.{Gathers}
use Rattle.step_history.specs.Gathering.{IsFirst, IsLeftOut, IsLost, IsReadOff}
use Rattle.step_history.proofs.GatherLaws.{named_by}

-- what occurs below a held number is held
pub occurs-held : (rows : List Row) → IsSound rows → (root : ℕ) → root < length rows → (i : ℕ) → OccursAt rows root i → i < length rows
occurs-held rows sound root held i r = let le = sound.ids_of_subtrees.held root i held r in omega (arith, le, held)

pub nodes-held : (rows : List Row) → IsSound rows → (root : ℕ) → root < length rows → (met : List ℕ) → AreBelow rows root met →
    All (λ i. i < length rows) met
nodes-held rows sound root held met is = All-from_members (λ i. i < length rows) met (λ i m. occurs-held rows sound root held i ((is i).0 m))

pub first-held : (rows : List Row) (pairs : List (NodeId × NodeId)) (p : NodeId × NodeId) → ArePairsHeld rows pairs → Contains pairs p → p.0.0 < length rows
first-held rows pairs p held m = (All-contains (λ (q : NodeId × NodeId). (q.0.0 < length rows) × (q.1.0 < length rows)) pairs p held m).0

pub second-held : (rows : List Row) (pairs : List (NodeId × NodeId)) (p : NodeId × NodeId) → ArePairsHeld rows pairs → Contains pairs p → p.1.0 < length rows
second-held rows pairs p held m = (All-contains (λ (q : NodeId × NodeId). (q.0.0 < length rows) × (q.1.0 < length rows)) pairs p held m).1

-- what is lost is gone
pub lost-gone : (rows : List Row) (before after : ℕ) (input output firsts : List ℕ) (kept : List (NodeId × NodeId)) (removed : List NodeId) →
    AreBelow rows before input → AreBelow rows after output →
    Gathers IsFirst kept firsts → Gathers (IsLost rows output firsts) input removed → AreGone rows before after kept removed
lost-gone rows before after input output firsts kept removed ins outs firsts_are lost t = (there, back)
  where
    there : Contains removed t → IsGoneAt rows before after kept t
    there m =
        let h = (lost t).0 m in
        let e = h.2.0 in
        let at = subst (IsLeftOut rows output firsts) e h.2.1 in (
          at.0,
          (ins t.0).0 (subst (λ i. Contains input i) e h.1),
          (λ s k. at.1 ((firsts_are t.0).1 ((t, s), k, refl))),
          (λ o. at.2 ((outs t.0).1 o)),
        )

    back : IsGoneAt rows before after kept t → Contains removed t
    back g = (lost t).1 (
      t.0,
      (ins t.0).1 g.1,
      (
        refl,
        (
          g.0,
          (λ k. let h = (firsts_are t.0).0 k in g.2 h.0.1 (subst (λ z. Contains kept (z, h.0.1)) (named_by h.0.0 t h.2) h.1)),
          (λ o. g.3 ((outs t.0).0 o)),
        ),
      ),
    )

module _ (rows : List Row) (before after : ℕ) (imaged replacing : List (NodeId × NodeId)) (input : List ℕ) (h : StepHistory)
    (ins : AreBelow rows before input) (read : IsReadOff rows input imaged replacing h) (gone-is : AreGone rows before after h.images h.removed) where
  image-at : (p y : NodeId × NodeId) → p ≡ y → Contains imaged p → IsSupported (kind_at rows p.0.0) → Contains input p.0.0 → IsImageAt rows before after imaged replacing y.0 y.1
  image-at p y e m a b = subst (λ q. IsImageAt rows before after imaged replacing q.0 q.1) e (a, (ins p.0.0).0 b, m)

  images-there : (t s : NodeId) → Contains h.images (t, s) → IsImageAt rows before after imaged replacing t s
  images-there t s m = let f = (read.keeps (t, s)).0 m in let w = f.2 in image-at f.0 (t, s) w.0 f.1 w.1 w.2

  images-back : (t s : NodeId) → IsImageAt rows before after imaged replacing t s → Contains h.images (t, s)
  images-back t s i = (read.keeps (t, s)).1 ((t, s), i.2, (refl, i.0, (ins t.0).1 i.1))

  generated-there : (t s : NodeId) → Contains h.generated (t, s) → IsGeneratedAt rows before after imaged replacing t s
  generated-there t s m =
      let f = (read.mades (t, s)).0 m in
      let p : NodeId × NodeId = f.0 in
      let w = f.2 in
      let came = w.4 in
      let q = (read.news s.0).0 came.fresh_one in
      let v = q.2 in
      let from : NodeId × NodeId = q.0 in
      subst (λ (z : NodeId). IsGeneratedAt rows before after imaged replacing z s) w.0 (
        p.1,
        from.0,
        w.1,
        (ins p.0.0).0 w.2,
        f.1,
        came.supported,
        came.lower,
        w.3,
        (λ o. v.1 ((ins from.0.0).1 o)),
        subst (λ (z : NodeId). Contains imaged (from.0, z)) (named_by from.1 s v.0) q.1,
      )

  generated-back : (t s : NodeId) → IsGeneratedAt rows before after imaged replacing t s → Contains h.generated (t, s)
  generated-back t s g =
      (read.mades (t, s)).1 (
        (t, g.0),
        g.4,
        (
          refl,
          g.2,
          (ins t.0).1 g.3,
          g.7,
          record {
            supported = g.5;
            lower = g.6;
            fresh_one = (read.news s.0).1 ((g.1, s), g.9, (refl, (λ k. g.8 ((ins g.1.0).0 k))));
          },
        ),
      )

  pub step-at : IsStepAt rows before after imaged replacing h
  step-at = record {
    images = λ t s. (images-there t s, images-back t s);
    generated = λ t s. (generated-there t s, generated-back t s);
    removed = gone-is;
  }

  pub step-held : IsSound rows → before < length rows → ArePairsHeld rows imaged → ArePairsHeld rows replacing → IsHeld rows h
  step-held sound held images_held replaced_held = record {
    images = All-from_members (λ (p : NodeId × NodeId). (p.0.0 < length rows) × (p.1.0 < length rows)) h.images
        (λ p m. (let i = images-there p.0 p.1 m in (first-held rows imaged p images_held i.2, second-held rows imaged p images_held i.2)));
    generated = All-from_members (λ (p : NodeId × NodeId). (p.0.0 < length rows) × (p.1.0 < length rows)) h.generated
        (λ p m. (let g = generated-there p.0 p.1 m in (first-held rows replacing (p.0, g.0) replaced_held g.4, second-held rows imaged (g.1, p.1) images_held g.9)));
    removed = All-from_members (λ (i : NodeId). i.0 < length rows) h.removed (λ i m. occurs-held rows sound before held i.0 ((gone-is i).0 m).1);
  }
