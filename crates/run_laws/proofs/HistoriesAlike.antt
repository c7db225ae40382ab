-- Steps in a row that change trees alike tell the same history.
use mathlib.Core.Path.{transport}
use Rattle.std.proofs.Common.{inl, inr}
use Rattle.std.specs.Prelude.{◌↔◌, List, [], ◌∷◌}
use Rattle.orientation.specs.declared.kind.Kind.{Kind}
use Rattle.expansion_laws.specs.Trees.{Tree, Use}
use Rattle.step_history.specs.Changes.{Becomes, TakesPlace, kind_in, history_by}
use Rattle.step_history.specs.Composition.{Done, TellTheSame, chained, followed_by, history_after}
use Rattle.step_history.specs.History.{History, IsGone, history_of}
use Rattle.run_laws.proofs.NamesAlike.{AllDoneAlike, DoneAlike}

-- ---- relations with the same pairs
abbrev Same : (Tree → Tree → Type 0) → (Tree → Tree → Type 0) → Type 0
Same R S = (t x : Tree) → R t x ↔ S t x

followed : (R R' S S' : Tree → Tree → Type 0) → Same R R' → Same S S' → Same (followed_by R S) (followed_by R' S')
followed R R' S S' a b t x = (
  (λ h. (h.0, (a t h.0).0 h.1, (b h.0 x).0 h.2)),
  (λ h. (h.0, (a t h.0).1 h.1, (b h.0 x).1 h.2)),
)

gone : (kind_of : Tree → Kind) (before after : Tree) (R S : Tree → Tree → Type 0) → Same R S → (t : Tree) →
    IsGone kind_of before after R t ↔ IsGone kind_of before after S t
gone kind_of before after R S a t = (
  (λ h. (h.0, h.1, (λ x k. h.2 x ((a t x).1 k)), h.3)),
  (λ h. (h.0, h.1, (λ x k. h.2 x ((a t x).0 k)), h.3)),
)

told-same : (kind_of : Tree → Kind) (before after : Tree) (R R' P P' : Tree → Tree → Type 0) → Same R R' → Same P P' →
    TellTheSame (history_of kind_of before after R P) (history_of kind_of before after R' P')
told-same kind_of before after R R' P P' a b =
    let of_images : Same (history_of kind_of before after R P).images (history_of kind_of before after R' P').images =
    λ t x. ((λ h. (h.0, h.1, (a t x).0 h.2)), (λ h. (h.0, h.1, (a t x).1 h.2))) in record {
      images = of_images;
      generated =
          λ t x. (
            (λ h.
                (h.0, h.1, h.2, h.3, (b t h.0).0 h.4, h.5, h.6, h.7, h.8, (a h.1 x).0 h.9)),
            (λ h.
                (h.0, h.1, h.2, h.3, (b t h.0).1 h.4, h.5, h.6, h.7, h.8, (a h.1 x).1 h.9)),
          );
      removed = λ t. gone kind_of before after _ _ of_images t;
    }

changes-same : (d e : Done) → DoneAlike d e →
    TellTheSame (history_by d.change d.before d.after) (history_by e.change e.before e.after)
changes-same d e a =
    transport
    (λ i.
    TellTheSame (history_by d.change d.before d.after)
    (history_of (a.kinds i) (a.before i).tree (a.after i).tree (Becomes e.change e.before)
    (TakesPlace e.change e.before)))
    (told-same (kind_in d.change) d.before.tree d.after.tree (Becomes d.change d.before) (Becomes e.change e.before)
    (TakesPlace d.change d.before) (TakesPlace e.change e.before) a.images a.replaced)

chain-same : (kind_of : Tree → Kind) (first last : Tree) (a a' b b' : History) → TellTheSame a a' → TellTheSame b b' →
    TellTheSame (chained kind_of first last a b) (chained kind_of first last a' b')
chain-same kind_of first last a a' b b' p q =
    let of_images = followed a.images a'.images b.images b'.images p.images q.images in
    let early = followed a.images a'.images b.generated b'.generated p.images q.generated in
    let late = followed a.generated a'.generated b.images b'.images p.generated q.images in
    let twice = followed a.generated a'.generated b.generated b'.generated p.generated q.generated in record {
      images = of_images;
      generated =
          λ t x. (
            (λ h. elim h [
              | inl k ↦ inl ((early t x).0 k)
              | inr (inl k) ↦ inr (inl ((late t x).0 k))
              | inr (inr k) ↦ inr (inr ((twice t x).0 k))
            ]),
            (λ h. elim h [
              | inl k ↦ inl ((early t x).1 k)
              | inr (inl k) ↦ inr (inl ((late t x).1 k))
              | inr (inr k) ↦ inr (inr ((twice t x).1 k))
            ]),
          );
      removed = gone kind_of first last _ _ of_images;
    }

pub histories-same : (kind_of : Tree → Kind) (first : Use) (ds es : List Done) → AllDoneAlike ds es →
    TellTheSame (history_after kind_of first ds) (history_after kind_of first es)
histories-same kind_of first [] [] a = record {
  images = λ t x. ((λ h. h), (λ h. h));
  generated = λ t x. ((λ h. h), (λ h. h));
  removed = λ t. ((λ h. h), (λ h. h));
}
histories-same kind_of first (d ∷ ds) (e ∷ es) a =
    transport
    (λ i.
    TellTheSame (history_after kind_of first (d ∷ ds))
    (chained kind_of first.tree (a.0.after i).tree (history_after kind_of first es)
    (history_by e.change e.before e.after)))
    (chain-same kind_of first.tree d.after.tree (history_after kind_of first ds) (history_after kind_of first es)
    (history_by d.change d.before d.after) (history_by e.change e.before e.after)
    (histories-same kind_of first ds es a.1) (changes-same d e a.0))
histories-same kind_of first [] (e ∷ es) a = absurd a
histories-same kind_of first (d ∷ ds) [] a = absurd a
