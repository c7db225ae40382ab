-- Steps whose requests are alike: they visit the same, give the same images and have the same keys and measures.
use Rattle.std.proofs.Common.{sym, subst, ◌∙◌, inl, inr}
use Rattle.std.specs.Prelude.{◌≡◌, ◌↔◌, ◌&&◌, ◌+◌, IsTrue, ℕ, true, is_none, is_some, if◌then◌else◌}
use Rattle.std.specs.Prelude.{List, Contains, length}
use Rattle.std.specs.List.{list_any}
use Rattle.orientation.specs.declared.kind.Kind.{Kind}
use Rattle.orientation.specs.declared.rule.Rule.{Rule}
use Rattle.location_words.specs.declared.pair.Pair.{Pair}
use Rattle.graph_walks.specs.Walks.{Reaches as WalksReach}
use Rattle.expansion_laws.specs.Trees.{Tree, Use}
use Rattle.expansion_laws.specs.Contexts.{Context, at_root, bare}
use Rattle.expansion_laws.specs.Keys.{Key, IsKey, IsKeyOfStep, ReachesPlace, ReachesTurn}
use Rattle.expansion_laws.specs.Requests.{Request, from_last_unconditional}
use Rattle.expansion_laws.specs.Rewriting.{RelativeResults}
use Rattle.expansion_laws.specs.StepMeasures.{IsRemainingWord, IsSize, IsUseCount, IsWordKeyOf, IsWordMade}
use Rattle.expansion_laws.specs.StepMeasures.{IsWordOfKey, size_of, uses_below}
use Rattle.expansion_laws.specs.Steps.{is_entered}
use Rattle.expansion_laws.specs.Visits.{IsImage, IsReplaced, IsVisit, LeadsTo, itself, onto}
use Rattle.run_laws.proofs.StepsAlike.{AskAlike, ask-back, demands-same, edges-same, match-same, rewrites, step}

module _ (kinds : ℕ → Kind) (rule : Rule) where
  module _ (rs qs : List Request) (a : AskAlike rs qs) where
    -- ---- visits
    leads : {x y : Tree} {here there : Context} → LeadsTo (step kinds rule rs) x here y there →
        LeadsTo (step kinds rule qs) x here y there
    leads itself = itself
    leads (onto {x = x} {here = here} v m rest) =
        onto v (subst (λ l. Contains l v) (demands-same kinds rule rs qs a x here) m) (leads rest)

    pub visits : (root : Use) (x : Tree) (here : Context) → IsVisit (step kinds rule rs) root x here →
        IsVisit (step kinds rule qs) root x here
    visits root x here v = leads v

    relative : (x : Tree) (here : Context) (results : List Use) → RelativeResults (step kinds rule rs) x here results →
        RelativeResults (step kinds rule qs) x here results
    relative x here results r = rewrites kinds rule rs qs a here (bare x) results r

    -- ---- images
    pub images : (root : Use) (x y : Tree) → IsImage (step kinds rule rs) root x y →
        IsImage (step kinds rule qs) root x y
    images root x y (inl (here, results, v, r, m)) =
        inl (here, results, visits root x here v, relative x here results r, m)
    images root x y (inr (e, (above, (here, v, none, out), below))) =
        inr (e, (above, (here, visits root above here v, sym (match-same rs qs a above here) ∙ none, out), below))

    pub replaced : (root : Use) (x y : Tree) → IsReplaced (step kinds rule rs) root x y →
        IsReplaced (step kinds rule qs) root x y
    replaced root x y (here, r, by, results, v, met, act, rel, m) = (
      here,
      r,
      by,
      results,
      visits root x here v,
      sym (match-same rs qs a x here) ∙ met,
      act,
      relative x here results rel,
      m,
    )

    -- ---- keys
    places-same : ReachesPlace (step kinds rule rs) ≡ ReachesPlace (step kinds rule qs)
    places-same =
        λ i x.
        (y : Tree) × WalksReach (edges-same kinds rule rs qs a i) x y ×
        (list_any (λ (r : Request). is_some r.place) (from_last_unconditional (a.same y i)) ≡ true)

    turns-same : ReachesTurn (step kinds rule rs) ≡ ReachesTurn (step kinds rule qs)
    turns-same =
        λ i x.
        (y : Tree) × WalksReach (edges-same kinds rule rs qs a i) x y ×
        (list_any (λ (r : Request). is_some r.turn) (from_last_unconditional (a.same y i)) ≡ true)

    key-same : (x : Tree) (here : Context) (k : Key) → IsKey (step kinds rule rs) x here k →
        IsKey (step kinds rule qs) x here k
    key-same x here k (word, turn, by_place, by_turn, e) = (
      word,
      turn,
      subst (λ (R : Tree → Type 0). (IsTrue word ↔ R x)) places-same by_place,
      subst (λ (R : Tree → Type 0). (IsTrue turn ↔ R x)) turns-same by_turn,
      e,
    )

    pub keys : (root : Use) (k : Key) → IsKeyOfStep (step kinds rule rs) root k →
        IsKeyOfStep (step kinds rule qs) root k
    keys root k (x, here, v, is) = (x, here, visits root x here v, key-same x here k is)

    pub word-keys : (root : Use) (k : Key) → IsWordKeyOf (step kinds rule rs) root k →
        IsWordKeyOf (step kinds rule qs) root k
    word-keys root k (is, has) = (keys root k is, has)

    pub key-words : (root : Use) (w : List Pair) → IsWordOfKey (step kinds rule rs) root w →
        IsWordOfKey (step kinds rule qs) root w
    key-words root w (k, is, e) = (k, keys root k is, e)

    -- ---- measures
    size-same : (x : Tree) (here : Context) (results : List Use) →
        size_of (step kinds rule rs) x here results ≡ size_of (step kinds rule qs) x here results
    size-same x here results =
        λ i.
        length results +
        (if is_none (match-same rs qs a x here i) && is_entered (step kinds rule rs) x then uses_below results else 0)

    pub sizes : (root : Use) (k : Key) (n : ℕ) → IsSize (step kinds rule rs) root k n →
        IsSize (step kinds rule qs) root k n
    sizes root k n (x, here, results, v, is, r, e) = (
      x,
      here,
      results,
      visits root x here v,
      key-same x here k is,
      relative x here results r,
      e ∙ size-same x here results,
    )

    remaining : (x : Tree) (here : Context) (r : Use) (w : List Pair) →
        IsRemainingWord (step kinds rule rs) x here r w → IsRemainingWord (step kinds rule qs) x here r w
    remaining x here r w (none, into, m) = (sym (match-same rs qs a x here) ∙ none, into, m)

    pub words-made : (root : Use) (w : List Pair) → IsWordMade (step kinds rule rs) root w →
        IsWordMade (step kinds rule qs) root w
    words-made root w (inl (x, here, results, r, v, rel, m, inl e)) =
        inl (x, here, results, r, visits root x here v, relative x here results rel, m, inl e)
    words-made root w (inl (x, here, results, r, v, rel, m, inr h)) =
        inl (x, here, results, r, visits root x here v, relative x here results rel, m, inr (remaining x here r w h))
    words-made root w (inr (results, r, m)) = inr (results, rewrites kinds rule rs qs a at_root root results r, m)

  -- each key has the same size in both
  pub use-counts : (rs qs : List Request) → AskAlike rs qs → (root : Use) (n : ℕ) →
      IsUseCount (step kinds rule rs) root n → IsUseCount (step kinds rule qs) root n
  use-counts rs qs a root n (ks, size, (once, each), is, e) = (
    ks,
    size,
    (
      once,
      (λ k. (
        (λ h. (each k).0 (keys qs rs (ask-back rs qs a) root k h)),
        (λ m. keys rs qs a root k ((each k).1 m)),
      )),
    ),
    (λ k m. sizes rs qs a root k (size k) (is k m)),
    e,
  )
