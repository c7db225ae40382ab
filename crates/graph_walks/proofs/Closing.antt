-- Each turn of the loop that copies the walk.
use Rattle.std.proofs.Common.{◌≡◌, ◌≢◌, sym, ◌∙◌, ap, subst, inl, inr}
use Rattle.std.proofs.lemmas.List.{append_assoc}
use Rattle.std.proofs.lemmas.List.Elements.{Contains-push_cases}
use Rattle.std.specs.Prelude.{ℕ, Bool, true, false, List, [], ◌∷◌, ◌++◌, Contains}
use Rattle.graph_walks.specs.Search.{IsClosing}

pub later : (met met' : Bool) (walk walk' gone gone' : List ℕ) (end x : ℕ) → IsClosing met walk gone end → met ≡ true →
    met' ≡ met →
    walk' ≡ walk ++ x ∷ [] → gone' ≡ gone ++ x ∷ [] → IsClosing met' walk' gone' end
later met met' walk walk' gone gone' end x h t m w g = elim h [
  | inl k ↦ absurd (let a = k.0 in cc)
  | inr k ↦ inr (
    m ∙ t,
    (
      k.1.0,
      k.1.1 ++ x ∷ [],
      g ∙ ap (λ l. l ++ x ∷ []) k.1.2 ∙ append_assoc k.1.0 (end ∷ k.1.1) (x ∷ []),
      w ∙ ap (λ l. l ++ x ∷ []) k.1.3,
    ),
  )
]

pub first : (met met' : Bool) (walk walk' gone gone' : List ℕ) (end x : ℕ) → IsClosing met walk gone end → met ≡ false →
    met' ≡ true →
    x ≡ end → walk' ≡ walk ++ x ∷ [] → gone' ≡ gone ++ x ∷ [] → IsClosing met' walk' gone' end
first met met' walk walk' gone gone' end x h t m e w g = elim h [
  | inl k ↦ inr (m, (gone, [], g ∙ ap (λ v. gone ++ v ∷ []) e, w ∙ ap (λ l. l ++ x ∷ []) k.1 ∙ ap (λ v. v ∷ []) e))
  | inr k ↦ absurd (let a = k.0 in cc)
]

pub not_yet : (met met' : Bool) (walk walk' gone gone' : List ℕ) (end x : ℕ) → IsClosing met walk gone end →
    met ≡ false → met' ≡ met →
    x ≢ end → walk' ≡ walk → gone' ≡ gone ++ x ∷ [] → IsClosing met' walk' gone' end
not_yet met met' walk walk' gone gone' end x h t m e w g = elim h [
  | inl k ↦ inl (
    m ∙ t,
    w ∙ k.1,
    λ c. elim (Contains-push_cases gone x end (subst (λ l. Contains l end) g c)) [ inl a ↦ k.2 a | inr b ↦ e b ],
  )
  | inr k ↦ absurd (let a = k.0 in cc)
]

pub last : (met : Bool) (walk walk' gone path : List ℕ) (end : ℕ) → IsClosing met walk gone end → Contains path end →
    gone ≡ path →
    walk' ≡ walk ++ end ∷ [] →
    (older : List ℕ) × (newer : List ℕ) × (path ≡ older ++ end ∷ newer) × (walk' ≡ end ∷ newer ++ end ∷ [])
last met walk walk' gone path end h c g w = elim h [
  | inl k ↦ absurd (k.2 (subst (λ l. Contains l end) (sym g) c))
  | inr k ↦ (k.1.0, k.1.1, sym g ∙ k.1.2, w ∙ ap (λ l. l ++ end ∷ []) k.1.3)
]
