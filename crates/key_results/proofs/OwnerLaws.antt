-- Parts are uses of trees of their own.
use Rattle.std.proofs.Common.{◌≡◌, ℕ, zero, suc, Bool, true, false, List, ◌++◌, ◌∷◌, [], All}
use Rattle.std.proofs.Common.{sym, ◌∙◌, ap, subst, refl, slice_get, Some}
use Rattle.std.specs.Option.{option_map_or}
use Rattle.std.proofs.lemmas.List.Elements.{All-push, All-weaker, All-contains}
use Rattle.lists.proofs.Places.{Contains-at}
use Rattle.key_results.specs.declared.parts.Part.{Part}
use Rattle.key_results.specs.declared.parts.Outgrowth.{Outgrowth}
use Rattle.key_results.specs.Parts.{is_own_at, ArePartsOfOwn, AreOfOwn}

pub own-push : (is : ℕ → Bool) (before after : List Part) (p : Part) → after ≡ before ++ p ∷ [] → is p.of ≡ true →
    All (λ (q : Part). is q.of ≡ true) before → All (λ (q : Part). is q.of ≡ true) after
own-push is before after p e of h =
    subst (λ (l : List Part). All (λ (q : Part). is q.of ≡ true) l) (sym e)
    (All-push (λ (q : Part). is q.of ≡ true) before p h of)

-- what stands at a place
pub own-at : (outgrowths : List Outgrowth) (k : ℕ) (o : Outgrowth) → slice_get outgrowths k ≡ Some o → o.own ≡ true →
    is_own_at outgrowths k ≡ true
own-at outgrowths k o at is = ap (λ q. option_map_or (λ (o : Outgrowth). o.own) q false) at ∙ is

pub owned-at : (outgrowths : List Outgrowth) (k : ℕ) (o : Outgrowth) → slice_get outgrowths k ≡ Some o →
    is_own_at outgrowths k ≡ true → o.own ≡ true
owned-at outgrowths k o at is = sym (ap (λ q. option_map_or (λ (o : Outgrowth). o.own) q false) at) ∙ is

pub own-place : (outgrowths : List Outgrowth) (k : ℕ) → is_own_at outgrowths k ≡ true →
    (o : Outgrowth) × (slice_get outgrowths k ≡ Some o) × (o.own ≡ true)
own-place [] k e = absurd cc
own-place (o ∷ os) zero e = (o, refl, e)
own-place (o ∷ os) (suc k) e = own-place os k e

own-kept : (outgrowths : List Outgrowth) (o : Outgrowth) (k : ℕ) → is_own_at outgrowths k ≡ true →
    is_own_at (outgrowths ++ o ∷ []) k ≡ true
own-kept [] o k e = absurd cc
own-kept (x ∷ xs) o zero e = e
own-kept (x ∷ xs) o (suc k) e = own-kept xs o k e

parts-kept : (outgrowths : List Outgrowth) (o : Outgrowth) (ps : List Part) → ArePartsOfOwn outgrowths ps →
    ArePartsOfOwn (outgrowths ++ o ∷ []) ps
parts-kept outgrowths o =
    All-weaker (λ (p : Part). is_own_at outgrowths p.of ≡ true)
    (λ (p : Part). is_own_at (outgrowths ++ o ∷ []) p.of ≡ true)
    (λ p. own-kept outgrowths o p.of)

-- one visit more
pub owners-next : (outgrowths new : List Outgrowth) (o : Outgrowth) → new ≡ outgrowths ++ o ∷ [] → AreOfOwn outgrowths →
    ArePartsOfOwn outgrowths o.parts.items → AreOfOwn new
owners-next outgrowths new o e all own =
    subst AreOfOwn (sym e)
    (All-push (λ (q : Outgrowth). ArePartsOfOwn (outgrowths ++ o ∷ []) q.parts.items) outgrowths o
    (All-weaker (λ (q : Outgrowth). ArePartsOfOwn outgrowths q.parts.items)
    (λ (q : Outgrowth). ArePartsOfOwn (outgrowths ++ o ∷ []) q.parts.items) (λ q. parts-kept outgrowths o q.parts.items)
    outgrowths all)
    (parts-kept outgrowths o o.parts.items own))

-- the parts of what stands at a place
pub owners-at : (outgrowths : List Outgrowth) (k : ℕ) (o : Outgrowth) → slice_get outgrowths k ≡ Some o →
    AreOfOwn outgrowths →
    ArePartsOfOwn outgrowths o.parts.items
owners-at outgrowths k o at all =
    All-contains (λ (q : Outgrowth). ArePartsOfOwn outgrowths q.parts.items) outgrowths o all
    (Contains-at outgrowths k o at)
