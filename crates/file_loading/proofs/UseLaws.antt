-- One use more.
use Rattle.std.proofs.Common.{◌≡◌, ◌<◌, ◌≤◌, ◌+◌, ◌∙◌, zero, suc, add-one, ap, arith, refl, subst, sym, inl, inr}
use Rattle.std.specs.Prelude.{ℕ, List, [], ◌∷◌, ◌++◌, Some, length, slice_get, slice_index_or, take}
use Rattle.std.proofs.Math.Seq.{take-suc}
use Rattle.std.proofs.lemmas.Bool.{cases_lt}
use Rattle.std.proofs.lemmas.List.{length_push}
use Rattle.lists.proofs.Places.{same_entry, slice_get-left, slice_get-right}
use Rattle.location_words.specs.declared.table.WordId.{WordId}
use Rattle.shape_pool.specs.declared.node.UseOf.{UseOf}
use Rattle.brep_file.specs.declared.uses.FileUse.{FileUse}
use Rattle.file_loading.specs.Loading.{AreLoadedUses, IsLoadedUse}

pub some-lt : {X : Type 0} (xs : List X) (i : ℕ) (x : X) → slice_get xs i ≡ Some x → i < length xs
some-lt [] i x e = absurd cc
some-lt (y ∷ xs) zero x e = omega arith
some-lt (y ∷ xs) (suc i) x e = let rest = some-lt xs i x e in omega (arith, rest)

pub no_uses : (n : ℕ) (ids : List WordId) → AreLoadedUses n ids [] []
no_uses n ids = record { size = refl; each = λ i u v e. absurd cc }

push-left : {X : Type 0} (xs : List X) (x y : X) (i : ℕ) → i < length xs → slice_get (xs ++ x ∷ []) i ≡ Some y
    → slice_get xs i ≡ Some y
push-left xs x y i lt e = sym (slice_get-left xs (x ∷ []) i lt) ∙ e

push-last : {X : Type 0} (xs : List X) (x y : X) → slice_get (xs ++ x ∷ []) (length xs + 0) ≡ Some y → x ≡ y
push-last xs x y e = same_entry {o = slice_get (x ∷ []) 0} refl (sym (slice_get-right xs (x ∷ []) 0) ∙ e)

-- at the end stand the new ones
at-end : (n : ℕ) (ids : List WordId) (us : List FileUse) (vs : List UseOf) (u : FileUse) (v : UseOf) (i : ℕ)
    (x : FileUse) (y : UseOf) → length vs ≡ length us → IsLoadedUse n ids u v → length us ≤ i
    → slice_get (us ++ u ∷ []) i ≡ Some x → slice_get (vs ++ v ∷ []) i ≡ Some y → IsLoadedUse n ids x y
at-end n ids us vs u v i x y size one last e g =
    let short = some-lt (us ++ u ∷ []) i x e in let long = length_push us u in
    let here : i ≡ length us + 0 = omega (arith, short, long, last) in
    let there : i ≡ length vs + 0 = omega (arith, here, size) in
    let first : u ≡ x = push-last us u x (ap (slice_get (us ++ u ∷ [])) (sym here) ∙ e) in
    let second : v ≡ y = push-last vs v y (ap (slice_get (vs ++ v ∷ [])) (sym there) ∙ g) in
    subst (λ w. IsLoadedUse n ids w y) first (subst (λ w. IsLoadedUse n ids u w) second one)

pushed : (n : ℕ) (ids : List WordId) (us : List FileUse) (vs : List UseOf) (u : FileUse) (v : UseOf)
    → AreLoadedUses n ids us vs → IsLoadedUse n ids u v → AreLoadedUses n ids (us ++ u ∷ []) (vs ++ v ∷ [])
pushed n ids us vs u v before one = record {
  size =
      let a = length_push us u in let b = length_push vs v in let size = before.size in omega (arith, a, b, size);
  each = λ i x y e g.
      let size = before.size in
      elim (cases_lt i (length us)) [
        | inl first ↦ before.each i x y (push-left us u x i first e)
            (push-left vs v y i (omega (arith, first, size)) g)
        | inr last ↦ at-end n ids us vs u v i x y size one last e g
      ];
}

pub uses_more : (n : ℕ) (ids : List WordId) (us : List FileUse) (vs : List UseOf) (i : ℕ) (d : FileUse) (v : UseOf)
    → i < length us → AreLoadedUses n ids (take i us) vs → IsLoadedUse n ids (slice_index_or us i d) v
    → AreLoadedUses n ids (take (i + 1) us) (vs ++ v ∷ [])
uses_more n ids us vs i d v lt before one =
    let more : take i us ++ slice_index_or us i d ∷ [] ≡ take (i + 1) us = sym (rw add-one (take-suc us i d lt)) in
    subst (λ ws. AreLoadedUses n ids ws (vs ++ v ∷ [])) more
    (pushed n ids (take i us) vs (slice_index_or us i d) v before one)
