-- One member more, and one end more.
use Rattle.std.proofs.Common.{◌≡◌, ◌<◌, ◌≤◌, ◌∙◌, ◌+◌, refl, sym, ap, arith, append-nil, get_or, take, length, map}
use Rattle.std.proofs.Common.{zero, suc}
use Rattle.std.specs.Prelude.{ℕ, List, [], ◌∷◌, ◌++◌, All, Some, slice_get}
use Rattle.std.specs.List.{flat_map}
use Rattle.std.proofs.lemmas.Grind.{flat_map-append}
use Rattle.std.proofs.lemmas.List.{map-append, take_all}
use Rattle.lists.proofs.Entries.{All-more}
use Rattle.lists.proofs.Places.{take-at}

-- what stands at a place
pub got : {X : Type 0} (xs : List X) (i : ℕ) (d : X) → i < length xs → slice_get xs i ≡ Some (get_or xs i d)
got [] i d h = absurd (omega (arith, h))
got (x ∷ xs) zero d h = refl
got (x ∷ xs) (suc i) d h = got xs i d (omega (arith, h))

pub asked-more : {X Y : Type 0} (f : X → List Y) (xs : List X) (i : ℕ) (x : X) → slice_get xs i ≡ Some x →
    flat_map f (take i xs) ++ f x ≡ flat_map f (take (i + 1) xs)
asked-more f xs i x e =
    sym (ap (flat_map f) (take-at xs i x e) ∙ flat_map-append f (take i xs) (x ∷ [])
    ∙ ap (λ l. flat_map f (take i xs) ++ l) (append-nil (f x)))

pub mapped-more : {X Y : Type 0} (f : X → Y) (xs : List X) (i : ℕ) (x : X) (old new : List Y) →
    slice_get xs i ≡ Some x → old ≡ map f (take i xs) → new ≡ old ++ f x ∷ [] → new ≡ map f (take (i + 1) xs)
mapped-more f xs i x old new e h g =
    g ∙ ap (λ l. l ++ f x ∷ []) h ∙ sym (map-append f (take i xs) (x ∷ [])) ∙ ap (map f) (sym (take-at xs i x e))

pub mapped-all : {X Y : Type 0} (f : X → Y) (xs : List X) (i : ℕ) (ks : List Y) → length xs ≤ i →
    ks ≡ map f (take i xs) → ks ≡ map f xs
mapped-all f xs i ks h e = e ∙ ap (map f) (take_all i xs h)

-- the requests so far and those of one member more, which is as the ones before
pub member-step : {X Y : Type 0} (f : X → List Y) (P : X → Type 0) (xs : List X) (i : ℕ) (d : X) → i < length xs →
    (old new : List Y) → (old ≡ flat_map f (take i xs)) × All P (take i xs) → new ≡ old ++ f (get_or xs i d) →
    P (get_or xs i d) → (new ≡ flat_map f (take (i + 1) xs)) × All P (take (i + 1) xs)
member-step f P xs i d lt old new h g p =
    let at = got xs i d lt in (
      g ∙ ap (λ l. l ++ f (get_or xs i d)) h.0 ∙ asked-more f xs i (get_or xs i d) at,
      All-more P xs i (get_or xs i d) h.1 at p,
    )
