-- Steps of iterators over lists.
use Rattle.std.proofs.Common.{◌≡◌, ℕ, ◌+◌, ◌<◌, List, ◌∷◌, length, drop, Some, ap, ◌∙◌, arith}
use Rattle.std.specs.List.{slice_get, AllByRecursion}
use Rattle.std.specs.Iterator.{MakesProgress, item_count}
use Rattle.std.proofs.lemmas.List.{drop_more}
use Rattle.std.proofs.lemmas.Option.{slice_get_within, get_or_from_slice_get}

pub progress : {S A : Type 0} (can : S → Type 0) (rest : S → List A) (s : S) (x : A) (t : S) → rest s ≡ x ∷ rest t →
    can t → MakesProgress can (item_count rest) s (Some x) t
progress can rest s x t e c =
    let lt : length (rest t) < length (rest s) = omega (arith, ap length e) in
    record { on = λ _. (c, tt, lt); keeps = c; rests = λ _. tt }

pub next_item : {A : Type 0} (xs : List A) (i : ℕ) (x : A) → slice_get xs i ≡ Some x → drop i xs ≡ x ∷ drop (i + 1) xs
next_item xs i x e =
    drop_more xs i x (slice_get_within xs i x e) ∙ ap (λ z. z ∷ drop (i + 1) xs) (get_or_from_slice_get xs i x x e)

pub first_of_all : {A : Type 0} (P : A → Type 0) (xs : List A) (i : ℕ) (x : A) → slice_get xs i ≡ Some x →
    AllByRecursion P (drop i xs) → P x
first_of_all P xs i x e all = (rw (next_item xs i x e) at all).0

pub rest_of_all : {A : Type 0} (P : A → Type 0) (xs : List A) (i : ℕ) (x : A) → slice_get xs i ≡ Some x →
    AllByRecursion P (drop i xs) → AllByRecursion P (drop (i + 1) xs)
rest_of_all P xs i x e all = (rw (next_item xs i x e) at all).1
