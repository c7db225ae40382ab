-- What files with distinct names hold, and which call is to fail.
use Rattle.std.proofs.Common.{◌≡◌, ◌≢◌, ◌==◌, ℕ, zero, suc, ◌<◌, Bool, true, false, nat_eq, IsTrue, List, []}
use Rattle.std.proofs.Common.{◌∷◌, length, Some, None, slice_get, get_or, AllPairs, refl, sym, ap, ◌∙◌, arith}
use Rattle.std.specs.List.{list_any}
use Rattle.std.proofs.lemmas.Option.{get_or_from_slice_get, slice_get_within}
use Rattle.brep_desk.specs.Causes.{raised}
use Rattle.brep_desk.specs.Kept.{held_in}
use Rattle.brep_desk.proofs.OutputLists.{text_same, text_other}

tail_distinct : (f : List ℕ × List ℕ) (fs : List (List ℕ × List ℕ)) → AllPairs (λ x y. x.0 ≢ y.0) (f ∷ fs)
    → AllPairs (λ x y. x.0 ≢ y.0) fs
tail_distinct f fs all i j d before inside = all (suc i) (suc j) d (omega arith) (omega arith)

pub held_in-file : (files : List (List ℕ × List ℕ)) → AllPairs (λ x y. x.0 ≢ y.0) files
    → (i : ℕ) (file : List ℕ × List ℕ) → slice_get files i ≡ Some file → held_in files file.0 ≡ Some file.1
held_in-file [] all i file is = absurd cc
held_in-file (f ∷ fs) all zero file is =
    let same : f ≡ file = cc in
    rw (same, text_same file.0) refl
held_in-file (f ∷ fs) all (suc i) file is =
    let at : get_or fs i f ≡ file = get_or_from_slice_get fs i file f is in
    let within : i < length fs = slice_get_within fs i file is in
    let other : f.0 ≢ file.0 =
    λ e. all 0 (suc i) f (omega arith) (omega arith) (e ∙ sym (ap (λ (x : List ℕ × List ℕ). x.0) at)) in
    rw (text_other f.0 file.0 (λ e. other (sym e))) (held_in-file fs (tail_distinct f fs all) i file is)

pub held_in-none : (files : List (List ℕ × List ℕ)) (name : List ℕ)
    → ((i : ℕ) (file : List ℕ × List ℕ) → slice_get files i ≡ Some file → file.0 ≡ name → ⊥) → held_in files name ≡ None
held_in-none [] name none = refl
held_in-none (f ∷ fs) name none =
    rw (text_other f.0 name (λ e. none 0 f refl (sym e))) (held_in-none fs name (λ i file is. none (suc i) file is))

test_at : (items failing : List ℕ) (number call : ℕ) (b : Bool) → items ≡ failing → number ≡ raised call
    → b ≡ list_any (λ y. nat_eq y number) items → b ≡ list_any (λ y. nat_eq y (raised call)) failing
test_at items failing number call b is at value =
    value ∙ ap (λ (x : List ℕ). list_any (λ y. nat_eq y number) x) is
    ∙ ap (λ (m : ℕ). list_any (λ y. nat_eq y m) failing) at

pub is_to_fail : (items failing : List ℕ) (number call : ℕ) (b : Bool) → items ≡ failing → number ≡ raised call
    → b ≡ list_any (λ y. nat_eq y number) items → b ≡ true → IsTrue (list_any (λ n. n == raised call) failing)
is_to_fail items failing number call b is at value holds = sym (test_at items failing number call b is at value) ∙ holds

pub is_not_to_fail : {P : Type 0} (items failing : List ℕ) (number call : ℕ) (b : Bool) → items ≡ failing
    → number ≡ raised call → b ≡ list_any (λ y. nat_eq y number) items → b ≡ false
    → IsTrue (list_any (λ n. n == raised call) failing) → P
is_not_to_fail items failing number call b is at value fails holds =
    let same : false ≡ true = sym fails ∙ test_at items failing number call b is at value ∙ holds in
    absurd cc
