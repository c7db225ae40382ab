-- What a list of outputs shows after the output at a name's place was changed, and after one was added.
use Rattle.std.proofs.Common.{◌≡◌, ◌≢◌, ℕ, zero, suc, Bool, true, false, ◌&&◌, if◌then◌else◌, List, [], ◌∷◌}
use Rattle.std.proofs.Common.{◌++◌, set, get_or, nat_eq, Some, None, unwrap_or, refl, sym, ap, subst, ◌∙◌}
use Rattle.std.proofs.Math.Path.{fun_ext}
use Rattle.std.specs.Cmp.Lexicographic.{pointwise}
use Rattle.std.proofs.lemmas.Bool.{eqb-true, eq-eqb}
use Rattle.brep_desk.specs.Shown.{ChangesOnly}
use Rattle.brep_desk.specs.declared.outputs.Output.{Output}
use Rattle.brep_desk.specs.Kept.{of_output, bytes_of, written_in, IsPlace}

and_left : (a b : Bool) → (a && b) ≡ true → a ≡ true
and_left true b h = refl
and_left false b h = absurd cc

and_right : (a b : Bool) → (a && b) ≡ true → b ≡ true
and_right true b h = h
and_right false b h = absurd cc

pub text_is : (a b : List ℕ) → pointwise nat_eq a b ≡ true → a ≡ b
text_is [] [] h = refl
text_is [] (y ∷ ys) h = absurd cc
text_is (x ∷ xs) [] h = absurd cc
text_is (x ∷ xs) (y ∷ ys) h =
    let one : x ≡ y = eqb-true x y (and_left (nat_eq x y) (pointwise nat_eq xs ys) h) in
    let rest : xs ≡ ys = text_is xs ys (and_right (nat_eq x y) (pointwise nat_eq xs ys) h) in
    rw (one, rest) refl

pub text_same : (a : List ℕ) → pointwise nat_eq a a ≡ true
text_same [] = refl
text_same (x ∷ xs) = rw (eq-eqb x x refl, text_same xs) refl

by_test : (b : Bool) → (b ≡ true → ⊥) → b ≡ false
by_test true h = absurd (h refl)
by_test false h = refl

pub text_other : (a b : List ℕ) → b ≢ a → pointwise nat_eq a b ≡ false
text_other a b other = by_test (pointwise nat_eq a b) (λ t. other (sym (text_is a b t)))

by_name_test : {P : Type 0} (a b : List ℕ) (t : Bool) → pointwise nat_eq a b ≡ t → (a ≡ b → P) → (a ≢ b → P) → P
by_name_test a b true is same other = same (text_is a b is)
by_name_test a b false is same other = other (λ e. absurd (differ a b is e))
  where
    differ : (a b : List ℕ) → pointwise nat_eq a b ≡ false → a ≡ b → ⊥
    differ a b is e =
        let same : pointwise nat_eq a b ≡ true = subst (λ (x : List ℕ). pointwise nat_eq a x ≡ true) e (text_same a) in
        cc

-- two names are the same, or they are not
pub by_name : {P : Type 0} (a b : List ℕ) → (a ≡ b → P) → (a ≢ b → P) → P
by_name a b same other = by_name_test a b (pointwise nat_eq a b) refl same other

pub of_output-place : {A : Type 0} (f : Output → A) (d : A) (os : List Output) (name : List ℕ) (i : ℕ) (x : Output)
    → IsPlace os name i → of_output f d os name ≡ f (get_or os i x)
of_output-place f d [] name i x at = absurd at
of_output-place f d (o ∷ os) name zero x at = rw at refl
of_output-place f d (o ∷ os) name (suc i) x at = rw at.0 (of_output-place f d os name i x at.1)

pub name-place : (os : List Output) (name : List ℕ) (i : ℕ) (x : Output) → IsPlace os name i
    → (get_or os i x).name ≡ name
name-place [] name i x at = absurd at
name-place (o ∷ os) name zero x at = text_is o.name name at
name-place (o ∷ os) name (suc i) x at = name-place os name i x at.1

set_here : {A : Type 0} (f : Output → A) (d : A) (os : List Output) (name : List ℕ) (i : ℕ) (o : Output)
    → IsPlace os name i → o.name ≡ name → of_output f d (set os i o) name ≡ f o
set_here f d [] name i o at same = absurd at
set_here f d (x ∷ os) name zero o at same = rw (same, text_same name) refl
set_here f d (x ∷ os) name (suc i) o at same = rw at.0 (set_here f d os name i o at.1 same)

set_other : {A : Type 0} (f : Output → A) (d : A) (os : List Output) (name : List ℕ) (i : ℕ) (o : Output) (k : List ℕ)
    → IsPlace os name i → o.name ≡ name → k ≢ name → of_output f d (set os i o) k ≡ of_output f d os k
set_other f d [] name i o k at same other = absurd at
set_other f d (x ∷ os) name zero o k at same other =
    let was : x.name ≡ name = text_is x.name name at in
    rw (same, was, text_other name k other) refl
set_other f d (x ∷ os) name (suc i) o k at same other = rw (set_other f d os name i o k at.1 same other) refl

pub of_output-set : {A : Type 0} (f : Output → A) (d : A) (os : List Output) (name : List ℕ) (i : ℕ) (o : Output)
    → IsPlace os name i → o.name ≡ name → ChangesOnly (of_output f d os) (of_output f d (set os i o)) name (f o)
of_output-set f d os name i o at same =
    record { here = set_here f d os name i o at same; others = λ k other. set_other f d os name i o k at same other }

-- a change that keeps the property keeps it at each name
pub of_output-set_kept : {A : Type 0} (f : Output → A) (d : A) (os : List Output) (name : List ℕ) (i : ℕ) (o x : Output)
    → IsPlace os name i → o.name ≡ name → f o ≡ f (get_or os i x) → of_output f d (set os i o) ≡ of_output f d os
of_output-set_kept f d os name i o x at same kept =
    fun_ext (λ k. by_name k name (λ e. subst (λ (n : List ℕ). of_output f d (set os i o) n ≡ of_output f d os n) (sym e)
    (set_here f d os name i o at same ∙ kept ∙ sym (of_output-place f d os name i x at)))
    (λ other. set_other f d os name i o k at same other))

-- the output at a name's place, `x`, became `o`
pub of_output-changed : {A : Type 0} (f : Output → A) (d : A) (os : List Output) (name : List ℕ) (i : ℕ) (x o : Output)
    (v : A) → IsPlace os name i → x ≡ get_or os i x → o.name ≡ x.name → f o ≡ v
    → ChangesOnly (of_output f d os) (of_output f d (set os i o)) name v
of_output-changed {A} f d os name i x o v at got same is =
    let named : o.name ≡ name = same ∙ ap (λ (y : Output). y.name) got ∙ name-place os name i x at in
    subst (λ (w : A). ChangesOnly (of_output f d os) (of_output f d (set os i o)) name w) is
    (of_output-set f d os name i o at named)

pub of_output-unchanged :
    {A : Type 0} (f : Output → A) (d : A) (os : List Output) (name : List ℕ) (i : ℕ) (x o : Output) → IsPlace os name i
    → x ≡ get_or os i x → o.name ≡ x.name → f o ≡ f x → of_output f d (set os i o) ≡ of_output f d os
of_output-unchanged f d os name i x o at got same is =
    of_output-set_kept f d os name i o x at (same ∙ ap (λ (y : Output). y.name) got ∙ name-place os name i x at)
    (is ∙ ap f got)

pub written_in-appended : (os : List Output) (name : List ℕ) (i : ℕ) (x : Output) (bytes more : List ℕ)
    → IsPlace os name i → x ≡ get_or os i x → bytes ≡ x.bytes ++ more
    → Some bytes ≡ Some (unwrap_or (written_in os name) [] ++ more)
written_in-appended os name i x bytes more at got is =
    let was : written_in os name ≡ Some x.bytes =
    of_output-place bytes_of None os name i x at ∙ sym (ap bytes_of got) in
    rw was (ap Some is)

not_first : (o : Output) (os : List Output) (name : List ℕ) → written_in (o ∷ os) name ≡ None
    → (pointwise nat_eq o.name name ≡ false) × (written_in os name ≡ None)
not_first o os name none =
    elim (pointwise nat_eq o.name name) as (λ t. (if t then Some o.bytes else written_in os name) ≡ None
    → (t ≡ false) × (written_in os name ≡ None)) [ true ↦ λ h. absurd cc | false ↦ λ h. (refl, h) ] none

pushed_here : {A : Type 0} (f : Output → A) (d : A) (os : List Output) (name : List ℕ) (o : Output)
    → written_in os name ≡ None → o.name ≡ name → of_output f d (os ++ o ∷ []) name ≡ f o
pushed_here f d [] name o none same = rw (same, text_same name) refl
pushed_here f d (x ∷ os) name o none same =
    let rest = not_first x os name none in
    rw rest.0 (pushed_here f d os name o rest.1 same)

pushed_other : {A : Type 0} (f : Output → A) (d : A) (os : List Output) (name : List ℕ) (o : Output) (k : List ℕ)
    → o.name ≡ name → k ≢ name → of_output f d (os ++ o ∷ []) k ≡ of_output f d os k
pushed_other f d [] name o k same other = rw (same, text_other name k other) refl
pushed_other f d (x ∷ os) name o k same other = rw (pushed_other f d os name o k same other) refl

pushed : {A : Type 0} (f : Output → A) (d : A) (os : List Output) (name : List ℕ) (o : Output)
    → written_in os name ≡ None → o.name ≡ name
    → ChangesOnly (of_output f d os) (of_output f d (os ++ o ∷ [])) name (f o)
pushed f d os name o none same =
    record { here = pushed_here f d os name o none same; others = λ k other. pushed_other f d os name o k same other }

pub of_output-pushed : {A : Type 0} (f : Output → A) (d : A) (os new : List Output) (name : List ℕ) (o : Output) (v : A)
    → new ≡ os ++ o ∷ [] → written_in os name ≡ None → o.name ≡ name → f o ≡ v
    → ChangesOnly (of_output f d os) (of_output f d new) name v
of_output-pushed f d os new name o v is none same gives = rw (is, ← gives) (pushed f d os name o none same)
