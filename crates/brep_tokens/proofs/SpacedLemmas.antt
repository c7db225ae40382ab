-- A text without a space that is appended after a space is one more text.
use Rattle.std.proofs.Common.{◌≡◌, ℕ, suc, ◌+◌, ◌≤◌, ◌==◌, true, false, Bool, List, [], ◌∷◌, ◌++◌, length}
use Rattle.std.proofs.Common.{refl, sym, ap, ◌∙◌, append-nil, arith, if◌then◌else◌}
use Rattle.std.proofs.lemmas.Bool.{eqb-true}
use Rattle.std.proofs.lemmas.List.{append_assoc, length-append}
use Rattle.brep_tokens.specs.Spaced.{front, texts, spaced, IsSpaced}

front_if : (s : Bool) (b : ℕ) (bs x : List ℕ) → front (bs ++ 32 ∷ x) ≡ front bs
    → (if s then [] else b ∷ front (bs ++ 32 ∷ x)) ≡ (if s then [] else b ∷ front bs)
front_if true b bs x e = refl
front_if false b bs x e = ap (λ r. b ∷ r) e

pub front_push : (run x : List ℕ) → front (run ++ 32 ∷ x) ≡ front run
front_push [] x = refl
front_push (b ∷ bs) x = front_if (b == 32) b bs x (front_push bs x)

texts_if : (s : Bool) (bs x : List ℕ) → texts (bs ++ 32 ∷ x) ≡ texts bs ++ x ∷ []
    → (if s then front (bs ++ 32 ∷ x) ∷ texts (bs ++ 32 ∷ x) else texts (bs ++ 32 ∷ x))
    ≡ (if s then front bs ∷ texts bs else texts bs) ++ x ∷ []
texts_if true bs x e = rw (front_push bs x, e) refl
texts_if false bs x e = e

pub texts_push : (run x : List ℕ) → front x ≡ x → texts x ≡ [] → texts (run ++ 32 ∷ x) ≡ texts run ++ x ∷ []
texts_push [] x f t = rw (f, t) refl
texts_push (b ∷ bs) x f t = texts_if (b == 32) bs x (texts_push bs x f t)

few_if : (s : Bool) (bs : List ℕ) → length (texts bs) ≤ length bs
    → length (if s then front bs ∷ texts bs else texts bs) ≤ suc (length bs)
few_if true bs h = omega (arith, h)
few_if false bs h = omega (arith, h)

pub texts_few : (run : List ℕ) → length (texts run) ≤ length run
texts_few [] = omega arith
texts_few (b ∷ bs) = few_if (b == 32) bs (texts_few bs)

spaced_at : (b : ℕ) (bs : List ℕ) (s : Bool) → (b == 32) ≡ s → front bs ++ spaced (texts bs) ≡ bs
    → (if s then [] else b ∷ front bs) ++ spaced (if s then front bs ∷ texts bs else texts bs) ≡ b ∷ bs
spaced_at b bs true e h = ap (λ r. 32 ∷ r) h ∙ ap (λ c. c ∷ bs) (sym (eqb-true b 32 e))
spaced_at b bs false e h = ap (λ r. b ∷ r) h

pub spaced_all : (run : List ℕ) → front run ++ spaced (texts run) ≡ run
spaced_all [] = refl
spaced_all (b ∷ bs) = spaced_at b bs (b == 32) refl (spaced_all bs)

pub spaced_texts : (run : List ℕ) → front run ≡ [] → run ≡ spaced (texts run)
spaced_texts run e = sym (spaced_all run) ∙ ap (λ r. r ++ spaced (texts run)) e

whole_front : (text : List ℕ) → texts text ≡ [] → front text ≡ text
whole_front text e =
    sym (append-nil (front text)) ∙ ap (λ xs. front text ++ spaced xs) (sym e) ∙ spaced_all text

module _ (run x new : List ℕ) where
  pub spaced_push : (n : ℕ) → IsSpaced run n → texts x ≡ [] → new ≡ run ++ 32 ∷ x → IsSpaced new (n + 1)
  spaced_push n is whole e =
      let texts_new = texts_push run x (whole_front x whole) whole in
      record {
        begins = rw (e, front_push run x) is.begins;
        many = rw (e, texts_new, length-append (texts run) (x ∷ [])) omega (arith, is.many);
      }

  pub texts_pushed : texts x ≡ [] → new ≡ run ++ 32 ∷ x → texts new ≡ texts run ++ x ∷ []
  texts_pushed whole e = rw e (texts_push run x (whole_front x whole) whole)

pub appended : (run reserved pushed new x : List ℕ) → reserved ≡ run → pushed ≡ reserved ++ 32 ∷ []
    → new ≡ pushed ++ x → new ≡ run ++ 32 ∷ x
appended run reserved pushed new x a b c =
    c ∙ ap (λ r. r ++ x) (b ∙ ap (λ r. r ++ 32 ∷ []) a) ∙ append_assoc run (32 ∷ []) x
