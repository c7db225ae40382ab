-- The laws of words. A list is read from its last pair to its first here, so that the end of a result is its head.
use Rattle.std.proofs.Common.{◌≡◌, refl, sym, ◌∙◌, ap, subst, arith, append_assoc, eqb-true, eq-eqb}
use Rattle.std.specs.Prelude.{ℕ, zero, suc, ◌==◌, ℤ, pos, negsuc, ◌+ℤ◌, neg_ℤ, true}
use Rattle.std.specs.Prelude.{false, if◌then◌else◌, List, [], ◌∷◌, ◌++◌, map, reverse}
use Rattle.std.specs.List.{fold}
use Rattle.std.proofs.lemmas.Int.{ints}
use Rattle.std.proofs.Math.IntN.{+ℤ_invr, +ℤ_invl}
use Rattle.std.proofs.lemmas.List.{reverse-reverse, map-append, append-nil}
use Rattle.std.proofs.lemmas.Grind.{reverse_onto}
use Rattle.lists.proofs.Cases.{by_test}
use Rattle.location_words.specs.declared.pair.Pair.{Pair}
use Rattle.location_words.specs.Pairs.{is_zero, pair, taken_onto, norm, mul, inverse, opposite}

-- a power of a datum in front, unless it is 0
abbrev pub front : ℕ → ℤ → List Pair → List Pair
front d s w = if is_zero s then w else pair d s ∷ w

-- the power of the datum at the head, or 0
abbrev pub lead : ℕ → List Pair → ℤ
lead d [] = pos 0
lead d (q ∷ w) = if q.datum == d then q.power else pos 0

-- what stands behind that power
abbrev pub after : ℕ → List Pair → List Pair
after d [] = []
after d (q ∷ w) = if q.datum == d then w else q ∷ w

-- the head, if there is one, is not of the datum
abbrev pub IsApart : ℕ → List Pair → Type 0
IsApart d [] = Unit {0}
IsApart d (q ∷ w) = (q.datum == d) ≡ false

-- no power is 0, and no two neighbours are of one datum
abbrev pub IsReduced : List Pair → Type 0
IsReduced [] = Unit {0}
IsReduced (q ∷ w) = (is_zero q.power ≡ false) × IsApart q.datum w × IsReduced w

-- a pair pushed in front: its power is added to that of its datum there
abbrev pub push : Pair → List Pair → List Pair
push p w = front p.datum (lead p.datum w +ℤ p.power) (after p.datum w)

pub zero-add_ℤ : (a : ℤ) → pos 0 +ℤ a ≡ a
zero-add_ℤ a = omega (arith, ints)

pub add-zero_ℤ : (a : ℤ) → a +ℤ pos 0 ≡ a
add-zero_ℤ a = omega (arith, ints)

pub is_zero-true : (a : ℤ) → is_zero a ≡ true → a ≡ pos 0
is_zero-true (pos zero) e = refl
is_zero-true (pos (suc n)) e = cc
is_zero-true (negsuc n) e = cc

taken-push-cons : (q : Pair) (w : List Pair) (p : Pair) → is_zero q.power ≡ false →
    taken_onto (q ∷ w) p ≡ push p (q ∷ w)
taken-push-cons q w p h =
    by_test (is_zero p.power)
    (λ e. by_test (q.datum == p.datum)
    (λ f. let z = is_zero-true p.power e in let same = eqb-true q.datum p.datum f in
    rw (e, f, z, add-zero_ℤ, h, ← same) refl)
    (λ f. rw (e, f, zero-add_ℤ, e) refl))
    (λ e. by_test (q.datum == p.datum)
    (λ f. let same = eqb-true q.datum p.datum f in rw (e, f, ← same) refl)
    (λ f. rw (e, f, zero-add_ℤ, e) refl))

taken-push : (w : List Pair) (p : Pair) → IsReduced w → taken_onto w p ≡ push p w
taken-push [] p r = rw zero-add_ℤ refl
taken-push (q ∷ w) p r = taken-push-cons q w p r.0

pub eqb_same : (d : ℕ) → (d == d) ≡ true
eqb_same d = eq-eqb d d refl

eqb_flip : (d e : ℕ) → (d == e) ≡ false → (e == d) ≡ false
eqb_flip d e h = grind arith

-- ---- a list is its front power and what stands behind it
lead-apart : (d : ℕ) (w : List Pair) → IsApart d w → lead d w ≡ pos 0
lead-apart d [] a = refl
lead-apart d (q ∷ w) a = rw a refl

after-apart : (d : ℕ) (w : List Pair) → IsApart d w → after d w ≡ w
after-apart d [] a = refl
after-apart d (q ∷ w) a = rw a refl

lead-front : (d : ℕ) (s : ℤ) (w : List Pair) → IsApart d w → lead d (front d s w) ≡ s
lead-front d s w a =
    by_test (is_zero s)
    (λ e. let z = is_zero-true s e in rw (e, z) (lead-apart d w a))
    (λ e. rw (e, eqb_same) refl)

after-front : (d : ℕ) (s : ℤ) (w : List Pair) → IsApart d w → after d (front d s w) ≡ w
after-front d s w a =
    by_test (is_zero s)
    (λ e. rw e (after-apart d w a))
    (λ e. rw (e, eqb_same) refl)

IsApart-after : (d : ℕ) (w : List Pair) → IsReduced w → IsApart d (after d w)
IsApart-after d [] r = tt
IsApart-after d (q ∷ w) r = IsApart-after-cons d q w r.1
  where
    IsApart-after-cons : (d : ℕ) (q : Pair) (w : List Pair) → IsApart q.datum w → IsApart d (after d (q ∷ w))
    IsApart-after-cons d q w a =
        by_test (q.datum == d)
        (λ e. let same = eqb-true q.datum d e in rw (e, ← same) a)
        (λ e. rw (e, e) refl)

IsReduced-after : (d : ℕ) (w : List Pair) → IsReduced w → IsReduced (after d w)
IsReduced-after d [] r = tt
IsReduced-after d (q ∷ w) r = by_test (q.datum == d) (λ e. rw e r.2) (λ e. rw e r)

IsReduced-front : (d : ℕ) (s : ℤ) (w : List Pair) → IsApart d w → IsReduced w → IsReduced (front d s w)
IsReduced-front d s w a r = by_test (is_zero s) (λ e. rw e r) (λ e. rw e (e, a, r))

front-lead : (d : ℕ) (w : List Pair) → IsReduced w → front d (lead d w) (after d w) ≡ w
front-lead d [] r = refl
front-lead d (q ∷ w) r = front-lead-cons r.0
  where
    front-lead-cons : is_zero q.power ≡ false → front d (lead d (q ∷ w)) (after d (q ∷ w)) ≡ q ∷ w
    front-lead-cons h =
        by_test (q.datum == d)
        (λ e. let same = eqb-true q.datum d e in rw (e, h, ← same) refl)
        (λ e. rw e refl)

-- ---- the laws of pushing
pub IsReduced-push : (p : Pair) (w : List Pair) → IsReduced w → IsReduced (push p w)
IsReduced-push p w r =
    IsReduced-front p.datum (lead p.datum w +ℤ p.power) (after p.datum w) (IsApart-after p.datum w r)
    (IsReduced-after p.datum w r)

add_assoc_ℤ : (a b c : ℤ) → (a +ℤ b) +ℤ c ≡ a +ℤ (b +ℤ c)
add_assoc_ℤ a b c = omega (arith, ints)

pub push-push : (d : ℕ) (a b : ℤ) (w : List Pair) → IsReduced w →
    push (pair d a) (push (pair d b) w) ≡ push (pair d (b +ℤ a)) w
push-push d a b w r =
    rw (
      lead-front d (lead d w +ℤ b) (after d w) (IsApart-after d w r),
      after-front d (lead d w +ℤ b) (after d w) (IsApart-after d w r),
      add_assoc_ℤ,
    ) refl

pub push-zero : (d : ℕ) (w : List Pair) → IsReduced w → push (pair d (pos 0)) w ≡ w
push-zero d w r = rw add-zero_ℤ (front-lead d w r)

pub reverse-cons : (q : Pair) (v : List Pair) → reverse (q ∷ v) ≡ reverse v ++ q ∷ []
reverse-cons q v = reverse_onto v q []

-- ---- pushing the pairs of a list in turn, and from the last on
abbrev pub act : List Pair → List Pair → List Pair
act w [] = w
act w (p ∷ l) = act (push p w) l

abbrev pub back : List Pair → List Pair → List Pair
back w [] = w
back w (q ∷ v) = push q (back w v)

pub act-append : (w xs ys : List Pair) → act w (xs ++ ys) ≡ act (act w xs) ys
act-append w [] ys = refl
act-append w (p ∷ xs) ys = act-append (push p w) xs ys

pub IsReduced-act : (w l : List Pair) → IsReduced w → IsReduced (act w l)
IsReduced-act w [] r = r
IsReduced-act w (p ∷ l) r = IsReduced-act (push p w) l (IsReduced-push p w r)

pub IsReduced-back : (w v : List Pair) → IsReduced w → IsReduced (back w v)
IsReduced-back w [] r = r
IsReduced-back w (q ∷ v) r = IsReduced-push q (back w v) (IsReduced-back w v r)

fold-act : (w l : List Pair) → IsReduced w → fold taken_onto w l ≡ act w l
fold-act w [] r = refl
fold-act w (p ∷ l) r = rw (taken-push w p r) (fold-act (push p w) l (IsReduced-push p w r))

pub norm-act : (l : List Pair) → norm l ≡ reverse (act [] l)
norm-act l = ap reverse (fold-act [] l tt)

pub act-reverse : (w v : List Pair) → act w (reverse v) ≡ back w v
act-reverse w [] = refl
act-reverse w (q ∷ v) = rw (reverse-cons q v, act-append w (reverse v) (q ∷ [])) (ap (push q) (act-reverse w v))

back-front : (d : ℕ) (s : ℤ) (w v : List Pair) → IsReduced w → back w (front d s v) ≡ push (pair d s) (back w v)
back-front d s w v r =
    by_test (is_zero s)
    (λ e. let z = is_zero-true s e in rw (e, z) (sym (push-zero d (back w v) (IsReduced-back w v r))))
    (λ e. rw e refl)

back-push : (w v : List Pair) (p : Pair) → IsReduced w → back w (push p v) ≡ push p (back w v)
back-push w [] p r = back-front p.datum (pos 0 +ℤ p.power) w [] r ∙ rw zero-add_ℤ refl
back-push w (q ∷ v) p r =
    by_test (q.datum == p.datum)
    (λ e. let same = eqb-true q.datum p.datum e in
    rw e (back-front p.datum (q.power +ℤ p.power) w v r ∙
    sym (push-push p.datum p.power q.power (back w v) (IsReduced-back w v r)) ∙ rw (← same) refl))
    (λ e. rw (e, zero-add_ℤ) (back-front p.datum p.power w (q ∷ v) r))

back-act : (w v l : List Pair) → IsReduced w → back w (act v l) ≡ act (back w v) l
back-act w v [] r = refl
back-act w v (p ∷ l) r = back-act w (push p v) l r ∙ ap (λ x. act x l) (back-push w v p r)

-- what a reversed result does is what its list does
act-norm : (w l : List Pair) → IsReduced w → act w (norm l) ≡ act w l
act-norm w l r = ap (act w) (norm-act l) ∙ act-reverse w (act [] l) ∙ back-act w [] l r

-- ---- the laws of words
pub norm-norm : (l : List Pair) → norm (norm l) ≡ norm l
norm-norm l = norm-act (norm l) ∙ ap reverse (act-norm [] l tt) ∙ sym (norm-act l)

pub norm-append_left : (xs ys : List Pair) → norm (norm xs ++ ys) ≡ norm (xs ++ ys)
norm-append_left xs ys =
    norm-act (norm xs ++ ys) ∙ ap reverse (act-append [] (norm xs) ys ∙ ap (λ x. act x ys) (act-norm [] xs tt) ∙
    sym (act-append [] xs ys)) ∙ sym (norm-act (xs ++ ys))

pub norm-append_right : (xs ys : List Pair) → norm (xs ++ norm ys) ≡ norm (xs ++ ys)
norm-append_right xs ys =
    norm-act (xs ++ norm ys) ∙ ap reverse (act-append [] xs (norm ys) ∙
    act-norm (act [] xs) ys (IsReduced-act [] xs tt) ∙ sym (act-append [] xs ys)) ∙ sym (norm-act (xs ++ ys))

pub mul_assoc : (a b c : List Pair) → mul a (mul b c) ≡ mul (mul a b) c
mul_assoc a b c = norm-append_left (c ++ b) a ∙ ap norm (append_assoc c b a) ∙ sym (norm-append_right c (b ++ a))

pub mul-empty : (w : List Pair) → mul w [] ≡ norm w
mul-empty w = refl

pub empty-mul : (w : List Pair) → mul [] w ≡ norm w
empty-mul w = ap norm (append-nil w)

pub IsWord-mul : (a b : List Pair) → norm (mul a b) ≡ mul a b
IsWord-mul a b = norm-norm (b ++ a)

neg-add : (a : ℤ) → a +ℤ neg_ℤ a ≡ pos 0
neg-add a = +ℤ_invr a

add-neg : (a : ℤ) → neg_ℤ a +ℤ a ≡ pos 0
add-neg a = +ℤ_invl a

push-opposite : (p : Pair) (w : List Pair) → IsReduced w → push (opposite p) (push p w) ≡ w
push-opposite p w r = push-push p.datum (neg_ℤ p.power) p.power w r ∙ rw neg-add (push-zero p.datum w r)

opposite-push : (p : Pair) (w : List Pair) → IsReduced w → push p (push (opposite p) w) ≡ w
opposite-push p w r = push-push p.datum p.power (neg_ℤ p.power) w r ∙ rw add-neg (push-zero p.datum w r)

inverse-cons : (p : Pair) (w : List Pair) → inverse (p ∷ w) ≡ inverse w ++ opposite p ∷ []
inverse-cons p w = ap (map opposite) (reverse-cons p w) ∙ map-append opposite (reverse w) (p ∷ [])

act-inverse-act : (v w : List Pair) → IsReduced v → act (act v (inverse w)) w ≡ v
act-inverse-act v [] r = refl
act-inverse-act v (p ∷ w) r =
    rw (inverse-cons p w, act-append v (inverse w) (opposite p ∷ []))
    (ap (λ x. act x w) (opposite-push p (act v (inverse w)) (IsReduced-act v (inverse w) r)) ∙ act-inverse-act v w r)

act-act-inverse : (v w : List Pair) → IsReduced v → act (act v w) (inverse w) ≡ v
act-act-inverse v [] r = refl
act-act-inverse v (p ∷ w) r =
    rw (inverse-cons p w, act-append (act (push p v) w) (inverse w) (opposite p ∷ []))
    (ap (push (opposite p)) (act-act-inverse (push p v) w (IsReduced-push p v r)) ∙ push-opposite p v r)

pub mul-inverse : (w : List Pair) → mul w (inverse w) ≡ []
mul-inverse w = norm-act (inverse w ++ w) ∙ ap reverse (act-append [] (inverse w) w ∙ act-inverse-act [] w tt)

pub inverse-mul : (w : List Pair) → mul (inverse w) w ≡ []
inverse-mul w = norm-act (w ++ inverse w) ∙ ap reverse (act-append [] w (inverse w) ∙ act-act-inverse [] w tt)

-- ---- words are the lists whose reverse is reduced
is_zero-opposite : (a : ℤ) → is_zero (neg_ℤ a) ≡ is_zero a
is_zero-opposite (pos zero) = refl
is_zero-opposite (pos (suc n)) = refl
is_zero-opposite (negsuc n) = refl

push-apart : (q : Pair) (v : List Pair) → is_zero q.power ≡ false → IsApart q.datum v → push q v ≡ q ∷ v
push-apart q v h a = rw (lead-apart q.datum v a, after-apart q.datum v a, zero-add_ℤ, h) refl

back-reduced : (v : List Pair) → IsReduced v → back [] v ≡ v
back-reduced [] r = refl
back-reduced (q ∷ v) r = ap (push q) (back-reduced v r.2) ∙ push-apart q v r.0 r.1

pub word-of-reduced : (v : List Pair) → IsReduced v → norm (reverse v) ≡ reverse v
word-of-reduced v r = norm-act (reverse v) ∙ ap reverse (act-reverse [] v ∙ back-reduced v r)

pub reduced-of-word : (w : List Pair) → norm w ≡ w → IsReduced (reverse w)
reduced-of-word w h =
    let e : act [] w ≡ reverse w = sym (reverse-reverse (act [] w)) ∙ ap reverse (sym (norm-act w) ∙ h) in
    subst IsReduced e (IsReduced-act [] w tt)

AreApart : List Pair → List Pair → Type 0
AreApart [] acc = Unit {0}
AreApart (q ∷ v) acc = IsApart q.datum acc

IsApart-flip : (q : Pair) (v acc : List Pair) → IsApart q.datum v → AreApart v (q ∷ acc)
unfolding AreApart
IsApart-flip q [] acc a = tt
IsApart-flip q (r ∷ v) acc a = eqb_flip r.datum q.datum a

reduced-reverse-onto : (v acc : List Pair) → IsReduced v → IsReduced acc → AreApart v acc → IsReduced (reverse v ++ acc)
unfolding AreApart
reduced-reverse-onto [] acc r s a = s
reduced-reverse-onto (q ∷ v) acc r s a =
    rw (reverse-cons q v, append_assoc (reverse v) (q ∷ []) acc)
    (reduced-reverse-onto v (q ∷ acc) r.2 (r.0, a, s) (IsApart-flip q v acc r.1))

AreApart-nil : (v : List Pair) → AreApart v []
unfolding AreApart
AreApart-nil [] = tt
AreApart-nil (q ∷ v) = tt

pub reduced-reverse : (v : List Pair) → IsReduced v → IsReduced (reverse v)
reduced-reverse v r = rw append-nil at (reduced-reverse-onto v [] r tt (AreApart-nil v))

IsApart-opposite : (d : ℕ) (v : List Pair) → IsApart d v → IsApart d (map opposite v)
IsApart-opposite d [] a = tt
IsApart-opposite d (q ∷ v) a = a

reduced-opposite : (v : List Pair) → IsReduced v → IsReduced (map opposite v)
reduced-opposite [] r = tt
reduced-opposite (q ∷ v) r = (is_zero-opposite q.power ∙ r.0, IsApart-opposite q.datum v r.1, reduced-opposite v r.2)

pub IsWord-inverse : (w : List Pair) → norm w ≡ w → norm (inverse w) ≡ inverse w
IsWord-inverse w h =
    let r : IsReduced (inverse w) = reduced-opposite (reverse w) (reduced-of-word w h) in
    rw reverse-reverse at (word-of-reduced (reverse (inverse w)) (reduced-reverse (inverse w) r))

-- the inverse of a product is the product of the inverses, the other way round
pub inverse-product : (a b : List Pair) → inverse (mul a b) ≡ mul (inverse b) (inverse a)
inverse-product a b =
    sym (sym y-word ∙ ap (mul y) (sym (mul-inverse m)) ∙ mul_assoc y m x ∙ ap (λ z. mul z x) y-m ∙ empty-mul x ∙
    IsWord-inverse m (IsWord-mul a b))
  where
    m : List Pair
    m = mul a b

    x : List Pair
    x = inverse m

    y : List Pair
    y = mul (inverse b) (inverse a)

    y-word : mul y [] ≡ y
    y-word = IsWord-mul (inverse b) (inverse a)

    cancelled : mul (inverse a) (mul a b) ≡ norm b
    cancelled = mul_assoc (inverse a) a b ∙ ap (λ z. mul z b) (inverse-mul a) ∙ empty-mul b

    y-m : mul y m ≡ []
    y-m = sym (mul_assoc (inverse b) (inverse a) m) ∙ ap (mul (inverse b)) cancelled ∙ norm-append_left b (inverse b) ∙
        inverse-mul b
