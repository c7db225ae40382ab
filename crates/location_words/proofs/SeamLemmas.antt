-- How two words meet.
use Rattle.std.proofs.Common.{◌≡◌, ◌+◌, ◌-◌, ◌^◌, ◌<◌, ◌≤◌, ℕ, zero, suc, take, drop, length, arith}
use Rattle.std.proofs.Common.{slice_index_or, ap, sym, subst, ◌∙◌, refl, List, [], ◌∷◌, ◌++◌, ℤ, pos}
use Rattle.std.proofs.Common.{negsuc, ◌+ℤ◌, to_z, of_z, w64, false, FitsSigned, append_assoc, ne_eqb}
use Rattle.std.specs.Prelude.{nat_abs, ◌==◌, reverse}
use Rattle.std.proofs.lemmas.Int.{ints, to_z-of_z}
use Rattle.std.proofs.lemmas.List.{take_more, drop_more, reverse-reverse, take-append-drop}
use Rattle.std.proofs.lemmas.List.{take_all, length-drop, drop_all, append-nil}
use Rattle.location_words.specs.declared.pair.Pair.{Pair}
use Rattle.location_words.specs.Pairs.{pair, is_zero, norm}
use Rattle.location_words.specs.Laws.{adds, drops}
use Rattle.location_words.proofs.WordLaws.{norm-norm, IsReduced, IsApart, reduced-of-word}
use Rattle.location_words.proofs.WordLaws.{reduced-reverse, word-of-reduced}
use Rattle.location_words.proofs.GroupLaws.{norm-shortens}
use Rattle.location_words.proofs.SumLemmas.{nat_abs-add, fits-small}

-- ---- words are the reduced lists
pub reduced-of : (l : List Pair) → norm l ≡ l → IsReduced l
reduced-of l h = subst IsReduced (reverse-reverse l) (reduced-reverse (reverse l) (reduced-of-word l h))

pub word-of : (l : List Pair) → IsReduced l → norm l ≡ l
word-of l r = rw reverse-reverse at (word-of-reduced (reverse l) (reduced-reverse l r))

apart-prefix : (d : ℕ) (xs ys : List Pair) → IsApart d (xs ++ ys) → IsApart d xs
apart-prefix d [] ys a = tt
apart-prefix d (q ∷ xs) ys a = a

reduced-prefix : (xs ys : List Pair) → IsReduced (xs ++ ys) → IsReduced xs
reduced-prefix [] ys r = tt
reduced-prefix (q ∷ xs) ys r = (r.0, apart-prefix q.datum xs ys r.1, reduced-prefix xs ys r.2)

pub reduced-suffix : (xs ys : List Pair) → IsReduced (xs ++ ys) → IsReduced ys
reduced-suffix [] ys r = r
reduced-suffix (q ∷ xs) ys r = reduced-suffix xs ys r.2

apart-same : (d : ℕ) (xs rest : List Pair) (q s : Pair) → q.datum ≡ s.datum → IsApart d (xs ++ q ∷ []) →
    IsApart d (xs ++ s ∷ rest)
apart-same d [] rest q s e a = sym (ap (λ n. n == d) e) ∙ a
apart-same d (x ∷ xs) rest q s e a = a

-- a reduced list may go on behind its last pair, or behind another of its datum
reduced-on : (xs rest : List Pair) (q s : Pair) → q.datum ≡ s.datum → IsReduced (xs ++ q ∷ []) → IsReduced (s ∷ rest) →
    IsReduced (xs ++ s ∷ rest)
reduced-on [] rest q s e r h = h
reduced-on (x ∷ xs) rest q s e r h = (r.0, apart-same x.datum xs rest q s e r.1, reduced-on xs rest q s e r.2 h)

reduced-take : (k : ℕ) (l : List Pair) → IsReduced l → IsReduced (take k l)
reduced-take k l r = reduced-prefix (take k l) (drop k l) (subst IsReduced (sym (take-append-drop k l)) r)

reduced-drop : (k : ℕ) (l : List Pair) → IsReduced l → IsReduced (drop k l)
reduced-drop k l r = reduced-suffix (take k l) (drop k l) (subst IsReduced (sym (take-append-drop k l)) r)

-- ---- the two pairs that meet
pub met : (inner outer : List Pair) (kept gone : ℕ) (d : Pair) → 0 < kept → kept ≤ length inner → gone < length outer →
    take kept inner ++ drop gone outer ≡ take (kept - 1) inner ++ slice_index_or inner (kept - 1) d ∷
    slice_index_or outer gone d ∷ drop (gone + 1) outer
met inner outer kept gone d some within there =
    let k : kept ≡ kept - 1 + 1 = omega arith in
    let lt : kept - 1 < length inner = omega arith in
    ap (λ n. take n inner ++ drop gone outer) k ∙
    (λ j. take_more inner (kept - 1) d lt j ++ drop_more outer gone d there j) ∙
    append_assoc (take (kept - 1) inner) (slice_index_or inner (kept - 1) d ∷ [])
    (slice_index_or outer gone d ∷ drop (gone + 1) outer)

merges : (before behind : List Pair) (q p : Pair) → q.datum ≡ p.datum →
    norm (before ++ q ∷ p ∷ behind) ≡ norm (before ++ pair q.datum (q.power +ℤ p.power) ∷ behind)
merges before behind q p e =
    ap (λ n. norm (before ++ q ∷ pair n p.power ∷ behind)) (sym e) ∙
    norm-shortens (before ++ (pair q.datum q.power ∷ pair q.datum p.power ∷ behind))
    (before ++ (pair q.datum (q.power +ℤ p.power) ∷ behind)) (adds before behind q.datum q.power p.power)

cancels : (before behind : List Pair) (q p : Pair) → q.datum ≡ p.datum → q.power +ℤ p.power ≡ pos 0 →
    norm (before ++ q ∷ p ∷ behind) ≡ norm (before ++ behind)
cancels before behind q p e z =
    merges before behind q p e ∙ ap (λ n. norm (before ++ pair q.datum n ∷ behind)) z ∙
    norm-shortens (before ++ (pair q.datum (pos 0) ∷ behind)) (before ++ behind) (drops before behind q.datum)

pub cancel-more : (inner outer : List Pair) (gone : ℕ) (d : Pair) → gone < length inner → gone < length outer →
    (slice_index_or inner (length inner - gone - 1) d).datum ≡ (slice_index_or outer gone d).datum →
    (slice_index_or inner (length inner - gone - 1) d).power +ℤ (slice_index_or outer gone d).power ≡ pos 0 →
    norm (take (length inner - gone) inner ++ drop gone outer) ≡ norm (inner ++ outer) →
    norm (take (length inner - (gone + 1)) inner ++ drop (gone + 1) outer) ≡ norm (inner ++ outer)
cancel-more inner outer gone d lt there e z h =
    let k : length inner - (gone + 1) ≡ length inner - gone - 1 = omega arith in
    ap (λ n. norm (take n inner ++ drop (gone + 1) outer)) k ∙
    sym (ap norm (met inner outer (length inner - gone) gone d (omega arith) (omega arith) there) ∙
    cancels (take (length inner - gone - 1) inner) (drop (gone + 1) outer)
    (slice_index_or inner (length inner - gone - 1) d) (slice_index_or outer gone d) e z) ∙
    h

-- ---- the sum as the code computes it
sum-fits : (a b : ℤ) → nat_abs a ≤ 2 ^ 40 → nat_abs b ≤ 2 ^ 40 → FitsSigned w64 (a +ℤ b)
sum-fits a b h k = fits-twice (a +ℤ b) (nat_abs-add a b (2 ^ 40) (2 ^ 40) h k)
  where
    fits-twice : (z : ℤ) → nat_abs z ≤ 2 ^ 40 + 2 ^ 40 → FitsSigned w64 z
    fits-twice (pos n) h = omega (arith, ints)
    fits-twice (negsuc n) h = omega (arith, ints)

pub read-sum : (a b : ℤ) → nat_abs a ≤ 2 ^ 40 → nat_abs b ≤ 2 ^ 40 →
    to_z w64 (of_z w64 a) +ℤ to_z w64 (of_z w64 b) ≡ a +ℤ b
read-sum a b h k =
    let f : FitsSigned w64 a = fits-small a h in
    let g : FitsSigned w64 b = fits-small b k in
    rw (to_z-of_z w64 a f, to_z-of_z w64 b g) refl

pub kept-sum : (a b : ℤ) → nat_abs a ≤ 2 ^ 40 → nat_abs b ≤ 2 ^ 40 →
    to_z w64 (of_z w64 (to_z w64 (of_z w64 a) +ℤ to_z w64 (of_z w64 b))) ≡ a +ℤ b
kept-sum a b h k = ap (λ z. to_z w64 (of_z w64 z)) (read-sum a b h k) ∙ to_z-of_z w64 (a +ℤ b) (sum-fits a b h k)

pub zero-sum : (a b : ℤ) → nat_abs a ≤ 2 ^ 40 → nat_abs b ≤ 2 ^ 40 →
    of_z w64 (to_z w64 (of_z w64 a) +ℤ to_z w64 (of_z w64 b)) ≡ 0 → a +ℤ b ≡ pos 0
zero-sum a b h k z = sym (kept-sum a b h k) ∙ ap (to_z w64) z

pub zero-sum-back : (a b : ℤ) → nat_abs a ≤ 2 ^ 40 → nat_abs b ≤ 2 ^ 40 → a +ℤ b ≡ pos 0 →
    of_z w64 (to_z w64 (of_z w64 a) +ℤ to_z w64 (of_z w64 b)) ≡ 0
zero-sum-back a b h k z = ap (of_z w64) (read-sum a b h k ∙ z)

not_zero : (z : ℤ) → (z ≡ pos 0 → ⊥) → is_zero z ≡ false
not_zero (pos zero) h = absurd (h refl)
not_zero (pos (suc n)) h = refl
not_zero (negsuc n) h = refl

-- ---- what stands at the seam is a word
pub seam-joined : (inner outer : List Pair) (kept gone : ℕ) (d : Pair) (power : ℤ) → norm inner ≡ inner →
    norm outer ≡ outer → 0 < kept → kept ≤ length inner → gone < length outer →
    (slice_index_or inner (kept - 1) d).datum ≡ (slice_index_or outer gone d).datum →
    power ≡ (slice_index_or inner (kept - 1) d).power +ℤ (slice_index_or outer gone d).power → (power ≡ pos 0 → ⊥) →
    norm (take kept inner ++ drop gone outer) ≡ norm (inner ++ outer) →
    take (kept - 1) inner ++ (pair (slice_index_or inner (kept - 1) d).datum power ∷ []) ++ drop (gone + 1) outer ≡
    norm (inner ++ outer)
seam-joined inner outer kept gone d power wi wo some within there e s nz h =
    append_assoc before (pair q.datum power ∷ []) behind ∙
    sym (word-of (before ++ pair q.datum power ∷ behind) reduced) ∙
    ap (λ n. norm (before ++ pair q.datum n ∷ behind)) s ∙
    sym (ap norm (met inner outer kept gone d some within there) ∙ merges before behind q p e) ∙
    h
  where
    before : List Pair
    before = take (kept - 1) inner

    behind : List Pair
    behind = drop (gone + 1) outer

    q : Pair
    q = slice_index_or inner (kept - 1) d

    p : Pair
    p = slice_index_or outer gone d

    ends : IsReduced (before ++ q ∷ [])
    ends =
        let k : kept - 1 + 1 ≡ kept = omega arith in
        let lt : kept - 1 < length inner = omega arith in
        subst IsReduced (sym (ap (λ n. take n inner) k) ∙ take_more inner (kept - 1) d lt)
        (reduced-take kept inner (reduced-of inner wi))

    begins : IsReduced (p ∷ behind)
    begins = subst IsReduced (drop_more outer gone d there) (reduced-drop gone outer (reduced-of outer wo))

    goes_on : IsReduced (pair q.datum power ∷ behind)
    goes_on = (not_zero power nz, subst (λ n. IsApart n behind) (sym e) begins.1, begins.2)

    reduced : IsReduced (before ++ pair q.datum power ∷ behind)
    reduced = reduced-on before behind q (pair q.datum power) refl ends goes_on

pub seam-apart : (inner outer : List Pair) (kept gone : ℕ) (d : Pair) → norm inner ≡ inner → norm outer ≡ outer →
    0 < kept → kept ≤ length inner → gone < length outer →
    ((slice_index_or inner (kept - 1) d).datum ≡ (slice_index_or outer gone d).datum → ⊥) →
    norm (take kept inner ++ drop gone outer) ≡ norm (inner ++ outer) →
    take kept inner ++ [] ++ drop gone outer ≡ norm (inner ++ outer)
seam-apart inner outer kept gone d wi wo some within there ne h =
    ap (λ l. l ++ drop gone outer) (append-nil (take kept inner)) ∙
    sym (word-of (take kept inner ++ drop gone outer) reduced) ∙ h
  where
    before : List Pair
    before = take (kept - 1) inner

    behind : List Pair
    behind = drop (gone + 1) outer

    q : Pair
    q = slice_index_or inner (kept - 1) d

    p : Pair
    p = slice_index_or outer gone d

    ends : IsReduced (before ++ q ∷ [])
    ends =
        let k : kept - 1 + 1 ≡ kept = omega arith in
        let lt : kept - 1 < length inner = omega arith in
        subst IsReduced (sym (ap (λ n. take n inner) k) ∙ take_more inner (kept - 1) d lt)
        (reduced-take kept inner (reduced-of inner wi))

    begins : IsReduced (p ∷ behind)
    begins = subst IsReduced (drop_more outer gone d there) (reduced-drop gone outer (reduced-of outer wo))

    last : IsReduced (q ∷ [])
    last = reduced-suffix before (q ∷ []) ends

    differs : (p.datum == q.datum) ≡ false
    differs = ne_eqb p.datum q.datum (λ e. ne (sym e))

    goes_on : IsReduced (q ∷ p ∷ behind)
    goes_on = (last.0, differs, begins)

    reduced : IsReduced (take kept inner ++ drop gone outer)
    reduced =
        subst IsReduced (sym (met inner outer kept gone d some within there))
        (reduced-on before (p ∷ behind) q q refl ends goes_on)

pub seam-at-end : (inner outer : List Pair) (kept gone : ℕ) → norm inner ≡ inner → norm outer ≡ outer →
    (0 < kept → gone < length outer → ⊥) →
    norm (take kept inner ++ drop gone outer) ≡ norm (inner ++ outer) →
    take kept inner ++ [] ++ drop gone outer ≡ norm (inner ++ outer)
seam-at-end inner outer zero gone wi wo ends h =
    sym (word-of (drop gone outer) (reduced-drop gone outer (reduced-of outer wo))) ∙ h
seam-at-end inner outer (suc k) gone wi wo ends h =
    let none : drop gone outer ≡ [] = drop_all gone outer (omega (arith, ends (omega arith))) in
    ap (λ l. l ++ drop gone outer) (append-nil (take (suc k) inner)) ∙
    ap (λ l. take (suc k) inner ++ l) none ∙ append-nil (take (suc k) inner) ∙
    sym (ap norm (ap (λ l. take (suc k) inner ++ l) none ∙ append-nil (take (suc k) inner)) ∙
    word-of (take (suc k) inner) (reduced-take (suc k) inner (reduced-of inner wi))) ∙
    h

-- the whole is reduced
pub whole-word : (front outer : List Pair) (dropped : ℕ) (l : List Pair) → front ++ drop dropped outer ≡ norm l →
    norm (front ++ take (length outer - dropped) (drop dropped outer)) ≡
    front ++ take (length outer - dropped) (drop dropped outer)
whole-word front outer dropped l h =
    let all : front ++ take (length outer - dropped) (drop dropped outer) ≡ norm l =
    ap (λ x. front ++ x) (take_all (length outer - dropped) (drop dropped outer) (rw length-drop (omega arith))) ∙
    h in
    ap norm all ∙ norm-norm l ∙ sym all
