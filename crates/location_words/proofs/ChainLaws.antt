-- Reduction comes to an end at norm, and words are a group.
use Rattle.std.proofs.Common.{◌≡◌, ◌<◌, length, arith, sym, ◌∙◌, ap, subst, append_assoc, eqb-true, true≢false}
use Rattle.std.specs.Prelude.{◌==◌, pos, ◌+ℤ◌, true, List, [], ◌∷◌, ◌++◌, reverse, fold}
use Rattle.std.proofs.lemmas.List.{append-nil, length-append, reverse-append, reverse-reverse}
use Rattle.lists.proofs.Cases.{by_test}
use Rattle.location_words.specs.declared.pair.Pair.{Pair}
use Rattle.location_words.specs.Pairs.{pair, is_zero, taken_onto, norm, mul, IsWord}
use Rattle.location_words.specs.Products.{product}
use Rattle.location_words.specs.Equal.{pairs_decide}
use Rattle.location_words.specs.Laws.{Shortens, adds, drops, Chain, stays, goes, IsEnd, ReductionEnds}
use Rattle.location_words.specs.Laws.{WordsAreAGroup, PairsMakeWords, ProductsJoin, TestTells}
use Rattle.location_words.proofs.WordLaws.{IsReduced, is_zero-true, reverse-cons, eqb_same, norm-norm, mul_assoc}
use Rattle.location_words.proofs.WordLaws.{mul-empty, empty-mul, mul-inverse, inverse-mul, inverse-product}
use Rattle.location_words.proofs.WordLaws.{IsWord-mul, IsWord-inverse, reduced-of-word, word-of-reduced}
use Rattle.location_words.proofs.GroupLaws.{norm-chain, norm-end}
use Rattle.location_words.proofs.SeamLemmas.{reduced-of, reduced-suffix}
use Rattle.location_words.proofs.PowerLemmas.{one-power, power-word}
use Rattle.location_words.proofs.ProductLemmas.{product-word}

-- ---- steps
steps-shorten : (l m : List Pair) → Shortens l m → length m < length l
steps-shorten l m (adds before behind d p q) =
    omega (arith, length-append before (pair d (p +ℤ q) ∷ behind), length-append before (pair d p ∷ pair d q ∷ behind))
steps-shorten l m (drops before behind d) =
    omega (arith, length-append before behind, length-append before (pair d (pos 0) ∷ behind))

then-goes : {l m n : List Pair} → Chain l m → Chain m n → Chain l n
then-goes stays d = d
then-goes (goes k s c) d = goes k s (then-goes c d)

same-chain : {l m : List Pair} → l ≡ m → Chain l m
same-chain {l} e = subst (Chain l) e stays

one-step : {l m : List Pair} → Shortens l m → Chain l m
one-step {l} {m} s = goes m s stays

-- ---- taking one pair is a chain
dropped : (before behind : List Pair) (p : Pair) → is_zero p.power ≡ true →
    Chain (before ++ p ∷ behind) (before ++ behind)
dropped before behind p z =
    then-goes (same-chain (ap (λ n. before ++ pair p.datum n ∷ behind) (is_zero-true p.power z)))
    (one-step (drops before behind p.datum))

taken : (w l : List Pair) (p : Pair) → Chain (reverse w ++ p ∷ l) (reverse (taken_onto w p) ++ l)
taken [] l p = by_test (is_zero p.power) (λ e. rw e (dropped [] l p e)) (λ e. rw e stays)
taken (q ∷ w) l p =
    by_test (is_zero p.power)
    (λ e. rw e (dropped (reverse (q ∷ w)) l p e))
    (λ e. by_test (q.datum == p.datum)
    (λ f. by_test (is_zero (q.power +ℤ p.power))
    (λ g. rw (e, f, g) (then-goes (added f) (dropped (reverse w) l (pair q.datum (q.power +ℤ p.power)) g)))
    (λ g. rw (e, f, g) (then-goes (added f) (same-chain (sym (behind_last (pair q.datum (q.power +ℤ p.power)) w))))))
    (λ f. rw (e, f) (same-chain (sym (behind_last p (q ∷ w))))))
  where
    behind_last : (x : Pair) (v : List Pair) → reverse (x ∷ v) ++ l ≡ reverse v ++ x ∷ l
    behind_last x v = ap (λ r. r ++ l) (reverse-cons x v) ∙ append_assoc (reverse v) (x ∷ []) l

    added : (q.datum == p.datum) ≡ true → Chain (reverse (q ∷ w) ++ p ∷ l)
        (reverse w ++ pair q.datum (q.power +ℤ p.power) ∷ l)
    added f =
        then-goes
        (same-chain (ap (λ r. r ++ p ∷ l) (reverse-cons q w) ∙ append_assoc (reverse w) (q ∷ []) (p ∷ l) ∙
        ap (λ d. reverse w ++ q ∷ pair d p.power ∷ l) (sym (eqb-true q.datum p.datum f))))
        (one-step (adds (reverse w) l q.datum q.power p.power))

taken-all : (w l : List Pair) → Chain (reverse w ++ l) (reverse (fold taken_onto w l))
taken-all w [] = same-chain (append-nil (reverse w))
taken-all w (p ∷ l) = then-goes (taken w l p) (taken-all (taken_onto w p) l)

-- ---- at an end
reduced-end : (l : List Pair) → IsReduced l → IsEnd l
reduced-end l r m (adds before behind d p q) =
    let rest = reduced-suffix before (pair d p ∷ pair d q ∷ behind) r in
    true≢false (sym (eqb_same d) ∙ rest.1)
reduced-end l r m (drops before behind d) =
    let rest = reduced-suffix before (pair d (pos 0) ∷ behind) r in
    true≢false rest.0

word-end : (l : List Pair) → IsWord l → IsEnd l
word-end l h = reduced-end l (reduced-of l h)

pub reduction_ends : ReductionEnds
reduction_ends = record {
  steps_shorten = steps-shorten;
  norm_is_reached = taken-all [];
  norm_is_an_end = λ l. word-end (norm l) (norm-norm l);
  end_of_chains = λ l m c e. sym (norm-end m e) ∙ sym (norm-chain c);
  words_are_ends = λ l. (word-end l, norm-end l);
}

pub words_are_a_group : WordsAreAGroup
words_are_a_group = record {
  associative = mul_assoc;
  identity_inner = λ w h. mul-empty w ∙ h;
  identity_outer = λ w h. empty-mul w ∙ h;
  inverse_inner = mul-inverse;
  inverse_outer = inverse-mul;
  inverse_product = inverse-product;
  product_is_word = IsWord-mul;
  inverse_is_word = IsWord-inverse;
  power_is_word = power-word;
}

product-both : (xs ys : List (List Pair)) → product (xs ++ ys) ≡ mul (product xs) (product ys)
product-both [] ys = sym (empty-mul (product ys) ∙ product-word ys)
product-both (w ∷ xs) ys = ap (mul w) (product-both xs ys) ∙ mul_assoc w (product xs) (product ys)

pub products_join : ProductsJoin
products_join = record { several_is_word = product-word; several_of_two = product-both }

-- ---- words pair by pair
beginning-is_word : (xs ys : List Pair) → IsWord (xs ++ ys) → IsWord xs
beginning-is_word xs ys is =
    let r = reduced-suffix (reverse ys) (reverse xs) (rw (reverse-append xs ys) at (reduced-of-word (xs ++ ys) is)) in
    rw (reverse-reverse xs) at (word-of-reduced (reverse xs) r)

pub pairs_make_words : PairsMakeWords
pairs_make_words = record { beginning_is_word = beginning-is_word; power_of_pair = one-power }

pub test_tells : TestTells
test_tells a b = ((pairs_decide a b).0, (pairs_decide a b).1)
