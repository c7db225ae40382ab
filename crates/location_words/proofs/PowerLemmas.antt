-- Powers of words.
use Rattle.std.proofs.Common.{◌≡◌, ◌*◌, ◌^◌, ◌<◌, ◌≤◌, ℕ, zero, suc, length, arith, ap, sym, subst, ◌∙◌, refl, List, []}
use Rattle.std.proofs.Common.{◌∷◌, ◌++◌, ℤ, pos, negsuc, ◌+ℤ◌, ◌*ℤ◌, to_z, of_z, w64, FitsSigned, Some, None, false}
use Rattle.std.specs.Prelude.{nat_abs, neg_ℤ, nat_lt}
use Rattle.std.specs.Int.{w128}
use Rattle.std.specs.Option.{option_or}
use Rattle.std.proofs.lemmas.Int.{ints, to_z-of_z}
use Rattle.std.proofs.Math.IntN.{*ℤ-zero, zero-*ℤ, *ℤ_comm, suc_ℤ-*ℤ, pos-*ℤ-pos}
use Rattle.std.proofs.Math.IntN.{pos-*ℤ-negsuc, negsuc-*ℤ-pos, negsuc-*ℤ-negsuc}
use Rattle.std.proofs.Math.Nat.{mul-le-mul}
use Rattle.std.proofs.lemmas.Bool.{ltb-true, ltb-false}
use Rattle.std.proofs.lemmas.List.Elements.{All-nil, All-cons}
use Rattle.location_words.specs.declared.pair.Pair.{Pair}
use Rattle.location_words.specs.Pairs.{pair, is_zero, norm, opposite, times, power}
use Rattle.location_words.specs.Pairs.{factor, most_power, AllSmall, IsHeldWord}
use Rattle.location_words.specs.declared.fault.WordFault.{WordFault}
use Rattle.location_words.specs.declared.fault.WordFault.TheVariants.{Pairs, Power, NoMemory}
use Rattle.location_words.specs.Faults.{fault_of, fault_of_times, fault_of_power, IsDueFault}
use Rattle.location_words.specs.Laws.{adds}
use Rattle.lists.proofs.Cases.{by_test}
use Rattle.location_words.proofs.WordLaws.{norm-norm, norm-append_right}
use Rattle.location_words.proofs.FaultLemmas.{fault-power, fault-none}
use Rattle.location_words.proofs.GroupLaws.{norm-shortens}
use Rattle.location_words.proofs.InverseLemmas.{nat_abs-neg}
use Rattle.location_words.proofs.SumLemmas.{fits-wide, fits-small, wide-size, narrowed-power, not_zero-bits128}

-- ---- powers are words
times-word : (w : List Pair) (n : ℕ) → norm (times w n) ≡ times w n
times-word w zero = refl
times-word w (suc n) = norm-norm (w ++ times w n)

pub power-word : (w : List Pair) (p : ℤ) → norm (power w p) ≡ power w p
power-word w p = times-word (factor w p) (nat_abs p)

-- ---- a word of one pair
mul-suc : (z : ℤ) (n : ℕ) → z +ℤ z *ℤ pos n ≡ z *ℤ pos (suc n)
mul-suc z n =
    sym (*ℤ_comm z (pos (suc n)) ∙ suc_ℤ-*ℤ (pos n) z ∙ ap (λ x. x +ℤ z) (*ℤ_comm (pos n) z) ∙
    add_comm_ℤ (z *ℤ pos n) z)
  where
    add_comm_ℤ : (a b : ℤ) → a +ℤ b ≡ b +ℤ a
    add_comm_ℤ a b = omega (arith, ints)

one-times : (q : Pair) (n : ℕ) → times (q ∷ []) n ≡ norm (pair q.datum (q.power *ℤ pos n) ∷ [])
one-times q zero = sym (ap (λ z. norm (pair q.datum z ∷ [])) (*ℤ-zero q.power))
one-times q (suc n) =
    ap (λ l. norm ((q ∷ []) ++ l)) (one-times q n) ∙
    norm-append_right (q ∷ []) (pair q.datum (q.power *ℤ pos n) ∷ []) ∙
    norm-shortens (pair q.datum q.power ∷ pair q.datum (q.power *ℤ pos n) ∷ [])
    (pair q.datum (q.power +ℤ q.power *ℤ pos n) ∷ []) (adds [] [] q.datum q.power (q.power *ℤ pos n)) ∙
    ap (λ z. norm (pair q.datum z ∷ [])) (mul-suc q.power n)

neg-mul : (z : ℤ) (n : ℕ) → neg_ℤ z *ℤ pos (suc n) ≡ z *ℤ negsuc n
neg-mul (pos zero) n = zero-*ℤ (pos (suc n)) ∙ sym (zero-*ℤ (negsuc n))
neg-mul (pos (suc m)) n = negsuc-*ℤ-pos m (suc n) ∙ sym (pos-*ℤ-negsuc (suc m) n)
neg-mul (negsuc m) n = pos-*ℤ-pos (suc m) (suc n) ∙ sym (negsuc-*ℤ-negsuc m n)

pub one-power : (q : Pair) (p : ℤ) → power (q ∷ []) p ≡ norm (pair q.datum (q.power *ℤ p) ∷ [])
one-power q (pos n) = one-times q n
one-power q (negsuc n) = one-times (opposite q) (suc n) ∙ ap (λ z. norm (pair q.datum z ∷ [])) (neg-mul q.power n)

pub one-norm : (d : ℕ) (z : ℤ) → is_zero z ≡ false → norm (pair d z ∷ []) ≡ pair d z ∷ []
one-norm d z h = rw h refl

pub none-norm : (d : ℕ) (z : ℤ) → z ≡ pos 0 → norm (pair d z ∷ []) ≡ []
none-norm d z h = rw h refl

-- ---- the size of a product of two numbers
pub size-product : (a b : ℤ) (m n : ℕ) → nat_abs a ≤ m → nat_abs b ≤ n → nat_abs (a *ℤ b) ≤ m * n
size-product (pos a) (pos b) m n h k = subst (λ z. nat_abs z ≤ m * n) (sym (pos-*ℤ-pos a b)) (mul-le-mul h k)
size-product (pos a) (negsuc b) m n h k =
    subst (λ z. nat_abs z ≤ m * n) (sym (pos-*ℤ-negsuc a b))
    (subst (λ i. i ≤ m * n) (sym (nat_abs-neg (pos (a * suc b)))) (mul-le-mul h k))
size-product (negsuc a) (pos b) m n h k =
    subst (λ z. nat_abs z ≤ m * n) (sym (negsuc-*ℤ-pos a b))
    (subst (λ i. i ≤ m * n) (sym (nat_abs-neg (pos (suc a * b)))) (mul-le-mul h k))
size-product (negsuc a) (negsuc b) m n h k =
    subst (λ z. nat_abs z ≤ m * n) (sym (negsuc-*ℤ-negsuc a b)) (mul-le-mul h k)

pub product-fits : (z : ℤ) → nat_abs z ≤ 2 ^ 103 → FitsSigned w128 z
product-fits z h = fits-wide z (omega arith)

pub product-read : (a b : ℤ) → nat_abs a ≤ 2 ^ 40 → nat_abs b ≤ 2 ^ 63 → FitsSigned w64 b →
    to_z w128 (of_z w128 (to_z w64 (of_z w64 a))) *ℤ to_z w128 (of_z w128 (to_z w64 (of_z w64 b))) ≡ a *ℤ b
product-read a b h k f =
    let fa : FitsSigned w64 a = fits-small a h in
    let wa : FitsSigned w128 a = fits-wide a (omega arith) in
    let wb : FitsSigned w128 b = fits-wide b (omega arith) in
    rw (to_z-of_z w64 a fa, to_z-of_z w64 b f, to_z-of_z w128 a wa, to_z-of_z w128 b wb) refl

pub both-read : (a b : ℤ) → nat_abs a ≤ 2 ^ 40 → FitsSigned w64 b →
    to_z w64 (of_z w64 a) *ℤ to_z w64 (of_z w64 b) ≡ a *ℤ b
both-read a b h f =
    let fa : FitsSigned w64 a = fits-small a h in
    rw (to_z-of_z w64 a fa, to_z-of_z w64 b f) refl

-- ---- the power of one pair as the code tests and keeps it
module _ (q : Pair) (p z : ℤ) (size : ℕ) (is : z ≡ q.power *ℤ p) (fits : nat_abs z ≤ 2 ^ 103)
    (sized : size ≡ nat_abs (to_z w128 (of_z w128 z))) where
  the_power : power (q ∷ []) p ≡ norm (pair q.datum z ∷ [])
  the_power = one-power q p ∙ ap (λ x. norm (pair q.datum x ∷ [])) (sym is)

  the_size : size ≡ nat_abs z
  the_size = sized ∙ wide-size z (omega arith)

  not_none : most_power < nat_abs z → is_zero z ≡ false
  not_none h = big-not_zero z h
    where
      big-not_zero : (z : ℤ) → most_power < nat_abs z → is_zero z ≡ false
      big-not_zero (pos zero) h = absurd (omega (arith, h))
      big-not_zero (pos (suc n)) h = refl
      big-not_zero (negsuc n) h = refl

  pub one-fault : most_power < size → fault_of (power (q ∷ []) p) ≡ Some (Power size)
  one-fault big =
      let big' : most_power < nat_abs z = subst (λ n. most_power < n) the_size big in
      ap fault_of (the_power ∙ one-norm q.datum z (not_none big')) ∙
      fault-power [] [] (pair q.datum z) (omega arith) (All-nil (λ p. nat_abs p.power ≤ most_power)) big' ∙
      ap (λ n. Some (Power n)) (sym the_size)

  pub one-zero : of_z w128 z ≡ 0 → power (q ∷ []) p ≡ []
  one-zero none = the_power ∙ none-norm q.datum z (sym (to_z-of_z w128 z (product-fits z fits)) ∙ ap (to_z w128) none)

  pub one-kept : size ≤ most_power → (of_z w128 z ≡ 0 → ⊥) →
      power (q ∷ []) p ≡ pair q.datum (to_z w64 (of_z w64 (to_z w128 (of_z w128 z)))) ∷ []
  one-kept few some =
      let few' : nat_abs z ≤ 2 ^ 40 = subst (λ n. n ≤ 2 ^ 40) the_size few in
      the_power ∙ one-norm q.datum z (not_zero-bits128 z some) ∙
      ap (λ x. pair q.datum x ∷ []) (sym (narrowed-power z few'))

  pub one-small : size ≤ most_power → (of_z w128 z ≡ 0 → ⊥) → AllSmall (power (q ∷ []) p)
  one-small few some =
      let few' : nat_abs z ≤ most_power = subst (λ n. n ≤ most_power) the_size few in
      subst AllSmall (sym (the_power ∙ one-norm q.datum z (not_zero-bits128 z some)))
      (All-cons (λ p. nat_abs p.power ≤ most_power) (pair q.datum z) [] few'
      (All-nil (λ p. nat_abs p.power ≤ most_power)))

  pub one-held : (items : List Pair) → size ≤ most_power → (of_z w128 z ≡ 0 → ⊥) →
      items ≡ pair q.datum (to_z w64 (of_z w64 (to_z w128 (of_z w128 z)))) ∷ [] → IsHeldWord items
  one-held items few some e =
      let same : items ≡ power (q ∷ []) p = e ∙ sym (one-kept few some) in
      subst IsHeldWord (sym same) (record {
        is_word = power-word (q ∷ []) p;
        few = rw (one-kept few some) (omega arith);
        small = one-small few some;
      })

  pub one-within : size ≤ most_power → (of_z w128 z ≡ 0 → ⊥) → fault_of (power (q ∷ []) p) ≡ None
  one-within few some = fault-none (power (q ∷ []) p) (rw (one-kept few some) (omega arith)) (one-small few some)

-- ---- the empty word
pub none-times : (n : ℕ) → times [] n ≡ []
none-times zero = refl
none-times (suc n) = ap norm (none-times n)

pub none-power : (p : ℤ) → power [] p ≡ []
none-power (pos n) = none-times n
none-power (negsuc n) = none-times (suc n)

pub empty-power : (w : List Pair) (p : ℤ) → length w ≡ 0 → power w p ≡ []
empty-power [] p e = none-power p
empty-power (q ∷ w) p e = absurd (omega (arith, e))

pub empty-fault : (w : List Pair) (p : ℤ) → length w ≡ 0 → fault_of_power w p ≡ None
empty-fault [] p e = ap fault_of (none-power p)
empty-fault (q ∷ w) p e = absurd (omega (arith, e))

-- ---- the first product that is no word decides
times-stops : (f : List Pair) (k n : ℕ) (x : WordFault) → fault_of_times f k ≡ None →
    fault_of (times f (suc k)) ≡ Some x → k < n → fault_of_times f n ≡ Some x
times-stops f k zero x none due lt = absurd (omega (arith, lt))
times-stops f k (suc m) x none due lt =
    by_test (nat_lt k m)
    (λ e. ap (λ o. option_or o (fault_of (times f (suc m)))) (times-stops f k m x none due (ltb-true k m e)))
    (λ e. let le = ltb-false k m e in
    let same : k ≡ m = omega (arith, le, lt) in
    subst (λ i. fault_of_times f (suc i) ≡ Some x) same (ap (λ o. option_or o (fault_of (times f (suc k)))) none ∙ due))

pub times-due : (f : List Pair) (k n : ℕ) (x : WordFault) → fault_of_times f k ≡ None →
    IsDueFault (fault_of (times f (suc k))) x → k < n → IsDueFault (fault_of_times f n) x
times-due f k n (Pairs i) none due lt = times-stops f k n (Pairs i) none due lt
times-due f k n (Power i) none due lt = times-stops f k n (Power i) none due lt
times-due f k n NoMemory none due lt = tt

pub times-more : (f : List Pair) (k : ℕ) → fault_of_times f k ≡ None → fault_of (times f (suc k)) ≡ None →
    fault_of_times f (suc k) ≡ None
times-more f k none more = ap (λ o. option_or o (fault_of (times f (suc k)))) none ∙ more
