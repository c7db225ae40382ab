-- The fault that is due, where all powers are within the limit, and where one is not.
use Rattle.std.proofs.Common.{◌≡◌, ◌<◌, ◌≤◌, ℕ, length, refl, ap, ◌∙◌, List, [], ◌∷◌, ◌++◌}
use Rattle.std.proofs.Common.{Option, Some, None, ◌+◌, sym, Bool, true, false, if◌then◌else◌}
use Rattle.std.specs.Prelude.{nat_abs, nat_lt}
use Rattle.std.specs.Option.{option_map, option_or}
use Rattle.std.proofs.lemmas.Bool.{le-ltb, lt-ltb, ltb-false}
use Rattle.std.proofs.lemmas.List.{length-append}
use Rattle.std.proofs.lemmas.Option.{none-some}
use Rattle.std.proofs.lemmas.List.Elements.{All-head, All-tail, All-nil, All-cons}
use Rattle.location_words.specs.declared.pair.Pair.{Pair}
use Rattle.location_words.specs.declared.fault.WordFault.TheVariants.{Pairs, Power, NoMemory}
use Rattle.location_words.specs.Pairs.{most_pairs, most_power, AllSmall}
use Rattle.lists.proofs.Cases.{by_test}
use Rattle.location_words.specs.declared.fault.WordFault.{WordFault}
use Rattle.location_words.specs.Faults.{large_power, fault_of, IsDueFault}
use Rattle.location_words.specs.Laws.{LimitsTell}

pub large-none : (l : List Pair) → AllSmall l → large_power l ≡ None
large-none [] h = refl
large-none (p ∷ l) h =
    rw (le-ltb most_power (nat_abs p.power) (All-head (λ p. nat_abs p.power ≤ most_power) p l h))
    (large-none l (All-tail (λ p. nat_abs p.power ≤ most_power) p l h))

pub large-append : (xs ys : List Pair) (q : Pair) → AllSmall xs → most_power < nat_abs q.power →
    large_power (xs ++ q ∷ ys) ≡ Some (nat_abs q.power)
large-append [] ys q h lt = rw (lt-ltb most_power (nat_abs q.power) lt) refl
large-append (p ∷ xs) ys q h lt =
    rw (le-ltb most_power (nat_abs p.power) (All-head (λ p. nat_abs p.power ≤ most_power) p xs h))
    (large-append xs ys q (All-tail (λ p. nat_abs p.power ≤ most_power) p xs h) lt)

pub fault-many : (l : List Pair) → most_pairs < length l → fault_of l ≡ Some (Pairs (length l))
fault-many l lt = rw (lt-ltb most_pairs (length l) lt) refl

pub fault-none : (l : List Pair) → length l ≤ most_pairs → AllSmall l → fault_of l ≡ None
fault-none l few h = rw (le-ltb most_pairs (length l) few) (ap (option_map Power) (large-none l h))

pub fault-power : (xs ys : List Pair) (q : Pair) → length (xs ++ q ∷ ys) ≤ most_pairs → AllSmall xs →
    most_power < nat_abs q.power → fault_of (xs ++ q ∷ ys) ≡ Some (Power (nat_abs q.power))
fault-power xs ys q few h lt =
    rw (le-ltb most_pairs (length (xs ++ q ∷ ys)) few) (ap (option_map Power) (large-append xs ys q h lt))

-- what no large power says
pub small-none : (l : List Pair) → large_power l ≡ None → AllSmall l
small-none [] h = All-nil (λ p. nat_abs p.power ≤ most_power)
small-none (p ∷ l) h =
    by_test (nat_lt most_power (nat_abs p.power))
    (λ e.
    absurd (none-some (nat_abs p.power) (sym h ∙ ap (λ b. if b then Some (nat_abs p.power) else large_power l) e)))
    (λ e. All-cons (λ p. nat_abs p.power ≤ most_power) p l (ltb-false most_power (nat_abs p.power) e)
    (small-none l (sym (ap (λ b. if b then Some (nat_abs p.power) else large_power l) e) ∙ h)))

pub fault-large : (l : List Pair) (n : ℕ) → length l ≤ most_pairs → large_power l ≡ Some n → fault_of l ≡ Some (Power n)
fault-large l n few e = rw (le-ltb most_pairs (length l) few) (ap (option_map Power) e)

large-both : (xs ys : List Pair) → large_power (xs ++ ys) ≡ option_or (large_power xs) (large_power ys)
large-both [] ys = refl
large-both (p ∷ xs) ys = by_test (nat_lt most_power (nat_abs p.power)) (λ e. rw e refl) (λ e. rw e (large-both xs ys))

or-none : (o : Option ℕ) → option_or o None ≡ o
or-none None = refl
or-none (Some n) = refl

-- of three parts only the middle one can have a large power
pub large-middle : (kept middle rest : List Pair) → AllSmall kept → AllSmall rest →
    large_power (kept ++ middle ++ rest) ≡ large_power middle
large-middle kept middle rest h k =
    large-both (kept ++ middle) rest ∙ (λ j. option_or (large-both kept middle j) (large-none rest k j)) ∙
    or-none (option_or (large_power kept) (large_power middle)) ∙
    ap (λ o. option_or o (large_power middle)) (large-none kept h)

pub length-parts : (kept middle rest : List Pair) →
    length (kept ++ middle ++ rest) ≡ length kept + length middle + length rest
length-parts kept middle rest =
    length-append (kept ++ middle) rest ∙ ap (λ n. n + length rest) (length-append kept middle)

-- ---- no fault exactly where it is within the limits
within_none : (b : Bool) (n : ℕ) (o : Option ℕ) → (if b then Some (Pairs n) else option_map Power o) ≡ None →
    (b ≡ false) × (o ≡ None)
within_none true n o e = absurd cc
within_none false n (Some m) e = absurd cc
within_none false n None e = (refl, refl)

held-of_none : (l : List Pair) → fault_of l ≡ None → (length l ≤ most_pairs) × AllSmall l
held-of_none l e =
    let c = within_none (nat_lt most_pairs (length l)) (length l) (large_power l) e in
    (ltb-false most_pairs (length l) c.0, small-none l c.1)

pub limits_tell : LimitsTell
limits_tell l = (held-of_none l, λ is. fault-none l is.0 is.1)

-- the fault that is due is answered as is due
pub due-fault : (due : Option WordFault) (fault : WordFault) → due ≡ Some fault → IsDueFault due fault
due-fault due (Pairs n) e = e
due-fault due (Power n) e = e
due-fault due NoMemory e = tt
