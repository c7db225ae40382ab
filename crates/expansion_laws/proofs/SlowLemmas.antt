-- Tests in a row: what they come to, part by part.
use Rattle.std.proofs.Common.{◌≡◌, ◌≤◌, refl, sym, ◌∙◌, ap, subst, arith}
use Rattle.std.proofs.lemmas.List.{map-append}
use Rattle.std.specs.Prelude.{ℕ, zero, suc, Option, None, Some, Result, Ok, Err, List, [], ◌∷◌, ◌++◌, map}
use Rattle.location_words.specs.declared.pair.Pair.{Pair}
use Rattle.location_words.specs.declared.fault.WordFault.{WordFault}
use Rattle.location_words.specs.Faults.{fault_of}
use Rattle.expansion_laws.specs.declared.fault.ExpandFault.{ExpandFault}
use Rattle.expansion_laws.specs.declared.fault.ExpandFault.TheVariants.{TooBig, Word, NoMemory}
use Rattle.expansion_laws.specs.SlowRewriting.{Test, a_visit, of_word, outcome, unless, IsDueOutcome}
use Rattle.expansion_laws.specs.SlowParts.{IsDueWord, Pass, Fail}

-- ---- tests in a row
unless-ok : (o : Option WordFault) (r : Result ℕ ExpandFault) (mid : ℕ) → unless o r ≡ Ok mid → r ≡ Ok mid
unless-ok None r mid e = e
unless-ok (Some f) r mid e = absurd cc

unless-none : (o : Option WordFault) (r r' : Result ℕ ExpandFault) (mid : ℕ) → unless o r ≡ Ok mid → unless o r' ≡ r'
unless-none None r r' mid e = refl
unless-none (Some f) r r' mid e = absurd cc

-- where the first tests leave so many visits, the others go on from there
pub outcome-append : (xs ys : List Test) (left mid : ℕ) → outcome xs left ≡ Ok mid →
    outcome (xs ++ ys) left ≡ outcome ys mid
outcome-append [] ys left mid e = let same : left ≡ mid = cc in ap (outcome ys) same
outcome-append (a_visit ∷ xs) ys zero mid e = absurd cc
outcome-append (a_visit ∷ xs) ys (suc left) mid e = outcome-append xs ys left mid e
outcome-append (of_word w ∷ xs) ys left mid e =
    unless-none (fault_of w) (outcome xs left) (outcome (xs ++ ys) left) mid e
    ∙ outcome-append xs ys left mid (unless-ok (fault_of w) (outcome xs left) mid e)

unless-err : (o : Option WordFault) (r r' : Result ℕ ExpandFault) (f : ExpandFault) → (r ≡ Err f → r' ≡ Err f) →
    unless o r ≡ Err f → unless o r' ≡ Err f
unless-err None r r' f h e = h e
unless-err (Some g) r r' f h e = e

outcome-err : (xs ys : List Test) (left : ℕ) (f : ExpandFault) → outcome xs left ≡ Err f →
    outcome (xs ++ ys) left ≡ Err f
outcome-err [] ys left f e = absurd cc
outcome-err (a_visit ∷ xs) ys zero f e = e
outcome-err (a_visit ∷ xs) ys (suc left) f e = outcome-err xs ys left f e
outcome-err (of_word w ∷ xs) ys left f e =
    unless-err (fault_of w) (outcome xs left) (outcome (xs ++ ys) left) f (outcome-err xs ys left f) e

-- a fault of the first tests is one of all
pub outcome-refused : (xs ys : List Test) (left : ℕ) (f : ExpandFault) → IsDueOutcome (outcome xs left) f →
    IsDueOutcome (outcome (xs ++ ys) left) f
outcome-refused xs ys left TooBig e = outcome-err xs ys left TooBig e
outcome-refused xs ys left (Word g) e = outcome-err xs ys left (Word g) e
outcome-refused xs ys left NoMemory e = tt

pub outcome-less : (xs : List Test) (left rest : ℕ) → outcome xs left ≡ Ok rest → rest ≤ left
outcome-less [] left rest e = let same : left ≡ rest = cc in omega (arith, same)
outcome-less (a_visit ∷ xs) zero rest e = absurd cc
outcome-less (a_visit ∷ xs) (suc left) rest e = let h = outcome-less xs left rest e in omega (arith, h)
outcome-less (of_word w ∷ xs) left rest e = outcome-less xs left rest (unless-ok (fault_of w) (outcome xs left) rest e)

-- ---- a word
pub due-word : (w : List Pair) (tests : List Test) (left : ℕ) (f : ExpandFault) → IsDueWord (fault_of w) f →
    IsDueOutcome (outcome (of_word w ∷ tests) left) f
due-word w tests left TooBig h = absurd h
due-word w tests left (Word g) h = ap (λ o. unless o (outcome tests left)) h
due-word w tests left NoMemory h = tt

pub passed-word : (w : List Pair) (tests : List Test) (left : ℕ) → fault_of w ≡ None →
    outcome (of_word w ∷ tests) left ≡ outcome tests left
passed-word w tests left h = ap (λ o. unless o (outcome tests left)) h

-- ---- words in a row
pub Pass-none : Pass []
Pass-none = record { stays = λ left. refl }

pub Pass-push : (ws : List (List Pair)) (w : List Pair) → Pass ws → fault_of w ≡ None → Pass (ws ++ w ∷ [])
Pass-push ws w h e = record {
  stays = λ left.
      ap (λ ts. outcome ts left) (map-append of_word ws (w ∷ []))
      ∙ outcome-append (map of_word ws) (of_word w ∷ []) left left (h.stays left)
      ∙ passed-word w [] left e;
}

pub Fail-at : (ws : List (List Pair)) (w : List Pair) (rest : List (List Pair)) (f : ExpandFault) → Pass ws →
    IsDueWord (fault_of w) f → Fail (ws ++ w ∷ rest) f
Fail-at ws w rest f h e = record {
  due = λ left.
      subst (λ r. IsDueOutcome r f)
      (sym (ap (λ ts. outcome ts left) (map-append of_word ws (w ∷ rest)) ∙
      outcome-append (map of_word ws) (map of_word (w ∷ rest)) left left (h.stays left)))
      (due-word w (map of_word rest) left f e);
}
