-- The laws of words.
use Rattle.std.specs.Prelude.{◌≡◌, ◌<◌, ◌≤◌, ◌↔◌, length, IsTrue, ℕ, ℤ, pos, ◌+ℤ◌, ◌*ℤ◌, List, [], ◌∷◌, ◌++◌, None}
use Rattle.location_words.specs.declared.pair.Pair.{Pair}
use Rattle.location_words.specs.Pairs.{pair, norm, mul, inverse, power, pairs_eq, most_pairs, AllSmall, IsWord}
use Rattle.location_words.specs.Faults.{fault_of}
use Rattle.location_words.specs.Products.{product}

-- one of the two ways in which a list of pairs becomes shorter: neighbours of one datum are added, or a power of 0 goes
pub data Shortens : List Pair → List Pair → Type 0 where
  adds : (before behind : List Pair) (d : ℕ) (p q : ℤ) →
      Shortens (before ++ (pair d p ∷ pair d q ∷ behind)) (before ++ (pair d (p +ℤ q) ∷ behind))
  drops : (before behind : List Pair) (d : ℕ) → Shortens (before ++ (pair d (pos 0) ∷ behind)) (before ++ behind)

-- a chain of such steps
pub data Chain : List Pair → List Pair → Type 0 where
  stays : {l : List Pair} → Chain l l
  goes : {l n : List Pair} (m : List Pair) → Shortens l m → Chain m n → Chain l n

-- no step is left
abbrev pub IsEnd : List Pair → Type 0
IsEnd l = (m : List Pair) → Shortens l m → ⊥

-- reduction: each step makes the list shorter, so every chain comes to an end; norm is reached by a chain, and every
-- chain that is at an end has come to norm. The words are the lists at which no step is left
pub record ReductionEnds : Type 0 where
  pub steps_shorten : (l m : List Pair) → Shortens l m → length m < length l
  pub norm_is_reached : (l : List Pair) → Chain l (norm l)
  pub norm_is_an_end : (l : List Pair) → IsEnd (norm l)
  pub end_of_chains : (l m : List Pair) → Chain l m → IsEnd m → m ≡ norm l
  pub words_are_ends : (l : List Pair) → IsWord l ↔ IsEnd l

-- words are a group: the product is associative, the empty word is its identity, and the inverse gives inverses on both
-- sides
pub record WordsAreAGroup : Type 0 where
  pub associative : (a b c : List Pair) → mul a (mul b c) ≡ mul (mul a b) c
  pub identity_inner : (w : List Pair) → IsWord w → mul w [] ≡ w
  pub identity_outer : (w : List Pair) → IsWord w → mul [] w ≡ w
  pub inverse_inner : (w : List Pair) → mul w (inverse w) ≡ []
  pub inverse_outer : (w : List Pair) → mul (inverse w) w ≡ []
  pub inverse_product : (a b : List Pair) → inverse (mul a b) ≡ mul (inverse b) (inverse a)
  pub product_is_word : (a b : List Pair) → IsWord (mul a b)
  pub inverse_is_word : (w : List Pair) → IsWord w → IsWord (inverse w)
  pub power_is_word : (w : List Pair) (p : ℤ) → IsWord (power w p)

-- the product of several words is a word, and that of two lists of words is the product of their products
pub record ProductsJoin : Type 0 where
  pub several_is_word : (ws : List (List Pair)) → IsWord (product ws)
  pub several_of_two : (xs ys : List (List Pair)) → product (xs ++ ys) ≡ mul (product xs) (product ys)

-- words pair by pair: what a word begins with is a word, and a power of one pair multiplies the power of that pair
pub record PairsMakeWords : Type 0 where
  pub beginning_is_word : (xs ys : List Pair) → IsWord (xs ++ ys) → IsWord xs
  pub power_of_pair : (q : Pair) (p : ℤ) → power (q ∷ []) p ≡ norm (pair q.datum (q.power *ℤ p) ∷ [])

-- a list has no fault exactly where it is within the limits
abbrev pub LimitsTell : Type 0
LimitsTell = (l : List Pair) → (fault_of l ≡ None) ↔ ((length l ≤ most_pairs) × AllSmall l)

-- the test of two lists of pairs tells equality
abbrev pub TestTells : Type 0
TestTells = (a b : List Pair) → IsTrue (pairs_eq a b) ↔ (a ≡ b)
