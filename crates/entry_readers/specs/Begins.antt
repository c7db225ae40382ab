-- Tokens that begin with given texts, and readers that read exactly what is spelled.
use Rattle.std.specs.Prelude.{ℕ, ◌≡◌, ◌<◌, ◌≤◌, ◌^◌, true, List, [], ◌∷◌, ◌++◌, length, map, Ok}
use Rattle.std.specs.List.{AllByRecursion}
use Rattle.std.specs.Fmt.{decimal}
use Rattle.brep_tokens.specs.Forms.{is_decimal, flag_text}
use Rattle.brep_tokens.specs.declared.text.Token.{Token}
use Rattle.entry_readers.specs.Reading.{Read, Knots, decimal_at, decimals_at, flag_at, knots_at, number_at, numbers_at}
use Rattle.entry_readers.specs.Reading.{ranged_at, word_at}

-- the tokens have these texts, and then others are left
abbrev pub Begins : List Token → List (List ℕ) → List Token → Type 0
Begins ts [] rest = ts ≡ rest
Begins [] (x ∷ xs) rest = ⊥
Begins (t ∷ ts) (x ∷ xs) rest = (t.text ≡ x) × Begins ts xs rest

-- What is read is spelled so and fits; what is spelled so and fits is read.
pub record IsExact {A : Type 0} (read : List Token → Read A) (spelling : A → List (List ℕ)) (Fits : A
    → Type 0) : Type 0 where
  pub takes : (ts rest : List Token) (x : A) → read ts ≡ Ok (x, rest) → Begins ts (spelling x) rest × Fits x
  pub again : (ts rest : List Token) (x : A) → Begins ts (spelling x) rest → Fits x → read ts ≡ Ok (x, rest)

abbrev pub IsDecimal : List ℕ → Type 0
IsDecimal text = is_decimal text ≡ true

abbrev pub AreDecimals : ℕ → List (List ℕ) → Type 0
AreDecimals n texts = (length texts ≡ n) × AllByRecursion IsDecimal texts

-- a number has at most 18 digits
abbrev pub IsSmall : ℕ → Type 0
IsSmall n = n < 10 ^ 18

pub record IsRanged (low high n : ℕ) : Type 0 where
  pub small : IsSmall n
  pub from : low ≤ n
  pub to : n ≤ high

abbrev pub AreRanged : ℕ → ℕ → ℕ → List ℕ → Type 0
AreRanged low high n numbers = (length numbers ≡ n) × AllByRecursion (IsRanged low high) numbers

-- each text with its number
abbrev pub zipped : List (List ℕ) → List ℕ → List (List ℕ)
zipped [] ns = []
zipped (x ∷ xs) [] = []
zipped (x ∷ xs) (n ∷ ns) = x ∷ decimal n ∷ zipped xs ns

abbrev pub spell_numbers : List ℕ → List (List ℕ)
spell_numbers numbers = map decimal numbers

abbrev pub spell_knots : Knots → List (List ℕ)
spell_knots k = zipped k.texts k.counts

pub record AreKnots (n : ℕ) (k : Knots) : Type 0 where
  pub texts : AreDecimals n k.texts
  pub counts : (length k.counts ≡ n) × AllByRecursion IsSmall k.counts

-- Each field, and repeated ones; and tokens begin with joined texts exactly where they begin with the one, and what is
-- left with the other.
pub record FieldsAreExact : Type 0 where
  pub joined : (ts : List Token) (xs : List (List ℕ)) (mid : List Token) (ys : List (List ℕ)) (rest : List Token)
      → Begins ts xs mid → Begins mid ys rest → Begins ts (xs ++ ys) rest
  pub split : (ts : List Token) (xs ys : List (List ℕ)) (rest : List Token) → Begins ts (xs ++ ys) rest
      → (mid : List Token) × Begins ts xs mid × Begins mid ys rest
  pub word : (text : List ℕ) → IsExact (word_at text) (λ _. text ∷ []) (λ _. Unit {0})
  pub texts : IsExact decimal_at (λ x. x ∷ []) IsDecimal
  pub number : IsExact number_at (λ n. decimal n ∷ []) IsSmall
  pub flag : IsExact flag_at (λ b. flag_text b ∷ []) (λ _. Unit {0})
  pub ranged : (low high : ℕ) → IsExact (ranged_at low high) (λ n. decimal n ∷ []) (IsRanged low high)
  pub decimals : (n : ℕ) → IsExact (decimals_at n) (λ xs. xs) (AreDecimals n)
  pub numbers : (low high n : ℕ) → IsExact (numbers_at low high n) spell_numbers (AreRanged low high n)
  pub knots : (n : ℕ) → IsExact (knots_at n) spell_knots (AreKnots n)
