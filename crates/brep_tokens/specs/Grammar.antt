-- Decimals, as their grammar has them: perhaps `-`, a mantissa, perhaps an exponent.
use Rattle.std.specs.Prelude.{◌≡◌, ◌⊎◌, ℕ, ◌<◌, true, List, [], ◌∷◌, ◌++◌, length}
use Rattle.std.specs.List.{list_all}
use Rattle.brep_tokens.specs.Bytes.{is_digit}

-- perhaps digits
abbrev pub MayBeDigits : List ℕ → Type 0
MayBeDigits text = list_all is_digit text ≡ true

-- one digit or more
abbrev pub AreDigits : List ℕ → Type 0
AreDigits text = (0 < length text) × MayBeDigits text

-- nothing or `-`
abbrev pub MayBeMinus : List ℕ → Type 0
MayBeMinus text = (text ≡ []) ⊎ (text ≡ 45 ∷ [])

-- nothing, `+` or `-`
abbrev pub MayBeSign : List ℕ → Type 0
MayBeSign text = (text ≡ 43 ∷ []) ⊎ MayBeMinus text

-- `e` or `E`
abbrev pub IsMark : List ℕ → Type 0
IsMark text = (text ≡ 101 ∷ []) ⊎ (text ≡ 69 ∷ [])

-- digits; or digits, `.` and perhaps digits; or `.` and digits
abbrev pub IsMantissa : List ℕ → Type 0
IsMantissa text =
    AreDigits text
    ⊎ (((before after : List ℕ) × AreDigits before × MayBeDigits after × (text ≡ before ++ 46 ∷ after))
    ⊎ ((after : List ℕ) × AreDigits after × (text ≡ 46 ∷ after)))

-- nothing; or `e` or `E`, perhaps a sign, and digits
abbrev pub MayBeExponent : List ℕ → Type 0
MayBeExponent text = (text ≡ []) ⊎ ((mark sign digits : List ℕ) × IsMark mark × MayBeSign sign × AreDigits digits
    × (text ≡ mark ++ (sign ++ digits)))

-- perhaps `-`, a mantissa, perhaps an exponent
pub record IsDecimalByGrammar (text : List ℕ) : Type 0 where
  pub minus : List ℕ
  pub mantissa : List ℕ
  pub exponent : List ℕ
  pub is_minus : MayBeMinus minus
  pub is_mantissa : IsMantissa mantissa
  pub is_exponent : MayBeExponent exponent
  pub spelled : text ≡ minus ++ (mantissa ++ exponent)
