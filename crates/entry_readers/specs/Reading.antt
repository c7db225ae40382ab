-- Reading the tokens at the front of a list: a value and the tokens after it, or why there is none.
use Rattle.std.specs.Prelude.{ℕ, zero, suc, ◌&&◌, nat_le, nat_eq, Bool, if◌then◌else◌, List, [], ◌∷◌, ◌++◌, Option}
use Rattle.std.specs.Prelude.{Some, None, Result, Ok, Err}
use Rattle.std.specs.Cmp.Lexicographic.{pointwise}
use Rattle.lists.specs.Results.{◌>>=◌}
use Rattle.brep_tokens.specs.Forms.{is_decimal, number_of, flag_of}
use Rattle.brep_tokens.specs.declared.text.Token.{Token}
use Rattle.brep_tokens.specs.declared.fault.ReadFault.{ReadFault}
use Rattle.brep_tokens.specs.declared.fault.ReadCode.{ReadCode}
use Rattle.brep_tokens.specs.declared.fault.ReadCode.TheVariants as codes

-- the tokens are accepted and more are due; or the first that isn't accepted has this fault
pub data Refusal : Type 0 where
  more : Refusal
  fault : ReadFault → Refusal

-- what is read at the front, and the tokens after it
abbrev pub Read : Type 0 → Type 0
Read A = Result (A × List Token) Refusal

abbrev pub at_token : ReadCode → ℕ → ℕ → Token → ReadFault
at_token code value limit t = record { code = code; offset = t.offset; value = value; limit = limit }

abbrev pub refused : ReadCode → Token → Refusal
refused code t = fault (at_token code 0 0 t)

-- ---- one token

-- a given word
abbrev pub word_at : List ℕ → List Token → Read (Unit {0})
word_at word [] = Err more
word_at word (t ∷ ts) = if pointwise nat_eq t.text word then Ok (tt, ts) else Err (refused codes.WordExpected t)

-- a decimal, kept as it is spelled
abbrev pub decimal_at : List Token → Read (List ℕ)
decimal_at [] = Err more
decimal_at (t ∷ ts) = if is_decimal t.text then Ok (t.text, ts) else Err (refused codes.DecimalExpected t)

-- a value that the token's text has, or a fault of this code
abbrev pub spelled : {A : Type 0} → ReadCode → Token → List Token → Option A → Read A
spelled code t ts (Some x) = Ok (x, ts)
spelled code t ts None = Err (refused code t)

-- a number of at most 18 digits
abbrev pub number_at : List Token → Read ℕ
number_at [] = Err more
number_at (t ∷ ts) = spelled codes.NumberExpected t ts (number_of t.text)

-- `0` or `1`
abbrev pub flag_at : List Token → Read Bool
flag_at [] = Err more
flag_at (t ∷ ts) = spelled codes.FlagExpected t ts (flag_of t.text)

-- the number of this token, where it is from `low` to `high`
abbrev pub in_range : ℕ → ℕ → Token → ℕ × List Token → Read ℕ
in_range low high t n = if nat_le low n.0 && nat_le n.0 high then Ok n
    else Err (fault (at_token codes.IndexOutOfRange n.0 high t))

-- a number from `low` to `high`: that of an entry, a node or a record
abbrev pub ranged_at : ℕ → ℕ → List Token → Read ℕ
ranged_at low high [] = Err more
ranged_at low high (t ∷ ts) = number_at (t ∷ ts) >>= in_range low high t

-- ---- so many, after those that were read

abbrev pub decimals_from : List (List ℕ) → ℕ → List Token → Read (List (List ℕ))
decimals_from texts zero ts = Ok (texts, ts)
decimals_from texts (suc n) ts = decimal_at ts >>= λ d. decimals_from (texts ++ d.0 ∷ []) n d.1

abbrev pub decimals_at : ℕ → List Token → Read (List (List ℕ))
decimals_at n ts = decimals_from [] n ts

abbrev pub numbers_from : ℕ → ℕ → List ℕ → ℕ → List Token → Read (List ℕ)
numbers_from low high numbers zero ts = Ok (numbers, ts)
numbers_from low high numbers (suc n) ts = ranged_at low high ts
    >>= λ d. numbers_from low high (numbers ++ d.0 ∷ []) n d.1

abbrev pub numbers_at : ℕ → ℕ → ℕ → List Token → Read (List ℕ)
numbers_at low high n ts = numbers_from low high [] n ts

-- decimals, each with a number after it: the knots of a B-spline with their multiplicities
pub record Knots : Type 0 where
  pub texts : List (List ℕ)
  pub counts : List ℕ

abbrev pub with_knot : Knots → List ℕ → ℕ → Knots
with_knot k text count = record { texts = k.texts ++ text ∷ []; counts = k.counts ++ count ∷ [] }

abbrev pub knots_from : Knots → ℕ → List Token → Read Knots
knots_from k zero ts = Ok (k, ts)
knots_from k (suc n) ts = decimal_at ts >>= λ d. number_at d.1 >>= λ c. knots_from (with_knot k d.0 c.0) n c.1

abbrev pub knots_at : ℕ → List Token → Read Knots
knots_at n ts = knots_from (record { texts = []; counts = [] }) n ts
