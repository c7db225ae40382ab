-- The section `Locations`: how an entry is spelled, which entries are sound, and how tokens are read as an entry.
use Rattle.std.specs.Prelude.{◌<◌, ◌-◌, ◌^◌, ◌==◌, ◌||◌, nat_abs, min, ℕ, ℤ, if◌then◌else◌, List, [], ◌∷◌, ◌++◌, length}
use Rattle.std.specs.Prelude.{Option, Some, None, Ok, Err}
use Rattle.std.specs.List.{AllByRecursion, flat_map}
use Rattle.std.specs.Fmt.{decimal, signed_decimal}
use Rattle.brep_tokens.specs.Forms.{power_of}
use Rattle.brep_tokens.specs.declared.text.Token.{Token}
use Rattle.brep_tokens.specs.declared.fault.ReadFault.{ReadFault}
use Rattle.brep_tokens.specs.declared.fault.ReadCode.TheVariants as codes
use Rattle.entry_readers.specs.Begins.{AreDecimals}
use Rattle.lists.specs.Results.{◌>>=◌}
use Rattle.entry_readers.specs.Reading.{Read, more, fault, at_token, spelled, number_at, ranged_at, decimals_at}
use Rattle.location_words.specs.declared.pair.Pair.{Pair}
use Rattle.location_table.specs.declared.entry.Factor.{Factor}
use Rattle.location_table.specs.declared.entry.LocationEntry.{LocationEntry}
use Rattle.location_table.specs.declared.entry.LocationEntry.TheVariants.{Datum, Product}
use Rattle.location_table.specs.Words.{at_place, word_of_factors, words_of}
use Rattle.location_table.specs.Limits.{Passed, passed, AreWithin}

-- ---- spelling

abbrev pub factor : ℕ → ℤ → Factor
factor place power = record { place = place; power = power }

abbrev pub spell_factor : Factor → List (List ℕ)
spell_factor f = decimal f.place ∷ signed_decimal f.power ∷ []

-- a datum is `1` and its decimals, a product `2`, each place with its power, and `0`
abbrev pub spell_location : LocationEntry → List (List ℕ)
spell_location (Datum texts) = decimal 1 ∷ texts
spell_location (Product factors) = decimal 2 ∷ (flat_map spell_factor factors ++ decimal 0 ∷ [])

-- ---- sound entries

-- its numbers have at most 18 digits
abbrev pub HasForm : Factor → Type 0
HasForm f = (f.place < 10 ^ 18) × (nat_abs f.power < 10 ^ 18)

-- after these entries: a datum has twelve decimals; a product has powers of earlier places, within the limits after
-- each factor
abbrev pub IsSoundLocation : List LocationEntry → LocationEntry → Type 0
IsSoundLocation before (Datum texts) = AreDecimals 12 texts
IsSoundLocation before (Product factors) = AreWithin (length before) (words_of before) [] factors
    × AllByRecursion HasForm factors

abbrev pub AreSoundAfter : List LocationEntry → List LocationEntry → Type 0
AreSoundAfter before [] = Unit {0}
AreSoundAfter before (e ∷ entries) = IsSoundLocation before e × AreSoundAfter (before ++ e ∷ []) entries

-- each entry is sound after those before it
abbrev pub AreSoundLocations : List LocationEntry → Type 0
AreSoundLocations entries = AreSoundAfter [] entries

-- ---- reading

-- `1` for a datum or `2` for a product
abbrev pub code_at : List Token → Read ℕ
code_at [] = Err more
code_at (t ∷ ts) = number_at (t ∷ ts) >>= λ n. if (n.0 == 1) || (n.0 == 2) then Ok n
    else Err (fault (at_token codes.UnknownCode n.0 0 t))

-- a power of at most 18 digits
abbrev pub signed_at : List Token → Read ℤ
signed_at [] = Err more
signed_at (t ∷ ts) = spelled codes.NumberExpected t ts (power_of t.text)

-- the limit that a token passes; a value past the last number of 64 bits is given as that one
abbrev pub limit_fault : Token → Passed → ReadFault
limit_fault t l = at_token codes.WordLimit (min l.value (2 ^ 64 - 1)) l.limit t

abbrev pub unless_passed : Token → ℤ × List Token → Option Passed → Read ℤ
unless_passed t p None = Ok p
unless_passed t p (Some l) = Err (fault (limit_fault t l))

-- the power of a factor: of the word `v`, where the word so far is `w`
abbrev pub power_at : List Pair → List Pair → List Token → Read ℤ
power_at w v [] = Err more
power_at w v (t ∷ ts) = signed_at (t ∷ ts) >>= λ p. unless_passed t p (passed w v p.0)

-- places with their powers up to a place 0, after these factors, where so many entries stand before, with these words
abbrev mutual
  pub factors_from : ℕ → List (List Pair) → List Factor → List Token → Read (List Factor)
  factors_from count words factors [] = Err more
  factors_from count words factors (t ∷ ts) =
      ranged_at 0 count (t ∷ ts) >>= λ place. if place.0 == 0 then Ok (factors, ts)
      else power_from count words factors place.0 ts

  pub power_from : ℕ → List (List Pair) → List Factor → ℕ → List Token → Read (List Factor)
  power_from count words factors place [] = Err more
  power_from count words factors place (t ∷ ts) =
      power_at (word_of_factors words factors) (at_place words place) (t ∷ ts) >>= λ p. factors_from count words
      (factors ++ factor place p.0 ∷ []) ts

abbrev pub datum_at : List Token → Read LocationEntry
datum_at ts = decimals_at 12 ts >>= λ d. Ok (Datum d.0, d.1)

abbrev pub product_at : List LocationEntry → List Token → Read LocationEntry
product_at before ts = factors_from (length before) (words_of before) [] ts >>= λ f. Ok (Product f.0, f.1)

-- an entry, after these
abbrev pub location_at : List LocationEntry → List Token → Read LocationEntry
location_at before ts = code_at ts >>= λ code. if code.0 == 1 then datum_at code.1 else product_at before code.1
