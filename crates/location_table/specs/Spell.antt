-- What an iterator over the tokens of a location has still to give.
use Rattle.std.specs.Prelude.{ℕ, Bool, if◌then◌else◌, List, [], ◌∷◌, ◌++◌, drop}
use Rattle.std.specs.List.{flat_map}
use Rattle.std.specs.Fmt.{decimal, signed_decimal}
use Rattle.entry_readers.specs.Spelled.{AreShort, texts_left}
use Rattle.location_table.specs.declared.entry.Factor.{Factor}
use Rattle.location_table.specs.declared.entry.LocationEntry.{LocationEntry}
use Rattle.location_table.specs.declared.entry.LocationEntry.TheVariants.{Datum, Product}
use Rattle.location_table.specs.declared.spell.FactorsSpell.{FactorsSpell}
use Rattle.location_table.specs.declared.spell.LocationSpell.{LocationSpell}
use Rattle.location_table.specs.declared.spell.SpellRest.{SpellRest}
use Rattle.location_table.specs.declared.spell.SpellRest.TheVariants as rests
use Rattle.location_table.specs.Locations.{spell_factor}

-- each decimal has at most 128 bytes
abbrev pub CanSpellLocation : LocationEntry → Type 0
CanSpellLocation (Datum texts) = AreShort texts
CanSpellLocation (Product factors) = Unit {0}

-- factors from one on, and `0`
abbrev pub spell_factors : List Factor → List (List ℕ)
spell_factors factors = flat_map spell_factor factors ++ decimal 0 ∷ []

-- the same, where the place of the first factor was given
abbrev pub after_place : List Factor → List (List ℕ)
after_place [] = []
after_place (f ∷ fs) = signed_decimal f.power ∷ spell_factors fs

abbrev pub factors_left : FactorsSpell → List (List ℕ)
factors_left s = if s.ended then [] else (if s.half then after_place (drop s.at s.factors.now)
    else spell_factors (drop s.at s.factors.now))

abbrev pub rest_left : SpellRest → List (List ℕ)
rest_left (rests.Texts s) = texts_left s
rest_left (rests.Factors s) = factors_left s

abbrev pub CanRest : SpellRest → Type 0
CanRest (rests.Texts s) = AreShort (texts_left s)
CanRest (rests.Factors s) = Unit {0}

abbrev pub code_left : Bool → ℕ → List (List ℕ)
code_left begun code = if begun then [] else decimal code ∷ []

abbrev pub tokens_left : LocationSpell → List (List ℕ)
tokens_left s = code_left s.begun s.code ++ rest_left s.rest

abbrev pub CanGive : LocationSpell → Type 0
CanGive s = CanRest s.rest
