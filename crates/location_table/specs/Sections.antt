-- Reading the entries of the section one after another.
use Rattle.std.specs.Prelude.{◌≡◌, ◌-◌, ℕ, zero, suc, ◌==◌, if◌then◌else◌, List, [], ◌∷◌, ◌++◌, length, Ok}
use Rattle.std.specs.List.{flat_map}
use Rattle.brep_tokens.specs.declared.text.Token.{Token}
use Rattle.lists.specs.Results.{◌>>=◌}
use Rattle.entry_readers.specs.Reading.{Read}
use Rattle.entry_readers.specs.Begins.{IsExact}
use Rattle.location_table.specs.declared.entry.LocationEntry.{LocationEntry}
use Rattle.location_table.specs.Locations.{location_at, spell_location, AreSoundLocations}

-- so many entries, after these
abbrev pub locations_from : List LocationEntry → ℕ → List Token → Read (List LocationEntry)
locations_from before zero ts = Ok (before, ts)
locations_from before (suc n) ts = location_at before ts >>= λ e. locations_from (before ++ e.0 ∷ []) n e.1

abbrev pub locations_at : ℕ → List Token → Read (List LocationEntry)
locations_at n ts = locations_from [] n ts

-- the same, where the next entry is begun
abbrev pub begun_from : (List Token → Read LocationEntry) → List LocationEntry → ℕ → List Token
    → Read (List LocationEntry)
begun_from left before due ts = if due == 0 then Ok (before, ts)
    else (left ts >>= λ e. locations_from (before ++ e.0 ∷ []) (due - 1) e.1)

abbrev pub spell_locations : List LocationEntry → List (List ℕ)
spell_locations entries = flat_map spell_location entries

abbrev pub AreSoundOf : ℕ → List LocationEntry → Type 0
AreSoundOf n entries = (length entries ≡ n) × AreSoundLocations entries

-- The entries of a section are read exactly as they are spelled, each after those before it.
abbrev pub SectionsAreExact : Type 0
SectionsAreExact = (n : ℕ) → IsExact (locations_at n) spell_locations (AreSoundOf n)
