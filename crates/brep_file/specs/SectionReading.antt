-- Reading a section: its word, the count of its entries, and so many entries.
use Rattle.std.specs.Prelude.{ℕ, if◌then◌else◌, nat_le, List, [], ◌∷◌, Ok, Err, codes}
use Rattle.brep_tokens.specs.declared.text.Token.{Token}
use Rattle.brep_tokens.specs.declared.fault.ReadCode.TheVariants as faults
use Rattle.lists.specs.Results.{◌>>=◌}
use Rattle.entry_readers.specs.Reading.{Read, fault, more, at_token, number_at, word_at}
use Rattle.entry_readers.specs.Entries.{entries_from}
use Rattle.location_table.specs.Sections.{locations_at}
use Rattle.location_table.specs.declared.entry.LocationEntry.{LocationEntry}

-- the number of this token, where it is within the limit
abbrev pub within : ℕ → Token → ℕ × List Token → Read ℕ
within most t n = if nat_le n.0 most then Ok n else Err (fault (at_token faults.TooMany n.0 most t))

abbrev pub count_at : ℕ → List Token → Read ℕ
count_at most [] = Err more
count_at most (t ∷ ts) = number_at (t ∷ ts) >>= within most t

-- a section's word and count
abbrev pub heading_at : List ℕ → ℕ → List Token → Read ℕ
heading_at word most ts = word_at word ts >>= λ w. count_at most w.1

abbrev pub section_at : {A : Type 0} → List ℕ → ℕ → (List Token → Read A) → List Token → Read (List A)
section_at word most read ts = heading_at word most ts >>= λ n. entries_from read [] n.0 n.1

-- the section of locations, each of which may name those before it
abbrev pub location_section_at : ℕ → List Token → Read (List LocationEntry)
location_section_at most ts = heading_at (codes "Locations") most ts >>= λ n. locations_at n.0 n.1
