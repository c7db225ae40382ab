-- The records of a file without their data, and the file's expansion.
use Rattle.std.specs.Prelude.{ℕ, ◌-◌, Option, List, map, length, slice_get}
use Rattle.location_table.specs.Words.{word_of_place}
use Rattle.location_table.specs.declared.entry.LocationEntry.{LocationEntry}
use Rattle.expansion_laws.specs.Trees.{Tree, Use}
use Rattle.expansion_laws.specs.Expansion.{NumberedUse, tree_of_number, expansion}
use Rattle.brep_file.specs.declared.uses.FileUse.{FileUse}
use Rattle.brep_file.specs.declared.records.Record.{Record}
use Rattle.brep_file.specs.declared.file.File.{File}

-- the record with a number
abbrev pub record_of : File → ℕ → Option Record
record_of f number = slice_get f.records (length f.records - number)

-- a use with the word of its location
abbrev pub plain_use : List LocationEntry → FileUse → NumberedUse
plain_use locations u = record { turn = u.turn; word = word_of_place locations u.location; number = u.number }

abbrev pub plain_records : File → List (List NumberedUse)
plain_records f = map (λ r. map (plain_use f.locations) r.uses) f.records

abbrev pub plain_root : File → NumberedUse
plain_root f = plain_use f.locations f.root

-- the tree of a record
abbrev pub tree_of_record : File → ℕ → Tree
tree_of_record f number = tree_of_number (plain_records f) number

-- the expansion of a file: its root use with its tree
abbrev pub expansion_of : File → Use
expansion_of f = expansion (plain_records f) (plain_root f)
