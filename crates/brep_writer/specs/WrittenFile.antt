-- The file that a root is written as.
use Rattle.std.specs.Prelude.{ℕ, List, [], ◌∷◌, ◌++◌, length, map}
use Rattle.std.specs.List.{flat_map}
use Rattle.location_words.specs.declared.pair.Pair.{Pair}
use Rattle.location_table.specs.Words.{datums_of, word_of_place}
use Rattle.location_table.specs.Written.{written_section}
use Rattle.location_table.specs.declared.entry.LocationEntry.{LocationEntry}
use Rattle.written_locations.specs.Further.{further_words, number_of_word}
use Rattle.expansion_laws.specs.Trees.{Tree, Use, uses}
use Rattle.expansion_laws.specs.Written.{flat, number_in}
use Rattle.tshape_data.specs.Locations.{renumbered_head, data_locations}
use Rattle.tshape_data.specs.declared.head.Head.{Head}
use Rattle.brep_file.specs.declared.uses.FileUse.{FileUse}
use Rattle.brep_file.specs.declared.records.Record.{Record}
use Rattle.brep_file.specs.declared.file.File.{File}
use Rattle.brep_writer.specs.Dress.{head_for}
use Rattle.written_layout.specs.Layout.{layout}

-- ---- locations

-- the words of the locations in a record's data
abbrev pub words_of_data : File → Head → List (List Pair)
words_of_data f h = map (word_of_place f.locations) (data_locations f.version h.payload)

-- the words in the record of a tree: those of its data, and then those of its uses
abbrev pub words_of_tree : File → Tree → List (List Pair)
words_of_tree f x = words_of_data f (head_for f x) ++ map (λ u. u.word) (uses x)

-- the words in the records of a root, in their order, and that of the root use
abbrev pub words_under : File → Use → List (List Pair)
words_under f root = flat_map (words_of_tree f) (flat root.tree) ++ root.word ∷ []

-- the file's datums, and then each word once that occurs and is neither the identity nor one datum, in the order in
-- which they first occur
abbrev pub locations_under : File → Use → List LocationEntry
locations_under f root = written_section (datums_of f.locations) (further_words (words_under f root))

-- the number of a word's location
abbrev pub location_under : File → Use → List Pair → ℕ
location_under f root word = number_of_word (length (datums_of f.locations)) (further_words (words_under f root)) word

-- ---- records

abbrev pub written_use : (List Pair → ℕ) → List Tree → Use → FileUse
written_use location trees u = record { turn = u.turn; number = number_in trees u.tree; location = location u.word }

-- a head with the numbers of its locations' words
abbrev pub written_head : File → (List Pair → ℕ) → Head → Head
written_head f location h = renumbered_head (λ n. location (word_of_place f.locations n)) h

abbrev pub written_record : File → (List Pair → ℕ) → List Tree → Tree → Record
written_record f location trees x = record {
  head = written_head f location (head_for f x);
  uses = map (written_use location trees) (uses x);
}

-- One record for each distinct tree below and at the root, in the order of first completion, in a version; the tables
-- stay as they are. In version 1 the UV points of edges remain in the value, and its layout leaves them out.
abbrev pub written_file : File → Use → ℕ → File
written_file f root version = record f {
  version = version;
  locations = locations_under f root;
  records = map (written_record f (location_under f root) (flat root.tree)) (flat root.tree);
  root = written_use (location_under f root) (flat root.tree) root;
}

-- the text that is written in a version for a root over a file's records
abbrev pub text_of : File → Use → ℕ → List ℕ
text_of f root version = layout (written_file f root version)
