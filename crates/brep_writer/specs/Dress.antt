-- Trees with the data of their records in place of origins.
use Rattle.std.specs.Prelude.{ℕ, zero, suc, true, false, if◌then◌else◌, List, [], map, slice_get, Option, None}
use Rattle.std.specs.Option.{option_map_or}
use Rattle.location_words.specs.declared.pair.Pair.{Pair}
use Rattle.location_table.specs.Words.{word_of_place}
use Rattle.curve_tables.specs.Spelling.{spelling2, spelling3}
use Rattle.mesh_tables.specs.Spelling.{spell_polygon, spell_polygon_on, spell_mesh}
use Rattle.surface_tables.specs.Spelling.{spell_surface}
use Rattle.orientation.specs.declared.kind.Kind.{Kind}
use Rattle.orientation.specs.declared.kind.Kind.TheVariants.{Co}
use Rattle.expansion_laws.specs.Trees.{LabelledUse, Tree, Use, origin}
use Rattle.expansion_laws.specs.Equality.{tree_eq}
use Rattle.expansion_laws.specs.Sharing.{relabelled_use}
use Rattle.tshape_data.specs.Parts.{Part, payload_parts}
use Rattle.tshape_data.specs.Parts as parts
use Rattle.tshape_data.specs.declared.columns.Table.{Table}
use Rattle.tshape_data.specs.declared.columns.Table.TheVariants.{Curve2s, Curves, Polygons}
use Rattle.tshape_data.specs.declared.columns.Table.TheVariants.{PolygonsOn, Surfaces, Meshes}
use Rattle.tshape_data.specs.declared.head.Flags.{Flags}
use Rattle.tshape_data.specs.declared.head.Payload.TheVariants.{Nothing}
use Rattle.tshape_data.specs.declared.head.Head.{Head}
use Rattle.brep_file.specs.declared.file.File.{File}
use Rattle.brep_file.specs.PlainRecords.{record_of, tree_of_record, expansion_of}

-- a part of a record's data that no number of a file stands in
pub data DressedPart : Type 0 where
  token : List ℕ → DressedPart
  -- the tokens of an entry
  entry : List (List ℕ) → DressedPart
  -- the word of a location
  word : List Pair → DressedPart

-- the entry with a number, counted from 1
abbrev pub entry_of : {A : Type 0} → List A → ℕ → Option A
entry_of entries zero = None
entry_of entries (suc k) = slice_get entries k

-- its tokens; 0 is no entry
abbrev pub tokens_of : {A : Type 0} → (A → List (List ℕ)) → List A → ℕ → List (List ℕ)
tokens_of spell entries n = option_map_or spell (entry_of entries n) []

abbrev pub entry_tokens : File → Table → ℕ → List (List ℕ)
entry_tokens f Curve2s n = tokens_of spelling2 f.curve2s n
entry_tokens f Curves n = tokens_of spelling3 f.curves n
entry_tokens f Polygons n = tokens_of spell_polygon f.polygons n
entry_tokens f PolygonsOn n = tokens_of spell_polygon_on f.polygons_on n
entry_tokens f Surfaces n = tokens_of spell_surface f.surfaces n
entry_tokens f Meshes n = tokens_of spell_mesh f.meshes n

abbrev pub dressed_part : File → Part → DressedPart
dressed_part f (parts.token text) = token text
dressed_part f (parts.entry table n) = entry (entry_tokens f table n)
dressed_part f (parts.located n) = word (word_of_place f.locations n)

-- what a dressed tree says of a node
pub record Dressed : Type 0 where
  pub kind : Kind
  pub parts : List DressedPart
  pub flags : Flags

-- in a version
abbrev pub dressed : File → Head → ℕ → Dressed
dressed f h version = record {
  kind = h.kind;
  parts = map (dressed_part f) (payload_parts version h.payload);
  flags = h.flags;
}

-- the compound that is made at the root
abbrev pub made_head : Head
made_head = record {
  kind = Co;
  payload = Nothing;
  flags = record {
    free = true;
    modified = true;
    checked = false;
    orientable = true;
    closed = false;
    infinite = false;
    convex = false;
  };
}

-- the head of a rebuilt record
abbrev pub rebuilt : Head → Head
rebuilt h = record h { flags = record h.flags { modified = true; checked = false } }

-- The head under which a tree is written: that of its origin's record, as rebuilt where it isn't that record's tree.
abbrev pub head_for : File → Tree → Head
head_for f x =
    option_map_or (λ r. if tree_eq x (tree_of_record f (origin x)) then r.head else rebuilt r.head)
    (record_of f (origin x)) made_head

-- a tree over a file's records, dressed, in a version: in version 1 an edge's UV points aren't among its data
abbrev pub dress : File → Use → ℕ → LabelledUse Dressed
dress f root version = relabelled_use (λ x. dressed f (head_for f x) version) root

-- the head of the record with a number
abbrev pub head_of : File → ℕ → Head
head_of f number = option_map_or (λ r. r.head) (record_of f number) made_head

-- the full expansion of a file: the expansion with the data of each record
abbrev pub full : File → LabelledUse Dressed
full f = relabelled_use (λ x. dressed f (head_of f (origin x)) f.version) (expansion_of f)
