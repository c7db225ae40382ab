-- A file in a pool: its records are loaded in file order, so the record with the number k of n is at the place n - k.
use Rattle.std.specs.Prelude.{◌≡◌, ◌⊎◌, ◌-◌, ◌<◌, ℕ, List, Some, length, slice_get, slice_index_or}
use Rattle.std.specs.Option.{option_map_or}
use Rattle.orientation.specs.declared.kind.Kind.{Kind}
use Rattle.orientation.specs.declared.kind.Kind.TheVariants.{Co}
use Rattle.location_words.specs.declared.pair.Pair.{Pair}
use Rattle.location_words.specs.declared.table.WordId.{WordId}
use Rattle.location_words.specs.Tables.{IsTable}
use Rattle.graph_walks.specs.Walks.{Reaches}
use Rattle.expansion_laws.specs.Expansion.{IsNumberOf}
use Rattle.expansion_laws.specs.Trees.{Use}
use Rattle.shape_pool.specs.declared.node.UseOf.{UseOf}
use Rattle.shape_pool.specs.Rows.{Row, HasPlaces, kind_at, origin_at, tree_at, use_by}
use Rattle.shape_pool.specs.Calls.{IsLoaded, IsLoadedAs}
use Rattle.shape_pool.specs.Laws.{ids_used, word_in}
use Rattle.brep_file.specs.declared.uses.FileUse.{FileUse}
use Rattle.brep_file.specs.declared.records.Record.{Record}
use Rattle.brep_file.specs.declared.file.File.{File}
use Rattle.brep_file.specs.PlainRecords.{record_of, tree_of_record}

-- the use that a use by numbers stands for, by the words of a table
abbrev pub use_in : List (List Pair) → List Row → UseOf → Use
use_in words rows u = use_by (word_in words) (tree_at (word_in words) rows) u

-- The records of a file are loaded, each under its own tree and kind, and the words of all uses are numbered by the
-- table.
pub record IsLoadedFrom (f : File) (words : List (List Pair)) (rows : List Row) : Type 0 where
  pub table : IsTable words
  pub places : HasPlaces rows (length words)
  pub loaded : (k : ℕ) → IsNumberOf (length f.records) k → IsLoaded rows k
  pub trees : (k i : ℕ) → IsNumberOf (length f.records) k → IsLoadedAs rows k i
      → tree_at (word_in words) rows i ≡ tree_of_record f k
  pub kinds : (k i : ℕ) (r : Record) → record_of f k ≡ Some r → IsNumberOf (length f.records) k → IsLoadedAs rows k i
      → kind_at rows i ≡ r.head.kind

-- each origin at or below a number is 0 or the number of a record
abbrev pub HasOriginsOf : File → List Row → ℕ → Type 0
HasOriginsOf f rows root =
    (i : ℕ) → Reaches (ids_used rows) root i → (origin_at rows i ≡ 0) ⊎ IsNumberOf (length f.records) (origin_at rows i)

-- the kind of a record, and a compound where there is none
abbrev pub kind_of_record : File → ℕ → Kind
kind_of_record f k = option_map_or (λ (r : Record). r.head.kind) (record_of f k) Co

-- ---- While records are loaded

-- a use of one of n records by numbers, where the words of places have these numbers
pub record IsLoadedUse (n : ℕ) (ids : List WordId) (u : FileUse) (v : UseOf) : Type 0 where
  pub turn : v.turn ≡ u.turn
  pub place : (d : WordId) → u.location < length ids → v.place ≡ slice_index_or ids u.location d
  pub id : v.id.0 ≡ n - u.number

-- uses one for one
pub record AreLoadedUses (n : ℕ) (ids : List WordId) (us : List FileUse) (vs : List UseOf) : Type 0 where
  pub size : length vs ≡ length us
  pub each : (i : ℕ) (u : FileUse) (v : UseOf) → slice_get us i ≡ Some u → slice_get vs i ≡ Some v
      → IsLoadedUse n ids u v

-- so many records are loaded, and nothing else
pub record IsLoadedTo (f : File) (words : List (List Pair)) (rows : List Row) (count : ℕ) : Type 0 where
  pub size : length rows ≡ count
  pub origins : (i : ℕ) → i < count → origin_at rows i ≡ length f.records - i
  pub kinds : (i : ℕ) (r : Record) → i < count → slice_get f.records i ≡ Some r → kind_at rows i ≡ r.head.kind
  pub trees : (i : ℕ) → i < count → tree_at (word_in words) rows i ≡ tree_of_record f (length f.records - i)
  pub places : HasPlaces rows (length words)
