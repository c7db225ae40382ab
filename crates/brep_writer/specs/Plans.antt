-- Plans: how a root of a pool is written.
use Rattle.std.specs.Prelude.{◌≡◌, ◌<◌, ℕ, List, All, Contains, length, map}
use Rattle.location_words.specs.declared.pair.Pair.{Pair}
use Rattle.expansion_laws.specs.Trees.{Tree, Use, uses}
use Rattle.expansion_laws.specs.Written.{flat, number_in}
use Rattle.shape_pool.specs.declared.node.UseOf.{UseOf}
use Rattle.brep_file.specs.declared.uses.FileUse.{FileUse}
use Rattle.brep_file.specs.declared.records.Record.{Record}
use Rattle.written_heads.specs.Versions.{IsOutputOf}
use Rattle.written_order.specs.Orders.{IsOrderOf}
use Rattle.brep_writer.specs.declared.plan.WritePlan.{WritePlan}
use Rattle.brep_writer.specs.Located.{AreLocated}
use Rattle.brep_writer.specs.Sources.{tree_in, use_of, HasOrigin, IsLoadedSource}
use Rattle.brep_writer.specs.WrittenFile.{location_under, text_of, written_record, written_use}

-- the root of a plan, the trees that are written, and the text
abbrev pub plan_root : WritePlan → Use
plan_root p = use_of p.source p.root

abbrev pub plan_trees : WritePlan → List Tree
plan_trees p = flat (plan_root p).tree

abbrev pub plan_text : WritePlan → List ℕ
plan_text p = text_of p.source.file.now (plan_root p) p.version

-- A plan over a sound file and the pool and the table that it was loaded into, in an output version: its order is that
-- of first completion, and the words that are written have their numbers.
pub record IsPlan (p : WritePlan) : Type 0 where
  pub source : IsLoadedSource p.source
  pub version : IsOutputOf p.source.file.now.version p.version
  pub held : p.root.id.0 < length p.source.pool.now
  pub place : p.root.place.0 < length p.source.words.now
  pub order : IsOrderOf p.source.pool.now p.root.id.0 p.order.numbers
  pub origins : All (HasOrigin p.source) p.order.numbers
  pub located : AreLocated p.source p.order.numbers p.root p.locations

-- the number stands for a tree that is written, with this number
abbrev pub IsWrittenAs : WritePlan → ℕ → ℕ → Type 0
IsWrittenAs p i n =
    Contains (plan_trees p) (tree_in p.source i) × (n ≡ number_in (plan_trees p) (tree_in p.source i))

-- ---- what is written for a number

-- the number of a word's location
abbrev pub plan_location : WritePlan → List Pair → ℕ
plan_location p = location_under p.source.file.now (plan_root p)

-- a use as it is written, and those of a number
abbrev pub use_in_file : WritePlan → UseOf → FileUse
use_in_file p u = written_use (plan_location p) (plan_trees p) (use_of p.source u)

abbrev pub uses_in_file : WritePlan → ℕ → List FileUse
uses_in_file p i = map (written_use (plan_location p) (plan_trees p)) (uses (tree_in p.source i))

-- the record of a number
abbrev pub record_in : WritePlan → ℕ → Record
record_in p i = written_record p.source.file.now (plan_location p) (plan_trees p) (tree_in p.source i)
