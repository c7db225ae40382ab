-- A file that was loaded into a pool of its own.
use Rattle.std.specs.Prelude.{◌≡◌, ◌<◌, length}
use Rattle.brep_file.specs.declared.file.File.{File}
use Rattle.brep_file.specs.PlainRecords.{expansion_of}
use Rattle.file_loading.specs.Loading.{use_in, HasOriginsOf, IsLoadedFrom}
use Rattle.brep_run.specs.declared.copy.LoadedFile.{LoadedFile}

-- the file was loaded, and the root is its expansion
pub record IsLoadedCopy (f : File) (l : LoadedFile) : Type 0 where
  pub loaded : IsLoadedFrom f l.words l.pool
  pub root : use_in l.words l.pool l.root ≡ expansion_of f
  pub node : l.root.id.0 < length l.pool
  pub place : l.root.place.0 < length l.words
  pub origins : HasOriginsOf f l.pool l.root.id.0
