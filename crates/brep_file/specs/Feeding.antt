-- What feeding a reader piece by piece does to it.
use Rattle.std.specs.Prelude.{◌≡◌, ◌++◌, ℕ, true, false, List, Result, Ok, Err}
use Rattle.brep_tokens.specs.declared.fault.ReadFault.{ReadFault}
use Rattle.brep_tokens.specs.declared.fault.ReadStop.{ReadStop}
use Rattle.brep_tokens.specs.declared.fault.ReadStop.TheVariants as stops
use Rattle.brep_file.specs.declared.file.File.{File}
use Rattle.brep_file.specs.declared.file_reader.FileReader.{FileReader}
use Rattle.brep_file.specs.Giving.{FileGiven}

-- the bytes that were fed
abbrev pub fed : FileReader → List ℕ
fed r = r.bytes.items

-- memory ran out while it was fed
abbrev pub HasStopped : FileReader → Type 0
HasStopped r = r.stopped ≡ true

-- the piece is gathered after those before it, or memory runs out, and then it stays so
abbrev pub Gathers : List ℕ → FileReader → FileReader → Result (Unit {0}) ReadStop → Type 0
Gathers piece old new (Ok u) = (old.stopped ≡ false) × (new.stopped ≡ false) × (fed new ≡ fed old ++ piece)
Gathers piece old new (Err stops.NoMemory) = HasStopped new
Gathers piece old new (Err (stops.Fault x)) = ⊥

-- The file that the bytes spell, or their fault; nothing but want of memory where it came before.
abbrev pub Finishes : FileReader → Result File ReadStop → Result File ReadFault → Type 0
Finishes r result read = FileGiven result read × (HasStopped r → result ≡ Err stops.NoMemory)
