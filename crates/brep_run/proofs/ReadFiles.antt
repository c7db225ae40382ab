-- A file is given for bytes exactly where they spell it and it is small; where reading stops at a fault, they spell
-- none.
use Rattle.std.proofs.Common.{◌≡◌, ℕ, List, sym, ◌∙◌}
use Rattle.std.specs.Prelude.{Ok, Err}
use Rattle.brep_tokens.specs.declared.fault.ReadFault.{ReadFault}
use Rattle.brep_tokens.specs.declared.fault.ReadStop.{ReadStop}
use Rattle.brep_tokens.specs.declared.fault.ReadStop.TheVariants.{Fault, NoMemory}
use Rattle.brep_file.specs.declared.file.File.{File}
use Rattle.brep_file.specs.FileReading.{read_text}
use Rattle.brep_file.specs.Giving.{FileGiven}
use Rattle.brep_file.specs.ReadingLaws.{ReadingIsExact}
use Rattle.brep_file.specs.Reads.{Reads}
use Rattle.brep_file.specs.Sound.{file_limits}
use Rattle.brep_desk.specs.Shown.{Shown}
use Rattle.brep_run.specs.Copy.{Holds, HoldsFault}

module _ (exact : ReadingIsExact) where
  pub reads-of : (bytes : List ℕ) (f : File) → read_text file_limits bytes ≡ Ok f → Reads bytes f
  reads-of bytes f e = (let taken = exact.takes file_limits bytes f e in record { spells = taken.0; small = taken.1 })

  -- no file is read where reading stops at a fault
  pub none-at : (bytes : List ℕ) (x : ReadFault) → read_text file_limits bytes ≡ Err x → (f : File) → Reads bytes f → ⊥
  none-at bytes x is f reads =
      (let read = exact.again file_limits bytes f reads.spells reads.small in let both = sym read ∙ is in cc)

  pub fault-held : (old : Shown) (source bytes : List ℕ) (x : ReadFault) → Holds old source bytes
      → read_text file_limits bytes ≡ Err x → HoldsFault old source x
  fault-held old source bytes x holds is =
      record { bytes = bytes; holds = holds; first = is; none = none-at bytes x is }

pub first-of : (bytes : List ℕ) (e : ReadStop) → FileGiven (Err e) (read_text file_limits bytes) → (x : ReadFault)
    → e ≡ Fault x → read_text file_limits bytes ≡ Err x
first-of bytes (Fault y) given x is = cc
first-of bytes NoMemory given x is = cc
