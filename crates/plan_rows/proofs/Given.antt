-- A file that is given is sound and small.
use Rattle.std.proofs.Common.{List, ℕ}
use Rattle.std.specs.Prelude.{Result, Ok, Err, IfOk}
use Rattle.brep_tokens.specs.declared.fault.ReadStop.{ReadStop}
use Rattle.brep_file.specs.declared.file.File.{File}
use Rattle.brep_file.specs.FileReading.{read_text}
use Rattle.brep_file.specs.Giving.{FileGiven}
use Rattle.brep_file.specs.ReadingLaws.{ReadingIsExact}
use Rattle.brep_file.specs.Sound.{file_limits, IsSound, IsWithinLimits}

module _ (exact : ReadingIsExact) (bytes : List ℕ) where
  pub given-sound : (r : Result File ReadStop) → FileGiven r (read_text file_limits bytes) → IfOk r IsSound
  given-sound (Ok f) e = (exact.takes file_limits bytes f e).0.sound
  given-sound (Err stop) e = tt

  pub given-small : (r : Result File ReadStop) → FileGiven r (read_text file_limits bytes) → IfOk r IsWithinLimits
  given-small (Ok f) e = (exact.takes file_limits bytes f e).1
  given-small (Err stop) e = tt
