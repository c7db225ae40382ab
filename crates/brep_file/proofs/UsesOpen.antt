-- A reader of uses that waits for a token has none yet.
use Rattle.std.proofs.Common.{◌≡◌, ℕ, [], Err, refl}
use Rattle.entry_readers.specs.Reading.{more}
use Rattle.orientation.specs.declared.kind.Kind.{Kind}
use Rattle.brep_file.specs.RecordLeft.{at_uses, uses_wait_at}
use Rattle.brep_file.specs.RecordReading.{RecordBounds, SoFar}
use Rattle.brep_file.specs.declared.reader.state.Gathered.{Gathered}
use Rattle.brep_file.specs.declared.reader.uses.Stage.{Stage}
use Rattle.brep_file.specs.declared.reader.uses.Stage.TheVariants as stages

pub waiting_open : (stage : Stage) (b : RecordBounds) (s : SoFar) (parent : Kind) (before : ℕ) (g : Gathered)
    → uses_wait_at stage before g → at_uses stage b s parent g [] ≡ Err more
waiting_open stages.Sign b s parent before g waits = refl
waiting_open (stages.Location u) b s parent before g waits = refl
waiting_open stages.Whole b s parent before g waits = absurd waits
