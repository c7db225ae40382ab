-- What the readers of records have still to read.
use Rattle.std.specs.Prelude.{◌≡◌, ◌+◌, ◌<◌, ◌≤◌, ◌⊎◌, ℕ, List, length, Option, Some, None, Result, Ok, Err}
use Rattle.brep_tokens.specs.declared.text.Token.{Token}
use Rattle.brep_tokens.specs.declared.fault.Progress.{Progress}
use Rattle.brep_tokens.specs.declared.fault.ReadFault.{ReadFault}
use Rattle.brep_tokens.specs.declared.fault.ReadStop.{ReadStop}
use Rattle.lists.specs.Results.{◌>>=◌}
use Rattle.entry_readers.specs.Reading.{Read, Refusal, fault}
use Rattle.entry_readers.specs.Takes.{HasRead, ReadsAs, Takes}
use Rattle.orientation.specs.declared.kind.Kind.{Kind}
use Rattle.tshape_data.specs.HeadLeft.{head_left, IsWaiting as IsWaitingHead}
use Rattle.tshape_data.specs.HeadReading.{head_at}
use Rattle.tshape_data.specs.RepReading.{most_reps}
use Rattle.tshape_data.specs.Sound.{rep_count}
use Rattle.tshape_data.specs.declared.head.Head.{Head}
use Rattle.tshape_data.specs.declared.reader.HeadReader.{HeadReader}
use Rattle.brep_file.specs.Many.{many_from, many_left}
use Rattle.brep_file.specs.RecordReading.{RecordBounds, Gathered, SoFar, located, none_gathered, nothing_read}
use Rattle.brep_file.specs.RecordReading.{record_at, root_at, root_located, used, uses_from, with_record}
use Rattle.brep_file.specs.declared.uses.FileUse.{FileUse}
use Rattle.brep_file.specs.declared.reader.state.RecordBounds.{RecordBounds as HeldBounds}
use Rattle.brep_file.specs.declared.reader.state.Gathered.{Gathered as HeldGathered}
use Rattle.brep_file.specs.declared.reader.state.Named.{Named}
use Rattle.brep_file.specs.declared.reader.state.SoFar.{SoFar as HeldSoFar}
use Rattle.brep_file.specs.declared.reader.uses.Stage.{Stage as UsesStage}
use Rattle.brep_file.specs.declared.reader.uses.Stage.TheVariants as uses_stages
use Rattle.brep_file.specs.declared.reader.uses.UsesReader.{UsesReader}
use Rattle.brep_file.specs.declared.reader.record.RecordReader.{RecordReader}
use Rattle.brep_file.specs.declared.reader.records.RecordsReader.{RecordsReader}
use Rattle.brep_file.specs.declared.reader.root.Stage.{Stage as RootStage}
use Rattle.brep_file.specs.declared.reader.root.Stage.TheVariants as root_stages
use Rattle.brep_file.specs.declared.reader.root.RootReader.{RootReader}

-- what a test answers is what reading answers
abbrev pub Says : {A : Type 0} → Result A Refusal → Result A ReadFault → Type 0
Says read (Ok x) = read ≡ Ok x
Says read (Err f) = read ≡ Err (fault f)

-- ---- what the program's own states stand for

-- how many uses the records of a file may have together
abbrev pub most_uses : ℕ
most_uses = 16777216

abbrev pub bounds_of : HeldBounds → RecordBounds
bounds_of b = record { tables = b.tables; version = b.version; records = b.records; uses = most_uses }

abbrev pub gathered_of : HeldGathered → Gathered
gathered_of g = record { uses = g.uses; depth = g.depth }

abbrev pub so_far_of : HeldSoFar → SoFar
so_far_of s = record { records = s.records; seen = s.seen.items; uses = s.uses; reps = s.reps }

-- a version that is read
abbrev pub IsVersionRead : ℕ → Type 0
IsVersionRead version = (version ≡ 1) ⊎ (version ≡ 2)

-- ---- uses

abbrev pub at_uses : UsesStage → RecordBounds → SoFar → Kind → HeldGathered → List Token → Read Gathered
at_uses uses_stages.Sign b s parent g ts = uses_from b s parent (gathered_of g) ts
at_uses (uses_stages.Location u) b s parent g ts = located b s parent (gathered_of g) u ts
at_uses uses_stages.Whole b s parent g ts = Ok (gathered_of g, ts)

-- What is left to read of a record's uses.
abbrev pub uses_left : RecordBounds → SoFar → Kind → UsesReader → List Token → Read Gathered
uses_left b s parent r ts = at_uses r.stage b s parent r.gathered ts

-- the uses are within the limits
pub record AreFew (before : ℕ) (g : HeldGathered) : Type 0 where
  pub shallow : g.depth < 512
  pub within : before + length g.uses ≤ most_uses

-- and one more is
pub record HasRoom (before : ℕ) (g : HeldGathered) (u : Named) : Type 0 where
  pub shallow : g.depth < 512
  pub child : u.child.depth < 512
  pub room : before + length g.uses < most_uses

abbrev pub uses_wait_at : UsesStage → ℕ → HeldGathered → Type 0
uses_wait_at uses_stages.Sign before g = AreFew before g
uses_wait_at (uses_stages.Location u) before g = HasRoom before g u
uses_wait_at uses_stages.Whole before g = ⊥

-- a token is due, where so many uses stand in the records before
abbrev pub IsWaitingUses : ℕ → UsesReader → Type 0
IsWaitingUses before r = uses_wait_at r.stage before r.gathered

abbrev pub uses_done_at : UsesStage → ℕ → HeldGathered → Type 0
uses_done_at uses_stages.Sign before g = ⊥
uses_done_at (uses_stages.Location u) before g = ⊥
uses_done_at uses_stages.Whole before g = AreFew before g

abbrev pub AreDoneUses : ℕ → UsesReader → Type 0
AreDoneUses before r = uses_done_at r.stage before r.gathered

-- ---- a record

abbrev pub at_record : Option Head → RecordBounds → SoFar → RecordReader → List Token → Read SoFar
at_record None b s r ts = head_left r.reader ts >>= λ h. used s h.0 (uses_left b s h.0.kind r.uses h.1)
at_record (Some head) b s r ts = used s head (uses_left b s head.kind r.uses ts)

-- What is left to read of a record.
abbrev pub record_left : RecordBounds → SoFar → RecordReader → List Token → Read SoFar
record_left b s r ts = at_record r.head b s r ts

-- with so many representations before, those of a head are within the limit
abbrev pub HasFewReps : ℕ → Head → Type 0
HasFewReps reps head = reps + rep_count head.payload ≤ most_reps

-- whatever head is read, it is so
abbrev pub ReadsFew : ℕ → HeadReader → Type 0
ReadsFew reps r = (ts rest : List Token) (head : Head) → head_left r ts ≡ Ok (head, rest) → HasFewReps reps head

pub record IsWaitingForHead (before reps : ℕ) (r : RecordReader) : Type 0 where
  pub waits : IsWaitingHead r.reader
  pub few : ReadsFew reps r.reader
  pub uses : IsWaitingUses before r.uses

abbrev pub record_waits_at : Option Head → ℕ → ℕ → RecordReader → Type 0
record_waits_at None before reps r = IsWaitingForHead before reps r
record_waits_at (Some head) before reps r = IsWaitingUses before r.uses × HasFewReps reps head

-- a token is due, where so many uses and representations stand in the records before
abbrev pub IsWaitingRecord : ℕ → ℕ → RecordReader → Type 0
IsWaitingRecord before reps r = record_waits_at r.head before reps r

abbrev pub record_done_at : Option Head → ℕ → ℕ → RecordReader → Type 0
record_done_at None before reps r = ⊥
record_done_at (Some head) before reps r = AreDoneUses before r.uses × HasFewReps reps head

abbrev pub IsDoneRecord : ℕ → ℕ → RecordReader → Type 0
IsDoneRecord before reps r = record_done_at r.head before reps r

-- A reader of uses, at a stage, took a token after these records and in a record of this kind.
abbrev pub TakesUsesAt : UsesStage → HeldBounds → HeldSoFar → Kind → UsesReader → Token → UsesReader
    → Result Progress ReadStop → Type 0
TakesUsesAt stage b s parent old t new result = Takes (at_uses stage (bounds_of b) (so_far_of s) parent old.gathered) t
    (uses_left (bounds_of b) (so_far_of s) parent new) (IsWaitingUses s.uses new) (AreDoneUses s.uses new) result

-- the same at the stage where it is
abbrev pub TakesUses : HeldBounds → HeldSoFar → Kind → UsesReader → Token → UsesReader
    → Result Progress ReadStop → Type 0
TakesUses b s parent old t new result = TakesUsesAt old.stage b s parent old t new result

-- A reader of a record that has this head, or none yet, took a token after these records.
abbrev pub TakesRecordAt : Option Head → HeldBounds → HeldSoFar → RecordReader → Token → RecordReader
    → Result Progress ReadStop → Type 0
TakesRecordAt head b s old t new result = Takes (at_record head (bounds_of b) (so_far_of s) old) t
    (record_left (bounds_of b) (so_far_of s) new)
    (IsWaitingRecord s.uses s.reps new) (IsDoneRecord s.uses s.reps new) result

-- the same with the head that it has
abbrev pub TakesRecord : HeldBounds → HeldSoFar → RecordReader → Token → RecordReader
    → Result Progress ReadStop → Type 0
TakesRecord b s old t new result = TakesRecordAt old.head b s old t new result

-- ---- a reader that begins, and one that is done

-- all uses of a record are left to read, whatever stands before
abbrev pub HasAllUses : UsesReader → Type 0
HasAllUses r = (b : RecordBounds) (s : SoFar) (parent : Kind) →
    ReadsAs (uses_left b s parent r) (uses_from b s parent none_gathered)

-- a head, where so many representations stand before it
abbrev pub head_after : HeldBounds → ℕ → List Token → Read Head
head_after b reps ts = head_at (record (bounds_of b).tables { reps = reps }) b.version ts

-- all of a record is left to read, after records with so many representations
abbrev pub HasAllOfRecord : HeldBounds → ℕ → RecordReader → Type 0
HasAllOfRecord b reps r = (s : SoFar) (ts : List Token) → s.reps ≡ reps
    → record_left (bounds_of b) s r ts ≡ record_at (bounds_of b) s ts

-- a record was read, whatever stands before: this head and these uses
abbrev pub HasReadRecord : RecordReader → Head → HeldGathered → Type 0
HasReadRecord r head g = (b : RecordBounds) (s : SoFar)
    → HasRead (record_left b s r) (with_record s head (gathered_of g))

-- ---- the records

-- the records, from the first
abbrev pub records_at : HeldBounds → List Token → Read SoFar
records_at b ts = many_from (record_at (bounds_of b)) nothing_read b.records ts

-- What is left to read of the records.
abbrev pub records_left : RecordsReader → List Token → Read SoFar
records_left r ts = many_left (record_at (bounds_of r.bounds))
    (record_left (bounds_of r.bounds) (so_far_of r.so_far) r.reader) (so_far_of r.so_far) r.due ts

pub record AreWaitingRecords (r : RecordsReader) : Type 0 where
  pub due : 0 < r.due
  pub count : length r.so_far.seen.items + r.due ≡ r.bounds.records
  pub version : IsVersionRead r.bounds.version
  pub uses : r.so_far.uses ≤ most_uses
  pub reps : r.so_far.reps ≤ most_reps
  pub waits : IsWaitingRecord r.so_far.uses r.so_far.reps r.reader

-- ---- the root use

abbrev pub at_root : RootStage → RootReader → List Token → Read FileUse
at_root root_stages.Sign r ts = root_at r.locations r.records ts
at_root (root_stages.Location turn number) r ts = root_located r.locations (turn, number) ts
at_root (root_stages.Whole u) r ts = Ok (u, ts)

-- What is left to read of the root use.
abbrev pub root_left : RootReader → List Token → Read FileUse
root_left r ts = at_root r.stage r ts

abbrev pub root_waits_at : RootStage → Type 0
root_waits_at root_stages.Sign = Unit {0}
root_waits_at (root_stages.Location turn number) = Unit {0}
root_waits_at (root_stages.Whole u) = ⊥

abbrev pub IsWaitingRoot : RootReader → Type 0
IsWaitingRoot r = root_waits_at r.stage

abbrev pub root_done_at : RootStage → Type 0
root_done_at root_stages.Sign = ⊥
root_done_at (root_stages.Location turn number) = ⊥
root_done_at (root_stages.Whole u) = Unit {0}

abbrev pub IsDoneRoot : RootReader → Type 0
IsDoneRoot r = root_done_at r.stage

-- Of what was left, the reader of the root use took a token.
abbrev pub TakesRoot : (List Token → Read FileUse) → Token → RootReader → Result Progress ReadStop → Type 0
TakesRoot left t new result = Takes left t (root_left new) (IsWaitingRoot new) (IsDoneRoot new) result
