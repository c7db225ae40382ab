-- What reading from a scanner gives.
use Rattle.std.specs.Prelude.{◌≡◌, ◌<◌, ◌≤◌, ◌⊎◌, ℕ, true, List, [], ◌∷◌, length, Result, Ok, Err}
use Rattle.brep_tokens.specs.State.{Scan}
use Rattle.brep_tokens.specs.Scan.{head_of, words_left}
use Rattle.brep_tokens.specs.Tokens.{version, words_at}
use Rattle.brep_tokens.specs.declared.fault.ReadFault.{ReadFault}
use Rattle.brep_tokens.specs.declared.fault.ReadStop.{ReadStop}
use Rattle.brep_tokens.specs.declared.fault.ReadStop.TheVariants as stops
use Rattle.brep_tokens.specs.declared.text.Token.{Token}
use Rattle.lists.specs.Results.{◌>>=◌}
use Rattle.entry_readers.specs.Reading.{Read, more, fault}
use Rattle.brep_file.specs.declared.file.File.{File}
use Rattle.brep_file.specs.FileReading.{closed, from_root, read_head, short_front, too_long, unfinished}
use Rattle.brep_file.specs.Sound.{Limits, file_limits, sizes_of}
use Rattle.brep_file.specs.RecordReading.{nothing_read, records_from}

-- The file that reading gives, or its fault; want of memory may come at any time.
abbrev pub FileGiven : Result File ReadStop → Result File ReadFault → Type 0
FileGiven (Ok f) read = read ≡ Ok f
FileGiven (Err (stops.Fault x)) read = read ≡ Err x
FileGiven (Err stops.NoMemory) read = Unit {0}

-- ---- the scanner

-- the version line was given, and the end was told
pub record IsReading (s : Scan) : Type 0 where
  pub headed : s.headed ≡ true
  pub ended : s.ended ≡ true

-- the tokens that are still to come, up to the first that is too long
abbrev pub front : Scan → List Token
front s = short_front (words_left s)

-- the fault where one more is due
abbrev pub missing_at : Scan → ReadFault
missing_at s = unfinished (length s.fed) (words_left s)

-- some of the tokens were given
pub record GoesTo (old new : Scan) : Type 0 where
  pub long : too_long (words_left new) ≡ too_long (words_left old)
  pub fed : new.fed ≡ old.fed
  pub reading : IsReading new

-- the next of them, or the fault where one is due and none comes
abbrev pub TokenGiven : Scan → Scan → Result Token ReadFault → Type 0
TokenGiven old new (Ok t) = (front old ≡ t ∷ front new) × GoesTo old new
    × (length (words_left new) < length (words_left old))
TokenGiven old new (Err x) = (front old ≡ []) × (missing_at old ≡ x)

-- the version and the words after its line, or the fault of the version line
pub record IsVersion (old new : Scan) (v : ℕ) : Type 0 where
  pub place : ℕ
  pub rest : List ℕ
  pub head : head_of old ≡ version v place rest
  pub left : words_left new ≡ words_at place rest
  pub fed : new.fed ≡ old.fed
  pub reading : IsReading new

abbrev pub VersionGiven : Scan → Scan → Result ℕ ReadFault → Type 0
VersionGiven old new (Ok v) = IsVersion old new v
VersionGiven old new (Err x) = (limits : Limits) → read_head limits (length old.fed) (head_of old) ≡ Err x

-- ---- reading from it

-- reading refuses a token with this fault, or wants one more, which is missing
abbrev pub IsFault : {A : Type 0} → Scan → ReadFault → Read A → Type 0
IsFault s x (Ok r) = ⊥
IsFault s x (Err more) = missing_at s ≡ x
IsFault s x (Err (fault y)) = y ≡ x

abbrev pub Fails : {A : Type 0} → Scan → Read A → ReadStop → Type 0
Fails s read (stops.Fault x) = IsFault s x read
Fails s read stops.NoMemory = Unit {0}

-- what was read from the tokens that came, by what it stands for, or why nothing was
abbrev pub Gives : {X A : Type 0} → (X → A) → (List Token → Read A) → Scan → Scan → Result X ReadStop → Type 0
Gives view read old new (Ok x) = (read (front old) ≡ Ok (view x, front new)) × GoesTo old new
Gives view read old new (Err e) = Fails old (read (front old)) e

-- ---- after the root use

-- the file stands, or there is a fault
abbrev pub EndGiven : (File → Result File ReadFault) → Result (Unit {0}) ReadFault → Type 0
EndGiven read (Ok u) = (f : File) → read f ≡ Ok f
EndGiven read (Err x) = (f : File) → read f ≡ Err x

abbrev pub closing : Scan → File → Result File ReadFault
closing s f = closed f (too_long (words_left s)) (front s)

-- ---- what comes after a count

-- the version is one that is read, and the tables so far are within their limits
pub record IsPartRead (f : File) : Type 0 where
  pub version : (f.version ≡ 1) ⊎ (f.version ≡ 2)
  pub curve2s : length f.curve2s ≤ file_limits.entries
  pub curves : length f.curves ≤ file_limits.entries
  pub polygons : length f.polygons ≤ file_limits.entries
  pub polygons_on : length f.polygons_on ≤ file_limits.entries
  pub surfaces : length f.surfaces ≤ file_limits.entries
  pub meshes : length f.meshes ≤ file_limits.entries

-- so many records, and the root use
abbrev pub from_counted : File → ℕ → List Token → Read File
from_counted f n ts = records_from (record {
  tables = sizes_of f;
  version = f.version;
  records = n;
  uses = file_limits.uses;
}) nothing_read n ts >>= λ x. from_root (record f { records = x.0.records }) x.1
