-- What stands after a copy, whole or stopped.
use Rattle.std.specs.Prelude.{ℕ, ◌+◌, ◌≡◌, ◌⊎◌, ◌≤◌, IsTrue, true, false, List, length, take, Some, Err}
use Rattle.brep_desk.specs.Shown.{Shown, Tells, ChangesOnly}
use Rattle.brep_desk.specs.Transfers.{NoMoreOpen, IsLonger}
use Rattle.brep_desk.specs.Causes.{Rose}
use Rattle.history_text.specs.Sending.{counted}
use Rattle.brep_tokens.specs.declared.fault.ReadFault.{ReadFault}
use Rattle.brep_file.specs.declared.file.File.{File}
use Rattle.brep_file.specs.FileReading.{read_text}
use Rattle.brep_file.specs.Sound.{file_limits}
use Rattle.brep_file.specs.PlainRecords.{expansion_of}
use Rattle.brep_file.specs.Reads.{Reads}
use Rattle.key_results.specs.declared.fault.LimitKind.{LimitKind}
use Rattle.key_results.specs.declared.fault.LimitKind.TheVariants.{FileBytes}
use Rattle.brep_writer.specs.OwnVersion.{text_of}

-- the greatest number of bytes of a file
abbrev pub most_bytes : ℕ
most_bytes = 67108864

-- The text stands whole under the name, and is ended. Nothing else was written, and no channel is left open.
pub record OutWritten (t : Tells) (old new : Shown) (target text : List ℕ) : Type 0 where
  pub held : new.held ≡ old.held
  pub written : IsTrue t.written → ChangesOnly old.written new.written target (Some text)
  pub ended : IsTrue t.ended → ChangesOnly old.ended new.ended target true
  pub channels : IsTrue t.opened → NoMoreOpen old new

-- the writing of the name never began
pub record NeverBegan (t : Tells) (old new : Shown) (taken : ℕ) : Type 0 where
  pub none : taken ≡ 0
  pub written : IsTrue t.written → new.written ≡ old.written
  pub ended : IsTrue t.ended → new.ended ≡ old.ended

-- the first bytes of the text stand under the name, and it isn't ended
pub record StoppedAt (t : Tells) (old new : Shown) (target text : List ℕ) (taken : ℕ) : Type 0 where
  pub written : IsTrue t.written → ChangesOnly old.written new.written target (Some (take taken text))
  pub ended : IsTrue t.ended → ChangesOnly old.ended new.ended target false

-- The first bytes of the text stand under the name, or what stood there before, where its writing never began.
pub record PrefixWritten (t : Tells) (old new : Shown) (target text : List ℕ) (taken : ℕ) : Type 0 where
  pub held : new.held ≡ old.held
  pub fits : taken ≤ length text
  pub written : NeverBegan t old new taken ⊎ StoppedAt t old new target text taken

-- the writing of the first output was stopped, after so many bytes of the text
abbrev pub FirstStopped : Tells → Shown → Shown → List ℕ → List ℕ → ℕ → ℕ → Type 0
FirstStopped t old new target text file taken = (file ≡ 1) × PrefixWritten t old new target text taken

-- the first bytes of a text stand under the name, or what stood there before; their count is told up to the last u64
abbrev pub IsCountedPrefix : Tells → Shown → Shown → List ℕ → List ℕ → ℕ → Type 0
IsCountedPrefix t old new name text taken =
    (count : ℕ) × (taken ≡ counted count) × PrefixWritten t old new name text count

-- the writing of the first output was stopped, after so many bytes of the text, which are told up to the last u64
abbrev pub FirstCounted : Tells → Shown → Shown → List ℕ → List ℕ → ℕ → ℕ → Type 0
FirstCounted t old new target text file taken = (file ≡ 1) × IsCountedPrefix t old new target text taken

-- the bytes are a file's, and the text is the written layout of the file's expansion
pub record IsCopyOf (bytes text : List ℕ) (f : File) : Type 0 where
  pub reads : Reads bytes f
  pub written : text ≡ text_of f (expansion_of f)

-- the text that is due for what the source holds
pub record Holds (old : Shown) (source bytes : List ℕ) : Type 0 where
  pub held : old.held source ≡ Some bytes
  pub few : length bytes ≤ most_bytes

-- the source holds bytes that no file spells, and this is the fault of the first token that isn't accepted
pub record HoldsFault (old : Shown) (source : List ℕ) (fault : ReadFault) : Type 0 where
  pub bytes : List ℕ
  pub holds : Holds old source bytes
  pub first : read_text file_limits bytes ≡ Err fault
  pub none : (f : File) → Reads bytes f → ⊥

abbrev pub IsDue : Tells → Shown → List ℕ → List ℕ → Type 0
IsDue t old source text = IsTrue t.held → (bytes : List ℕ) × (f : File) × Holds old source bytes × IsCopyOf bytes text f

-- the text that is due stands whole under the name
abbrev pub IsCopied : Tells → Shown → Shown → List ℕ → List ℕ → Type 0
IsCopied t old new source target = (text : List ℕ) × IsDue t old source text × OutWritten t old new target text

-- the writing of the text that is due was stopped
abbrev pub IsCopyStopped : Tells → Shown → Shown → List ℕ → List ℕ → ℕ → ℕ → Type 0
IsCopyStopped t old new source target file taken =
    (file ≡ 1) × ((text : List ℕ) × IsDue t old source text × PrefixWritten t old new target text taken)

-- the file has more bytes than the limit
abbrev pub IsFileLimit : Tells → Shown → List ℕ → LimitKind → ℕ → Type 0
IsFileLimit t old source which count = (which ≡ FileBytes) × (count ≡ most_bytes + 1) × IsLonger t old source most_bytes

-- the counts of a fault: after the one at entry, and up to the one at exit
pub record Counts (entry exit before after : ℕ) : Type 0 where
  pub from : entry ≤ before
  pub to : after ≡ exit
  pub rose : Rose before after
