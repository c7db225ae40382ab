-- What is due of each command: what stands when it is done or was stopped, and when each other answer comes.
use Rattle.std.specs.Prelude.{◌≡◌, ℕ, IsTrue, List, Some}
use Rattle.brep_desk.specs.Shown.{Shown, Tells}
use Rattle.brep_desk.specs.Strays.{KeepsStrays, NoStrayOnHeld}
use Rattle.brep_tokens.specs.declared.fault.ReadFault.{ReadFault}
use Rattle.expansion_laws.specs.Trees.{Use}
use Rattle.brep_file.specs.declared.file.File.{File}
use Rattle.brep_file.specs.PlainRecords.{expansion_of}
use Rattle.brep_file.specs.Reads.{Spells}
use Rattle.key_results.specs.declared.fault.LimitKind.{LimitKind}
use Rattle.script_requests.specs.declared.fault.ScriptFault.{ScriptFault}
use Rattle.shape_listing.specs.declared.listing.Listing.{Listing}
use Rattle.brep_run.specs.CommandLine.{CommandLine, copies, rewrites, lists, later, wrong, command_line_of}
use Rattle.brep_writer.specs.Copies.{IsTextFor}
use Rattle.brep_run.specs.Copies.{SharesEqualTrees}
use Rattle.brep_run.specs.Copy.{HoldsFault, IsCopied, IsCopyStopped, IsFileLimit}
use Rattle.brep_run.specs.Listings.{IsListed, IsListingLimit, IsListingStopped}
use Rattle.brep_run.specs.Rewrite.{HoldsFile, NoStrayOnInputs, IsRewritten, IsRewrittenRoot, IsRewriteStopped}
use Rattle.brep_run.specs.Rewrite.{IsCycleOfRun, IsRefusedLine, IsRewriteLimit, IsRewriteRise}

pub record Due : Type 1 where
  -- the texts due stand whole under the names that are written
  pub finished : Type 0
  -- where a file is written: fully expanded it is the root due
  pub expands : Type 0
  -- and in it two occurrences go through one record exactly where their trees are equal
  pub shares : Type 0
  -- a fault stopped the writing of this output after so many bytes
  pub stopped : ℕ → ℕ → Type 0
  -- the file is refused for this fault
  pub file : ReadFault → Type 0
  -- a line of the script is refused for this fault
  pub script : ScriptFault → Type 0
  -- a step of the script is refused for the cycle of these origins
  pub cycle : List ℕ → Type 0
  -- so many are over this limit
  pub limit : LimitKind → ℕ → Type 0
  -- the command isn't built
  pub not_built : Type 0
  -- no stray call is made, where what is read is held
  pub no_strays : Type 0
  -- the count of steps goes from one number to another
  pub rises : ℕ → ℕ → Type 0

-- ---- the root due

-- The text written under the name spells one file, which stands for a root that is due, in the version that is due.
abbrev pub WrittenExpands : Tells → Shown → List ℕ → (File → Use → ℕ → Type 0) → Type 0
WrittenExpands t new target IsRoot =
    (text : List ℕ) → IsTrue t.held → IsTrue t.written → new.written target ≡ Some text →
    (f : File) × (root : Use) × (version : ℕ) × IsRoot f root version × IsTextFor f root version text

-- In that file two occurrences go through one record exactly where their trees in the root are equal.
abbrev pub WrittenShares : Tells → Shown → List ℕ → (File → Use → ℕ → Type 0) → Type 0
WrittenShares t new target IsRoot =
    (text : List ℕ) (g : File) → IsTrue t.held → IsTrue t.written → new.written target ≡ Some text → Spells text g →
    (f : File) × (root : Use) × (version : ℕ) × IsRoot f root version × SharesEqualTrees root g

-- the expansion of the file that is held, in the file's version
abbrev pub IsCopiedRoot : Shown → List ℕ → File → Use → ℕ → Type 0
IsCopiedRoot old source f root version = HoldsFile old source f × (root ≡ expansion_of f) × (version ≡ f.version)

-- ---- each command

-- a command that neither reads nor writes
abbrev pub of_no_command : Tells → Shown → Shown → Due
of_no_command t old new = record {
  finished = ⊥;
  expands = ⊥;
  shares = ⊥;
  stopped = λ file taken. ⊥;
  file = λ fault. ⊥;
  script = λ fault. ⊥;
  cycle = λ walk. ⊥;
  limit = λ which count. ⊥;
  not_built = ⊥;
  no_strays = KeepsStrays t old new;
  rises = λ before after. after ≡ before;
}

abbrev pub of_copy : Tells → Shown → Shown → List ℕ → List ℕ → Due
of_copy t old new source target = record {
  finished = IsCopied t old new source target;
  expands = WrittenExpands t new target (IsCopiedRoot old source);
  shares = WrittenShares t new target (IsCopiedRoot old source);
  stopped = IsCopyStopped t old new source target;
  file = λ fault. IsTrue t.held → HoldsFault old source fault;
  script = λ fault. ⊥;
  cycle = λ walk. ⊥;
  limit = IsFileLimit t old source;
  not_built = ⊥;
  no_strays = NoStrayOnHeld t old new source;
  rises = λ before after. after ≡ before;
}

abbrev pub of_rewrite : Tells → Shown → Shown → List ℕ → List ℕ → List ℕ → List ℕ → Due
of_rewrite t old new source script target history = record {
  finished = IsRewritten t old new source script target history;
  expands = WrittenExpands t new target (IsRewrittenRoot old source script);
  shares = WrittenShares t new target (IsRewrittenRoot old source script);
  stopped = IsRewriteStopped t old new source script target history;
  file = λ fault. IsTrue t.held → HoldsFault old source fault;
  script = IsRefusedLine t old source script;
  cycle = IsCycleOfRun t old source script;
  limit = IsRewriteLimit t old source script;
  not_built = ⊥;
  no_strays = NoStrayOnInputs t old new source script;
  rises = IsRewriteRise t old source script;
}

-- What is written is no file.
abbrev pub of_listing : Tells → Shown → Shown → List ℕ → Listing → List ℕ → Due
of_listing t old new source listing target = record {
  finished = IsListed t old new source listing target;
  expands = Unit {0};
  shares = Unit {0};
  stopped = IsListingStopped t old new source listing target;
  file = λ fault. IsTrue t.held → HoldsFault old source fault;
  script = λ fault. ⊥;
  cycle = λ walk. ⊥;
  limit = IsListingLimit t old source listing;
  not_built = ⊥;
  no_strays = NoStrayOnHeld t old new source;
  rises = λ before after. after ≡ before;
}

abbrev pub due_of : Tells → Shown → Shown → CommandLine → Due
due_of t old new (copies source target) = of_copy t old new source target
due_of t old new (rewrites source script target history) = of_rewrite t old new source script target history
due_of t old new (lists source listing target) = of_listing t old new source listing target
due_of t old new later = record (of_no_command t old new) { not_built = Unit {0} }
due_of t old new wrong = of_no_command t old new

-- what is due of the command that the words spell
abbrev pub due : Tells → Shown → Shown → List (List ℕ) → Due
due t old new words = due_of t old new (command_line_of words)
