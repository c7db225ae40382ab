-- What commands ask by numbers, by the command that a value is.
use Rattle.std.proofs.Common.{◌≡◌, sym, subst, ℕ, List}
use Rattle.std.specs.Prelude.{map, All}
use Rattle.std.specs.List.{AllByRecursion}
use Rattle.lists.proofs.Each.{All-from_members, each-contains}
use Rattle.lists.proofs.Members.{Contains-map}
use Rattle.expansion_laws.specs.Expansion.{IsNumberOf}
use Rattle.location_words.specs.declared.pair.Pair.{Pair}
use Rattle.requests.specs.declared.request.Request.{Request}
use Rattle.script_text.specs.declared.command.Command.{Command}
use Rattle.script_text.specs.declared.command.Command.TheVariants as commands
use Rattle.script_text.specs.declared.command.Sel.{Sel}
use Rattle.script_text.specs.declared.command.SignedName.{SignedName}
use Rattle.script_text.specs.declared.command.Tgt.{Tgt}
use Rattle.script_text.specs.Writing.{IsShape, name_of}
use Rattle.shape_pool.specs.Calls.{IsLoaded}
use Rattle.shape_pool.specs.Rows.{Row}
use Rattle.brep_file.specs.declared.file.File.{File}
use Rattle.script_requests.specs.declared.fault.AskFault.{AskFault}
use Rattle.script_requests.specs.declared.fault.AskFault.TheVariants.{Script, NoMemory}
use Rattle.script_requests.specs.declared.fault.ScriptFault.{ScriptFault}
use Rattle.script_requests.specs.declared.version.Version.{Version}
use Rattle.script_requests.specs.AsTrees.{AreAskedBy, AskingStands, IsOfFile, IsRight}
use Rattle.script_requests.specs.Numbered.{AreRemoving, AreReplacing, IsReplaceFault, MergesNames, OrWants, SewsNames}
use Rattle.script_requests.specs.Refusals.{IsAmiss}
use Rattle.session.specs.Commands.{AsksOf, FailsFor}

pub or-wants : (P Q : ScriptFault → Type 0) → ((fault : ScriptFault) → P fault → Q fault) → (fault : AskFault) →
    OrWants P fault → OrWants Q fault
or-wants P Q h (Script fault) p = h fault p
or-wants P Q h NoMemory p = tt

-- names of a list that are all shapes are loaded
pub all-loaded : (rows : List Row) (n : ℕ) → ((k : ℕ) → IsNumberOf n k → IsLoaded rows k) → (names : List SignedName) →
    AllByRecursion (IsShape n) (map name_of names) → All (λ (s : SignedName). IsLoaded rows s.name) names
all-loaded rows n loaded names shapes =
    All-from_members (λ (s : SignedName). IsLoaded rows s.name) names
    (λ s m.
    loaded s.name (each-contains (IsShape n) (map name_of names) s.name shapes (Contains-map name_of s names m)))

module _ (rows : List Row) (laws : AskingStands rows) (f : File) (words : List (List Pair)) (vs : List Version)
    (line : ℕ) (c : Command) (o : IsOfFile f c) where
  pub replace-asks : (sel : Sel) (tgt : Tgt) → c ≡ commands.Replace sel tgt → (asked : List Request) →
      AreReplacing f words rows vs sel tgt asked → AsksOf f words rows vs line c asked
  replace-asks sel tgt is asked a = λ ds r.
      subst (λ k. AreAskedBy f words rows ds k asked × IsRight f ds line k) (sym is)
      (laws.replaces f words vs ds sel tgt line asked r (subst (IsOfFile f) is o) a)

  pub replace-fails : (sel : Sel) (tgt : Tgt) → c ≡ commands.Replace sel tgt → (fault : ScriptFault) →
      IsReplaceFault rows vs line sel tgt fault → FailsFor f words rows vs line c fault
  replace-fails sel tgt is fault h = λ ds r.
      subst (λ k. IsAmiss f ds line k fault) (sym is)
      (laws.replace_faults f words vs ds sel tgt line fault r (subst (IsOfFile f) is o) h)

  pub remove-asks : (sel : Sel) → c ≡ commands.Remove sel → (asked : List Request) →
      AreRemoving f words rows vs sel asked → AsksOf f words rows vs line c asked
  remove-asks sel is asked a = λ ds r.
      subst (λ k. AreAskedBy f words rows ds k asked × IsRight f ds line k) (sym is)
      (laws.removes f words vs ds sel asked r (subst (IsOfFile f) is o) a, λ fault h. h)

  pub merge-asks : (names : List ℕ) → c ≡ commands.Merge names → (asked : List Request) →
      MergesNames rows vs names asked → AsksOf f words rows vs line c asked
  merge-asks names is asked a = λ ds r.
      subst (λ k. AreAskedBy f words rows ds k asked × IsRight f ds line k) (sym is)
      (laws.merges f words vs ds names line asked r (subst (IsOfFile f) is o) a)

  pub sew-asks : (names : List SignedName) → c ≡ commands.Sew names → (asked : List Request) →
      SewsNames rows vs names asked → AsksOf f words rows vs line c asked
  sew-asks names is asked a = λ ds r.
      subst (λ k. AreAskedBy f words rows ds k asked × IsRight f ds line k) (sym is)
      (laws.sews f words vs ds names line asked r (subst (IsOfFile f) is o) a)
