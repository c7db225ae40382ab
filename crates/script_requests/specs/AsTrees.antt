-- What numbers stand for: the shapes of names, what commands ask, and why they are refused, among trees.
use Rattle.std.specs.Prelude.{◌≡◌, ◌<◌, ℕ, List, [], ◌∷◌, All, length, map}
use Rattle.location_words.specs.declared.pair.Pair.{Pair}
use Rattle.expansion_laws.specs.Expansion.{IsNumberOf}
use Rattle.expansion_laws.specs.Keeping.{AllFit}
use Rattle.expansion_laws.specs.Steps.{Step}
use Rattle.file_loading.specs.Loading.{kind_of_record, IsLoadedFrom}
use Rattle.requests.specs.declared.request.Request.{Request}
use Rattle.requests.specs.Numbered.{ActFits, AreHeldIn}
use Rattle.requests.specs.declared.request.Act.{Act}
use Rattle.requests.specs.declared.request.Act.TheVariants.{Remove, Replace}
use Rattle.requests.specs.Readings.{requests_by, IsPlaceBelow}
use Rattle.script_text.specs.declared.command.Command.{Command}
use Rattle.script_text.specs.declared.command.Command.TheVariants as commands
use Rattle.script_text.specs.declared.command.Sel.{Sel}
use Rattle.script_text.specs.declared.command.SignedName.{SignedName}
use Rattle.script_text.specs.declared.command.Tgt.{Tgt}
use Rattle.script_text.specs.Writing.{HasLine}
use Rattle.shape_pool.specs.declared.node.NodeId.{NodeId}
use Rattle.shape_pool.specs.Laws.{word_in}
use Rattle.shape_pool.specs.Rows.{Row, HaveKinds}
use Rattle.step_history.specs.Changes.{Becomes, by_requests}
use Rattle.step_history.specs.Composition.{Done}
use Rattle.step_history.specs.History.{ListsPairs}
use Rattle.step_history.specs.Numbered.{tree_by}
use Rattle.brep_file.specs.declared.file.File.{File}
use Rattle.script_requests.specs.declared.fault.ScriptFault.{ScriptFault}
use Rattle.script_requests.specs.declared.version.Version.{Version}
use Rattle.script_requests.specs.Asking.{Asks}
use Rattle.script_requests.specs.Named.{AreNamed, IsVersionHeld}
use Rattle.script_requests.specs.Names.{AreTreesOf}
use Rattle.script_requests.specs.Numbered.{AreRemoving, AreReplacing, MergesNames, SewsNames}
use Rattle.script_requests.specs.Numbered.{IsReplaceFault, IsMergeRefused, IsSewRefused}
use Rattle.script_requests.specs.Refusals.{IsAmiss}

-- the words that a request names have numbers below n
abbrev pub ActIsWorded : ℕ → Act → Type 0
ActIsWorded n Remove = Unit {0}
ActIsWorded n (Replace by) = by.place.0 < n

abbrev pub IsWorded : ℕ → Request → Type 0
IsWorded n r = IsPlaceBelow n r.place × ActIsWorded n r.act

-- a change was a step by the file's kinds, whose targets fit
pub record IsStepBy (f : File) (d : Done) : Type 0 where
  pub step : Step
  pub is : d.change ≡ by_requests step
  pub kinds : step.kind_of_origin ≡ kind_of_record f
  pub fits : AllFit step

module _ (f : File) (words : List (List Pair)) (rows : List Row) where
  -- a version has the images of a step
  pub record HasImages (v : Version) (d : Done) : Type 0 where
    pub held : IsVersionHeld rows v
    pub images : ListsPairs (tree_by (word_in words) rows) v.images (Becomes d.change d.before)
    pub step : IsStepBy f d

  -- versions and the steps that left them, from the last to the first
  abbrev pub HaveImages : List Version → List Done → Type 0
  HaveImages [] [] = Unit {0}
  HaveImages (v ∷ vs) (d ∷ ds) = HasImages v d × HaveImages vs ds
  HaveImages [] (d ∷ ds) = ⊥
  HaveImages (v ∷ vs) [] = ⊥

  -- a file is loaded, and versions have the images of the steps so far
  pub record IsReached (vs : List Version) (ds : List Done) : Type 0 where
    pub loaded : IsLoadedFrom f words rows
    pub kinds : HaveKinds rows (kind_of_record f)
    pub images : HaveImages vs ds

  -- requests are those of a command; their nodes and words are held, and their targets fit
  pub record AreAskedBy (ds : List Done) (c : Command) (asked : List Request) : Type 0 where
    pub asks : Asks f ds c (requests_by (word_in words) rows asked)
    pub held : AreHeldIn rows asked
    pub worded : All (IsWorded (length words)) asked
    pub fit : All (λ (r : Request). ActFits rows r.source.0 r.act) asked

-- a command is accepted: nothing is amiss with it
abbrev pub IsRight : File → List Done → ℕ → Command → Type 0
IsRight f ds line c = (fault : ScriptFault) → IsAmiss f ds line c fault → ⊥

-- a command of a line of a script of the file
abbrev pub IsOfFile : File → Command → Type 0
IsOfFile f c = HasLine (length f.records) (length f.locations) c

-- What holds of every pool, where a file is loaded and versions have the images of the steps so far.
pub record AskingStands (rows : List Row) : Type 0 where
  pub names : (f : File) (words : List (List Pair)) (vs : List Version) (ds : List Done) (name : ℕ) (ids : List NodeId)
      → IsReached f words rows vs ds → IsNumberOf (length f.records) name → AreNamed rows vs name ids
      → AreTreesOf f ds name (map (tree_by (word_in words) rows) ids)
  pub removes : (f : File) (words : List (List Pair)) (vs : List Version) (ds : List Done) (sel : Sel)
      (asked : List Request) → IsReached f words rows vs ds → IsOfFile f (commands.Remove sel)
      → AreRemoving f words rows vs sel asked → AreAskedBy f words rows ds (commands.Remove sel) asked
  pub replaces : (f : File) (words : List (List Pair)) (vs : List Version) (ds : List Done) (sel : Sel) (tgt : Tgt)
      (line : ℕ) (asked : List Request) → IsReached f words rows vs ds → IsOfFile f (commands.Replace sel tgt)
      → AreReplacing f words rows vs sel tgt asked
      → AreAskedBy f words rows ds (commands.Replace sel tgt) asked × IsRight f ds line (commands.Replace sel tgt)
  pub merges : (f : File) (words : List (List Pair)) (vs : List Version) (ds : List Done) (names : List ℕ) (line : ℕ)
      (asked : List Request) → IsReached f words rows vs ds → IsOfFile f (commands.Merge names)
      → MergesNames rows vs names asked
      → AreAskedBy f words rows ds (commands.Merge names) asked × IsRight f ds line (commands.Merge names)
  pub sews : (f : File) (words : List (List Pair)) (vs : List Version) (ds : List Done) (names : List SignedName)
      (line : ℕ) (asked : List Request) → IsReached f words rows vs ds → IsOfFile f (commands.Sew names)
      → SewsNames rows vs names asked
      → AreAskedBy f words rows ds (commands.Sew names) asked × IsRight f ds line (commands.Sew names)
  pub replace_faults : (f : File) (words : List (List Pair)) (vs : List Version) (ds : List Done) (sel : Sel)
      (tgt : Tgt) (line : ℕ) (fault : ScriptFault) → IsReached f words rows vs ds
      → IsOfFile f (commands.Replace sel tgt) → IsReplaceFault rows vs line sel tgt fault
      → IsAmiss f ds line (commands.Replace sel tgt) fault
  pub merge_faults : (f : File) (words : List (List Pair)) (vs : List Version) (ds : List Done) (names : List ℕ)
      (line : ℕ) (fault : ScriptFault) → IsReached f words rows vs ds → IsOfFile f (commands.Merge names)
      → IsMergeRefused rows vs line names fault → IsAmiss f ds line (commands.Merge names) fault
  pub sew_faults : (f : File) (words : List (List Pair)) (vs : List Version) (ds : List Done)
      (names : List SignedName) (line : ℕ) (fault : ScriptFault) → IsReached f words rows vs ds
      → IsOfFile f (commands.Sew names) → IsSewRefused rows vs line names fault
      → IsAmiss f ds line (commands.Sew names) fault
