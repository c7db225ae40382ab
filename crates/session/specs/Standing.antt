-- What a session holds by numbers stands for a state.
use Rattle.std.specs.Prelude.{◌≡◌, ◌⊎◌, ◌<◌, ℕ, ◌↔◌, List, [], ◌∷◌, All, Contains, length, reverse}
use Rattle.location_words.specs.declared.pair.Pair.{Pair}
use Rattle.expansion_laws.specs.Expansion.{IsNumberOf}
use Rattle.expansion_laws.specs.Keeping.{HasWordsOf, IsWordOf}
use Rattle.expansion_laws.specs.Requests.{Request as TreeRequest, replace}
use Rattle.expansion_laws.specs.Trees.{Tree, Use}
use Rattle.location_table.specs.Words.{datums_of}
use Rattle.shape_pool.specs.declared.node.UseOf.{UseOf}
use Rattle.shape_pool.specs.Laws.{word_in}
use Rattle.shape_pool.specs.Rows.{Row, HaveKinds, origin_at, trees_of}
use Rattle.requests.specs.declared.request.Request.{Request}
use Rattle.requests.specs.Numbered.{AreHeldIn, ActFits}
use Rattle.requests.specs.Readings.{requests_by}
use Rattle.step_history.specs.Composition.{Done, root_after, history_after}
use Rattle.step_history.specs.Changes.{Makes}
use Rattle.step_history.specs.Numbered.{IsHeld, Tells, tree_by}
use Rattle.brep_file.specs.declared.file.File.{File}
use Rattle.brep_file.specs.Sound.{IsSound, IsWithinLimits}
use Rattle.brep_file.specs.PlainRecords.{expansion_of}
use Rattle.file_loading.specs.Loading.{kind_of_record, use_in, IsLoadedFrom}
use Rattle.script_requests.specs.declared.version.Version.{Version}
use Rattle.script_requests.specs.AsTrees.{HasImages, IsWorded}
use Rattle.script_requests.specs.Kinds.{kind_of}
use Rattle.session.specs.States.{State, held_trees}
use Rattle.session.specs.Views.{View}

-- a use by numbers is held
abbrev pub IsUseHeld : List (List Pair) → List Row → UseOf → Type 0
IsUseHeld words rows u = (u.id.0 < length rows) × (u.place.0 < length words)

-- a number of a datum of the file
abbrev pub IsDatumOf : File → ℕ → Type 0
IsDatumOf f d = IsNumberOf (length (datums_of f.locations)) d

module _ (f : File) (words : List (List Pair)) (rows : List Row) where
  -- a version stands for what a step has left, after the steps before it
  pub record IsVersion (v : Version) (d : Done) (ds : List Done) : Type 0 where
    pub held : IsUseHeld words rows v.root
    pub root : use_in words rows v.root ≡ d.after
    pub before : d.before ≡ root_after (expansion_of f) ds
    pub makes : Makes d.change d.before d.after
    pub word : IsWordOf (IsDatumOf f) d.after.word
    pub images : HasImages f words rows v d
    pub told : IsHeld rows v.history
    pub history : Tells (tree_by (word_in words) rows) v.history
        (history_after (kind_of f) (expansion_of f) (d ∷ ds))

  -- versions for steps, the last one first
  abbrev pub AreVersions : List Version → List Done → Type 0
  AreVersions [] [] = Unit {0}
  AreVersions (v ∷ vs) (d ∷ ds) = IsVersion v d ds × AreVersions vs ds
  AreVersions [] (d ∷ ds) = ⊥
  AreVersions (v ∷ vs) [] = ⊥

  -- what is asked by numbers: its nodes and words are held, its targets fit, and stand under words over the file's
  -- datums
  pub record IsAsked (asked : List Request) (s : State) : Type 0 where
    pub held : AreHeldIn rows asked
    pub worded : All (IsWorded (length words)) asked
    pub fit : All (λ (r : Request). ActFits rows r.source.0 r.act) asked
    pub stands : s.requests ≡ requests_by (word_in words) rows asked
    pub over_datums : (r : TreeRequest) (by : Use) → Contains s.requests r → r.act ≡ replace by →
        IsWordOf (IsDatumOf f) by.word

-- origins are those of records, or 0; trees are held that a record has or a step has made; and the words of their uses
-- are over the file's datums
pub record IsStocked (f : File) (words : List (List Pair)) (rows : List Row) (s : State) : Type 0 where
  pub loaded : IsLoadedFrom f words rows
  pub kinds : HaveKinds rows (kind_of_record f)
  pub origins : (i : ℕ) → i < length rows → (origin_at rows i ≡ 0) ⊎ IsNumberOf (length f.records) (origin_at rows i)
  pub held : (x : Tree) → Contains (trees_of (word_in words) rows) x ↔ Contains (held_trees f s) x
  pub over_datums : (x : Tree) → Contains (trees_of (word_in words) rows) x → HasWordsOf (IsDatumOf f) x

-- a session stands for a state
pub record Stands (v : View) (s : State) : Type 0 where
  pub sound : IsSound v.file
  pub within : IsWithinLimits v.file
  pub stocked : IsStocked v.file v.words v.rows s
  pub first_held : IsUseHeld v.words v.rows v.first
  pub first : use_in v.words v.rows v.first ≡ expansion_of v.file
  pub first_word : IsWordOf (IsDatumOf v.file) (expansion_of v.file).word
  pub start_held : IsHeld v.rows v.start
  pub start : Tells (tree_by (word_in v.words) v.rows) v.start
      (history_after (kind_of v.file) (expansion_of v.file) [])
  pub versions : AreVersions v.file v.words v.rows (reverse v.versions) s.steps
  pub asked : IsAsked v.file v.words v.rows v.asked s
  pub rule : s.rule ≡ v.rule
  pub output : s.output ≡ v.output
  pub version : (v.output ≡ v.file.version) ⊎ (v.output ≡ 1)
  pub carried : v.carried ≡ length s.made

-- a session stands for some state
abbrev pub IsSession : View → Type 0
IsSession v = (s : State) × Stands v s

-- what is so of each state for which a session stands
abbrev pub InStates : View → (State → Type 0) → Type 0
InStates v P = (s : State) → Stands v s → P s
