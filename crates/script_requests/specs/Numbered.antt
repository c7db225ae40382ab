-- What commands ask, and why they are refused, by the numbers of nodes and words.
use Rattle.std.specs.Prelude.{◌≡◌, ◌≢◌, ◌⊎◌, ◌≤◌, ℕ, List, [], ◌∷◌, ◌++◌, All, Contains, Option, Some, None}
use Rattle.std.specs.Prelude.{length, map, slice_get}
use Rattle.orientation.specs.declared.kind.Kind.TheVariants as kinds
use Rattle.orientation.specs.declared.turn.Turn.{Turn}
use Rattle.location_table.specs.Words.{word_of_place}
use Rattle.location_words.specs.declared.pair.Pair.{Pair}
use Rattle.location_words.specs.declared.table.WordId.{WordId}
use Rattle.requests.specs.declared.request.Act.{Act}
use Rattle.requests.specs.declared.request.Act.TheVariants.{Remove, Replace}
use Rattle.requests.specs.declared.request.Request.{Request}
use Rattle.requests.specs.Numbered.{ActFits, FitsAt}
use Rattle.sewing.specs.Asked.{sewing}
use Rattle.sewing.specs.Refused.{CanBeSewn, HasItsKind, HasOtherEnds, HasOtherKind, IsEdge, IsNoEdge}
use Rattle.sewing.specs.declared.fault.SewFault.{SewFault}
use Rattle.sewing.specs.declared.fault.SewFault.TheVariants as sew_faults
use Rattle.sewing.specs.declared.member.Member.{Member}
use Rattle.script_text.specs.declared.command.Sel.{Sel}
use Rattle.script_text.specs.declared.command.SignedName.{SignedName}
use Rattle.script_text.specs.declared.command.Tgt.{Tgt}
use Rattle.shape_pool.specs.declared.node.NodeId.{NodeId}
use Rattle.shape_pool.specs.Rows.{Row, kind_at}
use Rattle.brep_file.specs.declared.file.File.{File}
use Rattle.script_requests.specs.declared.fault.ScriptFault.{ScriptFault}
use Rattle.script_requests.specs.declared.fault.ScriptCode.TheVariants as codes
use Rattle.script_requests.specs.declared.fault.AskFault.{AskFault}
use Rattle.script_requests.specs.declared.fault.AskFault.TheVariants.{Script, NoMemory}
use Rattle.script_requests.specs.declared.version.Version.{Version}
use Rattle.script_requests.specs.Asking.{under_no_sign}
use Rattle.script_requests.specs.Named.{AreNamed}
use Rattle.script_requests.specs.Refusals.{told}

-- a number is that of the word of a location, and a place that of one that may be missing
abbrev pub IsWordOf : File → List (List Pair) → ℕ → WordId → Type 0
IsWordOf f words location id = slice_get words id.0 ≡ Some (word_of_place f.locations location)

abbrev pub IsPlaceOf : File → List (List Pair) → Option ℕ → Option WordId → Type 0
IsPlaceOf f words None place = place ≡ None
IsPlaceOf f words (Some location) place = (id : WordId) × (place ≡ Some id) × IsWordOf f words location id

-- the same request for a node
abbrev pub a_request : Option WordId → Option Turn → Act → NodeId → Request
a_request place turn act source = record { source = source; place = place; turn = turn; act = act }

module _ (f : File) (words : List (List Pair)) (rows : List Row) (vs : List Version) where
  abbrev pub AreRemoving : Sel → List Request → Type 0
  AreRemoving sel asked =
      (ids : List NodeId) × (place : Option WordId) × AreNamed rows vs sel.name ids ×
      IsPlaceOf f words sel.place place × (asked ≡ map (a_request place sel.turn Remove) ids)

  pub record AreReplacing (sel : Sel) (tgt : Tgt) (asked : List Request) : Type 0 where
    pub target : NodeId
    pub is_target : AreNamed rows vs tgt.name (target ∷ [])
    pub ids : List NodeId
    pub named : AreNamed rows vs sel.name ids
    pub place : Option WordId
    pub is_place : IsPlaceOf f words sel.place place
    pub word : WordId
    pub is_word : IsWordOf f words tgt.location word
    pub fits : All (λ (i : NodeId). FitsAt rows i.0 target.0) ids
    pub are :
        asked ≡ map (a_request place sel.turn (Replace (record { turn = tgt.turn; place = word; id = target }))) ids

-- a target of some requests doesn't fit
abbrev pub HasMisfit : List Row → List Request → Type 0
HasMisfit rows asked = (r : Request) × Contains asked r × (ActFits rows r.source.0 r.act → ⊥)

-- the members of a name under its turn, and those of names in a row
abbrev pub members_under : SignedName → List NodeId → List Member
members_under n ids = map (λ i. record { id = i; turn = n.turn }) ids

-- a member can be merged with the first one, or has another kind
abbrev pub CanBeMerged : List Row → NodeId → Member → Type 0
CanBeMerged rows first m = HasItsKind rows first m.id

abbrev pub IsOfOtherKind : List Row → NodeId → Member → Type 0
IsOfOtherKind rows first m = HasOtherKind rows first m.id

module _ (rows : List Row) (vs : List Version) where
  abbrev pub AreMembersNamed : SignedName → List Member → Type 0
  AreMembersNamed n members = (ids : List NodeId) × AreNamed rows vs n.name ids × (members ≡ members_under n ids)

  abbrev pub AreAllMembers : List SignedName → List Member → Type 0
  AreAllMembers [] members = members ≡ []
  AreAllMembers (n ∷ ns) members =
      (own rest : List Member) × AreMembersNamed n own × AreAllMembers ns rest × (members ≡ own ++ rest)

  -- what is asked where the nodes of further names are to be the one of the first name
  pub record JoinsAll (CanJoin : Member → Type 0) (first : NodeId) (further : List SignedName) (asked : List Request)
      : Type 0 where
    pub members : List Member
    pub named : AreAllMembers further members
    pub fit : All CanJoin members
    pub are : asked ≡ sewing first members

  pub record AreMerging (name : ℕ) (further : List ℕ) (asked : List Request) : Type 0 where
    pub first : NodeId
    pub is_first : AreNamed rows vs name (first ∷ [])
    pub joins : JoinsAll (CanBeMerged rows first) first (under_no_sign further) asked

  pub record AreSewing (n : SignedName) (further : List SignedName) (asked : List Request) : Type 0 where
    pub first : NodeId
    pub is_first : AreNamed rows vs n.name (first ∷ [])
    pub edge : IsEdge rows first
    pub joins : JoinsAll (CanBeSewn rows first) first further asked

  -- of further names the first with a node that is amiss, the nodes of those before it being right
  pub record FailsFirst (further : List SignedName) (n : SignedName) (IsRight Amiss : Member → Type 0) : Type 0 where
    pub before : List SignedName
    pub after : List SignedName
    pub stands : further ≡ before ++ n ∷ after
    pub members : List Member
    pub named : AreAllMembers before members
    pub right : All IsRight members
    pub ids : List NodeId
    pub own : AreNamed rows vs n.name ids
    pub id : NodeId
    pub contains : Contains ids id
    pub amiss : Amiss (record { id = id; turn = n.turn })

  -- ---- why a command is refused, in the line with a number
  module _ (line : ℕ) where
    abbrev pub NameMany : ℕ → ScriptFault → Type 0
    NameMany name fault =
        (ids : List NodeId) × AreNamed rows vs name ids × (length ids ≢ 1) ×
        (fault ≡ told line codes.ManyImages name (length ids))

    abbrev pub IsReplaceFault : Sel → Tgt → ScriptFault → Type 0
    IsReplaceFault sel tgt fault =
        NameMany tgt.name fault ⊎
        ((target i : NodeId) × (ids : List NodeId) × AreNamed rows vs tgt.name (target ∷ []) ×
        AreNamed rows vs sel.name ids × Contains ids i × (FitsAt rows i.0 target.0 → ⊥) ×
        (fault ≡ told line codes.KindMismatch sel.name tgt.name))

    -- further names aren't merged with the node of a first name, or sewn to it
    abbrev pub MergeFails : NodeId → ℕ → List SignedName → ScriptFault → Type 0
    MergeFails first name further fault =
        (n : SignedName) × FailsFirst further n (CanBeMerged rows first) (IsOfOtherKind rows first) ×
        (fault ≡ told line codes.KindMismatch name n.name)

    abbrev pub SewFails : NodeId → ℕ → List SignedName → ScriptFault → Type 0
    SewFails first name further fault =
        ((kind_at rows first.0 ≢ kinds.Ed) × (fault ≡ told line codes.KindMismatch name name)) ⊎
        (IsEdge rows first × (n : SignedName) ×
        ((FailsFirst further n (CanBeSewn rows first) (IsNoEdge rows first) ×
        (fault ≡ told line codes.KindMismatch name n.name)) ⊎
        (FailsFirst further n (CanBeSewn rows first) (HasOtherEnds rows first) ×
        (fault ≡ told line codes.EndsDiffer name n.name))))

    abbrev pub IsMergeFault : ℕ → List SignedName → ScriptFault → Type 0
    IsMergeFault name further fault =
        NameMany name fault ⊎
        ((first : NodeId) × AreNamed rows vs name (first ∷ []) × MergeFails first name further fault)

    abbrev pub IsSewFault : ℕ → List SignedName → ScriptFault → Type 0
    IsSewFault name further fault =
        NameMany name fault ⊎
        ((first : NodeId) × AreNamed rows vs name (first ∷ []) × SewFails first name further fault)

-- a fault of a line that a fact tells of, or want of memory
abbrev pub OrWants : (ScriptFault → Type 0) → AskFault → Type 0
OrWants P (Script fault) = P fault
OrWants P NoMemory = Unit {0}

-- ---- the same of the lists that a line has, the first name among them
abbrev pub MergesNames : List Row → List Version → List ℕ → List Request → Type 0
MergesNames rows vs [] asked = ⊥
MergesNames rows vs (name ∷ names) asked = AreMerging rows vs name names asked

abbrev pub IsMergeRefused : List Row → List Version → ℕ → List ℕ → ScriptFault → Type 0
IsMergeRefused rows vs line [] fault = ⊥
IsMergeRefused rows vs line (name ∷ names) fault = IsMergeFault rows vs line name (under_no_sign names) fault

abbrev pub SewsNames : List Row → List Version → List SignedName → List Request → Type 0
SewsNames rows vs [] asked = ⊥
SewsNames rows vs (n ∷ ns) asked = AreSewing rows vs n ns asked

abbrev pub IsSewRefused : List Row → List Version → ℕ → List SignedName → ScriptFault → Type 0
IsSewRefused rows vs line [] fault = ⊥
IsSewRefused rows vs line (n ∷ ns) fault = IsSewFault rows vs line n.name ns fault

-- a location is one of the file's, where there is one
abbrev pub IsLocationOf : File → Option ℕ → Type 0
IsLocationOf f None = Unit {0}
IsLocationOf f (Some location) = location ≤ length f.locations

-- the fault of a further name of a list, by that of one of its members
abbrev pub fault_by : ℕ → ℕ → ℕ → SewFault → AskFault
fault_by line first name (sew_faults.KindMismatch member) = Script (told line codes.KindMismatch first name)
fault_by line first name sew_faults.NotEdge = Script (told line codes.KindMismatch first first)
fault_by line first name (sew_faults.EndsDiffer member) = Script (told line codes.EndsDiffer first name)
fault_by line first name sew_faults.NoMemory = NoMemory
