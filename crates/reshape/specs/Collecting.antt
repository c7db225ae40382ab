-- Keys while they are collected, from the root down over the places of a plan.
use Rattle.std.specs.Prelude.{◌≡◌, ◌≢◌, ◌⊎◌, ◌++◌, ◌∷◌, true, ℕ, suc, ◌≤◌, ◌<◌, List, [], length}
use Rattle.std.specs.Prelude.{map, filter, All, Contains, Option, Some, Vec, is_some, slice_get}
use Rattle.std.specs.Global.{Global}
use Rattle.std.specs.Option.{option_map_or}
use Rattle.lists.specs.Distinct.{IsDistinct, ListsEachOnce}
use Rattle.location_words.specs.declared.pair.Pair.{Pair}
use Rattle.location_words.specs.declared.fault.WordFault.{WordFault}
use Rattle.location_words.specs.Faults.{fault_of, IsDueFault}
use Rattle.expansion_laws.specs.Trees.{Use}
use Rattle.expansion_laws.specs.Contexts.{at_root, inside}
use Rattle.expansion_laws.specs.Steps.{Step}
use Rattle.expansion_laws.specs.Demands.{demands}
use Rattle.expansion_laws.specs.Keys.{IsKey, IsKeyOfStep, Key as TreeKey}
use Rattle.shape_pool.specs.declared.node.UseOf.{UseOf}
use Rattle.shape_pool.specs.Rows.{Row, tree_at}
use Rattle.requests.specs.Plans.{PlannedNode, ids_of}
use Rattle.key_results.specs.declared.fault.ApplyFault.{ApplyFault}
use Rattle.key_results.specs.declared.fault.ApplyFault.TheVariants.{Limit, NoMemory}
use Rattle.key_results.specs.declared.fault.LimitKind.TheVariants.{Keys}
use Rattle.key_results.specs.declared.derive.Link.{Link}
use Rattle.key_results.specs.declared.derive.Visit.{Visit}
use Rattle.key_results.specs.declared.key.Key.{Key}
use Rattle.key_results.specs.declared.words.Mover.{Mover}
use Rattle.key_results.specs.Memos.{key_by, context_by, IsHeldKey}
use Rattle.key_results.specs.Derived.{asked_by, IsDerivation}
use Rattle.reshape.specs.Asking.{moved_use}
use Rattle.reshape.specs.Limits.{most_keys, IsKeysFault, Passes}

-- the keys of the node at a place
abbrev pub keys_at : List (Vec Key Global) → ℕ → List Key
keys_at at p = option_map_or (λ (v : Vec Key Global). v.items) (slice_get at p) []

-- how many keys hold a word
abbrev pub worded : List Key → ℕ
worded keys = length (filter (λ (k : Key). is_some k.word) keys)

-- Keys that were found, each once and at the place of its node. Not too many of them hold a word.
pub record AreFound (rows : List Row) (n : ℕ) (nodes : List PlannedNode) (keys : List Key) (at : List (Vec Key Global))
    (count : ℕ) :
    Type 0 where
  pub long : length at ≡ length nodes
  pub held : All (IsHeldKey rows n) keys
  pub distinct : IsDistinct keys
  pub placed : (k : Key) → Contains keys k → (p : ℕ) × Contains (keys_at at p) k
  pub back : (p : ℕ) (k : Key) → Contains (keys_at at p) k →
      Contains keys k × (slice_get (ids_of nodes) p ≡ Some k.id.0)
  pub counted : count ≡ worded keys
  pub few : count ≤ most_keys

-- a key is added to others: it was there before, or comes last
abbrev pub IsAdded : Key → List Key → List Key → Type 0
IsAdded key old new = (Contains old key × (new ≡ old)) ⊎ ((Contains old key → ⊥) × (new ≡ old ++ key ∷ []))

-- several keys are added to others: those that weren't there come last
pub record AreJoined (own old new : List Key) : Type 0 where
  pub more : List Key
  pub is : new ≡ old ++ more
  pub of_own : (k : Key) → Contains more k → Contains own k
  pub has : (k : Key) → Contains own k → Contains new k
  pub once : IsDistinct old → IsDistinct new

-- a key was found at a place: it was found before, or comes last among all and among those of the place
pub record IsNoted (place : ℕ) (key : Key) (old : List Key) (old_at : List (Vec Key Global)) (new : List Key)
    (new_at : List (Vec Key Global)) : Type 0 where
  pub long : length new_at ≡ length old_at
  pub others : (q : ℕ) → q ≢ place → keys_at new_at q ≡ keys_at old_at q
  pub own : (Contains old key × (new ≡ old) × (keys_at new_at place ≡ keys_at old_at place)) ⊎
      ((Contains old key → ⊥) × (new ≡ old ++ key ∷ []) × (keys_at new_at place ≡ keys_at old_at place ++ key ∷ []))

-- a key is one too many, unless it is want of memory
abbrev pub IsDueKey : Key → List Key → ℕ → ApplyFault → Type 0
IsDueKey key keys count fault =
    (fault ≡ NoMemory) ⊎ ((fault ≡ Limit Keys (suc most_keys)) × (Contains keys key → ⊥) × (is_some key.word ≡ true) ×
    (count ≡ most_keys))

module _ (rows : List Row) (s : Step) (word : ℕ → List Pair) where
  -- the visits of a key ask for the use that a mover moves
  abbrev pub IsDemanded : Key → Mover → UseOf → Type 0
  IsDemanded from m u =
      Contains (demands s (tree_at word rows from.id.0) (context_by word from)) (moved_use word (tree_at word rows) m u)

  -- the key of the visit of such a use; one of these keys is it
  abbrev pub IsKeyFrom : Key → Mover → UseOf → TreeKey → Type 0
  IsKeyFrom from m u k =
      IsKey s (tree_at word rows u.id.0) (inside (context_by word from) (moved_use word (tree_at word rows) m u)) k

  abbrev pub HasKeyFrom : List Key → Key → Mover → UseOf → Type 0
  HasKeyFrom keys from m u = (l : Key) × Contains keys l × IsKeyFrom from m u (key_by word rows l)

  -- with a key those of what its visits ask for
  abbrev pub HasAsked : List Key → Key → Type 0
  HasAsked keys k = (v : Use) → Contains (demands s (tree_at word rows k.id.0) (context_by word k)) v →
      (l : Key) × Contains keys l × IsKey s v.tree (inside (context_by word k) v) (key_by word rows l)

  -- with each key at a place from one on
  abbrev pub AreClosedFrom : List Key → List (Vec Key Global) → ℕ → Type 0
  AreClosedFrom keys at p = (q : ℕ) (k : Key) → p ≤ q → Contains (keys_at at q) k → HasAsked keys k

  -- a word of the key of such a use is past a limit, unless it is want of memory
  abbrev pub IsDueFrom : Key → Mover → UseOf → WordFault → Type 0
  IsDueFrom from m u fault =
      (k : TreeKey) × (w : List Pair) × IsKeyFrom from m u k × (k.word ≡ Some w) × IsDueFault (fault_of w) fault

  module _ (root : Use) where
    -- each is one of the step
    abbrev pub AreOfStep : List Key → Type 0
    AreOfStep keys = All (λ (k : Key). IsKeyOfStep s root (key_by word rows k)) keys

    -- the key of the root's visit is found
    abbrev pub HasRoot : List Key → Type 0
    HasRoot keys = (k : Key) × Contains keys k × IsKey s root.tree (inside at_root root) (key_by word rows k)

    -- they are all keys of the step, each once
    abbrev pub AreAllKeys : List Key → Type 0
    AreAllKeys keys = ListsEachOnce (map (key_by word rows) keys) (IsKeyOfStep s root)

    -- the last key is that of the root's visit
    abbrev pub IsLastKey : List Key → Type 0
    IsLastKey keys = (i : ℕ) × (k : Key) × (suc i ≡ length keys) × (slice_get keys i ≡ Some k) ×
        IsKey s root.tree (inside at_root root) (key_by word rows k)

  -- the keys of what the visits of a key ask for stand before a place, and before that of the key
  abbrev pub IsAskedBefore : List Key → ℕ → Key → Type 0
  IsAskedBefore keys i k = (v : Use) → Contains (demands s (tree_at word rows k.id.0) (context_by word k)) v →
      (j : ℕ) × (l : Key) × (j < i) × (slice_get keys j ≡ Some l) ×
      IsKey s v.tree (inside (context_by word k) v) (key_by word rows l)

  abbrev pub AreBottomUp : List Key → Type 0
  AreBottomUp keys = (i : ℕ) (k : Key) → slice_get keys i ≡ Some k → IsAskedBefore keys i k

-- The keys of some uses that the visits of a key ask for are found. What is found stays at the key's place and behind
-- it, and is of the step.
pub record IsCollected (rows : List Row) (s : Step) (word : ℕ → List Pair) (nodes : List PlannedNode) (from : Key)
    (m : Mover) (us : List UseOf)
    (keys : List Key) (at : List (Vec Key Global)) (now : List Key) (now_at : List (Vec Key Global)) : Type 0 where
  pub has : (u : UseOf) → Contains us u → HasKeyFrom rows s word now from m u
  pub earlier : (p q : ℕ) → slice_get (ids_of nodes) p ≡ Some from.id.0 → p ≤ q → keys_at now_at q ≡ keys_at at q
  pub sound : (root : Use) → AreOfStep rows s word root keys → IsKeyOfStep s root (key_by word rows from) →
      AreOfStep rows s word root now

-- what is found is of the step, the root's key too, and with each key at a place from one on what its visits ask for
pub record AreCollectedFrom (rows : List Row) (s : Step) (word : ℕ → List Pair) (root : Use) (keys : List Key)
    (at : List (Vec Key Global))
    (p : ℕ) : Type 0 where
  pub of_step : AreOfStep rows s word root keys
  pub first : HasRoot rows s word root keys
  pub closed : AreClosedFrom rows s word keys at p

-- why keys aren't collected: a test of the first group fails, unless it is want of memory
abbrev pub IsKeysDue : Step → Use → ApplyFault → Type 0
IsKeysDue s root (Limit which n) = IsKeysFault s root which n
IsKeysDue s root NoMemory = Unit {0}

-- the keys of places in one list: all of them, each once, and behind each of a place those of earlier places
pub record AreInOrder (at : List (Vec Key Global)) (keys : List Key) : Type 0 where
  pub distinct : IsDistinct keys
  pub all : (p : ℕ) (k : Key) → Contains (keys_at at p) k → Contains keys k
  pub placed : (i : ℕ) (k : Key) → slice_get keys i ≡ Some k → (p : ℕ) × Contains (keys_at at p) k ×
      ((q : ℕ) (l : Key) → q < p → Contains (keys_at at q) l → (j : ℕ) × (j < i) × (slice_get keys j ≡ Some l))

-- The keys are all keys of the step, each once and after those of what its visits ask for. The last is that of the
-- root's visit. No limit of keys and of their words is passed.
pub record AreKeysOf (rows : List Row) (s : Step) (word : ℕ → List Pair) (root : Use) (keys : List Key) : Type 0 where
  pub whole : AreAllKeys rows s word root keys
  pub bottom_up : AreBottomUp rows s word keys
  pub last : IsLastKey rows s word root keys
  pub within : Passes (IsKeysFault s root)

-- a place has the key of a use that the visits of a key ask for under a mover
abbrev pub IsFoundKey : List Row → Step → (ℕ → List Pair) → List Key → Key → Mover → UseOf → Option ℕ → Type 0
IsFoundKey rows s word keys from m u o =
    (i : ℕ) × (to : Key) × (o ≡ Some i) × (slice_get keys i ≡ Some to) × (to.id ≡ u.id) ×
    IsKeyFrom rows s word from m u (key_by word rows to)

-- the visits of a key ask for all of some uses, and the keys of these are among others
abbrev pub HaveKeysFrom : List Row → Step → (ℕ → List Pair) → List Key → Key → Mover → List UseOf → Type 0
HaveKeysFrom rows s word keys from m us =
    (u : UseOf) → Contains us u → IsDemanded rows s word from m u × HasKeyFrom rows s word keys from m u

-- a link leads from a key to that of a use which its visits ask for under a mover
abbrev pub IsLinkTo : List Row → Step → (ℕ → List Pair) → List Key → Key → Mover → UseOf → Link → Type 0
IsLinkTo rows s word keys from m u l =
    (l.turn ≡ u.turn) × (l.place ≡ u.place) × (to : Key) × (slice_get keys l.key ≡ Some to) × (to.id ≡ u.id) ×
    IsKeyFrom rows s word from m u (key_by word rows to)

-- links lead, each from a key, to those of uses
pub record AreLinksTo (rows : List Row) (s : Step) (word : ℕ → List Pair) (keys : List Key) (from : Key) (m : Mover)
    (us : List UseOf)
    (links : List Link) : Type 0 where
  pub long : length links ≡ length us
  pub asked : map (asked_by s word rows keys m) links ≡ map (moved_use word (tree_at word rows) m) us
  pub each : All (λ (l : Link). (u : UseOf) × Contains us u × IsLinkTo rows s word keys from m u l) links

-- visits derive the step of a root, key by key
pub record IsDerivedBy (rows : List Row) (s : Step) (word : ℕ → List Pair) (root : Use) (visits : List Visit) : Type 0
  where
    pub keys : List Key
    pub are : AreKeysOf rows s word root keys
    pub derives : IsDerivation s word rows keys visits
