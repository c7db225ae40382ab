-- The nodes for which names stand, by numbers.
use Rattle.std.specs.Prelude.{◌≡◌, ◌⊎◌, ◌↔◌, ◌≤◌, ◌<◌, ℕ, List, [], ◌∷◌, All, Contains, slice_get, Some}
use Rattle.std.specs.List.Sorted.{IsStrictlySortedBy}
use Rattle.lists.specs.Distinct.{IsDistinct}
use Rattle.lists.specs.Gathering.{Adds}
use Rattle.shape_pool.specs.declared.node.NodeId.{NodeId}
use Rattle.shape_pool.specs.declared.node.UseOf.{UseOf}
use Rattle.shape_pool.specs.Rows.{Row}
use Rattle.step_history.specs.declared.history.StepHistory.{StepHistory}
use Rattle.shape_pool.specs.Calls.{IsLoadedAs}
use Rattle.step_history.specs.Numbered.{pair_cmp, ArePairsHeld}
use Rattle.script_requests.specs.declared.version.Version.{Version}

-- the last version, the first of a list that is turned round
abbrev pub last_root : UseOf → List Version → UseOf
last_root first [] = first
last_root first (v ∷ vs) = v.root

abbrev pub last_history : StepHistory → List Version → StepHistory
last_history start [] = start
last_history start (v ∷ vs) = v.history

-- a number is an image of one of some numbers
abbrev pub IsImageIn : List (NodeId × NodeId) → (NodeId → Type 0) → NodeId → Type 0
IsImageIn pairs Stood j = (i : NodeId) × Stood i × Contains pairs (i, j)

-- The numbers for which a name stands, where versions are given from the last to the first: at first the one under
-- which its record was loaded; after a step their images, or where there are none, the one of its record again.
abbrev pub IsNamed : List Row → List Version → ℕ → NodeId → Type 0
IsNamed rows [] name i = IsLoadedAs rows name i.0
IsNamed rows (v ∷ vs) name i =
    IsImageIn v.images (IsNamed rows vs name) i ⊎
    (((j : NodeId) → IsImageIn v.images (IsNamed rows vs name) j → ⊥) × IsLoadedAs rows name i.0)

-- each of them once
pub record AreNamed (rows : List Row) (vs : List Version) (name : ℕ) (ids : List NodeId) : Type 0 where
  pub distinct : IsDistinct ids
  pub each : (i : NodeId) → Contains ids i ↔ IsNamed rows vs name i

-- ---- while they are looked up
-- a number as a node's
abbrev pub id_of : ℕ → NodeId
id_of i = record { 0 = i }

-- the first numbers of pairs have a fact up to a place, and not from there on
pub record PartsAt (P : ℕ → Type 0) (pairs : List (NodeId × NodeId)) (at : ℕ) : Type 0 where
  pub before : (k : ℕ) (p : NodeId × NodeId) → k < at → slice_get pairs k ≡ Some p → P p.0.0
  pub after : (k : ℕ) (p : NodeId × NodeId) → at ≤ k → slice_get pairs k ≡ Some p → P p.0.0 → ⊥

-- the pairs of which a number comes first
abbrev pub ArePairsOf : List (NodeId × NodeId) → ℕ → List (NodeId × NodeId) → Type 0
ArePairsOf pairs id own = (p : NodeId × NodeId) → Contains own p ↔ (Contains pairs p × (p.0.0 ≡ id))

-- a number comes second in a pair
abbrev pub IsSecond : NodeId × NodeId → ℕ → Type 0
IsSecond p j = p.1.0 ≡ j

-- numbers that were met, each once, and besides them all of which a fact holds
abbrev pub MeetsToo : (ℕ → Type 0) → List ℕ → List ℕ → Type 0
MeetsToo P old new = (IsDistinct old → IsDistinct new) × Adds P old new

-- what things of a list are related to
abbrev pub IsRelated : {X : Type 0} → (X → ℕ → Type 0) → List X → ℕ → Type 0
IsRelated {X} R xs j = (x : X) × Contains xs x × R x j

-- the images of a number, and of several
abbrev pub IsImageOfNumber : List (NodeId × NodeId) → ℕ → ℕ → Type 0
IsImageOfNumber pairs i j = Contains pairs (id_of i, id_of j)

abbrev pub IsImageOfOne : List (NodeId × NodeId) → List ℕ → ℕ → Type 0
IsImageOfOne pairs ids j = IsRelated (IsImageOfNumber pairs) ids j

-- numbers, each once, are the images of some, or where these have none, one alone
pub record AreNext (pairs : List (NodeId × NodeId)) (ids : List ℕ) (own : ℕ) (new : List ℕ) : Type 0 where
  pub distinct : IsDistinct new
  pub each : (j : ℕ) → Contains new j ↔
      (IsImageOfOne pairs ids j ⊎ (((k : ℕ) → IsImageOfOne pairs ids k → ⊥) × (own ≡ j)))

-- numbers are those of a name, each once
pub record AreNumbersNamed (rows : List Row) (vs : List Version) (name : ℕ) (ids : List ℕ) : Type 0 where
  pub distinct : IsDistinct ids
  pub each : (i : ℕ) → Contains ids i ↔ IsNamed rows vs name (id_of i)

-- the pairs of each version are held, and ascend
pub record IsVersionHeld (rows : List Row) (v : Version) : Type 0 where
  pub held : ArePairsHeld rows v.images
  pub order : IsStrictlySortedBy pair_cmp v.images

abbrev pub AreVersionsHeld : List Row → List Version → Type 0
AreVersionsHeld rows vs = All (IsVersionHeld rows) vs
