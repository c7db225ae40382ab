-- The history of a change of a root: which trees became which, which came of which, and which are gone.
use Rattle.std.specs.Prelude.{◌≡◌, ◌≢◌, ◌⊎◌, ◌<◌, List, Contains}
use Rattle.orientation.specs.declared.kind.Kind.{Kind}
use Rattle.orientation.specs.declared.kind.Kind.TheVariants.{Ve, Ed, Fa, So}
use Rattle.orientation.specs.Kinds.{rank_of}
use Rattle.expansion_laws.specs.Trees.{Tree, Use}
use Rattle.expansion_laws.specs.Measures.{OccursIn, StandsBelow}
use Rattle.expansion_laws.specs.Steps.{Step, kind}
use Rattle.expansion_laws.specs.Visits.{IsImage, IsReplaced}

-- a history: the pairs of a tree and its image, the pairs of a tree and what was generated from it, and the trees
-- removed
pub record History : Type 1 where
  pub images : Tree → Tree → Type 0
  pub generated : Tree → Tree → Type 0
  pub removed : Tree → Type 0

-- a kind that histories support: vertices, edges, faces and solids
abbrev pub IsSupported : Kind → Type 0
IsSupported k = (k ≡ Ve) ⊎ (k ≡ Ed) ⊎ (k ≡ Fa) ⊎ (k ≡ So)

-- the trees of a first root that are first in no pair of a relation and don't occur in a last root
abbrev pub IsGone : (Tree → Kind) → Tree → Tree → (Tree → Tree → Type 0) → Tree → Type 0
IsGone kind_of before after R t =
    IsSupported (kind_of t) × OccursIn t before × ((s : Tree) → R t s → ⊥) × (OccursIn t after → ⊥)

-- What a history is read from: the kinds, the root's tree before and after, which trees have which images, and which
-- trees took the place of a replaced tree. Each way of changing a root gives these.
module _ (kind_of : Tree → Kind) (before after : Tree) (IsImageOf : Tree → Tree → Type 0)
    (IsReplacedBy : Tree → Tree → Type 0) where
  -- the images of the trees of the input
  abbrev pub images_of : Tree → Tree → Type 0
  images_of t s = IsSupported (kind_of t) × OccursIn t before × IsImageOf t s

  -- what came of a replaced tree of the input: a tree of a lower kind properly below one that took its place, which is
  -- an image of a tree that the input doesn't have
  abbrev pub generated_of : Tree → Tree → Type 0
  generated_of t s =
      (made : Tree) × (q : Tree) × IsSupported (kind_of t) × OccursIn t before × IsReplacedBy t made ×
      IsSupported (kind_of s) × (rank_of (kind_of s) < rank_of (kind_of t)) × StandsBelow s made ×
      (OccursIn q before → ⊥) × IsImageOf q s

  -- the trees of the input that have no image and don't occur in the output
  abbrev pub removed_of : Tree → Type 0
  removed_of = IsGone kind_of before after images_of

  abbrev pub history_of : History
  history_of = record { images = images_of; generated = generated_of; removed = removed_of }

-- modified: the images that are another tree
abbrev pub modified : History → Tree → Tree → Type 0
modified h t s = h.images t s × (t ≢ s)

-- the history of a step of requests
abbrev pub step_history : Step → Use → Use → History
step_history s before after = history_of (kind s) before.tree after.tree (IsImage s before) (IsReplaced s before)

-- a list has exactly the pairs of a relation, by the trees that its numbers or other things stand for
abbrev pub ListsPairs : {X : Type 0} → (X → Tree) → List (X × X) → (Tree → Tree → Type 0) → Type 0
ListsPairs {X} tree pairs R =
    ((p : X × X) → Contains pairs p → R (tree p.0) (tree p.1)) ×
    ((t s : Tree) → R t s → (p : X × X) × Contains pairs p × (tree p.0 ≡ t) × (tree p.1 ≡ s))

-- a list has exactly the trees of which a fact holds
abbrev pub ListsTrees : {X : Type 0} → (X → Tree) → List X → (Tree → Type 0) → Type 0
ListsTrees {X} tree list P =
    ((x : X) → Contains list x → P (tree x)) ×
    ((t : Tree) → P t → (x : X) × Contains list x × (tree x ≡ t))
