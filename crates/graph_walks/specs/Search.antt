-- What a search finds, and what it holds while it goes on.
use Rattle.std.specs.Prelude.{◌≡◌, ◌⊎◌, ◌↔◌, ℕ, ◌+◌, ◌-◌, ◌<◌, ◌≤◌, Bool, true, false, Option, None, Some}
use Rattle.std.specs.Prelude.{List, [], ◌∷◌, ◌++◌, length, reverse, map, take, drop, All, Contains, slice_get}
use Rattle.lists.specs.Distinct.{IsDistinct}
use Rattle.graph_walks.specs.declared.depth_first.Frame.{Frame}
use Rattle.graph_walks.specs.declared.depth_first.Mark.{Mark}
use Rattle.graph_walks.specs.declared.depth_first.Mark.TheVariants.{New, OnPath, Done}
use Rattle.graph_walks.specs.declared.depth_first.Found.{Found}
use Rattle.graph_walks.specs.declared.depth_first.Found.TheVariants.{Cycle, Order}
use Rattle.graph_walks.specs.Graph.{ends_of}
use Rattle.graph_walks.specs.Walks.{Reaches, Searches, SearchesEach, IsFirstCycle, IsFinishOrder}

-- the first cycle that the root reaches
pub record IsCycleFrom (graph : List (List ℕ)) (root : ℕ) (walk : List ℕ) : Type 0 where
  pub first : IsFirstCycle (ends_of graph) root walk
  pub nodes : All (λ x. x < length graph) walk

-- just what the root reaches, each node once and after the ends of its edges
pub record IsOrderFrom (graph : List (List ℕ)) (root : ℕ) (order : List ℕ) : Type 0 where
  pub finishes : IsFinishOrder (ends_of graph) (reverse order)
  pub reached : (x : ℕ) → Contains order x ↔ Reaches (ends_of graph) root x
  pub nodes : All (λ x. x < length graph) order

abbrev pub IsFound : List (List ℕ) → ℕ → Found → Type 0
IsFound graph root (Cycle walk) = IsCycleFrom graph root walk.items
IsFound graph root (Order order) = IsOrderFrom graph root order.items

-- ---- While the search goes on
-- the nodes of a path
abbrev pub path_of : List Frame → List ℕ
path_of frames = map (λ f. f.node) frames

-- the walk that an edge back to a node of the path closes: the path from that node on, and that node again
abbrev pub IsClosedAt : List ℕ → ℕ → List ℕ → Type 0
IsClosedAt path end walk =
    (older : List ℕ) × (newer : List ℕ) × (path ≡ older ++ end ∷ newer) × (walk ≡ end ∷ newer ++ end ∷ [])

module _ (graph : List (List ℕ)) where
  -- what the search of the root finds, where the last frames are resumed each at its next edge; frames from last to
  -- first
  abbrev pub Resumes : List Frame → Option (List ℕ) → Type 0
  Resumes [] found = found ≡ None
  Resumes (f ∷ frames) found =
      let left = drop f.next (ends_of graph f.node) in
      ((walk : List ℕ) × (found ≡ Some walk) ×
      SearchesEach (ends_of graph) (f.node ∷ path_of frames) left (Some walk)) ⊎
      (SearchesEach (ends_of graph) (f.node ∷ path_of frames) left None × Resumes frames found)

  -- a node of the graph, with so many edges at least
  abbrev pub IsWithin : Frame → Type 0
  IsWithin f = (f.node < length graph) × (f.next ≤ length (ends_of graph f.node))

  -- each end before a frame's next edge is finished
  abbrev pub IsGone : List ℕ → Frame → Type 0
  IsGone done f = (y : ℕ) → Contains (take f.next (ends_of graph f.node)) y → Contains done y

  -- the marks, the finished nodes from the last to the first, and the frames from the last to the first
  pub record IsSearch (root : ℕ) (marks : List Mark) (done : List ℕ) (frames : List Frame) : Type 0 where
    pub long : length marks ≡ length graph
    pub resumes : (found : Option (List ℕ)) → Resumes frames found → Searches (ends_of graph) [] root found
    pub within : All IsWithin frames
    pub distinct : IsDistinct (path_of frames)
    pub marked : (x : ℕ) → Contains (path_of frames) x ↔ (slice_get marks x ≡ Some OnPath)
    pub finished : (x : ℕ) → Contains done x ↔ (slice_get marks x ≡ Some Done)
    pub gone : All (IsGone done) frames
    pub ordered : IsFinishOrder (ends_of graph) done
    pub rooted : Contains done root ⊎ Contains (path_of frames) root
    pub reached_done : (x : ℕ) → Contains done x → Reaches (ends_of graph) root x
    pub reached_path : (x : ℕ) → Contains (path_of frames) x → Reaches (ends_of graph) root x

  -- the work that is left in frames: the edges of each that are left and one
  abbrev pub frames_work : List Frame → ℕ
  frames_work [] = 0
  frames_work (f ∷ frames) = 1 + (length (ends_of graph f.node) - f.next) + frames_work frames

-- the work that is left in nodes that aren't met yet: the edges of each and two
abbrev pub new_work : List Mark → List (List ℕ) → ℕ
new_work [] graph = 0
new_work (m ∷ marks) [] = 0
new_work (New ∷ marks) (ends ∷ graph) = 2 + length ends + new_work marks graph
new_work (OnPath ∷ marks) (ends ∷ graph) = new_work marks graph
new_work (Done ∷ marks) (ends ∷ graph) = new_work marks graph

-- the walk so far: none before the node is met among what is gone through, and then what is gone through from it on
abbrev pub IsClosing : Bool → List ℕ → List ℕ → ℕ → Type 0
IsClosing met walk gone end =
    ((met ≡ false) × (walk ≡ []) × (Contains gone end → ⊥)) ⊎
    ((met ≡ true) × ((older : List ℕ) × (newer : List ℕ) × (gone ≡ older ++ end ∷ newer) × (walk ≡ end ∷ newer)))
