-- The search's lists grow at their ends: what a push and a pop do, how a search starts, and what it has found when it
-- ends.
use Rattle.std.proofs.Common.{◌≡◌, ◌<◌, refl, sym, ◌∙◌, ap, subst, arith, inl}
use Rattle.std.proofs.Common.{inr, get_or, set, slice_get, slice_index_or}
use Rattle.std.proofs.lemmas.List.{reverse-append, reverse-reverse, map-append}
use Rattle.std.proofs.lemmas.List.{append_assoc, length-set, length-replicate}
use Rattle.std.proofs.lemmas.List.Elements.{All-nil, All-cons, All-contains, Contains-get_or}
use Rattle.std.proofs.lemmas.Option.{slice_get_within}
use Rattle.std.specs.Prelude.{ℕ, zero, suc, ◌↔◌, Option, Some, List, [], ◌∷◌}
use Rattle.std.specs.Prelude.{◌++◌, length, reverse, All, Contains, replicate}
use Rattle.lists.proofs.Places.{slice_get-set-other, slice_get-set_same}
use Rattle.lists.proofs.Members.{Contains-cases, Contains-first, Contains-here, Contains-none}
use Rattle.lists.proofs.Members.{Contains-reverse, Contains-reversed, reverse-push}
use Rattle.lists.proofs.Cases.{same_or_not}
use Rattle.graph_walks.specs.declared.depth_first.Frame.{Frame}
use Rattle.graph_walks.specs.declared.depth_first.Mark.{Mark}
use Rattle.graph_walks.specs.declared.depth_first.Mark.TheVariants.{New, OnPath, Done}
use Rattle.graph_walks.specs.Graph.{ends_of, EndsAreNodes}
use Rattle.graph_walks.specs.Walks.{Reaches, itself, along, Searches, enters, IsFirstCycle}
use Rattle.graph_walks.specs.Search.{IsCycleFrom, IsOrderFrom, path_of, Resumes, IsWithin, IsGone, IsSearch}
use Rattle.graph_walks.proofs.WalkLaws.{stays, closed, cycle-reached}
use Rattle.graph_walks.proofs.SearchLaws.{IsNext, found}

map-reverse : (fs : List Frame) → path_of (reverse fs) ≡ reverse (path_of fs)
map-reverse [] = refl
map-reverse (f ∷ fs) =
    ap path_of (reverse-append (f ∷ []) fs) ∙ map-append (λ (g : Frame). g.node) (reverse fs) (f ∷ []) ∙
    ap (λ l. l ++ f.node ∷ []) (map-reverse fs) ∙ sym (reverse-append (f.node ∷ []) (path_of fs))

pub mark-at : (marks : List Mark) (y : ℕ) (m d : Mark) → y < length marks → slice_index_or marks y d ≡ m →
    slice_get marks y ≡ Some m
mark-at [] y m d lt e = absurd (omega arith)
mark-at (x ∷ marks) zero m d lt e = ap Some e
mark-at (x ∷ marks) (suc y) m d lt e = mark-at marks y m d (omega arith) e

pub ends-within : (graph : List (List ℕ)) → EndsAreNodes graph → (x : ℕ) → All (λ y. y < length graph) (ends_of graph x)
ends-within graph h x = go (length graph) graph h x
  where
    go : (n : ℕ) (graph : List (List ℕ)) → All (λ ends. All (λ y. y < n) ends) graph → (x : ℕ) →
        All (λ y. y < n) (ends_of graph x)
    go n [] h x = All-nil (λ y. y < n)
    go n (ends ∷ graph) h zero = h 0 ends (omega arith)
    go n (ends ∷ graph) h (suc x) = go n graph (λ i d lt. h (suc i) d (omega arith)) x

-- the end of a next edge is a node
pub next-within : (graph : List (List ℕ)) (f : Frame) (y : ℕ) → EndsAreNodes graph → IsNext graph f y → y < length graph
next-within graph f y h n =
    All-contains (λ (y : ℕ). y < length graph) (ends_of graph f.node) y (ends-within graph h f.node) n.edge

-- one more node is finished
pub listed : {graph : List (List ℕ)} {root : ℕ} {marks : List Mark} {frames : List Frame} (order longer : List ℕ)
    (x : ℕ) →
    longer ≡ order ++ x ∷ [] →
    IsSearch graph root marks (x ∷ reverse order) frames → IsSearch graph root marks (reverse longer) frames
listed {graph = graph} {root = root} {marks = marks} {frames = frames} order longer x e s =
    subst (λ d. IsSearch graph root marks d frames) (sym (ap reverse e ∙ reverse-push order x)) s

module _ {graph : List (List ℕ)} {root : ℕ} {marks : List Mark} {done : List ℕ} where
  -- the last frame of the path
  pub at-top : (path rest : List Frame) (top : Frame) → path ≡ rest ++ top ∷ [] →
      IsSearch graph root marks done (reverse path) →
      IsSearch graph root marks done (top ∷ reverse rest)
  at-top path rest top e s = subst (λ fs. IsSearch graph root marks done fs) (ap reverse e ∙ reverse-push rest top) s

  pub pushed : (rest path : List Frame) (top : Frame) → path ≡ rest ++ top ∷ [] →
      IsSearch graph root marks done (top ∷ reverse rest) →
      IsSearch graph root marks done (reverse path)
  pushed rest path top e s =
      subst (λ fs. IsSearch graph root marks done fs) (sym (ap reverse e ∙ reverse-push rest top)) s

  pub pushed-two : (rest path longer : List Frame) (f top : Frame) → path ≡ rest ++ f ∷ [] → longer ≡ path ++ top ∷ [] →
      IsSearch graph root marks done (top ∷ f ∷ reverse rest) → IsSearch graph root marks done (reverse longer)
  pushed-two rest path longer f top e g s =
      pushed path longer top g (subst (λ fs. IsSearch graph root marks done (top ∷ fs))
      (sym (ap reverse e ∙ reverse-push rest f)) s)

  module _ (rest path : List Frame) (top : Frame) (e : path ≡ rest ++ top ∷ [])
      (s : IsSearch graph root marks done (top ∷ reverse rest)) where
    nodes-turned : path_of (top ∷ reverse rest) ≡ reverse (path_of path)
    nodes-turned = ap path_of (sym (ap reverse e ∙ reverse-push rest top)) ∙ map-reverse path

    -- a node that is marked so stands on the path
    pub stands : (y : ℕ) → slice_get marks y ≡ Some OnPath → Contains (path_of path) y
    stands y m = Contains-reversed y (path_of path) (subst (λ l. Contains l y) nodes-turned ((s.marked y).1 m))

    pub cycle-found : (y : ℕ) (older newer walk : List ℕ) → IsNext graph top y → path_of path ≡ older ++ y ∷ newer →
        walk ≡ y ∷ newer ++ y ∷ [] →
        IsFirstCycle (ends_of graph) root walk
    cycle-found y older newer walk n q w =
        let at : path_of (top ∷ reverse rest) ≡ reverse newer ++ y ∷ reverse older =
        nodes-turned ∙ ap reverse q ∙ reverse-append older (y ∷ newer) ∙
        ap (λ l. l ++ reverse older) (reverse-append (y ∷ []) newer) ∙
        append_assoc (reverse newer) (y ∷ []) (reverse older) in
        subst (λ l. IsFirstCycle (ends_of graph) root l) (ap (λ l. y ∷ l ++ y ∷ []) (reverse-reverse newer) ∙ sym w)
        (found s n (reverse newer) (reverse older) at)

-- ---- the start
new-get : (n y : ℕ) (m : Mark) → slice_get (replicate n New) y ≡ Some m → m ≡ New
new-get zero y m e = cc
new-get (suc n) zero m e = cc
new-get (suc n) (suc y) m e = new-get n y m e

get-new : (n y : ℕ) → y < n → slice_get (replicate n New) y ≡ Some New
get-new zero y lt = absurd (omega arith)
get-new (suc n) zero lt = refl
get-new (suc n) (suc y) lt = get-new n y (omega arith)

module _ (graph : List (List ℕ)) (root n : ℕ) (lt : root < n) (e : n ≡ length graph) where
  first : Frame
  first = record { node = root; next = 0 }

  root-on : (x : ℕ) → root ≡ x → slice_get (set (replicate n New) root OnPath) x ≡ Some OnPath
  root-on x same = slice_get-set_same (replicate n New) root x OnPath New (get-new n root lt) same

  other-new : (x : ℕ) (m : Mark) → (root ≡ x → ⊥) → slice_get (set (replicate n New) root OnPath) x ≡ Some m → m ≡ New
  other-new x m other g = new-get n x m (sym (slice_get-set-other (replicate n New) root x OnPath other) ∙ g)

  root-marked : (x : ℕ) → Contains (root ∷ []) x ↔ (slice_get (set (replicate n New) root OnPath) x ≡ Some OnPath)
  root-marked x = (
    (λ m. elim (Contains-cases root x [] m) [ inl same ↦ root-on x same | inr k ↦ absurd (Contains-none x k) ]),
    (λ g. same_or_not root x (λ same. Contains-first root x [] same)
        (λ other. let m = other-new x OnPath other g in absurd cc)),
  )

  none-finished : (x : ℕ) → Contains [] x ↔ (slice_get (set (replicate n New) root OnPath) x ≡ Some Done)
  none-finished x = (
    (λ m. absurd (Contains-none x m)),
    (λ g. same_or_not root x (λ same. let q = root-on x same in absurd cc)
        (λ other. let m = other-new x Done other g in absurd cc)),
  )

  root-resumes : (found : Option (List ℕ)) → Resumes graph (record { node = root; next = 0 } ∷ []) found →
      Searches (ends_of graph) [] root found
  root-resumes found r = elim r [
    | inl w ↦ subst (λ o. Searches (ends_of graph) [] root o) (sym w.1) (enters (λ y m. absurd (Contains-none y m)) w.2)
    | inr w ↦ subst (λ o. Searches (ends_of graph) [] root o) (sym w.1) (enters (λ y m. absurd (Contains-none y m)) w.0)
  ]

  root-reached : (x : ℕ) → Contains (root ∷ []) x → Reaches (ends_of graph) root x
  root-reached x m = elim (Contains-cases root x [] m) [
    | inl same ↦ subst (λ v. Reaches (ends_of graph) root v) same itself
    | inr k ↦ absurd (Contains-none x k)
  ]

  pub starts : IsSearch graph root (set (replicate n New) root OnPath) [] (record { node = root; next = 0 } ∷ [])
  starts = record {
    long = length-set (replicate n New) root OnPath ∙ length-replicate n New ∙ e;
    resumes = root-resumes;
    within =
        All-cons (IsWithin graph) (record { node = root; next = 0 }) [] (omega (arith, lt, e), omega arith)
        (All-nil (IsWithin graph));
    distinct = ((λ m. Contains-none root m), tt);
    marked = root-marked;
    finished = none-finished;
    gone =
        All-cons (IsGone graph []) (record { node = root; next = 0 }) [] (λ z m. absurd (Contains-none z m))
        (All-nil (IsGone graph []));
    ordered = tt;
    rooted = inr (Contains-here root []);
    reached_done = λ x m. absurd (Contains-none x m);
    reached_path = root-reached;
  }

-- ---- the end
-- no frame is left: the finished nodes are an order of what the root reaches
pub ends : (graph : List (List ℕ)) (root : ℕ) (marks : List Mark) (order : List ℕ) →
    IsSearch graph root marks (reverse order) [] →
    IsOrderFrom graph root order
ends graph root marks order s = record {
  finishes = s.ordered;
  reached = λ x. (
    (λ m. s.reached_done x (Contains-reverse x order m)),
    (λ r. Contains-reversed x order
        (stays (ends_of graph) (reverse order) s.ordered r
        (elim s.rooted [ inl m ↦ m | inr m ↦ absurd (Contains-none root m) ]))),
  );
  nodes = λ k d lt.
      let x : ℕ = get_or order k d in
      let done = (s.finished x).0 (Contains-reverse x order (Contains-get_or order k d lt)) in
      let within = slice_get_within marks x Done done in
      let long = s.long in
      omega (arith, within, long);
}

-- what is reached from a node of the graph is a node of it, and so are the nodes of a cycle
reached-within : (graph : List (List ℕ)) → EndsAreNodes graph → {x y : ℕ} → Reaches (ends_of graph) x y →
    x < length graph →
    y < length graph
reached-within graph h itself lt = lt
reached-within graph h (along {x = x} y m r) lt =
    reached-within graph h r (All-contains (λ (y : ℕ). y < length graph) (ends_of graph x) y (ends-within graph h x) m)

pub cycle-from : (graph : List (List ℕ)) (root : ℕ) (walk : List ℕ) → EndsAreNodes graph → root < length graph →
    IsFirstCycle (ends_of graph) root walk →
    IsCycleFrom graph root walk
cycle-from graph root walk h lt c = record {
  first = c;
  nodes = λ k d l. reached-within graph h
      (cycle-reached (ends_of graph) root walk (closed (ends_of graph) root walk c) (get_or walk k d)
      (Contains-get_or walk k d l)) lt;
}
