-- Each turn of the search keeps what it holds.
use Rattle.std.proofs.Common.{◌≡◌, ◌≢◌, ◌<◌, ◌≤◌, ◌+◌, refl, sym, ◌∙◌, ap, subst, arith, inl, inr, set, slice_get}
use Rattle.std.proofs.lemmas.List.{length-set, take_all, drop_all, take_more, drop_more}
use Rattle.std.proofs.lemmas.List.Elements.{All-cons, All-head, All-tail, Contains-push_cases, Contains-get_or}
use Rattle.std.proofs.lemmas.Option.{slice_get_within, get_or_from_slice_get}
use Rattle.std.specs.Prelude.{ℕ, ◌⊎◌, ◌↔◌, Option, None, Some, List, [], ◌∷◌}
use Rattle.std.specs.Prelude.{◌++◌, length, reverse, take, drop, All, Contains}
use Rattle.lists.proofs.Places.{slice_get-set-other, slice_get-set_same}
use Rattle.lists.proofs.Members.{Contains-cases, Contains-first, Contains-here, Contains-none, Contains-there}
use Rattle.lists.proofs.Cases.{same_or_not}
use Rattle.graph_walks.specs.declared.depth_first.Frame.{Frame}
use Rattle.graph_walks.specs.declared.depth_first.Mark.{Mark}
use Rattle.graph_walks.specs.declared.depth_first.Mark.TheVariants.{New, OnPath, Done}
use Rattle.graph_walks.specs.Walks.{Reaches, Searches, SearchesEach, closes}
use Rattle.graph_walks.specs.Walks.{enters, no_more, finds, passes, IsFirstCycle}
use Rattle.graph_walks.specs.Graph.{ends_of}
use Rattle.graph_walks.specs.Search.{path_of, Resumes, IsWithin, IsGone, IsSearch}
use Rattle.graph_walks.proofs.WalkLaws.{finds_none, reaches-further}

-- the next edge of a frame
pub record IsNext (graph : List (List ℕ)) (f : Frame) (y : ℕ) : Type 0 where
  pub left : drop f.next (ends_of graph f.node) ≡ y ∷ drop (f.next + 1) (ends_of graph f.node)
  pub gone : take (f.next + 1) (ends_of graph f.node) ≡ take f.next (ends_of graph f.node) ++ y ∷ []
  pub within : f.next < length (ends_of graph f.node)
  pub edge : Contains (ends_of graph f.node) y

pub next-edge : (graph : List (List ℕ)) (f : Frame) (y : ℕ) → slice_get (ends_of graph f.node) f.next ≡ Some y →
    IsNext graph f y
next-edge graph f y e =
    let ends : List ℕ = ends_of graph f.node in
    let lt = slice_get_within ends f.next y e in
    let same = get_or_from_slice_get ends f.next y 0 e in
    record {
      left = drop_more ends f.next 0 lt ∙ ap (λ v. v ∷ drop (f.next + 1) ends) same;
      gone = take_more ends f.next 0 lt ∙ ap (λ v. take f.next ends ++ v ∷ []) same;
      within = lt;
      edge = subst (λ v. Contains ends v) same (Contains-get_or ends f.next 0 lt);
    }

abbrev advanced : Frame → Frame
advanced f = record { node = f.node; next = f.next + 1 }

module _ {graph : List (List ℕ)} {root : ℕ} {marks : List Mark} {done : List ℕ} {f : Frame} {frames : List Frame}
    (s : IsSearch graph root marks done (f ∷ frames)) where
  not_both : (x : ℕ) → Contains (path_of (f ∷ frames)) x → Contains done x → ⊥
  not_both x a b = let p = (s.marked x).0 a in let q = (s.finished x).0 b in absurd cc

  here : Contains (path_of (f ∷ frames)) f.node
  here = Contains-here f.node (path_of frames)

  pub on_path : slice_get marks f.node ≡ Some OnPath
  on_path = (s.marked f.node).0 here

  pub at-node : f.node < length graph
  at-node = (All-head (IsWithin graph) f frames s.within).0

  pub at-mark : f.node < length marks
  at-mark = slice_get_within marks f.node OnPath on_path

  -- what is left of a frame's edges decides what the search of the root finds
  resumed : (left left' : List ℕ) → ((found : Option (List ℕ)) →
      SearchesEach (ends_of graph) (f.node ∷ path_of frames) left' found →
      SearchesEach (ends_of graph) (f.node ∷ path_of frames) left found) → (found : Option (List ℕ)) →
      ((walk : List ℕ) × (found ≡ Some walk) × SearchesEach (ends_of graph) (f.node ∷ path_of frames) left'
      (Some walk)) ⊎
      (SearchesEach (ends_of graph) (f.node ∷ path_of frames) left' None × Resumes graph frames found) →
      ((walk : List ℕ) × (found ≡ Some walk) × SearchesEach (ends_of graph) (f.node ∷ path_of frames) left
      (Some walk)) ⊎
      (SearchesEach (ends_of graph) (f.node ∷ path_of frames) left None × Resumes graph frames found)
  resumed left left' h found r = elim r [ inl w ↦ inl (w.0, w.1, h (Some w.0) w.2) | inr w ↦ inr (h None w.0, w.1) ]

  -- ---- the last frame has no edge left: its node is finished
  now-done : (x : ℕ) → f.node ≡ x → slice_get (set marks f.node Done) x ≡ Some Done
  now-done x same = slice_get-set_same marks f.node x Done OnPath on_path same

  leave-marked : (x : ℕ) → Contains (path_of frames) x ↔ (slice_get (set marks f.node Done) x ≡ Some OnPath)
  leave-marked x = (
    (λ m. slice_get-set-other marks f.node x Done
        (λ e. s.distinct.0 (subst (λ v. Contains (path_of frames) v) (sym e) m)) ∙
        (s.marked x).0 (Contains-there f.node x (path_of frames) m)),
    (λ e. same_or_not f.node x
        (λ same. let g = now-done x same in absurd cc)
        (λ other. elim (Contains-cases f.node x (path_of frames)
        ((s.marked x).1 (sym (slice_get-set-other marks f.node x Done other) ∙ e))) [
          | inl same ↦ absurd (other same)
          | inr m ↦ m
        ])),
  )

  leave-finished : (x : ℕ) → Contains (f.node ∷ done) x ↔ (slice_get (set marks f.node Done) x ≡ Some Done)
  leave-finished x = (
    (λ m. elim (Contains-cases f.node x done m) [
      | inl same ↦ now-done x same
      | inr k ↦ slice_get-set-other marks f.node x Done
          (λ e. not_both x (Contains-first f.node x (path_of frames) e) k) ∙
          (s.finished x).0 k
    ]),
    (λ e. same_or_not f.node x
        (λ same. Contains-first f.node x done same)
        (λ other.
        Contains-there f.node x done ((s.finished x).1 (sym (slice_get-set-other marks f.node x Done other) ∙ e)))),
  )

  leave-gone : (fs : List Frame) → All (IsGone graph done) fs → All (IsGone graph (f.node ∷ done)) fs
  leave-gone fs h k d lt y m = Contains-there f.node y done (h k d lt y m)

  leave-resumes : length (ends_of graph f.node) ≤ f.next → (found : Option (List ℕ)) → Resumes graph frames found →
      Resumes graph (f ∷ frames) found
  leave-resumes end found r =
      inr (
        subst (λ l. SearchesEach (ends_of graph) (f.node ∷ path_of frames) l None)
            (sym (drop_all f.next (ends_of graph f.node) end)) no_more,
        r,
      )

  all-gone : length (ends_of graph f.node) ≤ f.next → (y : ℕ) → Contains (ends_of graph f.node) y → Contains done y
  all-gone end y m =
      All-head (IsGone graph done) f frames s.gone y
      (subst (λ l. Contains l y) (sym (take_all f.next (ends_of graph f.node) end)) m)

  leave-rooted : Contains (f.node ∷ done) root ⊎ Contains (path_of frames) root
  leave-rooted = elim s.rooted [
    | inl m ↦ inl (Contains-there f.node root done m)
    | inr m ↦ elim (Contains-cases f.node root (path_of frames) m)
        [ inl same ↦ inl (Contains-first f.node root done same) | inr k ↦ inr k ]
  ]

  leave-reached : (x : ℕ) → Contains (f.node ∷ done) x → Reaches (ends_of graph) root x
  leave-reached x m = elim (Contains-cases f.node x done m) [
    | inl same ↦ subst (λ v. Reaches (ends_of graph) root v) same (s.reached_path f.node here)
    | inr k ↦ s.reached_done x k
  ]

  pub leave : length (ends_of graph f.node) ≤ f.next →
      IsSearch graph root (set marks f.node Done) (f.node ∷ done) frames
  leave end = record {
    long = length-set marks f.node Done ∙ s.long;
    resumes = λ found r. s.resumes found (leave-resumes end found r);
    within = All-tail (IsWithin graph) f frames s.within;
    distinct = s.distinct.1;
    marked = leave-marked;
    finished = leave-finished;
    gone = leave-gone frames (All-tail (IsGone graph done) f frames s.gone);
    ordered = (all-gone end, not_both f.node here, s.ordered);
    rooted = leave-rooted;
    reached_done = leave-reached;
    reached_path = λ x m. s.reached_path x (Contains-there f.node x (path_of frames) m);
  }

  module _ {y : ℕ} (n : IsNext graph f y) where
    from-next : {found : Option (List ℕ)} →
        SearchesEach (ends_of graph) (f.node ∷ path_of frames) (y ∷ drop (f.next + 1) (ends_of graph f.node)) found →
        SearchesEach (ends_of graph) (f.node ∷ path_of frames) (drop f.next (ends_of graph f.node)) found
    from-next {found = found} t =
        subst (λ l. SearchesEach (ends_of graph) (f.node ∷ path_of frames) l found) (sym n.left) t

    -- ---- the next edge leads to a finished node: it is gone through
    none : slice_get marks y ≡ Some Done → Searches (ends_of graph) (f.node ∷ path_of frames) y None
    none e = finds_none (ends_of graph) done s.ordered (f.node ∷ path_of frames) not_both y ((s.finished y).1 e)

    pass-gone : slice_get marks y ≡ Some Done → IsGone graph done (advanced f)
    pass-gone e z m =
        elim (Contains-push_cases (take f.next (ends_of graph f.node)) y z (subst (λ l. Contains l z) n.gone m)) [
          | inl k ↦ All-head (IsGone graph done) f frames s.gone z k
          | inr same ↦ subst (λ v. Contains done v) same ((s.finished y).1 e)
        ]

    pub pass : slice_get marks y ≡ Some Done → IsSearch graph root marks done (advanced f ∷ frames)
    pass e = record {
      long = s.long;
      resumes =
          λ found r.
          s.resumes found (resumed (drop f.next (ends_of graph f.node)) (drop (f.next + 1) (ends_of graph f.node))
          (λ o t. from-next {found = o} (passes (none e) t)) found r);
      within = All-cons (IsWithin graph) (advanced f) frames (at-node, omega (arith, n.within))
          (All-tail (IsWithin graph) f frames s.within);
      distinct = s.distinct;
      marked = s.marked;
      finished = s.finished;
      gone =
          All-cons (IsGone graph done) (advanced f) frames (pass-gone e) (All-tail (IsGone graph done) f frames s.gone);
      ordered = s.ordered;
      rooted = s.rooted;
      reached_done = s.reached_done;
      reached_path = s.reached_path;
    }

    -- ---- the next edge leads to a node that isn't met yet: it is entered
    new_not : slice_get marks y ≡ Some New → (z : ℕ) → Contains (path_of (f ∷ frames)) z → z ≢ y
    new_not e z m same =
        let p = (s.marked z).0 m in let q : slice_get marks z ≡ Some New = ap (slice_get marks) same ∙ e in absurd cc

    now-on : slice_get marks y ≡ Some New → (x : ℕ) → y ≡ x → slice_get (set marks y OnPath) x ≡ Some OnPath
    now-on e x same = slice_get-set_same marks y x OnPath New e same

    enter-resumes : slice_get marks y ≡ Some New → (found : Option (List ℕ)) →
        Resumes graph (record { node = y; next = 0 } ∷ f ∷ frames) found →
        Resumes graph (f ∷ frames) found
    enter-resumes e found r = elim r [
      | inl w ↦ inl (w.0, w.1, from-next {found = Some w.0} (finds (enters (new_not e) w.2)))
      | inr w ↦ w.1
    ]

    enter-marked : slice_get marks y ≡ Some New → (x : ℕ) →
        Contains (y ∷ path_of (f ∷ frames)) x ↔ (slice_get (set marks y OnPath) x ≡ Some OnPath)
    enter-marked e x = (
      (λ m. elim (Contains-cases y x (path_of (f ∷ frames)) m) [
        | inl same ↦ now-on e x same
        | inr k ↦ slice_get-set-other marks y x OnPath (λ same. new_not e x k (sym same)) ∙ (s.marked x).0 k
      ]),
      (λ g. same_or_not y x
          (λ same. Contains-first y x (path_of (f ∷ frames)) same)
          (λ other. Contains-there y x (path_of (f ∷ frames))
          ((s.marked x).1 (sym (slice_get-set-other marks y x OnPath other) ∙ g)))),
    )

    enter-finished : slice_get marks y ≡ Some New → (x : ℕ) →
        Contains done x ↔ (slice_get (set marks y OnPath) x ≡ Some Done)
    enter-finished e x = (
      (λ m. slice_get-set-other marks y x OnPath (λ same.
          let q : slice_get marks x ≡ Some New = ap (slice_get marks) (sym same) ∙ e in let p = (s.finished x).0 m in
          absurd cc) ∙
          (s.finished x).0 m),
      (λ g. same_or_not y x
          (λ same. let q = now-on e x same in absurd cc)
          (λ other. (s.finished x).1 (sym (slice_get-set-other marks y x OnPath other) ∙ g))),
    )

    enter-reached : (x : ℕ) → Contains (y ∷ path_of (f ∷ frames)) x → Reaches (ends_of graph) root x
    enter-reached x m = elim (Contains-cases y x (path_of (f ∷ frames)) m) [
      | inl same ↦ subst (λ v. Reaches (ends_of graph) root v) same
          (reaches-further (ends_of graph) (s.reached_path f.node here) n.edge)
      | inr k ↦ s.reached_path x k
    ]

    pub enter : slice_get marks y ≡ Some New → IsSearch graph root (set marks y OnPath) done
        (record { node = y; next = 0 } ∷ f ∷ frames)
    enter e = record {
      long = length-set marks y OnPath ∙ s.long;
      resumes = λ found r. s.resumes found (enter-resumes e found r);
      within = All-cons (IsWithin graph) (record { node = y; next = 0 }) (f ∷ frames)
          (omega (arith, slice_get_within marks y New e, s.long), omega arith) s.within;
      distinct = ((λ m. new_not e y m refl), s.distinct);
      marked = enter-marked e;
      finished = enter-finished e;
      gone =
          All-cons (IsGone graph done) (record { node = y; next = 0 }) (f ∷ frames) (λ z m. absurd (Contains-none z m))
          s.gone;
      ordered = s.ordered;
      rooted = elim s.rooted [ inl m ↦ inl m | inr m ↦ inr (Contains-there y root (path_of (f ∷ frames)) m) ];
      reached_done = s.reached_done;
      reached_path = enter-reached;
    }

    -- ---- the next edge leads to a node on the path: the walk is found
    pub found : (newer older : List ℕ) → path_of (f ∷ frames) ≡ newer ++ y ∷ older →
        IsFirstCycle (ends_of graph) root (y ∷ reverse newer ++ y ∷ [])
    found newer older e =
        let walk : List ℕ = y ∷ reverse newer ++ y ∷ [] in
        s.resumes (Some walk) (inl (walk, refl, from-next {found = Some walk} (finds (closes newer older e))))
