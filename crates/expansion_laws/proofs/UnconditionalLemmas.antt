-- A tree whose live requests are unconditional has one of them at most, and it is the match at every context.
use Rattle.std.proofs.Common.{refl, sym, ap, subst, inl, inr, cond, ◌∙◌}
use Rattle.std.specs.Prelude.{◌≡◌, ◌⊎◌, Option, None, Some, List, [], ◌∷◌, ◌++◌}
use Rattle.std.specs.Prelude.{Bool, true, false, filter, Contains, if◌then◌else◌}
use Rattle.std.specs.List.{last_or, list_any, flat_map}
use Rattle.std.proofs.lemmas.List.Elements.{Contains-append_cases, All-contains}
use Rattle.lists.proofs.Members.{Contains-here, Contains-map_cases, Contains-none, Contains-there}
use Rattle.lists.proofs.Cases.{by_test}
use Rattle.graph_walks.specs.Walks.{along, itself as reached-itself}
use Rattle.orientation.specs.declared.turn.Turn.TheVariants.{Forward}
use Rattle.expansion_laws.specs.Trees.{Tree, Use}
use Rattle.expansion_laws.specs.Contexts.{Context, at_root, inside, bare}
use Rattle.expansion_laws.specs.Requests.{Act, remove, replace, Request, allows, match_of, is_unconditional}
use Rattle.expansion_laws.specs.Requests.{from_last_unconditional, requests_for, live_requests}
use Rattle.expansion_laws.specs.Steps.{Step, entered, onward, new_use, moving_word}
use Rattle.expansion_laws.specs.Demands.{demands_of_act, demands_by, demands}
use Rattle.expansion_laws.specs.Visits.{LeadsTo, itself, onto}
use Rattle.expansion_laws.specs.Graph.{trees_of, targets, edges, Reaches}
use Rattle.expansion_laws.specs.Unconditional.{IsPlain, EdgesAreDemands, ReachedIsVisited, VisitedIsReached}
use Rattle.expansion_laws.proofs.MatchLemmas.{allows-unconditional, filter-filter, or-right}
use Rattle.expansion_laws.proofs.KeyLemmas.{onward-targets}
use Rattle.expansion_laws.proofs.VisitLemmas.{demand-edge}

-- where none is unconditional but all are, there is none
none-left : (qs : List Request) → list_any is_unconditional qs ≡ false →
    ((r : Request) → Contains qs r → is_unconditional r ≡ true) → qs ≡ []
none-left [] e h = refl
none-left (q ∷ qs) e h =
    absurd (let f = h q (Contains-here q qs) in let g : list_any is_unconditional (q ∷ qs) ≡ true = rw f refl in cc)

-- where the live ones are unconditional there is none, or one, and it is the last that is allowed anywhere
alone : (here : Context) (qs : List Request) →
    ((r : Request) → Contains (from_last_unconditional qs) r → is_unconditional r ≡ true) →
    (qs ≡ []) ⊎ ((r : Request) × (from_last_unconditional qs ≡ r ∷ []) × (list_any is_unconditional qs ≡ true) ×
    ((d : Option Request) → last_or d (filter (allows here) qs) ≡ Some r))
alone here [] h = inl refl
alone here (q ∷ qs) h =
    by_test (list_any is_unconditional qs) (λ f. inr (later f (alone here qs (λ r m. h r (rw f m))))) (λ f. inr (now f))
  where
    given : list_any is_unconditional qs ≡ false → (r : Request) → Contains (q ∷ qs) r → is_unconditional r ≡ true
    given f r m = h r (rw f m)

    pass : (r : Request) → ((d : Option Request) → last_or d (filter (allows here) qs) ≡ Some r) →
        (b : Bool) (d : Option Request) → last_or d (cond b (q ∷ filter (allows here) qs) (filter (allows here) qs)) ≡
        Some r
    pass r g true d = g (Some q)
    pass r g false d = g d

    later : list_any is_unconditional qs ≡ true →
        (qs ≡ []) ⊎ ((r : Request) × (from_last_unconditional qs ≡ r ∷ []) × (list_any is_unconditional qs ≡ true) ×
        ((d : Option Request) → last_or d (filter (allows here) qs) ≡ Some r)) →
        (r : Request) × (from_last_unconditional (q ∷ qs) ≡ r ∷ []) × (list_any is_unconditional (q ∷ qs) ≡ true) ×
        ((d : Option Request) → last_or d (filter (allows here) (q ∷ qs)) ≡ Some r)
    later f (inl e) = absurd (let g : list_any is_unconditional qs ≡ false = ap (list_any is_unconditional) e in cc)
    later f (inr r) =
        (r.0, rw f r.1, or-right (is_unconditional q) (list_any is_unconditional qs) f, pass r.0 r.3 (allows here q))

    now : list_any is_unconditional qs ≡ false →
        (r : Request) × (from_last_unconditional (q ∷ qs) ≡ r ∷ []) × (list_any is_unconditional (q ∷ qs) ≡ true) ×
        ((d : Option Request) → last_or d (filter (allows here) (q ∷ qs)) ≡ Some r)
    now f =
        let free : is_unconditional q ≡ true = given f q (Contains-here q qs) in
        let empty : qs ≡ [] = none-left qs f (λ r m. given f r (Contains-there q r qs m)) in
        let last : (d : Option Request) → last_or d (filter (allows here) (q ∷ qs)) ≡ Some q =
        λ d. rw (allows-unconditional here q free) (ap (λ l. last_or (Some q) (filter (allows here) l)) empty) in
        (q, rw f (ap (λ l. q ∷ l) empty), rw free refl, last)

module _ (s : Step) (x : Tree) (here : Context) where
  matched : match_of s.requests x here ≡ last_or None (filter (allows here) (requests_for s.requests x))
  matched = ap (last_or None) (filter-filter x here s.requests)

  -- the edges by the requests for the tree
  edges_by : List Request → List Request → Bool → List Tree
  edges_by live all b = flat_map (λ r. targets s x r.act) live ++ (if b then [] else trees_of (entered s x))

  act-demand : (r : Request) (act : Act) (y : Tree) → match_of s.requests x here ≡ Some r → r.act ≡ act →
      Contains (targets s x act) y → (v : Use) × Contains (demands s x here) v × (v.tree ≡ y)
  act-demand r remove y e f m = absurd (Contains-none y m)
  act-demand r (replace by) y e f m =
      let from = Contains-map_cases (λ (u : Use). u.tree) y (onward s x (new_use here (bare x) r.place by))
      (subst (λ l. Contains l y) (sym (onward-targets s x Forward (moving_word here (bare x) r.place) by)) m) in (
        from.0,
        subst (λ l. Contains l from.0) (sym (ap (demands_by s x here) e ∙ ap (demands_of_act s x here r.place) f))
            from.1,
        from.2,
      )

  pub edge-demand : (y : Tree) → IsPlain s x → Contains (edges s x) y →
      (v : Use) × Contains (demands s x here) v × (v.tree ≡ y)
  edge-demand y plain m =
      go
      (alone here (requests_for s.requests x) (λ r n.
      All-contains (λ r. is_unconditional r ≡ true) (live_requests s.requests x) r plain n))
    where
      go : (requests_for s.requests x ≡ []) ⊎
          ((r : Request) × (live_requests s.requests x ≡ r ∷ []) ×
          (list_any is_unconditional (requests_for s.requests x) ≡ true) ×
          ((d : Option Request) → last_or d (filter (allows here) (requests_for s.requests x)) ≡ Some r)) →
          (v : Use) × Contains (demands s x here) v × (v.tree ≡ y)
      go (inl e) =
          let own : edges s x ≡ trees_of (entered s x) =
          λ i. flat_map (λ r. targets s x r.act) (from_last_unconditional (e i)) ++
          (if list_any is_unconditional (e i) then [] else trees_of (entered s x)) in
          let none : match_of s.requests x here ≡ None = matched ∙ ap (λ l. last_or None (filter (allows here) l)) e in
          let from = Contains-map_cases (λ (u : Use). u.tree) y (entered s x) (subst (λ l. Contains l y) own m) in
          (from.0, subst (λ l. Contains l from.0) (sym (ap (demands_by s x here) none)) from.1, from.2)
      go (inr r) =
          let own : edges s x ≡ (targets s x r.0.act ++ []) ++ [] =
          λ i. flat_map (λ r. targets s x r.act) (r.1 i) ++ (if r.2 i then [] else trees_of (entered s x)) in
          elim (Contains-append_cases (targets s x r.0.act ++ []) [] y (subst (λ l. Contains l y) own m)) [
            | inl k ↦ elim (Contains-append_cases (targets s x r.0.act) [] y k) [
              | inl n ↦ act-demand r.0 r.0.act y (matched ∙ r.3 None) refl n
              | inr n ↦ absurd (Contains-none y n)
            ]
            | inr k ↦ absurd (Contains-none y k)
          ]

pub edges-demands : (s : Step) → EdgesAreDemands s
edges-demands s x y here plain m = edge-demand s x here y plain m

-- ---- visited and reached
visit-reached : (s : Step) {x y : Tree} {here there : Context} → LeadsTo s x here y there → Reaches s x y
visit-reached s itself = reached-itself
visit-reached s {x = x} {here = here} (onto v m l) = along v.tree (demand-edge s x here v m) (visit-reached s l)

pub visited-reached : (s : Step) → VisitedIsReached s
visited-reached s root y here l = visit-reached s l

reached-visit : (s : Step) {x y : Tree} → Reaches s x y → ((z : Tree) → Reaches s x z → IsPlain s z) →
    (here : Context) → (there : Context) × LeadsTo s x here y there
reached-visit s reached-itself h here = (here, itself)
reached-visit s {x = x} {y = y} (along z m r) h here =
    let v = edge-demand s x here z (h x reached-itself) m in
    let l = reached-visit s r (λ w k. h w (along z m k)) (inside here v.0) in
    (l.0, onto v.0 v.1 (subst (λ t. LeadsTo s t (inside here v.0) y l.0) (sym v.2) l.1))

pub reached-visited : (s : Step) → ReachedIsVisited s
reached-visited s root y h = (
  (λ r. reached-visit s r h (inside at_root root)),
  (λ v. visit-reached s v.1),
)
