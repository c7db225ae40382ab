-- What is found over places is found over trees.
use Rattle.std.proofs.Common.{◌≡◌, ◌<◌, ◌≤◌, ℕ, Bool, true, false, List, map, ◌∷◌, [], All, Contains, length, arith}
use Rattle.std.proofs.Common.{refl, sym, ◌∙◌, ap, subst, reverse}
use Rattle.std.specs.Prelude.{◌↔◌, ◌||◌, nat_lt, is_some, IsTrue, Option, None, Some}
use Rattle.std.specs.List.{list_any}
use Rattle.std.proofs.lemmas.Bool.{lt-ltb, ltb-true}
use Rattle.std.proofs.lemmas.List.{get_or-map}
use Rattle.std.proofs.lemmas.List.Elements.{All-contains}
use Rattle.lists.proofs.Each.{All-from_members}
use Rattle.lists.proofs.Members.{Contains-map, Contains-map_cases, Contains-reverse, Contains-reversed, map-map}
use Rattle.lists.proofs.Members.{map-reverse}
use Rattle.orientation.specs.declared.kind.Kind.{Kind}
use Rattle.location_words.specs.declared.pair.Pair.{Pair}
use Rattle.location_words.specs.declared.table.WordId.{WordId}
use Rattle.graph_walks.specs.Graph.{ends_of}
use Rattle.graph_walks.specs.Marks.{is_marked, ReachesMarked}
use Rattle.graph_walks.specs.Search.{IsCycleFrom, IsOrderFrom}
use Rattle.graph_walks.specs.Walks.{Reaches as WalksReach, itself, along, IsRank as IsRankOfWalks, IsFinishOrder}
use Rattle.graph_walks.specs.Walks.{StandsFor, Carries, WalksAreDetermined}
use Rattle.expansion_laws.specs.Trees.{Tree, origin}
use Rattle.expansion_laws.specs.Requests.{Request as TreeRequest}
use Rattle.expansion_laws.specs.Steps.{Step}
use Rattle.expansion_laws.specs.Graph.{edges, Reaches, HasCycle, IsRank, IsFirstCycle, NumbersCarry}
use Rattle.expansion_laws.specs.Graph.{NumbersCarrySearches, TellsTrees, CarriesSearches}
use Rattle.expansion_laws.specs.Keys.{asks_place, asks_turn, ReachesPlace, ReachesTurn}
use Rattle.shape_pool.specs.Rows.{Row, origin_at, tree_at}
use Rattle.shape_pool.specs.Laws.{IsSound}
use Rattle.requests.specs.declared.request.Request.{Request}
use Rattle.requests.specs.declared.asking.Part.TheVariants.{Place, Turn}
use Rattle.requests.specs.declared.asking.Part.{Part}
use Rattle.requests.specs.Numbered.{Table, live_at, AreHeldIn}
use Rattle.requests.specs.Readings.{IsReading, StandsForStep, place_by, requests_by, step_by}
use Rattle.requests.specs.Reached.{met_at, IsReached}
use Rattle.requests.specs.Plans.{asks, asked, ids_of, most_rank, planned_at, PlannedNode, StepPlan, ArePlanned}
use Rattle.requests.specs.Plans.{InReadings, IsCycleBy, IsPlan, IsPlannedBy, IsRankPast}
use Rattle.requests.proofs.EdgeLaws.{origin-is}
use Rattle.requests.proofs.ReachedLaws.{ends-within, places-told}

-- requests ask for the same as those of trees that they stand for
module _ (word : ℕ → List Pair) (rows : List Row) where
  place-asked : (rs : List Request) → list_any (λ (r : TreeRequest). is_some r.place) (requests_by word rows rs) ≡ asks Place rs
  place-asked [] = refl
  place-asked (r ∷ rs) = λ i. go r.place i || place-asked rs i
    where
      go : (p : Option WordId) → is_some (place_by word p) ≡ is_some p
      go None = refl
      go (Some w) = refl

  turn-asked : (rs : List Request) → list_any (λ (r : TreeRequest). is_some r.turn) (requests_by word rows rs) ≡ asks Turn rs
  turn-asked [] = refl
  turn-asked (r ∷ rs) = ap (λ b. is_some r.turn || b) (turn-asked rs)

asked-at : (part : Part) (rs : List Request) (met : List ℕ) (q : ℕ) → q < length met →
    is_marked (asked part rs met) q ≡ asks part (live_at rs (met_at met q))
asked-at part rs met q h = get_or-map (λ i. asks part (live_at rs i)) met q 0 false h

module _ (rows : List Row) (t : Table) (root : ℕ) (met : List ℕ) (graph : List (List ℕ)) (reached : IsReached rows t root met graph)
    (all : AreHeldIn rows t.requests) (sound : IsSound rows) (stands : StandsForStep rows t)
    (kind : ℕ → Kind) (word : ℕ → List Pair) (n : ℕ) (reading : IsReading rows t.requests kind word n)
    (carry : NumbersCarry (step_by word rows kind t)) (searches : NumbersCarrySearches (step_by word rows kind t)) where
  abbrev pub s : Step
  s = step_by word rows kind t

  -- the tree of a place
  abbrev pub tree : ℕ → Tree
  tree p = tree_at word rows (met_at met p)

  abbrev pub is_held : ℕ → Bool
  is_held p = nat_lt p (length met)

  held-at : (p : ℕ) → p < length met → met_at met p < length rows
  held-at p h = reached.gone.are_met.held p 0 h

  end-held : (p q : ℕ) → Contains (ends_of graph p) q → q < length met
  end-held p q m = All-contains (λ q. q < length met) (ends_of graph p) q (ends-within (length met) graph reached.gone.within p) m

  stand : StandsFor tree (ends_of graph) (edges s) is_held
  stand = record {
    ends_are = λ p h.
        let lt : p < length met = ltb-true p (length met) h in
        stands.edges_are kind word n (met_at met p) reading all (held-at p lt) ∙
        ap (map (tree_at word rows)) (reached.gone.ends p (let e = reached.all in omega (arith, e, lt))) ∙
        map-map (met_at met) (tree_at word rows) tree (ends_of graph p) (λ q m. refl);
    held = λ p q h m. lt-ltb q (length met) (end-held p q m);
  }

  told : TellsTrees tree is_held
  told p q h k e =
      let a = ltb-true p (length met) h in let b = ltb-true q (length met) k in
      places-told met reached.gone.are_met.distinct p q a b
      ((sound.ids_tell_trees n word reading.placed reading.told (met_at met p) (met_at met q) (held-at p a) (held-at q b)).1 e)

  carries : Carries tree (ends_of graph) (edges s) is_held
  carries = carry tree (ends_of graph) is_held stand

  carried : CarriesSearches s tree (ends_of graph) is_held
  carried = searches tree (ends_of graph) is_held stand told

  root-held : is_held 0 ≡ true
  root-held = lt-ltb 0 (length met) reached.gone.some

  root-is : tree 0 ≡ tree_at word rows root
  root-is = ap (tree_at word rows) reached.gone.first

  -- ---- the first cycle
  pub cycle-by : (walk : List ℕ) → IsCycleFrom graph 0 walk →
      IsCycleBy (map (λ p. origin_at rows (met_at met p)) walk) root s (tree_at word rows)
  cycle-by walk found = (
    map tree walk,
    subst (λ x. IsFirstCycle s x (map tree walk)) root-is (carried.first_cycle 0 walk root-held found.first),
    sym (map-map tree origin (λ p. origin_at rows (met_at met p)) walk
        (λ p m. origin-is rows word sound (met_at met p) (held-at p
        (let h = All-contains (λ p. p < length graph) walk p found.nodes m in let e = reached.all in omega (arith, h, e))))),
  )

  -- ---- the rank
  pub rank-by : (r : ℕ) → IsRankOfWalks (ends_of graph) 0 r → IsRank s (tree_at word rows root) r
  rank-by r rank = subst (λ x. IsRank s x r) root-is ((carries.rank 0 r root-held).0 rank)

  -- ---- what nodes ask for
  pub asked-place : (q : ℕ) → q < length met → asks_place s (tree q) ≡ is_marked (asked Place t.requests met) q
  asked-place q h =
      ap (list_any (λ (r : TreeRequest). is_some r.place)) (stands.live kind word n (met_at met q) reading all (held-at q h)) ∙
      place-asked word rows (live_at t.requests (met_at met q)) ∙ sym (asked-at Place t.requests met q h)

  pub asked-turn : (q : ℕ) → q < length met → asks_turn s (tree q) ≡ is_marked (asked Turn t.requests met) q
  asked-turn q h =
      ap (list_any (λ (r : TreeRequest). is_some r.turn)) (stands.live kind word n (met_at met q) reading all (held-at q h)) ∙
      turn-asked word rows (live_at t.requests (met_at met q)) ∙ sym (asked-at Turn t.requests met q h)

  module _ (order : List ℕ) (found : IsOrderFrom graph 0 order) (determined : WalksAreDetermined (edges s)) where
    within : (p : ℕ) → Contains order p → p < length met
    within p m = let h = All-contains (λ p. p < length graph) order p found.nodes m in let e = reached.all in omega (arith, h, e)

    finishes : IsFinishOrder (edges s) (map tree (reverse order))
    finishes = carried.finish_order (reverse order) (λ p m. lt-ltb p (length met) (within p (Contains-reversed p order m))) found.finishes

    pub no-cycle : HasCycle s (tree_at word rows root) → ⊥
    no-cycle c = determined.no_cycle_in_order (map tree (reverse order)) (tree_at word rows root) finishes
        (subst (Contains (map tree (reverse order))) root-is
        (Contains-map tree 0 (reverse order) (Contains-reverse 0 order ((found.reached 0).1 itself)))) c

    -- ---- what is reached
    held-on : {p q : ℕ} → WalksReach (ends_of graph) p q → p < length met → q < length met
    held-on itself h = h
    held-on (along {x = p} q m r) h = held-on r (end-held p q m)

    module _ (own marks : List Bool) (asks_tree : Tree → Bool)
        (asked : (q : ℕ) → q < length met → asks_tree (tree q) ≡ is_marked own q)
        (marked : (p : ℕ) → Contains order p → IsTrue (is_marked marks p) ↔ ReachesMarked (ends_of graph) own p) where
      reach-by : (p : ℕ) → Contains order p → IsTrue (is_marked marks p) ↔ ((y : Tree) × Reaches s (tree p) y × (asks_tree y ≡ true))
      reach-by p m =
          let lt = within p m in
          let held = lt-ltb p (length met) lt in (
            λ h. (let r = (marked p m).0 h in (tree r.0, carries.reach p r.0 held r.1, asked r.0 (held-on r.1 lt) ∙ r.2)),
            λ h. (let r = carries.reach_back p h.0 held h.1 in
                (marked p m).1 (r.0, r.1, sym (asked r.0 (held-on r.1 lt)) ∙ ap asks_tree r.2 ∙ h.2)),
          )

    -- ---- the nodes of the plan
    module _ (places turns : List Bool)
        (reach_place : (p : ℕ) → Contains order p → IsTrue (is_marked places p) ↔ ReachesPlace s (tree p))
        (reach_turn : (p : ℕ) → Contains order p → IsTrue (is_marked turns p) ↔ ReachesTurn s (tree p)) where
      abbrev pub nodes : List PlannedNode
      nodes = map (planned_at t.requests met places turns) order

      trees-are : map (tree_at word rows) (ids_of nodes) ≡ map tree order
      trees-are =
          ap (map (tree_at word rows)) (map-map (planned_at t.requests met places turns) (λ (p : PlannedNode). p.id) (met_at met) order (λ p m. refl)) ∙
          map-map (met_at met) (tree_at word rows) tree order (λ p m. refl)

      pub planned-by : ArePlanned nodes root s (tree_at word rows)
      planned-by = record {
        finishes = subst (IsFinishOrder (edges s)) (map-reverse tree order ∙ ap reverse (sym trees-are)) finishes;
        reached = λ x. (
          (λ m. (let from = Contains-map_cases tree x order (subst (λ l. Contains l x) trees-are m) in
              subst (Reaches s (tree_at word rows root)) from.2
              (subst (λ y. Reaches s y (tree from.0)) root-is (carries.reach 0 from.0 root-held ((found.reached from.0).0 from.1))))),
          (λ r. (let from = carries.reach_back 0 x root-held (subst (λ y. Reaches s y x) (sym root-is) r) in
              subst (λ l. Contains l x) (sym trees-are)
              (subst (Contains (map tree order)) from.2 (Contains-map tree from.0 order ((found.reached from.0).1 from.1))))),
        );
        place = All-from_members (λ (p : PlannedNode). IsTrue p.place ↔ ReachesPlace s (tree_at word rows p.id)) nodes
            (λ v m. (let from = Contains-map_cases (planned_at t.requests met places turns) v order m in
            subst (λ (p : PlannedNode). IsTrue p.place ↔ ReachesPlace s (tree_at word rows p.id)) from.2 (reach_place from.0 from.1)));
        turn = All-from_members (λ (p : PlannedNode). IsTrue p.turn ↔ ReachesTurn s (tree_at word rows p.id)) nodes
            (λ v m. (let from = Contains-map_cases (planned_at t.requests met places turns) v order m in
            subst (λ (p : PlannedNode). IsTrue p.turn ↔ ReachesTurn s (tree_at word rows p.id)) from.2 (reach_turn from.0 from.1)));
      }

-- ---- all of it
module _ (rows : List Row) (t : Table) (root : ℕ) (met : List ℕ) (graph : List (List ℕ)) (reached : IsReached rows t root met graph)
    (all : AreHeldIn rows t.requests) (sound : IsSound rows) (stands : StandsForStep rows t)
    (carry : (s : Step) → NumbersCarry s) (searches : (s : Step) → NumbersCarrySearches s) where
  pub due-cycle : (walk : List ℕ) → IsCycleFrom graph 0 walk →
      InReadings rows t (IsCycleBy (map (λ p. origin_at rows (met_at met p)) walk) root)
  due-cycle walk found kind word n reading =
      cycle-by rows t root met graph reached all sound stands kind word n reading (carry (step_by word rows kind t))
      (searches (step_by word rows kind t)) walk found

  module _ (determined : (s : Step) → WalksAreDetermined (edges s)) (order : List ℕ) (found : IsOrderFrom graph 0 order)
      (r : ℕ) (rank : IsRankOfWalks (ends_of graph) 0 r) where
    acyclic : InReadings rows t (λ s tree. (HasCycle s (tree root) → ⊥) × IsRank s (tree root) r)
    acyclic kind word n reading =
        let s : Step = step_by word rows kind t in (
          no-cycle rows t root met graph reached all sound stands kind word n reading (carry s) (searches s) order found (determined s),
          rank-by rows t root met graph reached all sound stands kind word n reading (carry s) (searches s) r rank,
        )

    pub due-rank : most_rank < r → InReadings rows t (IsRankPast r root)
    due-rank h kind word n reading = let a = acyclic kind word n reading in (a.0, a.1, h)

    pub is-plan : (plan : StepPlan) → r ≤ most_rank → IsPlannedBy t met graph order plan → IsPlan rows t root plan
    is-plan plan h planned = record {
      within = λ kind word n reading. (let a = acyclic kind word n reading in record { no_cycle = a.0; rank = (r, a.1, h) });
      planned = λ kind word n reading.
          (let s : Step = step_by word rows kind t in
          subst (λ (pl : StepPlan). ArePlanned pl.nodes root s (tree_at word rows)) (sym planned.by_marks)
          (planned-by rows t root met graph reached all sound stands kind word n reading (carry s) (searches s) order found
          (determined s) planned.places planned.turns
          (reach-by rows t root met graph reached all sound stands kind word n reading (carry s) (searches s) order found (determined s)
          (asked Place t.requests met) planned.places (asks_place s)
          (asked-place rows t root met graph reached all sound stands kind word n reading (carry s) (searches s)) planned.reach_place)
          (reach-by rows t root met graph reached all sound stands kind word n reading (carry s) (searches s) order found (determined s)
          (asked Turn t.requests met) planned.turns (asks_turn s)
          (asked-turn rows t root met graph reached all sound stands kind word n reading (carry s) (searches s)) planned.reach_turn)));
      held = subst (λ (pl : StepPlan). All (λ (p : PlannedNode). p.id < length rows) pl.nodes) (sym planned.by_marks)
          (All-from_members (λ (p : PlannedNode). p.id < length rows) (map (planned_at t.requests met planned.places planned.turns) order)
          (λ v m. (let from = Contains-map_cases (planned_at t.requests met planned.places planned.turns) v order m in
          subst (λ (p : PlannedNode). p.id < length rows) from.2 (reached.gone.are_met.held from.0 0
          (let lt = All-contains (λ p. p < length graph) order from.0 found.nodes from.1 in let e = reached.all in omega (arith, lt, e))))));
      live = subst (λ (pl : StepPlan). All (λ (p : PlannedNode). p.live ≡ live_at t.requests p.id) pl.nodes) (sym planned.by_marks)
          (All-from_members (λ (p : PlannedNode). p.live ≡ live_at t.requests p.id) (map (planned_at t.requests met planned.places planned.turns) order)
          (λ v m. (let from = Contains-map_cases (planned_at t.requests met planned.places planned.turns) v order m in
          subst (λ (p : PlannedNode). p.live ≡ live_at t.requests p.id) from.2 refl)));
      rule_is = ap (λ (pl : StepPlan). pl.rule) planned.by_marks;
    }
