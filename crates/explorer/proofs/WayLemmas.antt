-- What is still to come on the way, and what is entered of it.
use Rattle.std.proofs.Common.{◌≡◌, ◌∙◌, ◌<◌, ◌≤◌, ◌+◌, refl, ap, sym, subst, arith, ℕ, zero, suc}
use Rattle.std.proofs.Common.{Bool, true, false, List, [], ◌∷◌, ◌++◌, map, drop, length, All, Option, Some, None}
use Rattle.std.proofs.Common.{slice_get, option_to_list, unwrap_or}
use Rattle.std.specs.List.{filter, fold, AllByRecursion}
use Rattle.std.proofs.lemmas.List.{append-nil}
use Rattle.std.proofs.lemmas.List.Elements.{All-head, All-tail, filter-append}
use Rattle.std.proofs.lemmas.List.Sums.{fold-append}
use Rattle.std.proofs.lemmas.Grind.{flat_map-append}
use Rattle.std.proofs.lemmas.Option.{same_Some, slice_get_within, get_or_from_slice_get}
use Rattle.lists.proofs.Places.{at_place}
use Rattle.lists.proofs.Cases.{by_test}
use Rattle.lists.proofs.Each.{each-append}
use Rattle.orientation.specs.declared.kind.Kind.{Kind}
use Rattle.location_words.specs.declared.pair.Pair.{Pair}
use Rattle.location_words.specs.Laws.{WordsAreAGroup}
use Rattle.location_words.specs.Pairs.{norm, IsHeldWord}
use Rattle.location_words.specs.Tables.{IsTable}
use Rattle.expansion_laws.specs.Trees.{Tree, Uses, node, uses_of}
use Rattle.expansion_laws.specs.Measures.{use_count, uses_count}
use Rattle.expansion_laws.specs.Contexts.{Context, at_root}
use Rattle.shape_pool.specs.declared.node.NodeId.{NodeId}
use Rattle.shape_pool.specs.declared.node.UseOf.{UseOf}
use Rattle.shape_pool.specs.Rows.{Row, depth_at, greatest, origin_at, uses_at, use_by, tree_at, HasPlaces}
use Rattle.shape_pool.specs.Laws.{word_in, IsSound}
use Rattle.explorer.specs.Walks.{an_occurrence, gives, entered, entered_below}
use Rattle.shape_pool.specs.Rows.{HaveKinds}
use Rattle.explorer.specs.Going.{Place, a_context, a_place, entered_at, entered_at_all}
use Rattle.explorer.specs.Levels.{Entered, an_entered, Path, innermost, places, coming_below, coming_of}
use Rattle.explorer.specs.Levels.{is_marked, is_marked_place, AreMarks, AreLevels}
use Rattle.explorer.specs.Levels.{IsNextOnWay, IsNextUse, IsStart, IsWay}
use Rattle.explorer.specs.Trails.{below}
use Rattle.explorer.proofs.MarkLemmas.{mark-is}
use Rattle.explorer.proofs.TrailLemmas.{innermost-last}

-- ---- one level more
module _ (rows : List Row) (start : Option UseOf) (marks : List Bool) where
  pub coming-push : (before : List Entered) (e : Entered) →
      coming_of rows start (before ++ e ∷ []) ≡ coming_below rows e ++ coming_of rows start before
  coming-push before e =
      fold-append (λ (later : List Place) (e : Entered). coming_below rows e ++ later)
      (places at_root (option_to_list start)) before (e ∷ [])

  pub filter-places : (here : Context) (us : List UseOf) →
      filter (is_marked_place marks) (places here us) ≡ places here (filter (is_marked marks) us)
  filter-places here [] = refl
  filter-places here (u ∷ us) = by_test (is_marked marks u)
      (λ e. rw e (ap (λ l. a_place here u ∷ l) (filter-places here us)))
      (λ e. rw e (filter-places here us))

  pub level-filter : (before : List Entered) (e : Entered) →
      filter (is_marked_place marks) (coming_of rows start (before ++ e ∷ [])) ≡
      places e.here (filter (is_marked marks) (drop e.at (uses_at rows e.id.0))) ++
      filter (is_marked_place marks) (coming_of rows start before)
  level-filter before e =
      let rest = coming_of rows start before in
      ap (filter (is_marked_place marks)) (coming-push before e) ∙
      filter-append (is_marked_place marks) (coming_below rows e) rest ∙
      ap (λ l. l ++ filter (is_marked_place marks) rest) (filter-places e.here (drop e.at (uses_at rows e.id.0)))

  -- the next use of the innermost node comes first
  pub next-comes : (levels before : List Entered) (id : NodeId) (at i : ℕ) (here : Context) (u : UseOf) →
      levels ≡ before ++ an_entered id at here ∷ [] → slice_get (uses_at rows id.0) i ≡ Some u →
      IsNextUse marks (uses_at rows id.0) at i → (levels' : List Entered) →
      levels' ≡ before ++ an_entered id (i + 1) here ∷ [] →
      filter (is_marked_place marks) (coming_of rows start levels) ≡
      a_place (innermost levels') u ∷ filter (is_marked_place marks) (coming_of rows start levels')
  next-comes levels before id at i here u is at-u next levels' is' =
      let rest = filter (is_marked_place marks) (coming_of rows start before) in
      let later = filter (is_marked marks) (drop (i + 1) (uses_at rows id.0)) in
      ap (λ l. filter (is_marked_place marks) (coming_of rows start l)) is ∙
      level-filter before (an_entered id at here) ∙
      ap (λ l. places here l ++ rest) (next.next u at-u) ∙
      ap (λ (c : Context). a_place c u ∷ (places here later ++ rest))
      (sym (ap innermost is' ∙ innermost-last before (an_entered id (i + 1) here))) ∙
      ap (λ l. a_place (innermost levels') u ∷ l)
      (sym (ap (λ l. filter (is_marked_place marks) (coming_of rows start l)) is' ∙
      level-filter before (an_entered id (i + 1) here)))

  -- a node without such a use is left
  pub none-comes : (levels before : List Entered) (e : Entered) → levels ≡ before ++ e ∷ [] →
      filter (is_marked marks) (drop e.at (uses_at rows e.id.0)) ≡ [] →
      filter (is_marked_place marks) (coming_of rows start levels) ≡
      filter (is_marked_place marks) (coming_of rows start before)
  none-comes levels before e is none =
      ap (λ l. filter (is_marked_place marks) (coming_of rows start l)) is ∙ level-filter before e ∙
      ap (λ l. places e.here l ++ filter (is_marked_place marks) (coming_of rows start before)) none

-- ---- levels within their bounds
module _ (rows : List Row) (n deep : ℕ) where
  pub levels-push : (place : ℕ) (before : List Entered) (e : Entered) → AreLevels rows n deep place before →
      e.id.0 < n → depth_at rows e.id.0 + (place + length before) ≤ deep →
      AreLevels rows n deep place (before ++ e ∷ [])
  levels-push place [] e h lt room = (lt, omega (arith, room), tt)
  levels-push place (x ∷ before) e h lt room =
      (h.0, h.1, levels-push (place + 1) before e h.2 lt (omega (arith, room)))

  pub levels-before : (place : ℕ) (before : List Entered) (e : Entered) →
      AreLevels rows n deep place (before ++ e ∷ []) → AreLevels rows n deep place before
  levels-before place [] e h = tt
  levels-before place (x ∷ before) e h = (h.0, h.1, levels-before (place + 1) before e h.2)

  pub last-held : (place : ℕ) (before : List Entered) (e : Entered) →
      AreLevels rows n deep place (before ++ e ∷ []) → e.id.0 < n
  last-held place [] e h = h.0
  last-held place (x ∷ before) e h = last-held (place + 1) before e h.2

  pub last-room : (place : ℕ) (before : List Entered) (e : Entered) →
      AreLevels rows n deep place (before ++ e ∷ []) → depth_at rows e.id.0 + (place + length before) ≤ deep
  last-room place [] e h = let a = h.1 in omega (arith, a)
  last-room place (x ∷ before) e h = let a = last-room (place + 1) before e h.2 in omega (arith, a)

-- the same way with other levels
pub way-with : (rows : List Row) (n : ℕ) (start : Option UseOf) (path path' : Path) → IsWay rows n start path →
    path'.deep ≡ path.deep → AreLevels rows n path.deep 0 path'.levels → IsWay rows n start path'
way-with rows n start path path' way e levels = record {
  few = way.few;
  root = λ v k. let r = way.root v k in (r.0, subst (λ d. depth_at rows v.id.0 ≤ d) (sym e) r.1);
  levels = subst (λ d. AreLevels rows n d 0 path'.levels) (sym e) levels;
}

-- ---- depths
greatest-of : (size : ℕ → ℕ) (us : List UseOf) (i : ℕ) (u : UseOf) → slice_get us i ≡ Some u →
    size u.id.0 ≤ greatest size us
greatest-of size [] i u e = absurd cc
greatest-of size (v ∷ us) zero u e =
    let same : size v.id.0 ≡ size u.id.0 = ap (λ (w : UseOf). size w.id.0) (same_Some v u e) in
    omega (arith, same)
greatest-of size (v ∷ us) (suc i) u e =
    let a = greatest-of size us i u e in
    omega (arith, a)

pub use-less-deep : (rows : List Row) → IsSound rows → (id i : ℕ) (u : UseOf) → id < length rows →
    slice_get (uses_at rows id) i ≡ Some u → depth_at rows u.id.0 < depth_at rows id
use-less-deep rows sound id i u held at =
    let a = sound.depths_of_trees.uses id held in
    let b = greatest-of (depth_at rows) (uses_at rows id) i u at in
    omega (arith, a, b)

-- ---- what is entered
entered-none : (kind : ℕ → Kind) (find avoid : Option Kind) (here : Context) (x : Tree) →
    gives kind find avoid x ≡ false → entered kind find avoid here x ≡ []
entered-none kind find avoid here (node k us) e = rw e refl

entered-some : (kind : ℕ → Kind) (find avoid : Option Kind) (here : Context) (k : ℕ) (us : Uses) →
    gives kind find avoid (node k us) ≡ true →
    entered kind find avoid here (node k us) ≡ an_occurrence here (node k us) ∷ entered_below kind find avoid here us
entered-some kind find avoid here k us e = rw e refl

-- uses of held numbers
held-places : (n : ℕ) (here : Context) (us : List UseOf) → All (λ (u : UseOf). u.id.0 < n) us →
    AllByRecursion (λ (p : Place). p.one.id.0 < n) (places here us)
held-places n here [] h = tt
held-places n here (u ∷ us) h =
    (All-head (λ (u : UseOf). u.id.0 < n) u us h, held-places n here us (All-tail (λ (u : UseOf). u.id.0 < n) u us h))

held-drop : (n k : ℕ) (us : List UseOf) → All (λ (u : UseOf). u.id.0 < n) us →
    All (λ (u : UseOf). u.id.0 < n) (drop k us)
held-drop n zero us h = h
held-drop n (suc k) [] h = h
held-drop n (suc k) (u ∷ us) h = held-drop n k us (All-tail (λ (u : UseOf). u.id.0 < n) u us h)

held-coming : (rows : List Row) → IsSound rows → (n deep place : ℕ) → n ≤ length rows → (levels : List Entered) →
    AreLevels rows n deep place levels → (acc : List Place) → AllByRecursion (λ (p : Place). p.one.id.0 < n) acc →
    AllByRecursion (λ (p : Place). p.one.id.0 < n)
    (fold (λ (later : List Place) (e : Entered). coming_below rows e ++ later) acc levels)
held-coming rows sound n deep place few [] h acc k = k
held-coming rows sound n deep place few (e ∷ es) h acc k =
    let lt = h.0 in
    let uses : All (λ (u : UseOf). u.id.0 < n) (uses_at rows e.id.0) =
    λ i d il. let a = sound.uses_are_earlier e.id.0 (omega (arith, lt, few)) i d il in omega (arith, a, lt) in
    held-coming rows sound n deep (place + 1) few es h.2 (coming_below rows e ++ acc)
    (each-append (λ (p : Place). p.one.id.0 < n) (coming_below rows e) acc
    (held-places n e.here (drop e.at (uses_at rows e.id.0)) (held-drop n e.at (uses_at rows e.id.0) uses)) k)

pub way-held : (rows : List Row) → IsSound rows → (n : ℕ) (start : Option UseOf) (path : Path) →
    IsWay rows n start path → AllByRecursion (λ (p : Place). p.one.id.0 < n) (coming_of rows start path.levels)
way-held rows sound n start path way =
    held-coming rows sound n path.deep 0 way.few path.levels way.levels (places at_root (option_to_list start))
    (at-start start way.root)
  where
    at-start : (s : Option UseOf) → IsStart rows n path.deep s →
        AllByRecursion (λ (p : Place). p.one.id.0 < n) (places at_root (option_to_list s))
    at-start None h = tt
    at-start (Some u) h = ((h u refl).0, tt)

module _ (table : List (List Pair)) (rows : List Row) (sound : IsSound rows) (kind : ℕ → Kind)
    (kinds : HaveKinds rows kind) (find avoid : Option Kind) (marks : List Bool)
    (are : AreMarks rows find avoid marks) where
  -- nothing is entered of what isn't marked
  pub only-marked : (ps : List Place) → AllByRecursion (λ (p : Place). p.one.id.0 < length marks) ps →
      entered_at_all table rows kind find avoid ps ≡
      entered_at_all table rows kind find avoid (filter (is_marked_place marks) ps)
  only-marked [] h = refl
  only-marked (p ∷ ps) h = by_test (is_marked marks p.one)
      (λ e. rw e (ap (λ l. entered_at table rows kind find avoid p ++ l) (only-marked ps h.1)))
      (λ e.
      let none : entered_at table rows kind find avoid p ≡ [] =
      entered-none kind find avoid _ (tree_at (word_in table) rows p.one.id.0)
      (sym (mark-is rows sound find avoid marks are (word_in table) kind kinds p.one h.0) ∙ e) in
      rw e (ap (λ l. l ++ entered_at_all table rows kind find avoid ps) none ∙ only-marked ps h.1))

  below-list : (here : Context) (us : List UseOf) →
      entered_below kind find avoid here (uses_of (map (use_by (word_in table) (tree_at (word_in table) rows)) us)) ≡
      entered_at_all table rows kind find avoid (places here us)
  below-list here [] = refl
  below-list here (u ∷ us) =
      ap (λ l. entered_at table rows kind find avoid (a_place here u) ++ l) (below-list here us)

  -- a use of a marked node is entered: itself, and then its uses
  entered-marked : (here : Context) (u : UseOf) → u.id.0 < length rows → u.id.0 < length marks →
      is_marked marks u ≡ true →
      entered_at table rows kind find avoid (a_place here u) ≡
      an_occurrence (below table here u) (tree_at (word_in table) rows u.id.0) ∷
      entered_at_all table rows kind find avoid (places (below table here u) (uses_at rows u.id.0))
  entered-marked here u held lt m =
      let h = below table here u in
      let us = map (use_by (word_in table) (tree_at (word_in table) rows)) (uses_at rows u.id.0) in
      let tree = sound.trees_of_uses (word_in table) u.id.0 held in
      let giving : gives kind find avoid (node (origin_at rows u.id.0) (uses_of us)) ≡ true =
      ap (gives kind find avoid) (sym tree) ∙
      sym (mark-is rows sound find avoid marks are (word_in table) kind kinds u lt) ∙ m in
      ap (entered kind find avoid h) tree ∙
      entered-some kind find avoid h (origin_at rows u.id.0) (uses_of us) giving ∙
      (λ j. an_occurrence h (sym tree j) ∷ below-list h (uses_at rows u.id.0) j)

  -- what is entered on the way: an occurrence, and what is still to come behind it
  pub step-entered : (old coming : List Place) (here : Context) (u : UseOf) → length marks ≤ length rows →
      AllByRecursion (λ (p : Place). p.one.id.0 < length marks) old →
      AllByRecursion (λ (p : Place). p.one.id.0 < length marks) coming →
      u.id.0 < length marks → is_marked marks u ≡ true →
      filter (is_marked_place marks) old ≡ a_place here u ∷ filter (is_marked_place marks) coming →
      entered_at_all table rows kind find avoid old ≡
      an_occurrence (below table here u) (tree_at (word_in table) rows u.id.0) ∷
      entered_at_all table rows kind find avoid (places (below table here u) (uses_at rows u.id.0) ++ coming)
  step-entered old coming here u few h k lt m next =
      let first = entered-marked here u (omega (arith, lt, few)) lt m in
      let rest = sym (only-marked coming k) in
      let more = sym (flat_map-append (entered_at table rows kind find avoid)
      (places (below table here u) (uses_at rows u.id.0)) coming) in
      only-marked old h ∙ ap (entered_at_all table rows kind find avoid) next ∙
      (λ j. first j ++ rest j) ∙
      ap (λ l. an_occurrence (below table here u) (tree_at (word_in table) rows u.id.0) ∷ l) more

  -- nothing is entered where none is marked
  pub none-entered : (old : List Place) → AllByRecursion (λ (p : Place). p.one.id.0 < length marks) old →
      filter (is_marked_place marks) old ≡ [] → entered_at_all table rows kind find avoid old ≡ []
  none-entered old h none = only-marked old h ∙ ap (entered_at_all table rows kind find avoid) none

-- ---- how much there is still to be gone through
module _ (table : List (List Pair)) (rows : List Row) where
  abbrev pub weight : List Place → ℕ
  weight [] = 0
  weight (p ∷ ps) = suc (use_count (tree_at (word_in table) rows p.one.id.0)) + weight ps

  weight-append : (a b : List Place) → weight (a ++ b) ≡ weight a + weight b
  weight-append [] b = omega arith
  weight-append (p ∷ a) b =
      let r = weight-append a b in
      omega (arith, r)

  weight-places : (marks : List Bool) (here : Context) (us : List UseOf) →
      weight (filter (is_marked_place marks) (places here us)) ≤
      uses_count (uses_of (map (use_by (word_in table) (tree_at (word_in table) rows)) us))
  weight-places marks here [] = omega arith
  weight-places marks here (u ∷ us) =
      let r = weight-places marks here us in
      by_test (is_marked marks u)
      (λ e. rw e (omega (arith, r)))
      (λ e. rw e (omega (arith, r)))

  pub weight-falls : IsSound rows → (marks : List Bool) (old coming : List Place) (here h : Context) (u : UseOf) →
      u.id.0 < length rows →
      filter (is_marked_place marks) old ≡ a_place here u ∷ filter (is_marked_place marks) coming →
      weight (filter (is_marked_place marks) (places h (uses_at rows u.id.0) ++ coming)) <
      weight (filter (is_marked_place marks) old)
  weight-falls sound marks old coming here h u held next =
      let x = tree_at (word_in table) rows u.id.0 in
      let us = map (use_by (word_in table) (tree_at (word_in table) rows)) (uses_at rows u.id.0) in
      let rest = filter (is_marked_place marks) coming in
      let own = filter (is_marked_place marks) (places h (uses_at rows u.id.0)) in
      let a : weight (filter (is_marked_place marks) old) ≡ suc (use_count x) + weight rest = ap weight next in
      let b : weight (filter (is_marked_place marks) (places h (uses_at rows u.id.0) ++ coming)) ≡
      weight (own ++ rest) =
      ap weight (filter-append (is_marked_place marks) (places h (uses_at rows u.id.0)) coming) in
      let c = weight-append own rest in
      let d = weight-places marks h (uses_at rows u.id.0) in
      let e : use_count x ≡ uses_count (uses_of us) =
      ap use_count (sound.trees_of_uses (word_in table) u.id.0 held) in
      omega (arith, a, b, c, d, e)

-- ---- one step on the way
module _ (table : List (List Pair)) (rows : List Row) (sound : IsSound rows) (marks : List Bool)
    (start start' : Option UseOf) (path path' : Path) (u : UseOf)
    (next : IsNextOnWay rows marks start path start' path' u) (way' : IsWay rows (length marks) start' path')
    (levels : List Entered)
    (is : levels ≡ path'.levels ++ an_entered u.id 0 (below table (innermost path'.levels) u) ∷ []) where
  step-coming : coming_of rows start' levels ≡
      places (below table (innermost path'.levels) u) (uses_at rows u.id.0) ++ coming_of rows start' path'.levels
  step-coming =
      ap (coming_of rows start') is ∙
      coming-push rows start' marks path'.levels (an_entered u.id 0 (below table (innermost path'.levels) u))

  pub use-held : u.id.0 < length rows
  use-held = let a = next.held in let b = way'.few in omega (arith, a, b)

  pub step-on : IsWay rows (length marks) start path → (kind : ℕ → Kind) → HaveKinds rows kind →
      (find avoid : Option Kind) → AreMarks rows find avoid marks →
      entered_at_all table rows kind find avoid (coming_of rows start path.levels) ≡
      an_occurrence (below table (innermost path'.levels) u) (tree_at (word_in table) rows u.id.0) ∷
      entered_at_all table rows kind find avoid (coming_of rows start' levels)
  step-on way kind kinds find avoid are =
      step-entered table rows sound kind kinds find avoid marks are (coming_of rows start path.levels)
      (coming_of rows start' path'.levels) (innermost path'.levels) u way'.few
      (way-held rows sound (length marks) start path way) (way-held rows sound (length marks) start' path' way')
      next.held next.marked next.next ∙
      ap (λ l. an_occurrence (below table (innermost path'.levels) u) (tree_at (word_in table) rows u.id.0) ∷
      entered_at_all table rows kind find avoid l) (sym step-coming)

  pub step-falls : weight table rows (filter (is_marked_place marks) (coming_of rows start' levels)) <
      weight table rows (filter (is_marked_place marks) (coming_of rows start path.levels))
  step-falls =
      subst (λ l. weight table rows (filter (is_marked_place marks) l) <
      weight table rows (filter (is_marked_place marks) (coming_of rows start path.levels))) (sym step-coming)
      (weight-falls table rows sound marks (coming_of rows start path.levels) (coming_of rows start' path'.levels)
      (innermost path'.levels) (below table (innermost path'.levels) u) u use-held next.next)

  pub step-levels : AreLevels rows (length marks) path'.deep 0 levels
  step-levels =
      let room = next.room in
      subst (λ l. AreLevels rows (length marks) path'.deep 0 l) (sym is)
      (levels-push rows (length marks) path'.deep 0 path'.levels
      (an_entered u.id 0 (below table (innermost path'.levels) u)) way'.levels next.held (omega (arith, room)))

  -- there is room for one node more
  pub step-room : length path'.levels < path'.deep
  step-room =
      let a = sound.depths_of_trees.uses u.id.0 use-held in
      let room = next.room in
      omega (arith, a, room)

-- a use has a word of the table
pub use-placed : (rows : List Row) (words : ℕ) → HasPlaces rows words → (id i : ℕ) (u : UseOf) → id < length rows →
    slice_get (uses_at rows id) i ≡ Some u → u.place.0 < words
use-placed rows words places id i u held at =
    subst (λ (v : UseOf). v.place.0 < words) (get_or_from_slice_get (uses_at rows id) i u u at)
    (places id held i u (slice_get_within (uses_at rows id) i u at))

-- ---- the root
held-word : (table : List (List Pair)) → IsTable table → (i : ℕ) → i < length table →
    norm (word_in table i) ≡ word_in table i
held-word table t i lt =
    let r = at_place table i lt in
    let word : word_in table i ≡ r.0 = ap (λ (o : Option (List Pair)). unwrap_or o []) r.1 in
    let held : IsHeldWord r.0 =
    subst IsHeldWord (get_or_from_slice_get table i r.0 r.0 r.1) (t.words i r.0 lt) in
    ap norm word ∙ held.is_word ∙ sym word

pub root-left : WordsAreAGroup → (table : List (List Pair)) → IsTable table → (rows : List Row) (kind : ℕ → Kind)
    (find avoid : Option Kind) (root : UseOf) → root.place.0 < length table → (levels : List Entered) → levels ≡ [] →
    entered_at_all table rows kind find avoid (coming_of rows (Some root) levels) ≡
    entered kind find avoid (a_context root.turn (word_in table root.place.0))
    (tree_at (word_in table) rows root.id.0)
root-left group table t rows kind find avoid root lt levels none =
    let word = word_in table root.place.0 in
    ap (λ l. entered_at_all table rows kind find avoid (coming_of rows (Some root) l)) none ∙
    append-nil (entered_at table rows kind find avoid (a_place at_root root)) ∙
    ap (λ w. entered kind find avoid (a_context root.turn w) (tree_at (word_in table) rows root.id.0))
    (group.identity_outer word (held-word table t root.place.0 lt))
