-- The keys that were found, in the order of their places, are all keys of the step, each after those of what it asks
-- for.
use Rattle.std.proofs.Common.{◌≡◌, ◌≢◌, ◌≤◌, ◌<◌, ◌-◌, ◌∙◌, ◌∷◌, ℕ, zero, suc}
use Rattle.std.proofs.Common.{Bool, true, List, [], All, Contains, map, length}
use Rattle.std.proofs.Common.{arith, refl, sym, ap, subst, slice_get, Option, Some, None}
use Rattle.std.specs.Prelude.{Vec, is_some, filter}
use Rattle.std.specs.Global.{Global}
use Rattle.std.specs.Option.{option_map, option_map_or}
use Rattle.std.proofs.lemmas.List.{length-map}
use Rattle.std.proofs.lemmas.List.Elements.{All-contains}
use Rattle.std.proofs.lemmas.Option.{same_Some, slice_get_within}
use Rattle.lists.specs.Distinct.{IsDistinct}
use Rattle.lists.proofs.Distinct.{length-le_from_distinct}
use Rattle.lists.proofs.Each.{All-from_members}
use Rattle.lists.proofs.Entries.{All-place}
use Rattle.lists.proofs.Members.{Contains-map, Contains-map_cases}
use Rattle.lists.proofs.Places.{at_place, place_of, Contains-at}
use Rattle.lists.proofs.Tests.{Contains-filter}
use Rattle.location_words.specs.declared.pair.Pair.{Pair}
use Rattle.location_words.specs.declared.table.WordId.{WordId}
use Rattle.location_words.specs.declared.fault.WordFault.{WordFault}
use Rattle.location_words.specs.Faults.{fault_of}
use Rattle.location_words.specs.Laws.{LimitsTell}
use Rattle.location_words.specs.Pairs.{IsHeldWord}
use Rattle.location_words.specs.Tables.{IsTable}
use Rattle.graph_walks.specs.Walks.{Reaches, itself as walks-itself, along}
use Rattle.expansion_laws.specs.Trees.{Tree, Use}
use Rattle.expansion_laws.specs.Contexts.{Context, at_root, inside}
use Rattle.expansion_laws.specs.Steps.{Step}
use Rattle.expansion_laws.specs.Graph.{edges, HasCycle}
use Rattle.expansion_laws.specs.Visits.{LeadsTo, itself, onto}
use Rattle.expansion_laws.specs.RewritingLaws.{DemandsAreEdges, KeysStandForVisits}
use Rattle.expansion_laws.specs.Keys.{IsKey, IsKeyOfStep, Key as TreeKey}
use Rattle.expansion_laws.specs.StepMeasures.{IsWordKeyOf, IsWordOfKey}
use Rattle.shape_pool.specs.Rows.{Row, tree_at, HasPlaces}
use Rattle.shape_pool.specs.Laws.{IsSound, TellsBelow}
use Rattle.requests.specs.Plans.{PlannedNode, ids_of, ArePlanned}
use Rattle.key_results.specs.declared.fault.LimitKind.TheVariants.{FileBytes, ScriptBytes, ScriptLines}
use Rattle.key_results.specs.declared.fault.LimitKind.TheVariants.{Steps, Rank, Keys, WordPairs}
use Rattle.key_results.specs.declared.fault.LimitKind.TheVariants.{WordPower, Uses, Depth, Nodes, Pairs}
use Rattle.key_results.specs.declared.key.Key.{Key}
use Rattle.key_results.specs.Grown.{AreMoreThan}
use Rattle.key_results.specs.Memos.{key_by, context_by, IsHeldKey}
use Rattle.key_results.specs.Words.{ReadsWords}
use Rattle.reshape.specs.Limits.{most_keys, IsKeysFault, Passes}
use Rattle.reshape.specs.Collecting.{worded, AreFound, AreInOrder, HasAsked, AreAllKeys}
use Rattle.reshape.specs.Collecting.{AreBottomUp, AreCollectedFrom, AreKeysOf, IsLastKey}
use Rattle.reshape.proofs.CollectLaws.{end-before, one-place, root-last}
use Rattle.reshape.proofs.FoundLaws.{are-all-keys}
use Rattle.reshape.proofs.TurnLaws.{asked-more}

-- ---- a visit that comes back to where it began
leads-reach : (s : Step) → DemandsAreEdges s → {x y : Tree} {here there : Context} → LeadsTo s x here y there →
    Reaches (edges s) x y
leads-reach s edge itself = walks-itself
leads-reach s edge {x} {y} {here} {there} (onto v m rest) = along v.tree (edge x here v m) (leads-reach s edge rest)

back-to : (s : Step) → DemandsAreEdges s → {x y : Tree} {here there : Context} → LeadsTo s x here y there → y ≡ x →
    (HasCycle s x → ⊥) → (k : TreeKey) →
    IsKey s y there k → IsKey s x here k
back-to s edge itself e without k is = is
back-to s edge {x} {y} {here} {there} (onto v m rest) e without k is =
    absurd (without (
      x,
      v.tree,
      walks-itself,
      edge x here v m,
      subst (Reaches (edges s) v.tree) e (leads-reach s edge rest),
    ))

none-some : (fault : WordFault) → None ≡ Some fault → ⊥
none-some fault e = absurd cc

-- what comes once has one place
pub once-at : {X : Type 0} (xs : List X) (i j : ℕ) (x : X) → IsDistinct xs → slice_get xs i ≡ Some x →
    slice_get xs j ≡ Some x → i ≡ j
once-at [] i j x d a b = absurd cc
once-at (y ∷ xs) zero zero x d a b = refl
once-at (y ∷ xs) zero (suc j) x d a b =
    absurd (d.0 (subst (Contains xs) (sym (same_Some y x a)) (Contains-at xs j x b)))
once-at (y ∷ xs) (suc i) zero x d a b =
    absurd (d.0 (subst (Contains xs) (sym (same_Some y x b)) (Contains-at xs i x a)))
once-at (y ∷ xs) (suc i) (suc j) x d a b = ap suc (once-at xs i j x d.1 a b)

below-or-last : {P : Type 0} (p q : ℕ) → p ≤ q → (p < q → P) → (p ≡ q → P) → P
below-or-last zero zero le f g = g refl
below-or-last zero (suc q) le f g = f (omega arith)
below-or-last (suc p) zero le f g = absurd (omega (arith, le))
below-or-last (suc p) (suc q) le f g =
    below-or-last p q (omega (arith, le)) (λ lt. f (omega (arith, lt))) (λ e. g (ap suc e))

-- the word of a key is within the limits
pub word-within : LimitsTell → (table : List (List Pair)) (word : ℕ → List Pair) → IsTable table →
    ReadsWords word table → (o : Option WordId) (w : List Pair)
    (fault : WordFault) → option_map (λ (i : WordId). word i.0) o ≡ Some w →
    option_map_or (λ (i : WordId). i.0) o 0 < length table →
    fault_of w ≡ Some fault → ⊥
word-within limits table word t r None w fault e lt past = absurd cc
word-within limits table word t r (Some i) w fault e lt past =
    let x = at_place table i.0 lt in
    let held : IsHeldWord x.0 = All-place IsHeldWord table i.0 x.0 t.words x.1 in
    let same : x.0 ≡ w = sym (r.held i.0 x.0 x.1) ∙ same_Some (word i.0) w e in
    let none : fault_of x.0 ≡ None = (limits x.0).1 (held.few, held.small) in
    none-some fault (sym none ∙ ap fault_of same ∙ past)

-- a key whose word stands for one holds one
holds-word : (word : ℕ → List Pair) (o : Option WordId) → option_map (λ (i : WordId). word i.0) o ≢ None →
    is_some o ≡ true
holds-word word None h = absurd (h refl)
holds-word word (Some i) h = refl

module _ (rows : List Row) (n : ℕ) (nodes : List PlannedNode) (found : List Key) (at : List (Vec Key Global))
    (count : ℕ) (keys : List Key)
    (are : AreFound rows n nodes found at count) (order : AreInOrder at keys) where
  pub in-found : (k : Key) → Contains keys k → Contains found k
  in-found k m =
      let i = place_of keys k m in
      let p = order.placed i.0 k i.1 in
      (are.back p.0 k p.1).0

  pub in-keys : (k : Key) → Contains found k → Contains keys k
  in-keys k m = let p = are.placed k m in order.all p.0 k p.1

  pub keys-held : All (IsHeldKey rows n) keys
  keys-held =
      All-from_members (IsHeldKey rows n) keys (λ k m. All-contains (IsHeldKey rows n) found k are.held (in-found k m))

  pub keys-planned : All (λ (k : Key). Contains (ids_of nodes) k.id.0) keys
  keys-planned = All-from_members (λ (k : Key). Contains (ids_of nodes) k.id.0) keys (λ k m.
      let i = place_of keys k m in
      let p = order.placed i.0 k i.1 in
      Contains-at (ids_of nodes) p.0 k.id.0 (are.back p.0 k p.1).1)

  module _ (sound : IsSound rows) (s : Step) (word : ℕ → List Pair) (root : Use) (root_id : ℕ)
      (places : HasPlaces rows n) (tells : TellsBelow n word)
      (planned : ArePlanned nodes root_id s (tree_at word rows))
      (held : All (λ (p : PlannedNode). p.id < length rows) nodes)
      (edge : DemandsAreEdges s) (stand : KeysStandForVisits s) (identity : word 0 ≡ [])
      (no_cycle : HasCycle s (tree_at word rows root_id) → ⊥)
      (is_root : root.tree ≡ tree_at word rows root_id) (root_held : root_id < length rows)
      (all : AreCollectedFrom rows s word root found at 0) where
    asked-found : (k : Key) → Contains found k → HasAsked rows s word found k
    asked-found k m = let p = are.placed k m in all.closed p.0 k (omega arith) p.1

    pub all-found-keys : AreAllKeys rows s word root found
    all-found-keys =
        are-all-keys rows sound word n places tells s root found stand identity are.held are.distinct all.of_step
        all.first asked-found

    pub all-keys : AreAllKeys rows s word root keys
    all-keys = are-all-keys rows sound word n places tells s root keys stand identity keys-held order.distinct
        (All-from_members (λ (k : Key). IsKeyOfStep s root (key_by word rows k)) keys (λ k m.
        All-contains (λ (z : Key). IsKeyOfStep s root (key_by word rows z)) found k all.of_step (in-found k m)))
        (let f = all.first in (f.0, in-keys f.0 f.1, f.2))
        (λ k m. asked-more rows s word found keys k in-keys (asked-found k (in-found k m)))

    pub bottom-up : AreBottomUp rows s word keys
    bottom-up i k e v m =
        let p = order.placed i k e in
        let b = are.back p.0 k p.1 in
        let l = asked-found k b.0 v m in
        let tree : v.tree ≡ tree_at word rows l.0.id.0 = sym (ap (λ (q : TreeKey). q.tree) l.2.4) in
        let l-held = All-contains (IsHeldKey rows n) found l.0 are.held l.1 in
        let q = are.placed l.0 l.1 in
        let c = are.back q.0 l.0 q.1 in
        let before = end-before rows sound n s word nodes root_id places tells planned held k.id.0 l.0.id.0 p.0 b.1
        l-held.0
        (subst (Contains (edges s (tree_at word rows k.id.0))) tree
        (edge (tree_at word rows k.id.0) (context_by word k) v m)) in
        let same : q.0 ≡ before.0 = one-place rows sound n s word nodes root_id places tells planned held q.0 before.0
        l.0.id.0 c.1 before.2 in
        let lt = before.1 in
        let j = p.2 q.0 l.0 (omega (arith, same, lt)) q.1 in
        (j.0, l.0, j.1, j.2, l.2)

    -- the key at the root's place is the root's
    root-key : (k : Key) → Contains found k → k.id.0 ≡ root_id →
        IsKey s root.tree (inside at_root root) (key_by word rows k)
    root-key k m e =
        let of-step = All-contains (λ (z : Key). IsKeyOfStep s root (key_by word rows z)) found k all.of_step m in
        let tree : of-step.0 ≡ root.tree =
        sym (ap (λ (q : TreeKey). q.tree) of-step.3.4) ∙ ap (tree_at word rows) e ∙ sym is_root in
        back-to s edge of-step.2 tree (λ h. no_cycle (subst (HasCycle s) is_root h)) (key_by word rows k) of-step.3

    pub last-key : IsLastKey rows s word root keys
    last-key =
        let first = all.first in
        let kr = first.0 in
        let kr-held = All-contains (IsHeldKey rows n) found kr are.held first.1 in
        let kr-tree : tree_at word rows kr.id.0 ≡ tree_at word rows root_id =
        ap (λ (q : TreeKey). q.tree) first.2.4 ∙ is_root in
        let kr-id : kr.id.0 ≡ root_id = (sound.ids_tell_trees n word places tells kr.id.0 root_id kr-held.0 root_held).1
        kr-tree in
        let j = place_of keys kr (in-keys kr first.1) in
        let some : j.0 < length keys = slice_get_within keys j.0 kr j.1 in
        let i : ℕ = length keys - 1 in
        let k = at_place keys i (omega (arith, some)) in
        let pr = order.placed j.0 kr j.1 in
        let br = are.back pr.0 kr pr.1 in
        let p = order.placed i k.0 k.1 in
        let b = are.back p.0 k.0 p.1 in
        let le : p.0 ≤ pr.0 = root-last rows sound n s word nodes root_id places tells planned held pr.0 p.0 k.0.id.0
        (br.1 ∙ ap Some kr-id) b.1 in
        let same : k.0.id.0 ≡ root_id = below-or-last p.0 pr.0 le
        (λ lt. let h = pr.2 p.0 k.0 lt p.1 in
        let again : h.0 ≡ i = once-at keys h.0 i k.0 order.distinct h.2 k.1 in
        let x = h.1 in absurd (omega (arith, again, x, some)))
        (λ e. same_Some k.0.id.0 root_id (sym b.1 ∙ ap (slice_get (ids_of nodes)) e ∙ br.1 ∙ ap Some kr-id)) in
        (i, k.0, omega (arith, some), k.1, root-key k.0 b.0 same)

    -- no limit of the first group is passed
    module _ (limits : LimitsTell) (table : List (List Pair)) (is_table : IsTable table) (reads : ReadsWords word table)
        (le : n ≤ length table) where
      few-words : AreMoreThan most_keys (IsWordKeyOf s root) → ⊥
      few-words h =
          let some-word : Key → Bool = (λ (q : Key). is_some q.word) in
          let listed : List TreeKey = map (key_by word rows) (filter some-word found) in
          let among : (x : TreeKey) → Contains h.0 x → Contains listed x =
          (λ x m. let is = All-contains (IsWordKeyOf s root) h.0 x h.2 m in
          let c = Contains-map_cases (key_by word rows) x found ((all-found-keys.1 x).0 is.0) in
          subst (Contains listed) c.2 (Contains-map (key_by word rows) c.0 (filter some-word found)
          (Contains-filter some-word found c.0 c.1 (holds-word word c.0.word
          (λ e. is.1 (sym (ap (λ (q : TreeKey). q.word) c.2) ∙ e)))))) in
          let few = length-le_from_distinct h.0 listed h.1 among in
          let long : length listed ≡ worded found = length-map (filter some-word found) (key_by word rows) in
          let counted = are.counted in
          let most = are.few in
          let past = h.3 in
          omega (arith, few, long, counted, most, past)

      small-words : (w : List Pair) (fault : WordFault) → IsWordOfKey s root w → fault_of w ≡ Some fault → ⊥
      small-words w fault is e =
          let c = Contains-map_cases (key_by word rows) is.0 found ((all-found-keys.1 is.0).0 is.1) in
          let k-held = All-contains (IsHeldKey rows n) found c.0 are.held c.1 in
          word-within limits table word is_table reads c.0.word w fault (ap (λ (q : TreeKey). q.word) c.2 ∙ is.2)
          (let lt = k-held.1 in omega (arith, lt, le)) e

      pub passes-keys : Passes (IsKeysFault s root)
      passes-keys Keys m h = few-words h.0
      passes-keys WordPairs m h = small-words h.0 _ h.1 h.2
      passes-keys WordPower m h = small-words h.0 _ h.1 h.2
      passes-keys FileBytes m h = h
      passes-keys ScriptBytes m h = h
      passes-keys ScriptLines m h = h
      passes-keys Steps m h = h
      passes-keys Rank m h = h
      passes-keys Uses m h = h
      passes-keys Depth m h = h
      passes-keys Nodes m h = h
      passes-keys Pairs m h = h

      pub are-keys-of : AreKeysOf rows s word root keys
      are-keys-of = record { whole = all-keys; bottom_up = bottom-up; last = last-key; within = passes-keys }
