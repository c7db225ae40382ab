-- What the visits of a key ask for: where its nodes stand in the plan, and that its keys are keys of the step.
use Rattle.std.proofs.Common.{◌≡◌, ◌≤◌, ◌<◌, ◌∙◌, ◌∷◌, ℕ, zero, suc, List, [], All, Contains, map, length, take}
use Rattle.std.proofs.Common.{arith, refl, sym, ap, subst, slice_get, slice_index_or, Option, Some, None}
use Rattle.std.specs.Prelude.{unwrap_or}
use Rattle.std.specs.Option.{option_map, option_map_or}
use Rattle.std.proofs.lemmas.List.{length-map}
use Rattle.std.proofs.lemmas.Option.{slice_get_within, get_or_from_slice_get}
use Rattle.lists.proofs.Entries.{All-place, slice_get-mapped}
use Rattle.lists.proofs.Places.{at_place, place_of, same_entry, Contains-at}
use Rattle.location_words.specs.declared.pair.Pair.{Pair}
use Rattle.location_words.specs.declared.table.WordId.{WordId}
use Rattle.location_words.specs.declared.fault.WordFault.{WordFault}
use Rattle.location_words.specs.declared.fault.WordFault.TheVariants.{Pairs as TooManyPairs, Power as TooLarge}
use Rattle.location_words.specs.declared.fault.WordFault.TheVariants.{NoMemory as NoMemoryForWord}
use Rattle.location_words.specs.Faults.{fault_of, IsDueFault}
use Rattle.graph_walks.specs.Walks.{Reaches, itself as walks-itself, along}
use Rattle.graph_walks.proofs.RankLaws.{ends-before, once-before}
use Rattle.expansion_laws.specs.Trees.{Tree, Use}
use Rattle.expansion_laws.specs.Contexts.{Context, inside}
use Rattle.expansion_laws.specs.Steps.{Step}
use Rattle.expansion_laws.specs.Demands.{demands}
use Rattle.expansion_laws.specs.Graph.{edges}
use Rattle.expansion_laws.specs.Visits.{LeadsTo, itself, onto}
use Rattle.expansion_laws.specs.RewritingLaws.{DemandsAreEdges, KeysStandForVisits}
use Rattle.expansion_laws.specs.Keys.{IsKey, IsKeyOfStep, Key as TreeKey, context_of}
use Rattle.expansion_laws.specs.StepMeasures.{IsWordOfKey}
use Rattle.shape_pool.specs.declared.node.UseOf.{UseOf}
use Rattle.shape_pool.specs.Rows.{Row, tree_at, HasPlaces}
use Rattle.shape_pool.specs.Laws.{IsSound, TellsBelow}
use Rattle.requests.specs.Plans.{PlannedNode, ids_of, ArePlanned}
use Rattle.key_results.specs.declared.key.Key.{Key}
use Rattle.key_results.specs.declared.words.Mover.{Mover}
use Rattle.key_results.specs.Faults.{of_word}
use Rattle.key_results.specs.Memos.{key_by, context_by, turn_here}
use Rattle.reshape.specs.Asking.{moved_use}
use Rattle.reshape.specs.Collecting.{IsDemanded, IsKeyFrom, IsDueFrom, IsKeysDue}

-- the context that stands for a key, where the number 0 is the identity's
word-here : (word : ℕ → List Pair) → word 0 ≡ [] → (o : Option WordId) →
    unwrap_or (option_map (λ (w : WordId). word w.0) o) [] ≡ word (option_map_or (λ (w : WordId). w.0) o 0)
word-here word e None = sym e
word-here word e (Some w) = refl

pub context-by : (word : ℕ → List Pair) (rows : List Row) (k : Key) → word 0 ≡ [] →
    context_of (key_by word rows k) ≡ context_by word k
context-by word rows k e = λ i. record { turn = turn_here k; word = word-here word e k.word i }

-- ---- a visit leads to what one that it leads to asks for
pub leads-on : (s : Step) {x y : Tree} {here there : Context} → LeadsTo s x here y there → (v : Use) →
    Contains (demands s y there) v →
    LeadsTo s x here v.tree (inside there v)
leads-on s itself v m = onto v m itself
leads-on s (onto w k rest) v m = onto w k (leads-on s rest v m)

module _ (rows : List Row) (s : Step) (word : ℕ → List Pair) (stand : KeysStandForVisits s) (identity : word 0 ≡ [])
    (root : Use)
    (from : Key) (m : Mover) (u : UseOf) (of_step : IsKeyOfStep s root (key_by word rows from))
    (demanded : IsDemanded rows s word from m u) where
  -- so the keys of what the visits of a key of the step ask for are keys of the step
  pub next-of-step : (k : TreeKey) → IsKeyFrom rows s word from m u k → IsKeyOfStep s root k
  next-of-step k is =
      let x = of_step.0 in
      let here = of_step.1 in
      let own = of_step.3 in
      let v = moved_use word (tree_at word rows) m u in
      let tree : tree_at word rows from.id.0 ≡ x = ap (λ (q : TreeKey). q.tree) own.4 in
      let same : context_of (key_by word rows from) ≡ context_by word from = context-by word rows from identity in
      let at-key : Contains (demands s x (context_of (key_by word rows from))) v =
      subst (λ (c : Context). Contains (demands s x c) v) (sym same)
      (subst (λ (y : Tree). Contains (demands s y (context_by word from)) v) tree demanded) in
      let at-visit : Contains (demands s x here) v =
      subst (λ (us : List Use). Contains us v) (sym (stand.same_demands x here (key_by word rows from) own)) at-key in
      let there : IsKey s v.tree (inside (context_of (key_by word rows from)) v) k =
      subst (λ (c : Context). IsKey s v.tree (inside c v) k) (sym same) is in (
        v.tree,
        inside here v,
        leads-on s of_step.2 v at-visit,
        (stand.same_keys x here (key_by word rows from) k v own at-visit).1 there,
      )

  due-word : (w : List Pair) (fault : WordFault) → IsWordOfKey s root w → IsDueFault (fault_of w) fault →
      IsKeysDue s root (of_word fault)
  due-word w (TooManyPairs n) is d = (w, is, d)
  due-word w (TooLarge n) is d = (w, is, d)
  due-word w NoMemoryForWord is d = tt

  -- and a fault that is due of their words is due of the step
  pub due-of-step : (fault : WordFault) → IsDueFrom rows s word from m u fault → IsKeysDue s root (of_word fault)
  due-of-step fault due = due-word due.1 fault (due.0, next-of-step due.0 due.2, due.3) due.4

-- ---- what stands before a place of the plan
taken : {X : Type 0} (xs : List X) (p j : ℕ) (x : X) → slice_get (take p xs) j ≡ Some x →
    (j < p) × (slice_get xs j ≡ Some x)
taken xs zero j x e = absurd cc
taken [] (suc p) j x e = absurd cc
taken (y ∷ xs) (suc p) zero x e = (omega arith, e)
taken (y ∷ xs) (suc p) (suc j) x e = (let r = taken xs p j x e in ((let lt = r.0 in omega (arith, lt)), r.1))

mapped-at : {X Y : Type 0} (f : X → Y) (xs : List X) (j : ℕ) (y : Y) → slice_get (map f xs) j ≡ Some y →
    (x : X) × (slice_get xs j ≡ Some x) × (f x ≡ y)
mapped-at f xs j y e =
    let within : j < length (map f xs) = slice_get_within (map f xs) j y e in
    let long : length (map f xs) ≡ length xs = length-map xs f in
    let x = at_place xs j (omega (arith, within, long)) in
    (x.0, x.1, same_entry (slice_get-mapped f xs j x.0 x.1) e)

kept-taken : {X : Type 0} (xs : List X) (p q : ℕ) (x : X) → p < q → slice_get xs p ≡ Some x →
    slice_get (take q xs) p ≡ Some x
kept-taken xs p zero x lt e = absurd (omega (arith, lt))
kept-taken [] p (suc q) x lt e = absurd cc
kept-taken (y ∷ xs) zero (suc q) x lt e = e
kept-taken (y ∷ xs) (suc p) (suc q) x lt e = kept-taken xs p q x (omega (arith, lt)) e

by_places_apart : {P : Type 0} (p q : ℕ) → (p < q → P) → (q < p → P) → (p ≡ q → P) → P
by_places_apart zero zero f g h = h refl
by_places_apart zero (suc q) f g h = f (omega arith)
by_places_apart (suc p) zero f g h = g (omega arith)
by_places_apart (suc p) (suc q) f g h =
    by_places_apart p q (λ lt. f (omega (arith, lt))) (λ lt. g (omega (arith, lt))) (λ e. h (ap suc e))

module _ (rows : List Row) (sound : IsSound rows) (n : ℕ) (s : Step) (word : ℕ → List Pair) (nodes : List PlannedNode)
    (root : ℕ)
    (places : HasPlaces rows n) (tells : TellsBelow n word) (planned : ArePlanned nodes root s (tree_at word rows))
    (held : All (λ (p : PlannedNode). p.id < length rows) nodes) where
  -- a node whose tree the plan has stands in it
  pub node-there : (i p : ℕ) (x : Tree) → i < length rows → x ≡ tree_at word rows i →
      slice_get (map (tree_at word rows) (ids_of nodes)) p ≡ Some x →
      slice_get (ids_of nodes) p ≡ Some i
  node-there i p x lt e at =
      let id = mapped-at (tree_at word rows) (ids_of nodes) p x at in
      let node = mapped-at (λ (q : PlannedNode). q.id) nodes p id.0 id.1 in
      let there : node.0.id < length rows = All-place (λ (q : PlannedNode). q.id < length rows) nodes p node.0 held
      node.1 in
      let id-held : id.0 < length rows = subst (λ (k : ℕ). k < length rows) node.2 there in
      id.1 ∙ ap Some ((sound.ids_tell_trees n word places tells id.0 i id-held lt).1 (id.2 ∙ e))

  -- the ends of edges from a node stand before it
  pub end-before : (i j p : ℕ) → slice_get (ids_of nodes) p ≡ Some i → j < length rows →
      Contains (edges s (tree_at word rows i)) (tree_at word rows j) →
      (q : ℕ) × (q < p) × (slice_get (ids_of nodes) q ≡ Some j)
  end-before i j p at lt m =
      let trees = map (tree_at word rows) (ids_of nodes) in
      let there : slice_get trees p ≡ Some (tree_at word rows i) =
      slice_get-mapped (tree_at word rows) (ids_of nodes) p i at in
      let within : p < length trees = slice_get_within trees p (tree_at word rows i) there in
      let read : slice_index_or trees p (tree_at word rows i) ≡ tree_at word rows i =
      get_or_from_slice_get trees p (tree_at word rows i) (tree_at word rows i) there in
      let before : Contains (take p trees) (tree_at word rows j) =
      ends-before (edges s) trees p (tree_at word rows i) planned.finishes within (tree_at word rows j)
      (subst (λ (x : Tree). Contains (edges s x) (tree_at word rows j)) (sym read) m) in
      let q = place_of (take p trees) (tree_at word rows j) before in
      let t = taken trees p q.0 (tree_at word rows j) q.1 in
      (q.0, t.0, node-there j q.0 (tree_at word rows j) lt refl t.1)

  -- and so does the node of a use that the visits of a key ask for
  pub demanded-before : DemandsAreEdges s → (from : Key) (m : Mover) (u : UseOf) (p : ℕ) →
      slice_get (ids_of nodes) p ≡ Some from.id.0 →
      u.id.0 < length rows → IsDemanded rows s word from m u →
      (q : ℕ) × (q < p) × (slice_get (ids_of nodes) q ≡ Some u.id.0)
  demanded-before edge from m u p at lt demanded =
      end-before from.id.0 u.id.0 p at lt
      (edge (tree_at word rows from.id.0) (context_by word from) (moved_use word (tree_at word rows) m u) demanded)

  -- what the plan has stands in it once
  tree-once : (p q : ℕ) (x : Tree) → p < q → slice_get (map (tree_at word rows) (ids_of nodes)) p ≡ Some x →
      slice_get (map (tree_at word rows) (ids_of nodes)) q ≡ Some x → ⊥
  tree-once p q x lt a b =
      let trees = map (tree_at word rows) (ids_of nodes) in
      let read : slice_index_or trees q x ≡ x = get_or_from_slice_get trees q x x b in
      once-before (edges s) trees q x planned.finishes (slice_get_within trees q x b)
      (subst (Contains (take q trees)) (sym read) (Contains-at (take q trees) p x (kept-taken trees p q x lt a)))

  pub tree-place : (p q : ℕ) (x : Tree) → slice_get (map (tree_at word rows) (ids_of nodes)) p ≡ Some x →
      slice_get (map (tree_at word rows) (ids_of nodes)) q ≡ Some x → p ≡ q
  tree-place p q x a b =
      by_places_apart p q (λ lt. absurd (tree-once p q x lt a b)) (λ lt. absurd (tree-once q p x lt b a)) (λ e. e)

  pub one-place : (p q i : ℕ) → slice_get (ids_of nodes) p ≡ Some i → slice_get (ids_of nodes) q ≡ Some i → p ≡ q
  one-place p q i a b =
      tree-place p q (tree_at word rows i) (slice_get-mapped (tree_at word rows) (ids_of nodes) p i a)
      (slice_get-mapped (tree_at word rows) (ids_of nodes) q i b)

  pub demanded-place : DemandsAreEdges s → (from : Key) (m : Mover) (u : UseOf) (p place : ℕ) →
      slice_get (ids_of nodes) p ≡ Some from.id.0 →
      slice_get (ids_of nodes) place ≡ Some u.id.0 → u.id.0 < length rows → IsDemanded rows s word from m u → place < p
  demanded-place edge from m u p place at there lt demanded =
      let q = demanded-before edge from m u p at lt demanded in
      let same : place ≡ q.0 = one-place place q.0 u.id.0 there q.2 in
      let below = q.1 in
      omega (arith, same, below)

  -- what is reached from a place stands no later
  reached-before : {x z : Tree} → Reaches (edges s) x z → (p : ℕ) →
      slice_get (map (tree_at word rows) (ids_of nodes)) p ≡ Some x →
      (q : ℕ) × (q ≤ p) × (slice_get (map (tree_at word rows) (ids_of nodes)) q ≡ Some z)
  reached-before walks-itself p at = (p, omega arith, at)
  reached-before {x} {z} (along y m rest) p at =
      let trees = map (tree_at word rows) (ids_of nodes) in
      let read : slice_index_or trees p x ≡ x = get_or_from_slice_get trees p x x at in
      let before = ends-before (edges s) trees p x planned.finishes (slice_get_within trees p x at) y
      (subst (λ (w : Tree). Contains (edges s w) y) (sym read) m) in
      let q = place_of (take p trees) y before in
      let t = taken trees p q.0 y q.1 in
      let r = reached-before rest q.0 t.1 in
      let a = t.0 in
      let b = r.1 in
      (r.0, omega (arith, a, b), r.2)

  -- so the root is the last
  pub root-last : (p q i : ℕ) → slice_get (ids_of nodes) p ≡ Some root → slice_get (ids_of nodes) q ≡ Some i → q ≤ p
  root-last p q i at there =
      let tree = slice_get-mapped (tree_at word rows) (ids_of nodes) q i there in
      let trees = map (tree_at word rows) (ids_of nodes) in
      let reach = (planned.reached (tree_at word rows i)).0 (Contains-at trees q (tree_at word rows i) tree) in
      let r = reached-before reach p (slice_get-mapped (tree_at word rows) (ids_of nodes) p root at) in
      let same : r.0 ≡ q = tree-place r.0 q (tree_at word rows i) r.2 tree in
      let le = r.1 in
      omega (arith, same, le)

  -- and the plan has it
  pub root-there : root < length rows → Contains (ids_of nodes) root
  root-there lt =
      let trees = map (tree_at word rows) (ids_of nodes) in
      let c = (planned.reached (tree_at word rows root)).1 walks-itself in
      let p = place_of trees (tree_at word rows root) c in
      Contains-at (ids_of nodes) p.0 root (node-there root p.0 (tree_at word rows root) lt refl p.1)
