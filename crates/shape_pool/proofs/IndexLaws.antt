-- Nodes held stay an index when one more goes last, and when the last ones are dropped.
use Rattle.std.proofs.Common.{◌≡◌, ◌≤◌, ◌<◌, ℕ, zero, suc, List, map, ◌++◌, ◌∷◌, [], All, length}
use Rattle.std.proofs.Common.{arith, sym, ◌∙◌, ap, subst, slice_get, slice_index_or, Some, inl, inr}
use Rattle.std.proofs.Common.{take, nat_eq, false, eqb-true, eq-eqb, length-append, true≢false}
use Rattle.std.specs.Prelude.{nat_lt}
use Rattle.std.specs.Option.{option_map, option_map_or}
use Rattle.std.proofs.lemmas.Bool.{ltb-true, ltb-false}
use Rattle.std.proofs.lemmas.List.{length-map, map-append}
use Rattle.std.proofs.lemmas.Option.{slice_get-map, slice_get_within}
use Rattle.std.proofs.lemmas.List.Elements.{All-head, All-tail, All-cons}
use Rattle.lists.proofs.Places.{at_place, length-take, map-take, row-taken, slice_get-kept}
use Rattle.lists.proofs.Places.{slice_get-last, slice_get-left, slice_get-push, taken-row}
use Rattle.lists.proofs.Cases.{by_test}
use Rattle.orientation.specs.declared.kind.Kind.{Kind}
use Rattle.orientation.specs.declared.kind.Kind.TheVariants.{Co}
use Rattle.orientation.specs.Kinds.{IsBelow}
use Rattle.expansion_laws.specs.Measures.{depth}
use Rattle.shape_pool.specs.declared.node.UseOf.{UseOf}
use Rattle.shape_pool.specs.declared.node.NodeUse.{NodeUse}
use Rattle.shape_pool.specs.declared.held.Held.{Held}
use Rattle.shape_pool.specs.declared.node.Node.{Node}
use Rattle.shape_pool.specs.Nodes.{by_number, node_uses, node_id, used_node}
use Rattle.shape_pool.specs.Rows.{Row, a_row, tree_at, greatest, depth_at, depth_over}
use Rattle.shape_pool.specs.Rows.{AllHeld, AllBelow, most_nodes, most_depth}
use Rattle.shape_pool.specs.Calls.{IsHeldAs, IsHandedIn}
use Rattle.shape_pool.specs.Held.{row_of, stored_depth, HaveKind, IsRows, IsShared, IsIndex}
use Rattle.shape_pool.specs.Held.{IsOver, IsNext, HandsIn, HasAlike, HasNone, rows_of}
use Rattle.shape_pool.proofs.RowLaws.{origin-entry, uses-entry, tree-kept, tree-last, tree-past, tree-taken, kind-taken}
use Rattle.shape_pool.proofs.DepthLaws.{depth-uses, greatest-same}
use Rattle.shape_pool.proofs.HeldLaws.{node_eq-tells}

-- ---- rows
below-kept : (rows more : List Row) (k : Kind) (us : List UseOf) → AllHeld rows us → AllBelow rows k us →
    AllBelow (rows ++ more) k us
below-kept rows more k us held below = λ i d lt.
    subst (λ o. IsBelow (option_map_or (λ (r : Row). r.kind) o Co) k)
    (sym (slice_get-left rows more (slice_index_or us i d).id.0 (held i d lt))) (below i d lt)

depth-last : (rows : List Row) (r : Row) → depth_at (rows ++ r ∷ []) (length rows) ≡ depth_over rows r.uses
depth-last rows r =
    ap depth (tree-last (λ _. []) rows r) ∙ ap suc (depth-uses (λ _. []) (tree_at (λ _. []) rows) r.uses)

AllHeld-before : (rows : List Row) (i : ℕ) (r q : Row) → slice_get rows i ≡ Some q →
    All (λ (u : UseOf). u.id.0 < i) r.uses → AllHeld rows r.uses
AllHeld-before rows i r q e b = λ k d lt. let w = slice_get_within rows i q e in let x = b k d lt in omega (arith, w, x)

pub IsRows-push : (rows : List Row) (k : Row) → IsRows rows → AllHeld rows k.uses → AllBelow rows k.kind k.uses →
    ((j : ℕ) → IsHeldAs rows k.origin k.uses j → ⊥) →
    ((j : ℕ) (q : Row) → slice_get rows j ≡ Some q → q.origin ≡ k.origin → q.kind ≡ k.kind) →
    (k.origin ≡ 0 → k.kind ≡ Co) → depth_over rows k.uses ≤ most_depth → length rows < most_nodes →
    IsRows (rows ++ k ∷ [])
IsRows-push rows k p held below fresh kind compound shallow few = record {
  before = λ i r e. elim (slice_get-push rows k r i e) [
    | inl h ↦ p.before i r h
    | inr h ↦ subst (λ n. All (λ (u : UseOf). u.id.0 < n) r.uses) (sym h.0)
        (subst (λ (q : Row). AllHeld rows q.uses) h.1 held)
  ];
  below = λ i r e. elim (slice_get-push rows k r i e) [
    | inl h ↦ below-kept rows (k ∷ []) r.kind r.uses (AllHeld-before rows i r r h (p.before i r h)) (p.below i r h)
    | inr h ↦ subst (λ (q : Row). AllBelow (rows ++ k ∷ []) q.kind q.uses) h.1
        (below-kept rows (k ∷ []) k.kind k.uses held below)
  ];
  distinct = λ i j r q e f o u. elim (slice_get-push rows k r i e) [
    | inl h ↦ elim (slice_get-push rows k q j f) [
      | inl g ↦ p.distinct i j r q h g o u
      | inr g ↦
          absurd
          (fresh i (held-as i r h (o ∙ ap (λ (x : Row). x.origin) (sym g.1)) (u ∙ ap (λ (x : Row). x.uses) (sym g.1))))
    ]
    | inr h ↦ elim (slice_get-push rows k q j f) [
      | inl g ↦
          absurd
          (fresh j (held-as j q g (sym o ∙ ap (λ (x : Row). x.origin) (sym h.1))
          (sym u ∙ ap (λ (x : Row). x.uses) (sym h.1))))
      | inr g ↦ h.0 ∙ sym g.0
    ]
  ];
  kinds = λ i j r q e f o. elim (slice_get-push rows k r i e) [
    | inl h ↦ elim (slice_get-push rows k q j f) [
      | inl g ↦ p.kinds i j r q h g o
      | inr g ↦ kind i r h (o ∙ ap (λ (x : Row). x.origin) (sym g.1)) ∙ ap (λ (x : Row). x.kind) g.1
    ]
    | inr h ↦ elim (slice_get-push rows k q j f) [
      | inl g ↦ ap (λ (x : Row). x.kind) (sym h.1) ∙ sym (kind j q g (sym o ∙ ap (λ (x : Row). x.origin) (sym h.1)))
      | inr g ↦ ap (λ (x : Row). x.kind) (sym h.1 ∙ g.1)
    ]
  ];
  compounds = λ i r e o. elim (slice_get-push rows k r i e) [
    | inl h ↦ p.compounds i r h o
    | inr h ↦ ap (λ (x : Row). x.kind) (sym h.1) ∙ compound (ap (λ (x : Row). x.origin) h.1 ∙ o)
  ];
  shallow = λ i. by_test (nat_lt i (length rows))
      (λ e. subst (λ n. n ≤ most_depth) (ap depth (sym (tree-kept (λ _. []) rows k i (ltb-true i (length rows) e))))
      (p.shallow i))
      (λ e. by_test (nat_eq i (length rows))
      (λ f. subst (λ n. depth_at (rows ++ k ∷ []) n ≤ most_depth) (sym (eqb-true i (length rows) f))
      (subst (λ n. n ≤ most_depth) (sym (depth-last rows k)) shallow))
      (λ f. subst (λ n. n ≤ most_depth) (ap depth (sym (tree-past (λ _. []) (rows ++ k ∷ []) i (past i e f))))
      (omega arith)));
  few = let l = length-append rows (k ∷ []) in omega (arith, l, few);
}
  where
    held-as : (j : ℕ) (q : Row) → slice_get rows j ≡ Some q → q.origin ≡ k.origin → q.uses ≡ k.uses →
        IsHeldAs rows k.origin k.uses j
    held-as j q e o u = (slice_get_within rows j q e, origin-entry rows j e ∙ o, uses-entry rows j e ∙ u)

    past : (i : ℕ) → nat_lt i (length rows) ≡ false → nat_eq i (length rows) ≡ false → length (rows ++ k ∷ []) ≤ i
    past i e f =
        let a = ltb-false i (length rows) e in
        let l = length-append rows (k ∷ []) in
        let apart : (i ≡ length rows) → ⊥ = (λ g. true≢false (sym (eq-eqb i (length rows) g) ∙ f)) in
        omega (arith, a, l, apart)

-- the first rows alone
IsRows-take : (rows : List Row) (m : ℕ) → m ≤ length rows → IsRows rows → IsRows (take m rows)
IsRows-take rows m h p = record {
  before = λ i r e. p.before i r (taken-row rows m i r e).0;
  below = λ i r e.
      let f = taken-row rows m i r e in
      λ j d lt. let b = p.before i r f.0 j d lt in let i_lt = f.1 in
      subst (λ k. IsBelow k r.kind)
      (sym (kind-taken rows m (slice_index_or r.uses j d).id.0 h (omega (arith, b, i_lt)))) (p.below i r f.0 j d lt);
  distinct = λ i j r q e f o u. p.distinct i j r q (taken-row rows m i r e).0 (taken-row rows m j q f).0 o u;
  kinds = λ i j r q e f o. p.kinds i j r q (taken-row rows m i r e).0 (taken-row rows m j q f).0 o;
  compounds = λ i r e o. p.compounds i r (taken-row rows m i r e).0 o;
  shallow = λ i. by_test (nat_lt i m)
      (λ e. subst (λ n. n ≤ most_depth) (ap depth (sym (tree-taken (λ _. []) rows m i h (ltb-true i m e))))
      (p.shallow i))
      (λ e.
      subst (λ n. n ≤ most_depth)
      (ap depth
      (sym (tree-past (λ _. []) (take m rows) i (let f = ltb-false i m e in let l = length-take m rows h in
      omega (arith, l, f))))) (omega arith));
  few = let l = length-take m rows h in let f = p.few in omega (arith, l, f, h);
}

-- ---- nodes
shared-kept : (held more : List Held) (us : List NodeUse) → All (IsShared held) us → All (IsShared (held ++ more)) us
shared-kept held more us s =
    λ i d lt.
    let h = s i d lt in (h.0, slice_get-kept held more (node_id (used_node (slice_index_or us i d))) h.0 h.1, h.2)

pub rows-push : (held : List Held) (h : Held) → map row_of (held ++ h ∷ []) ≡ map row_of held ++ row_of h ∷ []
rows-push held h = map-append row_of held (h ∷ [])

pub IsIndex-push : (held : List Held) (h : Held) → IsIndex held → IsRows (map row_of held ++ row_of h ∷ []) →
    node_id h.node.value ≡ length held → All (IsShared held) (node_uses h.node.value) →
    h.depth ≡ depth_over (map row_of held) (row_of h).uses →
    IsIndex (held ++ h ∷ [])
IsIndex-push held h p rows id shared deep = record {
  rows = subst IsRows (sym (rows-push held h)) rows;
  ids = λ i k e. elim (slice_get-push held h k i e) [
    | inl g ↦ p.ids i k g
    | inr g ↦ ap (λ (x : Held). node_id x.node.value) (sym g.1) ∙ id ∙ sym g.0
  ];
  shared = λ i k e. elim (slice_get-push held h k i e) [
    | inl g ↦ shared-kept held (h ∷ []) (node_uses k.node.value) (p.shared i k g)
    | inr g ↦ subst (λ (x : Held). All (IsShared (held ++ h ∷ [])) (node_uses x.node.value)) g.1
        (shared-kept held (h ∷ []) (node_uses h.node.value) shared)
  ];
  depths = λ i lt. by_test (nat_lt i (length held))
      (λ e. let it = ltb-true i (length held) e in
      ap (λ o. option_map_or (λ (x : Held). x.depth) o 0) (slice_get-left held (h ∷ []) i it) ∙ p.depths i it ∙
      ap depth (sym (tree-kept (λ _. []) (map row_of held) (row_of h) i (rw length-map it))) ∙
      ap (λ rs. depth_at rs i) (sym (rows-push held h)))
      (λ e.
      let at : i ≡ length held = (let f = ltb-false i (length held) e in let l = length-append held (h ∷ []) in
      omega (arith, lt, f, l)) in
      ap (λ j. stored_depth (held ++ h ∷ []) j) at ∙
      ap (λ o. option_map_or (λ (x : Held). x.depth) o 0) (slice_get-last held h) ∙ deep ∙
      sym (depth-last (map row_of held) (row_of h)) ∙
      ap (λ j. depth_at (map row_of held ++ row_of h ∷ []) j) (length-map held row_of ∙ sym at) ∙
      ap (λ rs. depth_at rs i) (sym (rows-push held h)));
}

pub IsIndex-empty : IsIndex []
IsIndex-empty = record {
  rows = record {
    before = λ i r e. absurd cc;
    below = λ i r e. absurd cc;
    distinct = λ i j r q e. absurd cc;
    kinds = λ i j r q e. absurd cc;
    compounds = λ i r e. absurd cc;
    shallow = λ i. subst (λ n. n ≤ most_depth) (ap depth (sym (tree-past (λ _. []) [] i (omega arith)))) (omega arith);
    few = omega arith;
  };
  ids = λ i h e. absurd cc;
  shared = λ i h e. absurd cc;
  depths = λ i lt. absurd (omega arith);
}

-- the first nodes alone
pub IsIndex-take : (held : List Held) (m : ℕ) → m ≤ length held → IsIndex held → IsIndex (take m held)
IsIndex-take held m h p = record {
  rows = subst IsRows (sym (map-take row_of m held)) (IsRows-take (map row_of held) m long p.rows);
  ids = λ i x e. p.ids i x (taken-row held m i x e).0;
  shared = λ i x e.
      let f = taken-row held m i x e in
      λ j d lt.
      let s = p.shared i x f.0 j d lt in
      let number = p.rows.before i (row_of x) (slice_get-map row_of held i ∙ ap (option_map row_of) f.0) in
      let b = shared-before i (node_uses x.node.value) number j d lt in
      let i_lt = f.1 in (
        s.0,
        row-taken held m (node_id (used_node (slice_index_or (node_uses x.node.value) j d))) s.0 s.1
            (omega (arith, b, i_lt)),
        s.2,
      );
  depths = λ i lt.
      let l = length-take m held h in
      let i_lt : i < m = omega (arith, l, lt) in
      let x = at_place held i (omega (arith, i_lt, h)) in
      ap (λ o. option_map_or (λ (y : Held). y.depth) o 0) (row-taken held m i x.0 x.1 i_lt ∙ sym x.1) ∙
      p.depths i (omega (arith, i_lt, h)) ∙
      ap depth (sym (tree-taken (λ _. []) (map row_of held) m i long i_lt)) ∙
      ap (λ rs. depth_at rs i) (sym (map-take row_of m held));
}
  where
    long : m ≤ length (map row_of held)
    long = rw length-map h

    shared-before : (n : ℕ) (us : List NodeUse) → All (λ (u : UseOf). u.id.0 < n) (map by_number us) →
        (j : ℕ) (d : NodeUse) → j < length us → node_id (used_node (slice_index_or us j d)) < n
    shared-before n [] s j d lt = absurd (omega arith)
    shared-before n (u ∷ us) s zero d lt = All-head (λ (u : UseOf). u.id.0 < n) (by_number u) (map by_number us) s
    shared-before n (u ∷ us) s (suc j) d lt =
        shared-before n us (All-tail (λ (u : UseOf). u.id.0 < n) (by_number u) (map by_number us) s) j d (omega arith)

-- ---- a node is handed in
pub greatest-rows : (held : List Held) → IsIndex held → (us : List UseOf) →
    All (λ (u : UseOf). u.id.0 < length held) us → suc (greatest (stored_depth held) us) ≡ depth_over (rows_of held) us
greatest-rows held p us h =
    ap suc (greatest-same (stored_depth held) (depth_at (rows_of held)) (length held) us h p.depths)

shared-held : (held : List Held) (us : List NodeUse) → All (IsShared held) us →
    All (λ (u : UseOf). u.id.0 < length held) (map by_number us)
shared-held held [] s = λ i d lt. absurd (omega arith)
shared-held held (u ∷ us) s =
    let h = All-head (IsShared held) u us s in
    All-cons (λ (v : UseOf). v.id.0 < length held) (by_number u) (map by_number us)
    (slice_get_within held (node_id (used_node u)) h.0 h.1) (shared-held held us (All-tail (IsShared held) u us s))

-- the row of a node made over uses
row-over : (held : List Held) (k : Kind) (o : ℕ) (us : List UseOf) (h : Held) → IsOver held k o us h →
    row_of h ≡ a_row k o us
row-over held k o us h v = λ j. record { kind = v.next.kind j; origin = v.next.origin j; uses = v.next.uses.0 j }

module _ (held : List Held) (k : Kind) (o : ℕ) (us : List UseOf) (n : Node) (v : IsNext held k o us n) where
  -- the place of an equal one
  pub found-as : (i : ℕ) → HasAlike held n i → IsHeldAs (rows_of held) o us i
  found-as i a =
      let at : slice_get (rows_of held) i ≡ Some (row_of a.0) =
      slice_get-map row_of held i ∙ ap (option_map row_of) a.1 in
      let same = (node_eq-tells n a.0.node.value).0 a.2 in (
        slice_get_within (rows_of held) i (row_of a.0) at,
        origin-entry (rows_of held) i at ∙ sym same.0 ∙ v.origin,
        uses-entry (rows_of held) i at ∙ sym same.1 ∙ v.uses.0,
      )

  -- where none is equal, no row has this origin and these uses
  pub missing-as : HasNone held n → (i : ℕ) → IsHeldAs (rows_of held) o us i → ⊥
  missing-as none i r =
      let q = at_place held i (subst (λ m. i < m) (length-map held row_of) r.0) in
      let at : slice_get (rows_of held) i ≡ Some (row_of q.0) =
      slice_get-map row_of held i ∙ ap (option_map row_of) q.1 in
      let is = (node_eq-tells n q.0.node.value).1 (
        v.origin ∙ sym r.1 ∙ origin-entry (rows_of held) i at,
        v.uses.0 ∙ sym r.2 ∙ uses-entry (rows_of held) i at,
      ) in
      true≢false (sym is ∙ none i q.0 q.1)

module _ (held : List Held) (k : Kind) (o : ℕ) (us : List UseOf) (h : Held) (v : IsOver held k o us h) where
  module _ (p : IsIndex held) (below : AllBelow (rows_of held) k us) (kind : HaveKind (rows_of held) o k)
      (compound : o ≡ 0 → k ≡ Co) where
    uses-held : AllHeld (rows_of held) us
    uses-held =
        subst (AllHeld (rows_of held)) v.next.uses.0 (λ i d lt.
        let w = shared-held held (node_uses h.node.value) v.next.uses.1 i d lt in let l = length-map held row_of in
        omega (arith, w, l))

    deep : h.depth ≡ depth_over (rows_of held) us
    deep =
        v.depth ∙
        greatest-rows held p us (λ i d lt. let w = uses-held i d lt in let l = length-map held row_of in
        omega (arith, w, l))

    pub entered : (new : List Held) (i : ℕ) → HandsIn held h new i →
        IsIndex new × IsHandedIn (rows_of held) k o us (rows_of new) i
    entered new i s = elim s [
      | inl f ↦ (subst IsIndex (sym f.0) p, inl (ap rows_of f.0, found-as held k o us h.node.value v.next i f.1))
      | inr f ↦
          (let row = row-over held k o us h v in
          let rows : IsRows (rows_of held ++ row_of h ∷ []) = IsRows-push (rows_of held) (row_of h) p.rows
          (subst (λ (r : Row). AllHeld (rows_of held) r.uses) (sym row) uses-held)
          (subst (λ (r : Row). AllBelow (rows_of held) r.kind r.uses) (sym row) below)
          (subst (λ (r : Row). (j : ℕ) → IsHeldAs (rows_of held) r.origin r.uses j → ⊥) (sym row)
          (missing-as held k o us h.node.value v.next f.0))
          (subst (λ (r : Row). HaveKind (rows_of held) r.origin r.kind) (sym row) kind)
          (subst (λ (r : Row). r.origin ≡ 0 → r.kind ≡ Co) (sym row) compound)
          (subst (λ (r : Row). depth_over (rows_of held) r.uses ≤ most_depth) (sym row)
          (subst (λ n. n ≤ most_depth) deep v.shallow))
          (rw length-map f.3) in (
            subst IsIndex (sym f.1) (IsIndex-push held h p rows v.next.id v.next.uses.1
                (deep ∙ ap (λ (r : Row). depth_over (rows_of held) r.uses) (sym row))),
            inr (
              missing-as held k o us h.node.value v.next f.0,
              ap rows_of f.1 ∙ rows-push held h ∙
                  ap (λ r. rows_of held ++ r ∷ []) row,
              f.2 ∙ sym (length-map held row_of),
            ),
          ))
    ]
