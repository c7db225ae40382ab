-- How a pool's nodes are found: the loaded one of an origin by its number, and the others in an index.
use Rattle.std.proofs.Common.{◌≡◌, ◌≢◌, ◌<◌, ◌≤◌, ◌⊎◌, ◌+◌, ◌↔◌, ℕ, zero, suc, Bool, true, false}
use Rattle.std.proofs.Common.{List, ◌∷◌, [], ◌++◌, length, take, arith, sym, ◌∙◌, ap, subst, refl}
use Rattle.std.proofs.Common.{slice_get, slice_index_or, position, Option, Some, inl, inr, true≢false}
use Rattle.std.proofs.Common.{nat_eq, eqb-true, eq-eqb, Result, Ok, Err, OnOk, OnErr, None, IfNone}
use Rattle.std.specs.Prelude.{nat_lt, if◌then◌else◌}
use Rattle.std.specs.List.{list_any, position_or_len}
use Rattle.std.specs.Option.{option_map}
use Rattle.std.specs.declared.alloc.Global.{Global}
use Rattle.std.specs.declared.rc.Rc.{Rc}
use Rattle.std.proofs.lemmas.Bool.{ltb-true, ltb-false}
use Rattle.std.proofs.lemmas.List.{length-map}
use Rattle.std.proofs.lemmas.List.Folds.{list_any_at}
use Rattle.std.proofs.lemmas.List.Quantifiers.{position-Some}
use Rattle.std.proofs.lemmas.Option.{slice_get-map, slice_get_within, slice_get-get_or}
use Rattle.indexmap.specs.IndexSet.{insert_key}
use Rattle.shape_pool.specs.declared.node.Node.{Node}
use Rattle.shape_pool.specs.declared.node.NodeId.{NodeId}
use Rattle.shape_pool.specs.declared.held.Held.{Held}
use Rattle.shape_pool.specs.declared.held.Made.{Made}
use Rattle.shape_pool.specs.Nodes.{node_eq, node_id, node_origin}
use Rattle.shape_pool.specs.Rows.{Row, origin_at}
use Rattle.shape_pool.specs.Calls.{IsOf, IsLoaded, IsLoadedAs, IsLoadedToo, KeepsLoaded, KeepsLoadedBelow}
use Rattle.shape_pool.specs.Held.{made_eq, row_of, rows_of, HasAlike, HasNone, IsKnown, IsMade, IsStock}
use Rattle.lists.proofs.Tests.{position-first}
use Rattle.lists.proofs.Places.{at_place, map-take, row-taken, same_entry, slice_get-kept}
use Rattle.lists.proofs.Places.{slice_get-last, slice_get-push, taken-row}
use Rattle.lists.proofs.Cases.{by_test}
use Rattle.shape_pool.proofs.RowLaws.{origin-entry}
use Rattle.shape_pool.proofs.IndexLaws.{rows-push}
use Rattle.shape_pool.proofs.HeldLaws.{node_eq-tells}
use Rattle.shape_pool.proofs.HeldOfLaws.{node-at}
use Rattle.shape_pool.proofs.LoadedLaws.{keeps-loaded, keeps-loaded-below, loaded-too}
use Rattle.shape_pool.proofs.CallLaws.{noted-still, noted-stale-too, noted-too}

-- ---- what is read at a number
row-of-node : (held : List Held) (i : ℕ) (h : Held) → slice_get held i ≡ Some h →
    slice_get (rows_of held) i ≡ Some (row_of h)
row-of-node held i h e = slice_get-map row_of held i ∙ ap (option_map row_of) e

pub origin-of-node : (held : List Held) (i : ℕ) (h : Held) → slice_get held i ≡ Some h →
    origin_at (rows_of held) i ≡ node_origin h.node.value
origin-of-node held i h e = origin-entry (rows_of held) i (row-of-node held i h e)

pub is-of-node : (held : List Held) (o i : ℕ) (h : Held) → slice_get held i ≡ Some h → node_origin h.node.value ≡ o →
    IsOf (rows_of held) o i
is-of-node held o i h e is =
    (slice_get_within (rows_of held) i (row_of h) (row-of-node held i h e), origin-of-node held i h e ∙ is)

pub of-node : (held : List Held) (o i : ℕ) (n : Rc Node Global) →
    option_map (λ (h : Held). h.node) (slice_get held i) ≡ Some n → (m : Node) → m ≡ n.value →
    (nat_eq (node_origin m) o ≡ true) ↔ IsOf (rows_of held) o i
of-node held o i n e m is =
    let q = node-at held i n e in
    let same : node_origin m ≡ node_origin q.0.node.value =
    ap node_origin (is ∙ ap (λ (x : Rc Node Global). x.value) (sym q.2)) in (
      λ t. is-of-node held o i q.0 q.1 (sym same ∙ eqb-true (node_origin m) o t),
      λ h. eq-eqb (node_origin m) o (same ∙ sym (origin-of-node held i q.0 q.1) ∙ h.1),
    )

pub alike-at : (held : List Held) (n : Node) (i : ℕ) (m : Rc Node Global) →
    option_map (λ (h : Held). h.node) (slice_get held i) ≡ Some m → node_eq n m.value ≡ true → HasAlike held n i
alike-at held n i m e t =
    let q = node-at held i m e in (q.0, q.1, ap (λ (x : Rc Node Global). node_eq n x.value) q.2 ∙ t)

pub none-on : {A : Type 0} {P : Type 0} (r : Option A) → r ≡ None → P → IfNone r P
none-on {P = P} r e p = subst (λ o. IfNone o P) (sym e) p

-- by the two ways in which a call ends
pub by_end : {A E : Type 0} {P Q R : Type 0} (r : Result A E) → OnOk r P → OnErr r Q → (P → R) → (Q → R) → R
by_end (Ok x) p q f g = f p
by_end (Err x) p q f g = g q

-- ---- looking up
module _ (held : List Held) (n : Node) where
  same-origin : (h : Held) → node_eq n h.node.value ≡ true → node_origin n ≡ node_origin h.node.value
  same-origin h e = ((node_eq-tells n h.node.value).0 e).0

  pub unloaded-unlike : (¬ IsLoaded (rows_of held) (node_origin n)) → (i : ℕ) (h : Held) → slice_get held i ≡ Some h →
      IsLoadedAs (rows_of held) (node_origin h.node.value) i → node_eq n h.node.value ≡ false
  unloaded-unlike not i h at l = by_test (node_eq n h.node.value)
      (λ e.
      absurd (not (
        subst (λ o. 1 ≤ o) (sym (same-origin h e)) l.0,
        i,
        is-of-node held (node_origin n) i h at (sym (same-origin h e)),
      )))
      (λ e. e)

  pub loaded-unlike : (k : ℕ) (m : Rc Node Global) → IsLoadedAs (rows_of held) (node_origin n) k →
      option_map (λ (h : Held). h.node) (slice_get held k) ≡ Some m → node_eq n m.value ≡ false →
      (i : ℕ) (h : Held) → slice_get held i ≡ Some h → IsLoadedAs (rows_of held) (node_origin h.node.value) i →
      node_eq n h.node.value ≡ false
  loaded-unlike k m first found unlike i h at l = by_test (node_eq n h.node.value)
      (λ e. absurd (true≢false (sym e ∙ false-here e)))
      (λ e. e)
    where
      false-here : node_eq n h.node.value ≡ true → node_eq n h.node.value ≡ false
      false-here e =
          let l' : IsLoadedAs (rows_of held) (node_origin n) i =
          subst (λ o. IsLoadedAs (rows_of held) o i) (sym (same-origin h e)) l in
          let a = first.2 i l'.1 in
          let b = l'.2 k first.1 in
          let same : k ≡ i = omega (arith, a, b) in
          let q = node-at held k m found in
          let is : q.0 ≡ h = same_entry q.1 (ap (slice_get held) same ∙ at) in
          ap (λ (x : Held). node_eq n x.node.value) (sym is) ∙ ap (λ (x : Rc Node Global). node_eq n x.value) q.2 ∙
          unlike

  pub fresh-none : (¬ IsLoaded (rows_of held) (node_origin n)) → 0 < node_origin n → HasNone held n
  fresh-none not pos i h at = by_test (node_eq n h.node.value)
      (λ e. absurd (not (omega (arith, pos), i, is-of-node held (node_origin n) i h at (sym (same-origin h e)))))
      (λ e. e)

module _ (held : List Held) (made : List Made) (p : IsMade held made) (key : Made) where
  pub made-found : (j : ℕ) (d : Made) → position (made_eq key) made ≡ Some j →
      HasAlike held key.node.value (node_id (slice_index_or made j d).node.value)
  made-found j d e =
      let q = position-Some (made_eq key) made j d e in
      let a = p.among j (slice_index_or made j d) (slice_get-get_or made j d q.0) in
      (a.0, a.1, subst (λ (x : Node). node_eq key.node.value x ≡ true) a.2 q.1)

  unlike-made : list_any (made_eq key) made ≡ false → (j : ℕ) (m : Made) → slice_get made j ≡ Some m →
      made_eq key m ≡ false
  unlike-made none j m at = by_test (made_eq key m)
      (λ e.
      let lt = slice_get_within made j m at in
      let same : slice_index_or made j m ≡ m = same_entry (slice_get-get_or made j m lt) at in
      absurd (true≢false (sym (list_any_at (made_eq key) made j m lt (ap (made_eq key) same ∙ e)) ∙ none)))
      (λ e. e)

  pub made-missing : list_any (made_eq key) made ≡ false →
      ((i : ℕ) (h : Held) → slice_get held i ≡ Some h → IsLoadedAs (rows_of held) (node_origin h.node.value) i →
      node_eq key.node.value h.node.value ≡ false) → HasNone held key.node.value
  made-missing none first i h at = elim (p.others i h at) [
    | inl l ↦ first i h at l
    | inr m ↦
        (let a = p.among m.0 m.1 m.2 in
        let same : a.0 ≡ h = same_entry a.1 (ap (slice_get held) m.3 ∙ at) in
        ap (node_eq key.node.value) (ap (λ (x : Held). x.node.value) (sym same) ∙ sym a.2) ∙
        unlike-made none m.0 m.1 m.2)
  ]

  -- where no held node is like it, no made one is
  pub none-made : HasNone held key.node.value → list_any (made_eq key) made ≡ false
  none-made none = by_test (list_any (made_eq key) made)
      (λ e.
      let at = position_or_len (made_eq key) made in
      let q = position-Some (made_eq key) made at key (position-first (made_eq key) made e) in
      let a = p.among at (slice_index_or made at key) (slice_get-get_or made at key q.0) in
      absurd
      (true≢false (sym q.1 ∙ ap (node_eq key.node.value) a.2 ∙
      none (node_id (slice_index_or made at key).node.value) a.0 a.1)))
      (λ e. e)

-- the made nodes after an insertion of one that none is like
pub made-inserted : (held : List Held) (made new : List Made) → IsMade held made → (key : Made) →
    HasNone held key.node.value → new ≡ insert_key made_eq made key → new ≡ made ++ key ∷ []
made-inserted held made new p key none e =
    e ∙ ap (λ (b : Bool). if b then made else made ++ key ∷ []) (none-made held made p key none)

-- ---- no nodes
pub IsStock-empty : (loaded : ℕ → Option NodeId) → IsStock [] [] loaded
IsStock-empty loaded = record {
  found = record {
    among = λ j m e. absurd cc;
    rising = λ j k m n lt e. absurd cc;
    others = λ i h e. absurd cc;
  };
  named = λ o i l. let lt = l.1.0 in absurd (omega (arith, lt));
}

-- ---- one node more
module _ (held : List Held) (made : List Made) (h : Held) where
  made-kept : IsMade held made → ((o i : ℕ) → IsLoadedAs (rows_of held) o i →
      IsLoadedAs (rows_of (held ++ h ∷ [])) o i) →
      (i : ℕ) (x : Held) → slice_get held i ≡ Some x →
      IsLoadedAs (rows_of (held ++ h ∷ [])) (node_origin x.node.value) i ⊎
      ((j : ℕ) × (m : Made) × (slice_get made j ≡ Some m) × (node_id m.node.value ≡ i))
  made-kept p still i x at =
      elim (p.others i x at) [ inl l ↦ inl (still (node_origin x.node.value) i l) | inr m ↦ inr m ]

  among-kept : IsMade held made → (j : ℕ) (m : Made) → slice_get made j ≡ Some m →
      (x : Held) × (slice_get (held ++ h ∷ []) (node_id m.node.value) ≡ Some x) × (m.node.value ≡ x.node.value)
  among-kept p j m at =
      let a = p.among j m at in (a.0, slice_get-kept held (h ∷ []) (node_id m.node.value) a.0 a.1, a.2)

  -- a made one
  module _ (key : Made) (is : key.node.value ≡ h.node.value) (id : node_id h.node.value ≡ length held)
      (known : IsKnown (rows_of held) (node_origin h.node.value)) where
    still-loaded : KeepsLoaded (rows_of held) (rows_of (held ++ h ∷ []))
    still-loaded =
        subst (KeepsLoaded (rows_of held)) (sym (rows-push held h)) (keeps-loaded (rows_of held) (row_of h) known)

    key-id : node_id key.node.value ≡ length held
    key-id = ap node_id is ∙ id

    pub made-more : (loaded : ℕ → Option NodeId) → IsStock held made loaded →
        IsStock (held ++ h ∷ []) (made ++ key ∷ []) loaded
    made-more loaded s = record {
      found = record {
        among = λ j m e. elim (slice_get-push made key m j e) [
          | inl g ↦ among-kept s.found j m g
          | inr g ↦ (
            h,
            ap (slice_get (held ++ h ∷ [])) (ap (λ (x : Made). node_id x.node.value) (sym g.1) ∙ key-id) ∙
                slice_get-last held h,
            ap (λ (x : Made). x.node.value) (sym g.1) ∙ is,
          )
        ];
        rising = λ j k m n lt e f. elim (slice_get-push made key n k f) [
          | inl g ↦ elim (slice_get-push made key m j e) [
            | inl b ↦ s.found.rising j k m n lt b g
            | inr b ↦ (let w = slice_get_within made k n g in let at = b.0 in absurd (omega (arith, w, at, lt)))
          ]
          | inr g ↦ elim (slice_get-push made key m j e) [
            | inl b ↦ (let a = s.found.among j m b in let w = slice_get_within held (node_id m.node.value) a.0 a.1 in
                let last = ap (λ (x : Made). node_id x.node.value) (sym g.1) ∙ key-id in omega (arith, w, last))
            | inr b ↦ (let at = g.0 in let too = b.0 in absurd (omega (arith, at, too, lt)))
          ]
        ];
        others = λ i x e. elim (slice_get-push held h x i e) [
          | inl g ↦ elim (made-kept s.found (λ o k l. (still-loaded.loaded_as o k).1 l) i x g) [
            | inl l ↦ inl l
            | inr m ↦ inr (m.0, m.1, slice_get-kept made (key ∷ []) m.0 m.1 m.2, m.3)
          ]
          | inr g ↦ inr (length made, key, slice_get-last made key, key-id ∙ sym g.0)
        ];
      };
      named = noted-still (rows_of held) (rows_of (held ++ h ∷ [])) loaded still-loaded s.named;
    }

  -- the loaded one of an origin
  module _ (fresh : ¬ IsLoaded (rows_of held) (node_origin h.node.value)) (pos : 0 < node_origin h.node.value) where
    loaded-now : IsLoadedToo (rows_of held) (rows_of (held ++ h ∷ [])) (node_origin h.node.value) (length held)
    loaded-now =
        subst (λ n. IsLoadedToo (rows_of held) (rows_of (held ++ h ∷ [])) (node_origin h.node.value) n)
        (length-map held row_of)
        (subst (λ (rs : List Row). IsLoadedToo (rows_of held) rs (node_origin h.node.value) (length (rows_of held)))
        (sym (rows-push held h)) (loaded-too (rows_of held) (row_of h) fresh pos))

    pub loaded-more : (loaded loaded' : ℕ → Option NodeId) (id : NodeId) → IsStock held made loaded →
        loaded' (node_origin h.node.value) ≡ Some id → id.0 ≡ length held →
        ((q : ℕ) (n : NodeId) → q ≢ node_origin h.node.value → loaded q ≡ Some n → loaded' q ≡ Some n) →
        IsStock (held ++ h ∷ []) made loaded'
    loaded-more loaded loaded' id s at is others = record {
      found = record {
        among = among-kept s.found;
        rising = s.found.rising;
        others = λ i x e. elim (slice_get-push held h x i e) [
          | inl g ↦ made-kept s.found (λ o k l. (loaded-now.loaded_as o k).1 (inr l)) i x g
          | inr g ↦
              inl ((loaded-now.loaded_as (node_origin x.node.value) i).1
              (inl (ap (λ (y : Held). node_origin y.node.value) (sym g.1), g.0)))
        ];
      };
      named =
          noted-too (rows_of held) (rows_of (held ++ h ∷ [])) (node_origin h.node.value) (length held) loaded loaded' id
          fresh loaded-now s.named at is others;
    }

pub loaded-stale : (held : List Held) (made : List Made) (o : ℕ) → (¬ IsLoaded (rows_of held) o) →
    (loaded loaded' : ℕ → Option NodeId) → IsStock held made loaded →
    ((q : ℕ) (n : NodeId) → q ≢ o → loaded q ≡ Some n → loaded' q ≡ Some n) → IsStock held made loaded'
loaded-stale held made o fresh loaded loaded' s others =
    record { found = s.found; named = noted-stale-too (rows_of held) o loaded loaded' fresh s.named others }

-- ---- the first nodes alone
pub IsStock-take : (held : List Held) (made : List Made) (loaded : ℕ → Option NodeId) (mark left : ℕ) →
    IsStock held made loaded → left ≤ length made →
    ((m : Made) (j : ℕ) → j + 1 ≡ left → slice_get made j ≡ Some m → node_id m.node.value < mark) →
    ((j : ℕ) (m : Made) → left ≤ j → slice_get made j ≡ Some m → mark ≤ node_id m.node.value) →
    IsStock (take mark held) (take left made) loaded
IsStock-take held made loaded mark left s within last past = record {
  found = record {
    among = λ j m e.
        let f = taken-row made left j m e in
        let a = s.found.among j m f.0 in
        (a.0, row-taken held mark (node_id m.node.value) a.0 a.1 (early j m f.0 f.1), a.2);
    rising = λ j k m n lt e f. s.found.rising j k m n lt (taken-row made left j m e).0 (taken-row made left k n f).0;
    others = λ i h e.
        let f = taken-row held mark i h e in
        elim (s.found.others i h f.0) [
          | inl l ↦
              inl (subst (λ (rs : List Row). IsLoadedAs rs (node_origin h.node.value) i)
              (sym (map-take row_of mark held))
              ((below.loaded_as (node_origin h.node.value) i).1 (l, f.1)))
          | inr m ↦
              inr (
                m.0,
                m.1,
                row-taken made left m.0 m.1 m.2
                    (kept m.0 m.1 m.2 (let at = m.3 in let lt = f.1 in omega (arith, at, lt))),
                m.3,
              )
        ];
  };
  named =
      λ o i l.
      s.named o i
      ((below.loaded_as o i).0 (subst (λ (rs : List Row). IsLoadedAs rs o i) (map-take row_of mark held) l)).0;
}
  where
    below : KeepsLoadedBelow mark (rows_of held) (take mark (rows_of held))
    below = keeps-loaded-below (rows_of held) mark

    early : (j : ℕ) (m : Made) → slice_get made j ≡ Some m → j < left → node_id m.node.value < mark
    early j m e lt = go left refl
      where
        go : (l : ℕ) → l ≡ left → node_id m.node.value < mark
        go zero z = absurd (omega (arith, lt, z))
        go (suc k) z = by_test (nat_lt j k)
            (λ f.
            let q = at_place made k (omega (arith, within, z)) in
            let a = s.found.rising j k m q.0 (ltb-true j k f) e q.1 in
            let b = last q.0 k (omega (arith, z)) q.1 in omega (arith, a, b))
            (λ f. let b = ltb-false j k f in last m j (omega (arith, b, lt, z)) e)

    kept : (j : ℕ) (m : Made) → slice_get made j ≡ Some m → node_id m.node.value < mark → j < left
    kept j m e lt = by_test (nat_lt j left)
        (λ f. ltb-true j left f)
        (λ f. let a = ltb-false j left f in let b = past j m (omega (arith, a)) e in absurd (omega (arith, b, lt)))
