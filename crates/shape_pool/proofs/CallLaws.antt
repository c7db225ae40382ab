-- What the calls of a pool leave.
use Rattle.std.proofs.Common.{◌≡◌, ◌<◌, ◌⊎◌, ◌≢◌, ℕ, List, map, length, ◌++◌, ◌∷◌, [], arith}
use Rattle.std.proofs.Common.{sym, ◌∙◌, ap, subst, refl, take, drop, Option, Some, inl, inr}
use Rattle.std.specs.Option.{option_map_or}
use Rattle.std.proofs.lemmas.List.{length-append, take-append-drop}
use Rattle.std.proofs.lemmas.Option.{slice_get_within}
use Rattle.lists.proofs.Places.{slice_get-last, slice_get-left, slice_get-push, taken-row}
use Rattle.orientation.specs.declared.kind.Kind.{Kind}
use Rattle.orientation.specs.declared.kind.Kind.TheVariants.{Co}
use Rattle.expansion_laws.specs.Trees.{tree_of}
use Rattle.shape_pool.specs.declared.node.NodeId.{NodeId}
use Rattle.shape_pool.specs.declared.node.UseOf.{UseOf}
use Rattle.shape_pool.specs.Rows.{Row, a_row, kind_at, origin_at, uses_at, use_by}
use Rattle.shape_pool.specs.Rows.{tree_at, AllHeld, AllBelow, AllPlaced, HasPlaces}
use Rattle.shape_pool.specs.Calls.{IsOf, IsLoaded, IsHeldAs, IsNode, IsHandedIn, IsTreeOver}
use Rattle.shape_pool.specs.Calls.{Keeps, KeepsLoaded, IsLoadedToo, KeepsPlaces}
use Rattle.shape_pool.specs.Laws.{IsSound}
use Rattle.shape_pool.specs.Held.{IsRows, HaveKind}
use Rattle.shape_pool.proofs.RowLaws.{entry, kind-entry, origin-entry, uses-entry}
use Rattle.shape_pool.proofs.RowLaws.{tree-row, tree-more, trees-alike, uses-same}
use Rattle.shape_pool.proofs.DepthLaws.{same-depths, depth-over-uses}
use Rattle.shape_pool.proofs.IdLaws.{ids-tell-trees, ids-tell-trees-by, tables-alike}
use Rattle.shape_pool.proofs.SubtreeLaws.{ids-of-subtrees}
use Rattle.shape_pool.proofs.LoadedLaws.{IsNoted, keeps-loaded, keeps-loaded-itself, loaded-too}

pub sound : (rows : List Row) → IsRows rows → IsSound rows
sound rows p = record {
  few = p.few;
  ids_tell_trees = ids-tell-trees rows p;
  ids_tell_trees_by = ids-tell-trees-by rows p;
  trees_of_uses = λ word i lt. tree-row word rows p.before i _ (entry rows i lt);
  trees_read_alike = record {
    words = λ n word word' places agree i lt. trees-alike n word word' agree rows p.before places i lt;
    tables = λ table table' places kept i lt. tables-alike rows p table table' places kept i lt;
  };
  nodes_are_held_once =
      λ o us i j a b. p.distinct i j _ _ (entry rows i a.0) (entry rows j b.0) (a.1 ∙ sym b.1) (a.2 ∙ sym b.2);
  uses_are_earlier = λ i lt. p.before i _ (entry rows i lt);
  kinds_of_trees = record {
    below = λ i lt. p.below i _ (entry rows i lt);
    one_kind = λ i j a b e. p.kinds i j _ _ (entry rows i a) (entry rows j b) e;
    made = λ i lt z. p.compounds i _ (entry rows i lt) z;
  };
  depths_of_trees = record {
    trees = λ word i. same-depths rows p.before word i;
    uses = λ i lt. depth-over-uses rows p.before i lt;
    within = λ i. p.shallow i;
  };
  ids_of_subtrees = ids-of-subtrees rows p.before;
}

-- ---- more rows, and the first rows alone
pub keeps-more : (rows more : List Row) → Keeps rows (rows ++ more)
keeps-more rows more = record {
  grows = let l = length-append rows more in omega (arith, l);
  kinds = λ i h. ap (λ o. option_map_or (λ (r : Row). r.kind) o Co) (slice_get-left rows more i h);
  origins = λ i h. ap (λ o. option_map_or (λ (r : Row). r.origin) o 0) (slice_get-left rows more i h);
  uses = λ i h. ap (λ o. option_map_or (λ (r : Row). r.uses) o []) (slice_get-left rows more i h);
  trees = λ word i h. tree-more word rows more i h;
}

keeps-itself : (rows : List Row) → Keeps rows rows
keeps-itself rows =
    record {
      grows = omega arith;
      kinds = λ i h. refl;
      origins = λ i h. refl;
      uses = λ i h. refl;
      trees = λ word i h. refl;
    }

pub keeps-taken : (rows : List Row) (m : ℕ) → Keeps (take m rows) rows
keeps-taken rows m = subst (Keeps (take m rows)) (take-append-drop m rows) (keeps-more (take m rows) (drop m rows))

pub places-taken : (rows : List Row) (m n : ℕ) → HasPlaces rows n → HasPlaces (take m rows) n
places-taken rows m n p i lt =
    let f = taken-row rows m i _ (entry (take m rows) i lt) in
    subst (AllPlaced n) (uses-entry rows i f.0) (p i (slice_get_within rows i _ f.0))

places-pushed : (rows : List Row) (r : Row) (n : ℕ) → HasPlaces rows n → AllPlaced n r.uses →
    HasPlaces (rows ++ r ∷ []) n
places-pushed rows r n p q i lt = elim (slice_get-push rows r _ i (entry (rows ++ r ∷ []) i lt)) [
  | inl f ↦ subst (AllPlaced n) (uses-entry rows i f) (p i (slice_get_within rows i _ f))
  | inr f ↦ subst (λ (x : Row). AllPlaced n x.uses) f.1 q
]

-- ---- a node that was handed in
module _ (old : List Row) (k : Kind) (o : ℕ) (us : List UseOf) (new : List Row) (i : ℕ)
    (s : IsHandedIn old k o us new i) where
  pub handed-keeps : Keeps old new
  handed-keeps = elim s [
    | inl f ↦ subst (Keeps old) (sym f.0) (keeps-itself old)
    | inr f ↦ subst (Keeps old) (sym f.1) (keeps-more old (a_row k o us ∷ []))
  ]

  pub handed-node : HaveKind old o k → IsNode new k o us i
  handed-node kind = elim s [
    | inl f ↦ subst (λ rs. IsNode rs k o us i) (sym f.0) (record {
      held = f.1.0;
      kind = kind i _ (entry old i f.1.0) f.1.1;
      origin = f.1.1;
      uses = f.1.2;
    })
    | inr f ↦ subst (λ rs. IsNode rs k o us i) (sym f.1)
        (subst (IsNode (old ++ a_row k o us ∷ []) k o us) (sym f.2) (record {
          held = slice_get_within (old ++ a_row k o us ∷ []) (length old) _ (slice_get-last old (a_row k o us));
          kind = kind-entry (old ++ a_row k o us ∷ []) (length old) (slice_get-last old (a_row k o us));
          origin = origin-entry (old ++ a_row k o us ∷ []) (length old) (slice_get-last old (a_row k o us));
          uses = uses-entry (old ++ a_row k o us ∷ []) (length old) (slice_get-last old (a_row k o us));
        }))
  ]

  pub handed-held : i < length new
  handed-held = elim s [
    | inl f ↦ (let a = f.1.0 in let l = ap length f.0 in omega (arith, a, l))
    | inr f ↦ (let l = ap length f.1 ∙ length-append old (a_row k o us ∷ []) in let e = f.2 in omega (arith, l, e))
  ]

  handed-as : IsHeldAs new o us i
  handed-as = elim s [
    | inl f ↦ subst (λ rs. IsHeldAs rs o us i) (sym f.0) f.1
    | inr f ↦ (
      handed-held,
      ap (λ rs. origin_at rs i) f.1 ∙ ap (origin_at (old ++ a_row k o us ∷ [])) f.2 ∙
          origin-entry (old ++ a_row k o us ∷ []) (length old) (slice_get-last old (a_row k o us)),
      ap (λ rs. uses_at rs i) f.1 ∙ ap (uses_at (old ++ a_row k o us ∷ [])) f.2 ∙
          uses-entry (old ++ a_row k o us ∷ []) (length old) (slice_get-last old (a_row k o us)),
    )
  ]

  pub handed-tree : IsRows new → AllHeld old us → IsTreeOver old o us new i
  handed-tree rows all word =
      tree-row word new rows.before i _ (entry new i handed-as.0) ∙
      (λ j. tree_of (handed-as.1 j) (map (use_by word (tree_at word new)) (handed-as.2 j))) ∙
      ap (tree_of o) (uses-same word (tree_at word old) (tree_at word new) (length old) us all
      (λ j lt. handed-keeps.trees word j lt))

  pub handed-places : KeepsPlaces old us new
  handed-places n p q = elim s [
    | inl f ↦ subst (λ rs. HasPlaces rs n) (sym f.0) p
    | inr f ↦ subst (λ rs. HasPlaces rs n) (sym f.1) (places-pushed old (a_row k o us) n p q)
  ]

  pub handed-loaded : (o ≡ 0) ⊎ ((j : ℕ) × IsOf old o j) → KeepsLoaded old new
  handed-loaded was = elim s [
    | inl f ↦ subst (KeepsLoaded old) (sym f.0) (keeps-loaded-itself old)
    | inr f ↦ subst (KeepsLoaded old) (sym f.1) (keeps-loaded old (a_row k o us) was)
  ]

  module _ (fresh : IsLoaded old o → ⊥) (pos : 0 < o) where
    pub fresh-last : (new ≡ old ++ a_row k o us ∷ []) × (i ≡ length old)
    fresh-last = elim s [
      | inl f ↦ absurd (fresh (pos, i, (f.1.0, f.1.1)))
      | inr f ↦ (f.1, f.2)
    ]

    pub fresh-loaded : IsLoadedToo old new o i
    fresh-loaded =
        subst (λ rs. IsLoadedToo old rs o i) (sym fresh-last.0)
        (subst (IsLoadedToo old (old ++ a_row k o us ∷ []) o) (sym fresh-last.1)
        (loaded-too old (a_row k o us) fresh pos))

pub handed-itself : (rows : List Row) (us : List UseOf) → KeepsPlaces rows us rows
handed-itself rows us n p q = p

pub unchanged-keeps : (old new : List Row) → new ≡ old → Keeps old new
unchanged-keeps old new e = subst (Keeps old) (sym e) (keeps-itself old)

pub unchanged-loaded : (old new : List Row) → new ≡ old → KeepsLoaded old new
unchanged-loaded old new e = subst (KeepsLoaded old) (sym e) (keeps-loaded-itself old)

pub unchanged-places : (old : List Row) (us : List UseOf) (new : List Row) → new ≡ old → KeepsPlaces old us new
unchanged-places old us new e n p q = subst (λ rs. HasPlaces rs n) (sym e) p

-- ---- numbers that are noted
pub noted-still : (old new : List Row) (loaded : ℕ → Option NodeId) → KeepsLoaded old new → IsNoted old loaded →
    IsNoted new loaded
noted-still old new loaded k noted q j l = noted q j ((k.loaded_as q j).0 l)

pub noted-too : (old new : List Row) (o i : ℕ) (loaded loaded' : ℕ → Option NodeId) (id : NodeId) →
    (IsLoaded old o → ⊥) → IsLoadedToo old new o i → IsNoted old loaded →
    loaded' o ≡ Some id → id.0 ≡ i → ((q : ℕ) (n : NodeId) → q ≢ o → loaded q ≡ Some n → loaded' q ≡ Some n) →
    IsNoted new loaded'
noted-too old new o i loaded loaded' id fresh too noted at is others q j l = elim ((too.loaded_as q j).0 l) [
  | inl e ↦ (id, ap loaded' e.0 ∙ at, is ∙ sym e.1)
  | inr k ↦ (let n = noted q j k in (n.0, others q n.0 (λ e. fresh (subst (IsLoaded old) e (k.0, j, k.1))) n.1, n.2))
]

-- a refused load may leave a note, which stands for nothing
pub noted-stale-too : (rows : List Row) (o : ℕ) (loaded loaded' : ℕ → Option NodeId) → (IsLoaded rows o → ⊥) →
    IsNoted rows loaded →
    ((q : ℕ) (n : NodeId) → q ≢ o → loaded q ≡ Some n → loaded' q ≡ Some n) → IsNoted rows loaded'
noted-stale-too rows o loaded loaded' fresh noted others q j l =
    let n = noted q j l in (n.0, others q n.0 (λ e. fresh (subst (IsLoaded rows) e (l.0, j, l.1))) n.1, n.2)

-- ---- kinds of origins
module _ (rows : List Row) (p : IsRows rows) where
  pub kind-of-held : (i : ℕ) → i < length rows → HaveKind rows (origin_at rows i) (kind_at rows i)
  kind-of-held i lt = λ j q e o. p.kinds j i q _ e (entry rows i lt) o

  pub kind-of-made : HaveKind rows 0 Co
  kind-of-made = λ j q e o. p.compounds j q e o

  pub compound-of-held : (i : ℕ) → i < length rows → origin_at rows i ≡ 0 → kind_at rows i ≡ Co
  compound-of-held i lt z = p.compounds i _ (entry rows i lt) z

pub kind-of-new : (rows : List Row) (o : ℕ) (k : Kind) → (IsLoaded rows o → ⊥) → 0 < o → HaveKind rows o k
kind-of-new rows o k fresh pos =
    λ j q e is. absurd (fresh (pos, j, (slice_get_within rows j q e, origin-entry rows j e ∙ is)))

-- any kind stands below a compound
pub no-below : (rows : List Row) (us : List UseOf) → AllBelow rows Co us
no-below rows us = λ i d lt. inr refl
