-- Key by key: the nodes that come of keys.
use Rattle.std.proofs.Common.{◌≡◌, ◌≤◌, ◌<◌, ℕ, true, List, ◌++◌, ◌∷◌, [], All, length}
use Rattle.std.proofs.Common.{arith, sym, ◌∙◌, ap, subst, refl, slice_get, slice_index_or, Some, inl, inr}
use Rattle.std.specs.Prelude.{nat_lt}
use Rattle.std.proofs.lemmas.Bool.{ltb-true, ltb-false}
use Rattle.std.proofs.lemmas.List.{append_assoc, append-nil}
use Rattle.std.proofs.lemmas.List.Elements.{All-contains, All-weaker}
use Rattle.std.proofs.lemmas.Option.{slice_get-get_or, slice_get_within}
use Rattle.lists.proofs.Cases.{by_test}
use Rattle.lists.proofs.Each.{All-from_members}
use Rattle.lists.proofs.Members.{Contains-map_cases}
use Rattle.lists.proofs.Places.{at_place, same_entry, slice_get-kept, slice_get-last, slice_get-push}
use Rattle.orientation.specs.Kinds.{IsBelow}
use Rattle.shape_pool.specs.declared.node.NodeId.{NodeId}
use Rattle.shape_pool.specs.declared.node.UseOf.{UseOf}
use Rattle.shape_pool.specs.Rows.{Row, kind_at, origin_at, tree_at, AllBelow}
use Rattle.shape_pool.specs.Calls.{IsTreeOver, Keeps, KeepsLoaded}
use Rattle.shape_pool.specs.Laws.{IsSound}
use Rattle.key_results.specs.declared.derive.Outcome.TheVariants.{Stays, Rebuilt}
use Rattle.key_results.specs.declared.derive.Visit.{Visit}
use Rattle.key_results.specs.declared.parts.Part.{Part}
use Rattle.key_results.specs.declared.parts.Outgrowth.{Outgrowth}
use Rattle.key_results.specs.Derivations.{results_of, AreLinked}
use Rattle.key_results.specs.Parts.{own_at, AreOfOwn, AreHeldParts, IsHeldPart}
use Rattle.key_results.specs.Grown.{node_use, node_uses, AreInOrder, AreNewOwn, Extends, KeepKinds, StandForOwn}
use Rattle.key_results.proofs.OwnerLaws.{own-at, owners-at}
use Rattle.key_results.proofs.GrownOwn.{by-outcome, own-over, own-kept, own-never}

-- ---- a pool that has grown twice has grown
pub keeps-none : (rows : List Row) → Keeps rows rows
keeps-none rows = record {
  grows = omega arith;
  kinds = λ i lt. refl;
  origins = λ i lt. refl;
  uses = λ i lt. refl;
  trees = λ word i lt. refl;
}

pub keeps-on : (a b d : List Row) → Keeps a b → Keeps b d → Keeps a d
keeps-on a b d f g = record {
  grows = (let p = f.grows in let q = g.grows in omega (arith, p, q));
  kinds = λ i lt. g.kinds i (let p = f.grows in omega (arith, p, lt)) ∙ f.kinds i lt;
  origins = λ i lt. g.origins i (let p = f.grows in omega (arith, p, lt)) ∙ f.origins i lt;
  uses = λ i lt. g.uses i (let p = f.grows in omega (arith, p, lt)) ∙ f.uses i lt;
  trees = λ word i lt. g.trees word i (let p = f.grows in omega (arith, p, lt)) ∙ f.trees word i lt;
}

pub loaded-none : (rows : List Row) → KeepsLoaded rows rows
loaded-none rows = record { loaded = λ o. (λ h. h, λ h. h); loaded_as = λ o i. (λ h. h, λ h. h) }

pub loaded-on : (a b d : List Row) → KeepsLoaded a b → KeepsLoaded b d → KeepsLoaded a d
loaded-on a b d f g = record {
  loaded = λ o. (λ h. (f.loaded o).0 ((g.loaded o).0 h), λ h. (g.loaded o).1 ((f.loaded o).1 h));
  loaded_as =
      λ o i. (λ h. (f.loaded_as o i).0 ((g.loaded_as o i).0 h), λ h. (g.loaded_as o i).1 ((f.loaded_as o i).1 h));
}

pub extends-none : (rows : List Row) → Extends rows rows
extends-none rows = ([], sym (append-nil rows))

pub extends-on : (a b d : List Row) → Extends a b → Extends b d → Extends a d
extends-on a b d f g = (f.0 ++ g.0, g.1 ∙ ap (λ l. l ++ g.0) f.1 ∙ append_assoc a f.0 g.0)

-- ---- what a rebuild wants
module _ (old cur : List Row) (visits : List Visit) (nodes : List NodeId) (kinds : KeepKinds old cur visits nodes) where
  pub nodes-held : length nodes ≤ length visits → All (λ (n : NodeId). n.0 < length cur) nodes
  nodes-held le i d lt =
      let v = at_place visits i (omega (arith, le, lt)) in
      (kinds i v.0 (slice_index_or nodes i d) v.1 (slice_get-get_or nodes i d lt)).0

  pub parts-below : (outgrowths : List Outgrowth) (d : NodeId) (v : Visit) (o : Outgrowth) →
      length nodes ≤ length visits →
      Keeps old cur → v.id.0 < length old → AreInOrder old visits outgrowths →
      slice_get visits (length nodes) ≡ Some v →
      slice_get outgrowths (length nodes) ≡ Some o → All (λ (p : Part). p.of < length nodes) o.parts.items →
      v.outcome ≡ Rebuilt →
      AllBelow cur (kind_at cur v.id.0) (node_uses d nodes o.parts.items)
  parts-below outgrowths d v o le keeps within order at has held e =
      All-from_members (λ (u : UseOf). IsBelow (kind_at cur u.id.0) (kind_at cur v.id.0))
      (node_uses d nodes o.parts.items)
      (λ u m.
      let c = Contains-map_cases (node_use d nodes) u o.parts.items m in
      let p = c.0 in
      let lt : p.of < length nodes = All-contains (λ (p : Part). p.of < length nodes) o.parts.items p held c.1 in
      let w = at_place visits p.of (omega (arith, lt, le)) in
      let n = slice_index_or nodes p.of d in
      let same = (kinds p.of w.0 n w.1 (slice_get-get_or nodes p.of d lt)).1 in
      subst (λ (u : UseOf). IsBelow (kind_at cur u.id.0) (kind_at cur v.id.0)) c.2
      (subst (λ k. IsBelow (kind_at cur n.0) k) (sym (keeps.kinds v.id.0 within))
      (subst (λ k. IsBelow k (kind_at old v.id.0)) (sym same) (order (length nodes) v o p w.0 at has e c.1 w.1))))

pub parts-within : (n : ℕ) (outgrowths : List Outgrowth) (k : ℕ) (o : Outgrowth) → AreHeldParts n outgrowths →
    slice_get outgrowths k ≡ Some o →
    All (λ (p : Part). p.of < k) o.parts.items
parts-within n outgrowths k o held has =
    All-weaker (IsHeldPart k n) (λ (p : Part). p.of < k) (λ p h. h.0) o.parts.items (held k o has)

pub parts-placed-at : (n : ℕ) (outgrowths : List Outgrowth) (k : ℕ) (o : Outgrowth) → AreHeldParts n outgrowths →
    slice_get outgrowths k ≡ Some o →
    All (λ (p : Part). p.place.0 < n) o.parts.items
parts-placed-at n outgrowths k o held has =
    All-weaker (IsHeldPart k n) (λ (p : Part). p.place.0 < n) (λ p h. h.1) o.parts.items (held k o has)

-- ---- one key more
module _ (old cur new : List Row) (visits : List Visit) (outgrowths : List Outgrowth) (nodes : List NodeId) (v : Visit)
    (o : Outgrowth)
    (made : NodeId) (at : slice_get visits (length nodes) ≡ Some v) (has : slice_get outgrowths (length nodes) ≡ Some o)
    (within : v.id.0 < length old) (keeps : Keeps old cur) (grown : Keeps cur new)
    (kinds : KeepKinds old cur visits nodes)
    (le : length nodes ≤ length visits) where
  visit-there : (k : ℕ) (w : Visit) → k ≡ length nodes → slice_get visits k ≡ Some w → v ≡ w
  visit-there k w e a = same_entry at (sym (ap (slice_get visits) e) ∙ a)

  outgrowth-there : (k : ℕ) (q : Outgrowth) → k ≡ length nodes → slice_get outgrowths k ≡ Some q → o ≡ q
  outgrowth-there k q e a = same_entry has (sym (ap (slice_get outgrowths) e) ∙ a)

  pub kinds-next : made.0 < length new → kind_at new made.0 ≡ kind_at cur v.id.0 →
      KeepKinds old new visits (nodes ++ made ∷ [])
  kinds-next held same k w n a b =
      elim (slice_get-push nodes made n k b) [
        | inl c ↦ (let h = kinds k w n a c in let lt = h.0 in let more = grown.grows in
            (omega (arith, lt, more), grown.kinds n.0 lt ∙ h.1))
        | inr c ↦ (
          subst (λ (z : NodeId). z.0 < length new) c.1 held,
          subst (λ (z : NodeId). kind_at new z.0 ≡ kind_at old w.id.0) c.1
              (same ∙ keeps.kinds v.id.0 within ∙ ap (λ (z : Visit). kind_at old z.id.0) (visit-there k w c.0 a)),
        )
      ]

  pub news-next : AreNewOwn old cur outgrowths nodes →
      ((i : ℕ) → length cur ≤ i → i < length new → (i ≡ made.0) × (o.own ≡ true)) →
      AreNewOwn old new outgrowths (nodes ++ made ∷ [])
  news-next before more i a b =
      by_test (nat_lt i (length cur))
      (λ e. let h = before i a (ltb-true i (length cur) e) in
      (h.0, h.1, slice_get-kept nodes (made ∷ []) h.0 h.1 h.2, h.3, h.4))
      (λ e. let past = ltb-false i (length cur) e in let h = more i (omega (arith, past)) b in
      (length nodes, made, slice_get-last nodes made, sym h.0, own-at outgrowths (length nodes) o has h.1))

  pub stands-next : IsSound cur → AreLinked visits → AreOfOwn outgrowths →
      All (λ (p : Part). p.of < length nodes) o.parts.items →
      StandForOwn old cur visits outgrowths nodes → (v.outcome ≡ Stays → made ≡ v.id) →
      (v.outcome ≡ Rebuilt → o.own ≡ true → IsTreeOver cur (origin_at cur v.id.0) (node_uses v.id nodes o.parts.items)
      new made.0) →
      StandForOwn old new visits outgrowths (nodes ++ made ∷ [])
  stands-next sound linked owners held stand stays tree word k q n prune are a b own =
      let R = results_of word (tree_at word old) prune visits in
      elim (slice_get-push nodes made n k b) [
        | inl c ↦ (
            let u = at_place visits k (let lt = slice_get_within nodes k n c in omega (arith, lt, le)) in
            grown.trees word n.0 (kinds k u.0 n u.1 c).0 ∙ stand word k q n prune are a c own)
        | inr c ↦ (
            let mine : o.own ≡ true = ap (λ (z : Outgrowth). z.own) (outgrowth-there k q c.0 a) ∙ own in
            let here : tree_at word new made.0 ≡ own_at R (length nodes) =
            by-outcome v.outcome
            (λ e. ap (λ (z : NodeId). tree_at word new z.0) (stays e) ∙
            (keeps-on old cur new keeps grown).trees word v.id.0 within ∙
            sym (own-kept old cur keeps sound visits linked outgrowths nodes stand word prune are (length nodes) v o at
            has mine within e))
            (λ e. tree e mine word ∙
            sym (own-over old cur keeps sound visits linked outgrowths nodes stand word prune are (length nodes) v o at
            has mine within v.id
            (owners-at outgrowths (length nodes) o has owners) held e))
            (λ e.
            absurd (own-never old cur keeps sound visits linked outgrowths nodes stand word prune are (length nodes) v
            o at has mine within e)) in
            subst (λ (z : NodeId). tree_at word new z.0 ≡ own_at R k) c.1 (here ∙ ap (own_at R) (sym c.0)))
      ]
