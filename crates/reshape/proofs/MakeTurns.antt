-- One pool after the other.
use Rattle.std.proofs.Common.{◌≡◌, ◌<◌, ◌∙◌, ◌++◌, ◌∷◌, List, [], All, length}
use Rattle.std.proofs.Common.{arith, refl, sym, ap, take}
use Rattle.std.proofs.lemmas.List.{append_assoc, append-nil}
use Rattle.std.proofs.lemmas.Option.{slice_get_within}
use Rattle.std.proofs.lemmas.List.Elements.{All-weaker}
use Rattle.lists.proofs.Each.{All-from_members}
use Rattle.lists.proofs.Places.{at_place, place_of}
use Rattle.shape_pool.specs.declared.node.NodeId.{NodeId}
use Rattle.shape_pool.specs.Calls.{Keeps, KeepsLoaded}
use Rattle.shape_pool.specs.Rows.{Row}
use Rattle.key_results.specs.declared.derive.Visit.{Visit}
use Rattle.key_results.specs.Derivations.{AreVisitsHeld}
use Rattle.key_results.specs.Grown.{Extends, KeepKinds}

pub extends-on : (a b d : List Row) → Extends a b → Extends b d → Extends a d
extends-on a b d g h = (g.0 ++ h.0, h.1 ∙ ap (λ (l : List Row). l ++ h.0) g.1 ∙ append_assoc a g.0 h.0)

pub extends-none : (a : List Row) → Extends a a
extends-none a = ([], sym (append-nil a))

pub keeps-on : (a b d : List Row) → Keeps a b → Keeps b d → Keeps a d
keeps-on a b d g h = record {
  grows = (let p = g.grows in let q = h.grows in omega (arith, p, q));
  kinds = λ i lt. h.kinds i (let p = g.grows in omega (arith, p, lt)) ∙ g.kinds i lt;
  origins = λ i lt. h.origins i (let p = g.grows in omega (arith, p, lt)) ∙ g.origins i lt;
  uses = λ i lt. h.uses i (let p = g.grows in omega (arith, p, lt)) ∙ g.uses i lt;
  trees = λ word i lt. h.trees word i (let p = g.grows in omega (arith, p, lt)) ∙ g.trees word i lt;
}

pub keeps-none : (a : List Row) → Keeps a a
keeps-none a = record {
  grows = omega arith;
  kinds = λ i lt. refl;
  origins = λ i lt. refl;
  uses = λ i lt. refl;
  trees = λ word i lt. refl;
}

pub loaded-none : (a : List Row) → KeepsLoaded a a
loaded-none a = record {
  loaded = λ o. ((λ x. x), (λ x. x));
  loaded_as = λ o i. ((λ x. x), (λ x. x));
}

pub loaded-on : (a b d : List Row) → KeepsLoaded a b → KeepsLoaded b d → KeepsLoaded a d
loaded-on a b d g h = record {
  loaded = λ o. ((λ x. (g.loaded o).0 ((h.loaded o).0 x)), (λ x. (h.loaded o).1 ((g.loaded o).1 x)));
  loaded_as =
      λ o i. ((λ x. (g.loaded_as o i).0 ((h.loaded_as o i).0 x)), (λ x. (h.loaded_as o i).1 ((g.loaded_as o i).1 x)));
}

-- the nodes of visits are held
pub nodes-held : (old new : List Row) (visits : List Visit) (nodes : List NodeId) → length nodes ≡ length visits →
    KeepKinds old new visits nodes →
    All (λ (n : NodeId). n.0 < length new) nodes
nodes-held old new visits nodes long kinds = All-from_members (λ (n : NodeId). n.0 < length new) nodes (λ n m.
    let k = place_of nodes n m in
    let within = slice_get_within nodes k.0 n k.1 in
    let v = at_place visits k.0 (omega (arith, within, long)) in
    (kinds k.0 v.0 n v.1 k.1).0)

pub visits-held-more : (old new : List Row) (visits : List Visit) → Keeps old new → AreVisitsHeld old visits →
    AreVisitsHeld new visits
visits-held-more old new visits kept held =
    let le = kept.grows in
    All-weaker (λ (v : Visit). v.id.0 < length old) (λ (v : Visit). v.id.0 < length new) (λ v h. omega (arith, h, le))
    visits held

-- what is taken back is what was there
pub taken-back : (old new : List Row) → Extends old new → take (length old) new ≡ old
taken-back old new e = ap (take (length old)) e.1 ∙ taken old e.0
  where
    taken : (xs ys : List Row) → take (length xs) (xs ++ ys) ≡ xs
    taken [] ys = refl
    taken (x ∷ xs) ys = ap (λ (l : List Row). x ∷ l) (taken xs ys)
