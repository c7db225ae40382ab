-- The numbers of an answer are held.
use Rattle.std.proofs.Common.{◌≡◌, ◌<◌, ℕ, Bool, true, false, List, All, Contains, length}
use Rattle.std.proofs.Common.{arith, sym, subst, slice_get, Some, inl, inr}
use Rattle.std.proofs.lemmas.List.Elements.{All-contains}
use Rattle.lists.proofs.Each.{All-from_members}
use Rattle.lists.proofs.Entries.{All-place}
use Rattle.lists.proofs.Members.{Contains-map_cases}
use Rattle.lists.proofs.Places.{Contains-at}
use Rattle.shape_pool.specs.declared.node.NodeId.{NodeId}
use Rattle.shape_pool.specs.declared.node.UseOf.{UseOf}
use Rattle.shape_pool.specs.Laws.{IsSound}
use Rattle.shape_pool.specs.Rows.{Row, uses_at}
use Rattle.key_results.specs.declared.derive.Visit.{Visit}
use Rattle.key_results.specs.declared.parts.Outgrowth.{Outgrowth}
use Rattle.key_results.specs.declared.parts.Part.{Part}
use Rattle.key_results.specs.declared.rewritten.Rewritten.{Rewritten}
use Rattle.key_results.specs.Derivations.{AreVisitsHeld}
use Rattle.key_results.specs.Pairs.{IsPairOf, IsUnseen}
use Rattle.reshape.specs.Answers.{IsHeldAnswer}
use Rattle.reshape.specs.Making.{IsMade}
use Rattle.reshape.proofs.MakeTurns.{nodes-held}

module _ (old new : List Row) (sound : IsSound new) (visits : List Visit) (outgrowths : List Outgrowth)
    (parts : List Part) (made : Rewritten)
    (m : IsMade old new visits outgrowths parts made) (visits_held : AreVisitsHeld old visits) where
  abbrev IsHeldPair : NodeId × NodeId → Type 0
  IsHeldPair p = (p.0.0 < length new) × (p.1.0 < length new)

  visit-held : (v : Visit) → Contains visits v → v.id.0 < length new
  visit-held v c =
      let h = All-contains (λ (w : Visit). w.id.0 < length old) visits v visits_held c in
      let a = m.are.kept.grows in
      let b = m.kept.grows in
      omega (arith, h, a, b)

  node-held : (j : ℕ) (n : NodeId) → slice_get m.nodes j ≡ Some n → n.0 < length new
  node-held j n e =
      let h = All-place (λ (i : NodeId). i.0 < length m.mid) m.nodes j n
      (nodes-held old m.mid visits m.nodes m.are.long m.are.kinds) e in
      let g = m.kept.grows in
      omega (arith, h, g)

  pair-held : (all : Bool) (p : NodeId × NodeId) → IsPairOf visits outgrowths m.nodes all p → IsHeldPair p
  pair-held all p h = (
    subst (λ (i : NodeId). i.0 < length new) (sym h.5.1) (visit-held h.1 (Contains-at visits h.0 h.1 h.3)),
    elim h.5.2 [
      | inl own ↦ node-held h.0 p.1 own.1
      | inr part ↦ node-held part.1.0.of p.1 part.1.2
    ],
  )

  unseen-held : (p : NodeId × NodeId) → p.1 ≡ p.0 → IsUnseen new visits p.0.0 → IsHeldPair p
  unseen-held p same h =
      let at = visit-held h.1.0 h.1.1 in
      let u = Contains-map_cases (λ (q : UseOf). q.id.0) h.0 (uses_at new h.1.0.id.0) h.1.3 in
      let below = All-contains (λ (q : UseOf). q.id.0 < h.1.0.id.0) (uses_at new h.1.0.id.0) u.0
      (sound.uses_are_earlier h.1.0.id.0 at) u.1 in
      let e = u.2 in
      let le = sound.ids_of_subtrees.held h.0 p.0.0 (omega (arith, below, e, at)) h.2 in
      let one : p.0.0 < length new = omega (arith, le, below, e, at) in
      (one, subst (λ (i : NodeId). i.0 < length new) (sym same) one)

  pub held-answer : (n : ℕ) → 0 < n → All (λ (p : Part). p.place.0 < n) parts → IsHeldAnswer new n made
  held-answer n some placed = record {
    root = m.root_held;
    place = m.root_place n some placed;
    images =
        All-from_members IsHeldPair made.images (λ p c.
        elim ((m.images_are p).0 c) [ inl h ↦ pair-held true p h | inr h ↦ unseen-held p h.0 h.1 ]);
    replaced = All-from_members IsHeldPair made.replaced (λ p c. pair-held false p ((m.replaced_are p).0 c));
  }
