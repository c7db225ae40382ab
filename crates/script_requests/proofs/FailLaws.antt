-- Why further names aren't joined, name by name.
use Rattle.std.proofs.Common.{◌≡◌, ◌∙◌, ◌+◌, refl, sym, ap, subst, inl, inr, ℕ, append_assoc, take, drop}
use Rattle.std.specs.Prelude.{List, [], ◌∷◌, ◌++◌, Contains, Some, slice_get}
use Rattle.std.specs.Prelude.{IfErr, IsErrAnd, Result, Ok, Err}
use Rattle.std.proofs.lemmas.List.Elements.{All-append}
use Rattle.lists.proofs.Entries.{All-none}
use Rattle.lists.proofs.Members.{Contains-map_cases}
use Rattle.lists.proofs.Places.{at_place, split-at, Contains-at}
use Rattle.requests.specs.declared.request.Request.{Request}
use Rattle.sewing.specs.Refused.{CanBeSewn, HasOtherEnds, IsFirstAmiss, IsNoEdge}
use Rattle.sewing.specs.Refused.{IsMergeFault, IsSewFault}
use Rattle.sewing.specs.declared.fault.SewFault.{SewFault}
use Rattle.sewing.specs.declared.fault.SewFault.TheVariants as sew_faults
use Rattle.sewing.specs.declared.member.Member.{Member}
use Rattle.script_text.specs.declared.command.SignedName.{SignedName}
use Rattle.shape_pool.specs.declared.node.NodeId.{NodeId}
use Rattle.shape_pool.specs.Rows.{Row}
use Rattle.script_requests.specs.declared.fault.AskFault.{AskFault}
use Rattle.script_requests.specs.declared.fault.AskFault.TheVariants as ask
use Rattle.script_requests.specs.declared.version.Version.{Version}
use Rattle.script_requests.specs.Named.{AreNamed}
use Rattle.script_requests.specs.Numbered.{fault_by, members_under, CanBeMerged, FailsFirst, IsOfOtherKind, JoinsAll}
use Rattle.script_requests.specs.Numbered.{MergeFails, OrWants, SewFails}
use Rattle.script_requests.proofs.JoinLaws.{forward, members-joined}

-- the fault of a call that gives a fault on
pub given-on : {X : Type 0} (P : AskFault → Type 0) (r : Result X AskFault) (e : AskFault) →
    IsErrAnd r (λ z. z ≡ e) → P e → IfErr r P
given-on P (Ok x) e wrong h = absurd wrong
given-on P (Err z) e is h = subst P (sym is) h

module _ (rows : List Row) (vs : List Version) where
  -- ---- one name
  fails-one : (n : SignedName) (ids : List NodeId) (id : NodeId) (Right Amiss : Member → Type 0) →
      AreNamed rows vs n.name ids → Contains ids id → Amiss (record { id = id; turn = n.turn }) →
      FailsFirst rows vs (n ∷ []) n Right Amiss
  fails-one n ids id Right Amiss named m amiss = record {
    before = [];
    after = [];
    stands = refl;
    members = [];
    named = refl;
    right = All-none Right;
    ids = ids;
    own = named;
    id = id;
    contains = m;
    amiss = amiss;
  }

  fails-member : (n : SignedName) (ids : List NodeId) (place : ℕ) (Right Amiss : Member → Type 0) →
      AreNamed rows vs n.name ids → IsFirstAmiss Right Amiss (members_under n ids) place →
      FailsFirst rows vs (n ∷ []) n Right Amiss
  fails-member n ids place Right Amiss named h =
      let one : NodeId → Member = λ i. record { id = i; turn = n.turn } in
      let m = at_place (members_under n ids) place h.within in
      let from = Contains-map_cases one m.0 ids (Contains-at (members_under n ids) place m.0 m.1) in
      fails-one n ids from.0 Right Amiss named from.1
      (subst (λ (z : Member). Amiss z) (sym from.2) (h.is_amiss m.0 m.1))

  pub merge-fault : (line own name : ℕ) (first : NodeId) (ids : List NodeId) (fault : SewFault) →
      AreNamed rows vs name ids → IsMergeFault rows first ids fault →
      OrWants (MergeFails rows vs line first own (forward name ∷ [])) (fault_by line own name fault)
  merge-fault line own name first ids (sew_faults.KindMismatch place) named h =
      let i = at_place ids place h.within in (
        forward name,
        fails-one (forward name) ids i.0 (CanBeMerged rows first) (IsOfOtherKind rows first) named
            (Contains-at ids place i.0 i.1) (h.is_amiss i.0 i.1),
        refl,
      )
  merge-fault line own name first ids sew_faults.NotEdge named h = absurd h
  merge-fault line own name first ids (sew_faults.EndsDiffer place) named h = absurd h
  merge-fault line own name first ids sew_faults.NoMemory named h = tt

  pub sew-fault : (line own : ℕ) (n : SignedName) (first : NodeId) (ids : List NodeId) (fault : SewFault) →
      AreNamed rows vs n.name ids → IsSewFault rows first (members_under n ids) fault →
      OrWants (SewFails rows vs line first own (n ∷ [])) (fault_by line own n.name fault)
  sew-fault line own n first ids (sew_faults.KindMismatch place) named h =
      inr (h.0, n, inl (fails-member n ids place (CanBeSewn rows first) (IsNoEdge rows first) named h.1, refl))
  sew-fault line own n first ids sew_faults.NotEdge named h = inl (h, refl)
  sew-fault line own n first ids (sew_faults.EndsDiffer place) named h =
      inr (h.0, n, inr (fails-member n ids place (CanBeSewn rows first) (HasOtherEnds rows first) named h.1, refl))
  sew-fault line own n first ids sew_faults.NoMemory named h = tt

  -- ---- the first of several names
  fails-at : (further : List SignedName) (at : ℕ) (n m : SignedName) (first : NodeId) (asked : List Request)
      (Right Amiss : Member → Type 0) → slice_get further at ≡ Some n →
      JoinsAll rows vs Right first (take at further) asked → FailsFirst rows vs (n ∷ []) m Right Amiss →
      FailsFirst rows vs further m Right Amiss
  fails-at further at n m first asked Right Amiss e h k =
      let a = take at further in
      let c = drop (at + 1) further in record {
        before = a ++ k.before;
        after = k.after ++ c;
        stands =
            split-at further at n e
            ∙ ap (λ l. a ++ l) (ap (λ l. l ++ c) k.stands ∙ append_assoc k.before (m ∷ k.after) c)
            ∙ sym (append_assoc a k.before (m ∷ k.after ++ c));
        members = h.members ++ k.members;
        named = members-joined rows vs a k.before h.members k.members h.named k.named;
        right = All-append Right h.members k.members h.fit k.right;
        ids = k.ids;
        own = k.own;
        id = k.id;
        contains = k.contains;
        amiss = k.amiss;
      }

  pub merge-fails : (line own : ℕ) (further : List SignedName) (at : ℕ) (n : SignedName) (first : NodeId)
      (asked : List Request) (fault : AskFault) → slice_get further at ≡ Some n →
      JoinsAll rows vs (CanBeMerged rows first) first (take at further) asked →
      OrWants (MergeFails rows vs line first own (n ∷ [])) fault →
      OrWants (MergeFails rows vs line first own further) fault
  merge-fails line own further at n first asked (ask.Script fault) e h k = (
    k.0,
    fails-at further at n k.0 first asked (CanBeMerged rows first) (IsOfOtherKind rows first) e h k.1,
    k.2,
  )
  merge-fails line own further at n first asked ask.NoMemory e h k = tt

  pub sew-fails : (line own : ℕ) (further : List SignedName) (at : ℕ) (n : SignedName) (first : NodeId)
      (asked : List Request) (fault : AskFault) → slice_get further at ≡ Some n →
      JoinsAll rows vs (CanBeSewn rows first) first (take at further) asked →
      OrWants (SewFails rows vs line first own (n ∷ [])) fault →
      OrWants (SewFails rows vs line first own further) fault
  sew-fails line own further at n first asked (ask.Script fault) e h (inl k) = inl k
  sew-fails line own further at n first asked (ask.Script fault) e h (inr (edge, m, inl k)) =
      inr (
        edge,
        m,
        inl (fails-at further at n m first asked (CanBeSewn rows first) (IsNoEdge rows first) e h k.0, k.1),
      )
  sew-fails line own further at n first asked (ask.Script fault) e h (inr (edge, m, inr k)) =
      inr (
        edge,
        m,
        inr (fails-at further at n m first asked (CanBeSewn rows first) (HasOtherEnds rows first) e h k.0, k.1),
      )
  sew-fails line own further at n first asked ask.NoMemory e h k = tt
