-- What is asked of further names, name by name.
use Rattle.std.proofs.Common.{◌≡◌, ◌≤◌, ◌∙◌, ◌+◌, refl, sym, ap, subst, ℕ, append_assoc, append-nil, take, length}
use Rattle.std.specs.Prelude.{List, [], ◌∷◌, ◌++◌, All, Some, slice_get}
use Rattle.std.proofs.lemmas.Grind.{flat_map-append}
use Rattle.std.proofs.lemmas.List.{take_all}
use Rattle.std.proofs.lemmas.List.Elements.{All-append, All-contains}
use Rattle.lists.proofs.Each.{All-from_members}
use Rattle.lists.proofs.Entries.{All-none}
use Rattle.lists.proofs.Members.{Contains-map_cases}
use Rattle.lists.proofs.Places.{take-at}
use Rattle.orientation.specs.declared.turn.Turn.TheVariants.{Forward}
use Rattle.requests.specs.declared.request.Request.{Request}
use Rattle.sewing.specs.Asked.{asked_of, merging, sewing}
use Rattle.sewing.specs.Refused.{HasItsKind}
use Rattle.sewing.specs.declared.member.Member.{Member}
use Rattle.script_text.specs.declared.command.SignedName.{SignedName}
use Rattle.shape_pool.specs.declared.node.NodeId.{NodeId}
use Rattle.shape_pool.specs.Rows.{Row}
use Rattle.script_requests.specs.declared.version.Version.{Version}
use Rattle.script_requests.specs.Named.{AreNamed}
use Rattle.script_requests.specs.Numbered.{members_under, AreAllMembers, CanBeMerged, JoinsAll}

-- ---- merging is sewing forward
abbrev pub forward : ℕ → SignedName
forward name = record { name = name; turn = Forward }

pub merged-as-sewn : (first : NodeId) (name : ℕ) (ids : List NodeId) →
    merging first ids ≡ sewing first (members_under (forward name) ids)
merged-as-sewn first name [] = refl
merged-as-sewn first name (i ∷ ids) = ap (λ l. asked_of first Forward i ++ l) (merged-as-sewn first name ids)

pub merged-fit : (rows : List Row) (first : NodeId) (name : ℕ) (ids : List NodeId) → All (HasItsKind rows first) ids →
    All (CanBeMerged rows first) (members_under (forward name) ids)
merged-fit rows first name ids h =
    let one : NodeId → Member = λ i. record { id = i; turn = Forward } in
    All-from_members (CanBeMerged rows first) (members_under (forward name) ids)
    (λ m k.
    let from = Contains-map_cases one m ids k in
    subst (λ (z : Member). CanBeMerged rows first z) from.2 (All-contains (HasItsKind rows first) ids from.0 h from.1))

-- ---- further names
module _ (rows : List Row) (vs : List Version) where
  pub members-joined : (a b : List SignedName) (xs ys : List Member) → AreAllMembers rows vs a xs →
      AreAllMembers rows vs b ys → AreAllMembers rows vs (a ++ b) (xs ++ ys)
  members-joined [] b xs ys p q = subst (λ l. AreAllMembers rows vs b (l ++ ys)) (sym p) q
  members-joined (n ∷ a) b xs ys p q = (
    p.0,
    p.1 ++ ys,
    p.2,
    members-joined a b p.1 ys p.3 q,
    ap (λ l. l ++ ys) p.4 ∙ append_assoc p.0 p.1 ys,
  )

  module _ (CanJoin : Member → Type 0) (first : NodeId) where
    pub joins-none : JoinsAll rows vs CanJoin first [] []
    joins-none = record { members = []; named = refl; fit = All-none CanJoin; are = refl }

    pub joins-one : (n : SignedName) (ids : List NodeId) (asked : List Request) → AreNamed rows vs n.name ids →
        All CanJoin (members_under n ids) → asked ≡ sewing first (members_under n ids) →
        JoinsAll rows vs CanJoin first (n ∷ []) asked
    joins-one n ids asked named fit are = record {
      members = members_under n ids;
      named = (members_under n ids, [], (ids, named, refl), refl, sym (append-nil (members_under n ids)));
      fit = fit;
      are = are;
    }

    joined : (a b : List SignedName) (old more : List Request) → JoinsAll rows vs CanJoin first a old →
        JoinsAll rows vs CanJoin first b more → JoinsAll rows vs CanJoin first (a ++ b) (old ++ more)
    joined a b old more h k = record {
      members = h.members ++ k.members;
      named = members-joined a b h.members k.members h.named k.named;
      fit = All-append CanJoin h.members k.members h.fit k.fit;
      are =
          ap (λ l. l ++ more) h.are
          ∙ ap (λ l. sewing first h.members ++ l) k.are
          ∙ sym (flat_map-append (λ (m : Member). asked_of first m.turn m.id) h.members k.members);
    }

    pub joins-step : (further : List SignedName) (at : ℕ) (n : SignedName) (old more new : List Request) →
        slice_get further at ≡ Some n → JoinsAll rows vs CanJoin first (take at further) old →
        JoinsAll rows vs CanJoin first (n ∷ []) more → new ≡ old ++ more →
        JoinsAll rows vs CanJoin first (take (at + 1) further) new
    joins-step further at n old more new e h k are =
        subst (λ l. JoinsAll rows vs CanJoin first l new) (sym (take-at further at n e))
        (subst (λ l. JoinsAll rows vs CanJoin first (take at further ++ n ∷ []) l) (sym are)
        (joined (take at further) (n ∷ []) old more h k))

    pub joins-all : (further : List SignedName) (at : ℕ) (asked : List Request) → length further ≤ at →
        JoinsAll rows vs CanJoin first (take at further) asked → JoinsAll rows vs CanJoin first further asked
    joins-all further at asked le h = subst (λ l. JoinsAll rows vs CanJoin first l asked) (take_all at further le) h
