-- The nodes of names are held.
use Rattle.std.proofs.Common.{◌<◌, inl, inr, sym, subst, ℕ, length}
use Rattle.std.specs.Prelude.{List, [], ◌∷◌, All, Contains, reverse}
use Rattle.std.proofs.lemmas.List.Elements.{All-contains}
use Rattle.lists.proofs.Each.{All-from_members}
use Rattle.lists.proofs.Members.{Contains-here, Contains-map_cases, Contains-reversed}
use Rattle.script_text.specs.declared.command.SignedName.{SignedName}
use Rattle.sewing.specs.declared.member.Member.{Member}
use Rattle.shape_pool.specs.declared.node.NodeId.{NodeId}
use Rattle.shape_pool.specs.Rows.{Row}
use Rattle.script_requests.specs.declared.version.Version.{Version}
use Rattle.script_requests.specs.Named.{AreNamed, AreVersionsHeld, IsNamed, IsVersionHeld}
use Rattle.script_requests.specs.Numbered.{members_under, AreMembersNamed}

held-of-name : (rows : List Row) (vs : List Version) → ((v : Version) → Contains vs v → IsVersionHeld rows v) →
    (name : ℕ) (i : NodeId) → IsNamed rows vs name i → i.0 < length rows
held-of-name rows [] h name i n = n.1.0
held-of-name rows (v ∷ vs) h name i (inl n) =
    (All-contains (λ (p : NodeId × NodeId). (p.0.0 < length rows) × (p.1.0 < length rows)) v.images (n.0, i)
    (h v (Contains-here v vs)).held n.2).1
held-of-name rows (v ∷ vs) h name i (inr n) = n.1.1.0

module _ (rows : List Row) (versions : List Version) (held : AreVersionsHeld rows versions) (name : ℕ)
    (ids : List NodeId) (named : AreNamed rows (reverse versions) name ids) where
  pub held-of : (i : NodeId) → Contains ids i → i.0 < length rows
  held-of i m =
      held-of-name rows (reverse versions)
      (λ v k. All-contains (IsVersionHeld rows) versions v held (Contains-reversed v versions k)) name i
      ((named.each i).0 m)

  pub all-held : All (λ (i : NodeId). i.0 < length rows) ids
  all-held = All-from_members (λ (i : NodeId). i.0 < length rows) ids held-of

pub one-held : (rows : List Row) (versions : List Version) → AreVersionsHeld rows versions → (name : ℕ) (i : NodeId) →
    AreNamed rows (reverse versions) name (i ∷ []) → i.0 < length rows
one-held rows versions held name i named = held-of rows versions held name (i ∷ []) named i (Contains-here i [])

pub members-held-by : (rows : List Row) (versions : List Version) → AreVersionsHeld rows versions → (n : SignedName)
    (members : List Member) → AreMembersNamed rows (reverse versions) n members →
    All (λ (m : Member). m.id.0 < length rows) members
members-held-by rows versions held n members a =
    let one : NodeId → Member = λ i. record { id = i; turn = n.turn } in
    subst (λ l. All (λ (m : Member). m.id.0 < length rows) l) (sym a.2)
    (All-from_members (λ (m : Member). m.id.0 < length rows) (members_under n a.0)
    (λ m k.
    let from = Contains-map_cases one m a.0 k in
    subst (λ (z : Member). z.id.0 < length rows) from.2
    (held-of rows versions held n.name a.0 a.1 from.0 from.1)))
