-- The members of further names as trees under their turns.
use Rattle.std.proofs.Common.{◌≡◌, ◌<◌, ◌∙◌, refl, sym, ap, subst, inl, inr, length, map}
use Rattle.std.specs.Prelude.{List, [], ◌∷◌, ◌++◌, All, Contains, Bool, true, false, if◌then◌else◌}
use Rattle.std.proofs.lemmas.List.{map-append}
use Rattle.std.proofs.lemmas.List.Elements.{All-append, All-contains, Contains-append_cases}
use Rattle.std.proofs.lemmas.List.Elements.{Contains-append_left, Contains-append_right}
use Rattle.lists.proofs.Each.{All-from_members}
use Rattle.lists.proofs.Entries.{All-from, All-none}
use Rattle.lists.proofs.Members.{Contains-cases, Contains-here, Contains-map, Contains-map_cases, Contains-none}
use Rattle.lists.proofs.Members.{Contains-there}
use Rattle.location_words.specs.declared.pair.Pair.{Pair}
use Rattle.expansion_laws.specs.Expansion.{IsNumberOf}
use Rattle.expansion_laws.specs.Trees.{Tree}
use Rattle.requests.specs.declared.request.Request.{Request}
use Rattle.script_text.specs.declared.command.SignedName.{SignedName}
use Rattle.sewing.specs.Asked.{asked_of, exchange, is_first, sewing}
use Rattle.sewing.specs.AsTrees.{turned_at, TurnedTree}
use Rattle.sewing.specs.declared.member.Member.{Member}
use Rattle.shape_pool.specs.declared.node.NodeId.{NodeId}
use Rattle.shape_pool.specs.Laws.{word_in, IsSound}
use Rattle.shape_pool.specs.Rows.{Row}
use Rattle.step_history.specs.Composition.{Done}
use Rattle.step_history.specs.Numbered.{tree_by}
use Rattle.brep_file.specs.declared.file.File.{File}
use Rattle.script_requests.specs.declared.version.Version.{Version}
use Rattle.script_requests.specs.AsTrees.{IsReached}
use Rattle.script_requests.specs.Asking.{under, AreMembersOf}
use Rattle.script_requests.specs.Named.{AreNamed}
use Rattle.script_requests.specs.Numbered.{members_under, AreAllMembers, FailsFirst}
use Rattle.script_requests.specs.Refusals.{AllRight, IsFirstAmiss}
use Rattle.script_requests.proofs.AskLaws.{held, trees}

-- ---- the requests of members
chosen : (P : Request → Type 0) (b : Bool) (q : Request) → P q → All P (if b then [] else q ∷ [])
chosen P true q h = All-none P
chosen P false q h = All-from P q [] h (All-none P)

pub all-asked : (P : Request → Type 0) (first : NodeId) (members : List Member) →
    ((m : Member) → Contains members m → P (exchange first m.turn m.id)) → All P (sewing first members)
all-asked P first [] h = All-none P
all-asked P first (m ∷ ms) h =
    All-append P (asked_of first m.turn m.id) (sewing first ms)
    (chosen P (is_first first m.turn m.id) (exchange first m.turn m.id) (h m (Contains-here m ms)))
    (all-asked P first ms (λ z k. h z (Contains-there m z ms k)))

-- ---- a name with its nodes among members
record HasMembers (rows : List Row) (vs : List Version) (members : List Member) (n : SignedName) : Type 0 where
  pub ids : List NodeId
  pub named : AreNamed rows vs n.name ids
  pub all : (i : NodeId) → Contains ids i → Contains members (record { id = i; turn = n.turn })

has-members : (rows : List Row) (vs : List Version) (further : List SignedName) (members : List Member) →
    AreAllMembers rows vs further members → (n : SignedName) → Contains further n → HasMembers rows vs members n
has-members rows vs [] members a n k = absurd (Contains-none n k)
has-members rows vs (m ∷ ms) members a n k =
    let own = a.0 in
    let rest = a.1 in elim (Contains-cases m n ms k) [
      | inl e ↦ subst (λ z. HasMembers rows vs members z) e (record {
        ids = a.2.0;
        named = a.2.1;
        all =
            λ i c.
            let one : Member = record { id = i; turn = m.turn } in
            subst (λ l. Contains l one) (sym a.4) (Contains-append_left own rest one
            (subst (λ l. Contains l one) (sym a.2.2)
            (Contains-map (λ (j : NodeId). record { id = j; turn = m.turn }) i a.2.0 c)));
      })
      | inr h ↦ (
          let others = has-members rows vs ms rest a.3 n h in record {
            ids = others.ids;
            named = others.named;
            all =
                λ i c.
                let one : Member = record { id = i; turn = n.turn } in
                subst (λ l. Contains l one) (sym a.4) (Contains-append_right own rest one (others.all i c));
          })
    ]

module _ (rows : List Row) (sound : IsSound rows) (f : File) (words : List (List Pair)) (vs : List Version)
    (ds : List Done) (r : IsReached f words rows vs ds) where
  abbrev tree : NodeId → Tree
  tree = tree_by (word_in words) rows

  -- a member as a tree under its turn
  abbrev pub turned : Member → TurnedTree
  turned m = turned_at (word_in words) rows m.turn m.id.0

  -- all names are numbers of records
  abbrev pub AreNumbers : List SignedName → Type 0
  AreNumbers further = (n : SignedName) → Contains further n → IsNumberOf (length f.records) n.name

  under-are : (n : SignedName) (ids : List NodeId) → map turned (members_under n ids) ≡ under n (map tree ids)
  under-are n [] = refl
  under-are n (i ∷ ids) = ap (λ l. record { turn = n.turn; tree = tree i } ∷ l) (under-are n ids)

  pub members-are : (further : List SignedName) (members : List Member) → AreNumbers further →
      AreAllMembers rows vs further members → AreMembersOf f ds further (map turned members)
  members-are [] members num a = ap (map turned) a
  members-are (n ∷ ns) members num a = (
    map tree a.2.0,
    map turned a.1,
    trees rows sound f words vs ds r n.name (num n (Contains-here n ns)) a.2.0 a.2.1,
    members-are ns a.1 (λ m k. num m (Contains-there n m ns k)) a.3,
    ap (map turned) a.4
        ∙ map-append turned a.0 a.1
        ∙ ap (λ l. l ++ map turned a.1) (ap (map turned) a.2.2 ∙ under-are n a.2.0),
  )

  pub members-held : (further : List SignedName) (members : List Member) → AreNumbers further →
      AreAllMembers rows vs further members → (m : Member) → Contains members m → m.id.0 < length rows
  members-held [] members num a m k = absurd (Contains-none m (subst (λ l. Contains l m) a k))
  members-held (n ∷ ns) members num a m k =
      elim (Contains-append_cases a.0 a.1 m (subst (λ l. Contains l m) a.4 k)) [
        | inl h ↦ (
            let one : NodeId → Member = λ i. record { id = i; turn = n.turn } in
            let from = Contains-map_cases one m a.2.0 (subst (λ l. Contains l m) a.2.2 h) in
            subst (λ (z : Member). z.id.0 < length rows) from.2
            (held rows sound f words vs ds r n.name (num n (Contains-here n ns)) a.2.0 a.2.1 from.0 from.1))
        | inr h ↦ members-held ns a.1 (λ z j. num z (Contains-there n z ns j)) a.3 m h
      ]

  -- what is so of members is so of the trees of their names
  pub right-trees : (Right : Member → Type 0) (RightTree : TurnedTree → Type 0) →
      ((m : Member) → m.id.0 < length rows → Right m → RightTree (turned m)) → (further : List SignedName)
      (members : List Member) → AreNumbers further → AreAllMembers rows vs further members → All Right members →
      (n : SignedName) → Contains further n → AllRight f ds RightTree n
  right-trees Right RightTree lift further members num a fit n k x s =
      let h = has-members rows vs further members a n k in
      let number = num n k in
      let listed = ((trees rows sound f words vs ds r n.name number h.ids h.named).1 x).0 s in
      let from = Contains-map_cases tree x h.ids listed in
      let m : Member = record { id = from.0; turn = n.turn } in
      subst (λ y. RightTree (record { turn = n.turn; tree = y })) from.2
      (lift m (held rows sound f words vs ds r n.name number h.ids h.named from.0 from.1)
      (All-contains Right members m fit (h.all from.0 from.1)))

  -- and what is amiss with a node of a name is so with its tree
  pub first-amiss : (Right Amiss : Member → Type 0) (RightTree AmissTree : TurnedTree → Type 0) →
      ((m : Member) → m.id.0 < length rows → Right m → RightTree (turned m)) →
      ((m : Member) → m.id.0 < length rows → Amiss m → AmissTree (turned m)) → (further : List SignedName) →
      AreNumbers further → (n : SignedName) → FailsFirst rows vs further n Right Amiss →
      IsFirstAmiss f ds RightTree AmissTree further n
  first-amiss Right Amiss RightTree AmissTree right amiss further num n h =
      let within : Contains further n =
      subst (λ l. Contains l n) (sym h.stands)
      (Contains-append_right h.before (n ∷ h.after) n (Contains-here n h.after)) in
      let earlier : AreNumbers h.before =
      λ z k. num z (subst (λ l. Contains l z) (sym h.stands) (Contains-append_left h.before (n ∷ h.after) z k)) in
      let number = num n within in
      let own_held = held rows sound f words vs ds r n.name number h.ids h.own h.id h.contains in record {
        before = h.before;
        after = h.after;
        stands = h.stands;
        right =
            All-from_members (AllRight f ds RightTree) h.before
            (λ z k. right-trees Right RightTree right h.before h.members earlier h.named h.right z k);
        tree = tree h.id;
        of_name =
            ((trees rows sound f words vs ds r n.name number h.ids h.own).1 (tree h.id)).1
            (Contains-map tree h.id h.ids h.contains);
        amiss = amiss (record { id = h.id; turn = n.turn }) own_held h.amiss;
      }
