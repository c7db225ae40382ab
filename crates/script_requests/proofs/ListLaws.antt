-- What merge and sew ask by numbers, and why they are refused, stands for what it is of trees.
use Rattle.std.proofs.Common.{◌≡◌, ◌≢◌, ◌<◌, ◌∙◌, sym, ap, subst, inl, inr, ℕ, length, map}
use Rattle.std.specs.Prelude.{List, [], ◌∷◌, ◌++◌, All, Contains, Some, unwrap_or}
use Rattle.std.proofs.lemmas.List.Elements.{All-contains, Contains-append_right}
use Rattle.std.proofs.lemmas.Option.{slice_get_within}
use Rattle.lists.proofs.Each.{each-contains, All-from_members}
use Rattle.lists.proofs.Members.{Contains-here, Contains-map, Contains-map_cases}
use Rattle.lists.proofs.Places.{at_place}
use Rattle.location_words.specs.declared.pair.Pair.{Pair}
use Rattle.location_words.specs.Tables.{IsTable}
use Rattle.expansion_laws.specs.Ends.{HaveEqualEnds}
use Rattle.expansion_laws.specs.Expansion.{IsNumberOf}
use Rattle.expansion_laws.specs.Keeping.{ResultsHaveTheKind}
use Rattle.expansion_laws.specs.Steps.{Step}
use Rattle.expansion_laws.specs.Trees.{Tree}
use Rattle.requests.specs.declared.request.Request.{Request}
use Rattle.requests.specs.Numbered.{ActFits, AreHeldIn, IsHeldIn}
use Rattle.requests.specs.Readings.{requests_by}
use Rattle.script_text.specs.declared.command.Command.TheVariants as commands
use Rattle.script_text.specs.declared.command.SignedName.{SignedName}
use Rattle.script_text.specs.Writing.{name_of, AreShapes, IsShape}
use Rattle.sewing.specs.Asked.{HaveSameEnds}
use Rattle.sewing.specs.AsTrees.{IsWordReading, StandsForTrees, TurnedTree}
use Rattle.sewing.specs.Refused.{CanBeSewn, HasOtherEnds as HasOtherEndsAt, IsEdge as IsEdgeAt, IsNoEdge as IsNoEdgeAt}
use Rattle.sewing.specs.declared.member.Member.{Member}
use Rattle.shape_pool.specs.declared.node.NodeId.{NodeId}
use Rattle.shape_pool.specs.Laws.{word_in, IsSound, TellsBelow}
use Rattle.shape_pool.specs.Rows.{Row, kind_at}
use Rattle.step_history.specs.Composition.{Done}
use Rattle.step_history.specs.Numbered.{tree_by}
use Rattle.brep_file.specs.declared.file.File.{File}
use Rattle.script_requests.specs.declared.fault.ScriptFault.{ScriptFault}
use Rattle.script_requests.specs.declared.version.Version.{Version}
use Rattle.script_requests.specs.AsTrees.{AreAskedBy, IsOfFile, IsReached, IsRight, IsWorded}
use Rattle.script_requests.specs.Asking.{under_no_sign, AsksToJoin, CanMerge, CanSew, IsEdge}
use Rattle.script_requests.specs.Kinds.{kind_of}
use Rattle.script_requests.specs.Named.{AreNamed}
use Rattle.script_requests.specs.Names.{IsTreeOf, StandsFor}
use Rattle.script_requests.specs.Numbered.{CanBeMerged, IsOfOtherKind, JoinsAll, MergesNames, SewsNames}
use Rattle.script_requests.specs.Numbered.{IsMergeRefused, IsSewRefused}
use Rattle.script_requests.specs.Refusals.{AllRight, IsAmiss}
use Rattle.script_requests.proofs.AskLaws.{all-mapped, held, many, not-many, same-tree, trees}
use Rattle.script_requests.proofs.JoinLaws.{forward}
use Rattle.script_requests.proofs.MemberTrees.{all-asked, first-amiss, members-are, members-held, right-trees, turned}
use Rattle.script_requests.proofs.MemberTrees.{AreNumbers}
use Rattle.script_requests.proofs.StandLaws.{one-kind, tree-kind}

-- ---- a table reads words
table-tells : (table : List (List Pair)) → IsTable table → TellsBelow (length table) (word_in table)
table-tells table t a b la lb e =
    let v = at_place table a la in
    let w = at_place table b lb in
    let same : v.0 ≡ w.0 = sym (ap (λ o. unwrap_or o []) v.1) ∙ e ∙ ap (λ o. unwrap_or o []) w.1 in
    t.distinct a b v.0 v.1 (w.1 ∙ ap Some (sym same))

-- ---- the names of a line are numbers of records
module _ (shapes : ℕ) where
  numbers-of-merge : (name : ℕ) (names : List ℕ) → AreShapes shapes (name ∷ names) → (n : SignedName) →
      Contains (under_no_sign names) n → IsNumberOf shapes n.name
  numbers-of-merge name names o n k =
      let from = Contains-map_cases forward n names k in
      subst (λ (z : SignedName). IsNumberOf shapes z.name) from.2
      (each-contains (IsShape shapes) names from.0 o.are_shapes.1 from.1)

  numbers-of-sew : (n : SignedName) (ns : List SignedName) → AreShapes shapes (map name_of (n ∷ ns)) →
      (m : SignedName) → Contains ns m → IsNumberOf shapes m.name
  numbers-of-sew n ns o m k =
      each-contains (IsShape shapes) (map name_of ns) m.name o.are_shapes.1 (Contains-map name_of m ns k)

stands-in : (further : List SignedName) (n : SignedName) (before after : List SignedName) →
    further ≡ before ++ n ∷ after → Contains further n
stands-in further n before after e =
    subst (λ l. Contains l n) (sym e) (Contains-append_right before (n ∷ after) n (Contains-here n after))

module _ (rows : List Row) (sound : IsSound rows) (f : File) (words : List (List Pair)) (vs : List Version)
    (ds : List Done) (r : IsReached f words rows vs ds) (st : StandsForTrees rows) where
  abbrev tree : NodeId → Tree
  tree = tree_by (word_in words) rows

  abbrev tree_of : Member → TurnedTree
  tree_of = turned rows sound f words vs ds r

  abbrev Numbers : List SignedName → Type 0
  Numbers = AreNumbers rows sound f words vs ds r

  reading : IsWordReading rows (word_in words) (length words)
  reading = record {
    placed = r.loaded.places;
    told = table-tells words r.loaded.table;
    identity = ap (λ o. unwrap_or o []) r.loaded.table.identity;
  }

  kind-is : (i : NodeId) → i.0 < length rows → kind_of f (tree i) ≡ kind_at rows i.0
  kind-is i lt = tree-kind rows sound f words r.kinds i lt

  -- ---- joining
  module _ (name : ℕ) (number : IsNumberOf (length f.records) name) (first : NodeId)
      (is_first : AreNamed rows vs name (first ∷ [])) where
    first-held : first.0 < length rows
    first-held = held rows sound f words vs ds r name number (first ∷ []) is_first first (Contains-here first [])

    first-tree : IsTreeOf f ds name (tree first)
    first-tree = trees rows sound f words vs ds r name number (first ∷ []) is_first

    same-first : (x : Tree) → IsTreeOf f ds name x → tree first ≡ x
    same-first x t =
        same-tree rows sound f words vs ds r name (tree first) x first-tree ((t.1 x).1 (Contains-here x []))

    asks-to-join : (Can : Member → Type 0) (CanTree : Tree → TurnedTree → Type 0) →
        ((m : Member) → m.id.0 < length rows → Can m → CanTree (tree first) (tree_of m)) → (further : List SignedName) →
        Numbers further → (asked : List Request) → JoinsAll rows vs Can first further asked →
        AsksToJoin f ds CanTree name further (requests_by (word_in words) rows asked)
    asks-to-join Can CanTree lift further num asked j =
        let member_held = members-held rows sound f words vs ds r further j.members num j.named in (
          tree first,
          map tree_of j.members,
          first-tree,
          members-are rows sound f words vs ds r further j.members num j.named,
          all-mapped (CanTree (tree first)) tree_of j.members
              (λ m k. lift m (member_held m k) (All-contains Can j.members m j.fit k)),
          ap (requests_by (word_in words) rows) j.are
              ∙ st.sews (word_in words) (length words) first j.members reading first-held
              (All-from_members (λ (m : Member). m.id.0 < length rows) j.members member_held),
        )

    -- requests that join nodes of one kind are held, worded and fit
    pub record AreJoined (asked : List Request) : Type 0 where
      pub held : AreHeldIn rows asked
      pub worded : All (IsWorded (length words)) asked
      pub fit : All (λ (q : Request). ActFits rows q.source.0 q.act) asked

    are-joined : (Can : Member → Type 0) → ((m : Member) → Can m → kind_at rows m.id.0 ≡ kind_at rows first.0) →
        (further : List SignedName) → Numbers further → (asked : List Request) →
        JoinsAll rows vs Can first further asked → AreJoined asked
    are-joined Can same further num asked j =
        let member_held = members-held rows sound f words vs ds r further j.members num j.named in
        subst AreJoined (sym j.are) (record {
          held = all-asked (λ (q : Request). IsHeldIn rows q) first j.members (λ m k. (member_held m k, first-held));
          worded =
              all-asked (λ (q : Request). IsWorded (length words) q) first j.members
              (λ m k. (tt, slice_get_within words 0 [] r.loaded.table.identity));
          fit =
              all-asked (λ (q : Request). ActFits rows q.source.0 q.act) first j.members
              (λ m k. inl (sym (same m (All-contains Can j.members m j.fit k))));
        })

    -- ---- merging
    merge-right : (m : Member) → m.id.0 < length rows → CanBeMerged rows first m →
        CanMerge f ds (tree first) (tree_of m)
    merge-right m lt h = kind-is m.id lt ∙ h ∙ sym (kind-is first first-held)

    merge-amiss : (m : Member) → m.id.0 < length rows → IsOfOtherKind rows first m →
        kind_of f (tree_of m).tree ≢ kind_of f (tree first)
    merge-amiss m lt h e = h (sym (kind-is m.id lt) ∙ e ∙ kind-is first first-held)

    -- ---- sewing
    ends-are : (m : Member) → m.id.0 < length rows → HaveSameEnds rows first.0 m.turn m.id.0 →
        HaveEqualEnds (tree first) m.turn (tree m.id)
    ends-are m lt h = (st.ends (word_in words) (length words) first.0 m.id.0 m.turn reading first-held lt).0 h

    sew-right : (m : Member) → m.id.0 < length rows → CanBeSewn rows first m → CanSew f ds (tree first) (tree_of m)
    sew-right m lt h = (kind-is m.id lt ∙ h.edge, ends-are m lt h.ends)

    no-edge : (m : Member) → m.id.0 < length rows → IsNoEdgeAt rows first m → IsEdge f ds (tree_of m).tree → ⊥
    no-edge m lt h e = h (sym (kind-is m.id lt) ∙ e)

    other-ends : (m : Member) → m.id.0 < length rows → HasOtherEndsAt rows first m →
        HaveEqualEnds (tree first) m.turn (tree m.id) → ⊥
    other-ends m lt h e =
        h.ends ((st.ends (word_in words) (length words) first.0 m.id.0 m.turn reading first-held lt).1 e)

    first-edge : IsEdgeAt rows first → IsEdge f ds (tree first)
    first-edge e = kind-is first first-held ∙ e

  -- ---- merge
  pub merges : (names : List ℕ) (line : ℕ) (asked : List Request) → IsOfFile f (commands.Merge names) →
      MergesNames rows vs names asked →
      AreAskedBy f words rows ds (commands.Merge names) asked × IsRight f ds line (commands.Merge names)
  merges [] line asked o a = absurd a
  merges (name ∷ names) line asked o a =
      let number = o.are_shapes.0 in
      let further = under_no_sign names in
      let num : Numbers further = numbers-of-merge (length f.records) name names o in
      let first = a.first in
      let right = merge-right name number first a.is_first in
      let are = are-joined name number first a.is_first (CanBeMerged rows first) (λ m h. h) further num asked a.joins in
      let all : (n : SignedName) → Contains further n → AllRight f ds (CanMerge f ds (tree first)) n =
      right-trees rows sound f words vs ds r (CanBeMerged rows first) (CanMerge f ds (tree first)) right further
      a.joins.members num a.joins.named a.joins.fit in (
        record {
          asks =
              asks-to-join name number first a.is_first (CanBeMerged rows first) (CanMerge f ds) right further num asked
              a.joins;
          held = are.held;
          worded = are.worded;
          fit = are.fit;
        },
        (λ fault h. elim h [
          | inl k ↦ not-many rows sound f words vs ds r name line fault (tree first)
              (first-tree name number first a.is_first) k
          | inr k ↦ (
              let same = same-first name number first a.is_first k.0 k.2 in
              let within = k.3 in
              within.amiss
              (subst (λ y. CanMerge f ds y (record { turn = k.1.turn; tree = within.tree })) same
              (all k.1 (stands-in further k.1 within.before within.after within.stands) within.tree within.of_name)))
        ]),
      )

  pub merge-faults : (names : List ℕ) (line : ℕ) (fault : ScriptFault) → IsOfFile f (commands.Merge names) →
      IsMergeRefused rows vs line names fault → IsAmiss f ds line (commands.Merge names) fault
  merge-faults [] line fault o a = absurd a
  merge-faults (name ∷ names) line fault o (inl k) =
      inl (many rows sound f words vs ds r name line fault o.are_shapes.0 k)
  merge-faults (name ∷ names) line fault o (inr k) =
      let number = o.are_shapes.0 in
      let first = k.0 in inr (
        tree first,
        k.2.0,
        first-tree name number first k.1,
        first-amiss rows sound f words vs ds r (CanBeMerged rows first) (IsOfOtherKind rows first)
            (CanMerge f ds (tree first)) (λ m. kind_of f m.tree ≢ kind_of f (tree first))
            (merge-right name number first k.1) (merge-amiss name number first k.1) (under_no_sign names)
            (numbers-of-merge (length f.records) name names o) k.2.0 k.2.1,
        k.2.2,
      )

  -- ---- sew
  pub sews : (names : List SignedName) (line : ℕ) (asked : List Request) → IsOfFile f (commands.Sew names) →
      SewsNames rows vs names asked →
      AreAskedBy f words rows ds (commands.Sew names) asked × IsRight f ds line (commands.Sew names)
  sews [] line asked o a = absurd a
  sews (n ∷ further) line asked o a =
      let number = o.0.are_shapes.0 in
      let num : Numbers further = numbers-of-sew (length f.records) n further o.0 in
      let first = a.first in
      let right = sew-right n.name number first a.is_first in
      let edge : IsEdge f ds (tree first) = first-edge n.name number first a.is_first a.edge in
      let same : (x : Tree) → IsTreeOf f ds n.name x → tree first ≡ x = same-first n.name number first a.is_first in
      let are =
      are-joined n.name number first a.is_first (CanBeSewn rows first) (λ m h. h.edge ∙ sym a.edge) further num asked
      a.joins in
      let all : (m : SignedName) → Contains further m → AllRight f ds (CanSew f ds (tree first)) m =
      right-trees rows sound f words vs ds r (CanBeSewn rows first) (CanSew f ds (tree first)) right further
      a.joins.members num a.joins.named a.joins.fit in (
        record {
          asks = (
            (λ x t. subst (λ y. IsEdge f ds y) (same x t) edge),
            asks-to-join n.name number first a.is_first (CanBeSewn rows first) (CanSew f ds) right further num asked
                a.joins,
          );
          held = are.held;
          worded = are.worded;
          fit = are.fit;
        },
        (λ fault h. elim h [
          | inl k ↦ not-many rows sound f words vs ds r n.name line fault (tree first)
              (first-tree n.name number first a.is_first) k
          | inr (inl k) ↦ k.2 (subst (λ y. IsEdge f ds y) (same k.0 k.1) edge)
          | inr (inr (inl k)) ↦ (
              let amiss = k.4 in
              amiss.amiss
              (all k.1 (stands-in further k.1 amiss.before amiss.after amiss.stands) amiss.tree amiss.of_name).0)
          | inr (inr (inr k)) ↦ (
              let amiss = k.5 in
              let within = stands-in further k.1 amiss.before amiss.after amiss.stands in
              let right_one = all k.1 within amiss.tree amiss.of_name in
              amiss.amiss (subst (λ y. HaveEqualEnds y k.1.turn amiss.tree) (same k.0 k.2) right_one.1))
        ]),
      )

  pub sew-faults : ((s : Step) → ResultsHaveTheKind s) → (names : List SignedName) (line : ℕ) (fault : ScriptFault) →
      IsOfFile f (commands.Sew names) → IsSewRefused rows vs line names fault →
      IsAmiss f ds line (commands.Sew names) fault
  sew-faults keep [] line fault o a = absurd a
  sew-faults keep (n ∷ further) line fault o (inl k) =
      inl (many rows sound f words vs ds r n.name line fault o.0.are_shapes.0 k)
  sew-faults keep (n ∷ further) line fault o (inr k) =
      let number = o.0.are_shapes.0 in
      let num : Numbers further = numbers-of-sew (length f.records) n further o.0 in
      let first = k.0 in
      let t = first-tree n.name number first k.1 in
      let right = sew-right n.name number first k.1 in elim k.2 [
        | inl h ↦ inr (inl (
          tree first,
          t,
          (λ e. h.0 (sym (kind-is first (first-held n.name number first k.1)) ∙ e)),
          h.1,
        ))
        | inr h ↦ (
            let edge = first-edge n.name number first k.1 h.0 in
            let m = h.1 in elim h.2 [
              | inl q ↦ inr (inr (inl (
                tree first,
                m,
                t,
                edge,
                first-amiss rows sound f words vs ds r (CanBeSewn rows first) (IsNoEdgeAt rows first)
                    (CanSew f ds (tree first)) (λ z. IsEdge f ds z.tree → ⊥) right
                    (no-edge n.name number first k.1) further
                    num m q.0,
                q.1,
              )))
              | inr q ↦ (
                  let within = stands-in further m q.0.before q.0.after q.0.stands in
                  let own_number = num m within in
                  let own_held =
                  held rows sound f words vs ds r m.name own_number q.0.ids q.0.own q.0.id q.0.contains in
                  let own_tree : StandsFor f ds m.name (tree q.0.id) =
                  ((trees rows sound f words vs ds r m.name own_number q.0.ids q.0.own).1 (tree q.0.id)).1
                  (Contains-map tree q.0.id q.0.ids q.0.contains) in
                  let own_edge : IsEdge f ds (tree q.0.id) = kind-is q.0.id own_held ∙ q.0.amiss.edge in
                  inr (inr (inr (
                    tree first,
                    m,
                    t,
                    edge,
                    (λ x s.
                        one-kind f words rows keep m.name vs ds r.images x (tree q.0.id) s own_tree ∙ own_edge),
                    first-amiss rows sound f words vs ds r (CanBeSewn rows first) (HasOtherEndsAt rows first)
                        (CanSew f ds (tree first)) (λ z. HaveEqualEnds (tree first) z.turn z.tree → ⊥) right
                        (other-ends n.name number first k.1) further num m q.0,
                    q.1,
                  ))))
            ])
      ]
