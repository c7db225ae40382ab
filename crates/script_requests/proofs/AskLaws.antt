-- What replace and remove ask by numbers stands for what they ask of trees.
use Rattle.std.proofs.Common.{◌≡◌, ◌<◌, ◌∙◌, refl, sym, ap, subst, inl, inr, arith, ℕ, length, map}
use Rattle.std.specs.Prelude.{List, [], ◌∷◌, All, Contains, Option, None, Some, slice_get, unwrap_or}
use Rattle.std.specs.Option.{option_map}
use Rattle.std.proofs.lemmas.List.{length-map}
use Rattle.std.proofs.lemmas.List.Elements.{All-contains}
use Rattle.std.proofs.lemmas.Option.{slice_get_within}
use Rattle.lists.specs.Distinct.{Counts, ListsEachOnce}
use Rattle.lists.proofs.Distinct.{length-le_from_distinct}
use Rattle.lists.proofs.Entries.{All-from, All-none}
use Rattle.lists.proofs.Members.{Contains-cases, Contains-here, Contains-map, Contains-map_cases, Contains-none}
use Rattle.lists.proofs.Members.{Contains-there}
use Rattle.location_table.specs.Words.{word_of_place}
use Rattle.location_words.specs.declared.pair.Pair.{Pair}
use Rattle.location_words.specs.declared.table.WordId.{WordId}
use Rattle.expansion_laws.specs.Expansion.{IsNumberOf}
use Rattle.expansion_laws.specs.Requests.{Act as TreeAct, remove, replace}
use Rattle.expansion_laws.specs.Trees.{Tree, a_single}
use Rattle.expansion_laws.specs.Graph.{FitsBy}
use Rattle.requests.specs.declared.request.Act.{Act}
use Rattle.requests.specs.declared.request.Act.TheVariants.{Remove, Replace}
use Rattle.requests.specs.declared.request.Request.{Request}
use Rattle.requests.specs.Numbered.{ActFits, FitsAt, IsHeldIn}
use Rattle.requests.specs.Readings.{act_by, place_by, requests_by, FitsByTrees, IsPlaceBelow}
use Rattle.script_text.specs.declared.command.Command.TheVariants as commands
use Rattle.script_text.specs.declared.command.Sel.{Sel}
use Rattle.script_text.specs.declared.command.Tgt.{Tgt}
use Rattle.shape_pool.specs.declared.node.NodeId.{NodeId}
use Rattle.shape_pool.specs.declared.node.UseOf.{UseOf}
use Rattle.shape_pool.specs.Laws.{word_in, IsSound}
use Rattle.shape_pool.specs.Rows.{Row}
use Rattle.step_history.specs.Composition.{Done}
use Rattle.step_history.specs.Numbered.{tree_by}
use Rattle.brep_file.specs.declared.file.File.{File}
use Rattle.script_requests.specs.declared.fault.ScriptFault.{ScriptFault}
use Rattle.script_requests.specs.declared.version.Version.{Version}
use Rattle.script_requests.specs.AsTrees.{AreAskedBy, IsOfFile, IsReached, IsRight, IsWorded}
use Rattle.script_requests.specs.Asking.{request_for, target_use}
use Rattle.file_loading.specs.Loading.{kind_of_record}
use Rattle.script_requests.specs.Kinds.{kind_of}
use Rattle.script_requests.specs.Named.{AreNamed}
use Rattle.script_requests.specs.Names.{AreTreesOf, IsTreeOf, StandsFor}
use Rattle.script_requests.specs.Numbered.{a_request, AreRemoving, AreReplacing, IsPlaceOf, IsReplaceFault, NameMany}
use Rattle.script_requests.specs.Refusals.{IsAmiss, IsOfMany}
use Rattle.script_requests.proofs.StandLaws.{named-held, trees-of-name}

-- ---- lists of one thing
pub all-mapped : {X Y : Type 0} (P : Y → Type 0) (g : X → Y) (xs : List X) → ((x : X) → Contains xs x → P (g x)) →
    All P (map g xs)
all-mapped P g [] h = All-none P
all-mapped P g (x ∷ xs) h =
    All-from P (g x) (map g xs) (h x (Contains-here x xs)) (all-mapped P g xs (λ z m. h z (Contains-there x z xs m)))

only-one : {X : Type 0} (x y : X) → Contains (x ∷ []) y → x ≡ y
only-one x y m = elim (Contains-cases x y [] m) [ inl e ↦ e | inr k ↦ absurd (Contains-none y k) ]

-- a fact of one thing alone isn't one of so many others
pub count-is : {X : Type 0} (P : X → Type 0) (xs : List X) (n : ℕ) → ListsEachOnce xs P → Counts P n → n ≡ length xs
count-is P xs n l c =
    let a = length-le_from_distinct xs c.0 l.0 (λ x m. (c.1.1 x).0 ((l.1 x).1 m)) in
    let b = length-le_from_distinct c.0 xs c.1.0 (λ x m. (l.1 x).0 ((c.1.1 x).1 m)) in
    let e = c.2 in
    omega (arith, a, b, e)

module _ (rows : List Row) (sound : IsSound rows) (f : File) (words : List (List Pair)) (vs : List Version)
    (ds : List Done) (r : IsReached f words rows vs ds) where
  abbrev tree : NodeId → Tree
  tree = tree_by (word_in words) rows

  word-is : (id : WordId) (w : List Pair) → slice_get words id.0 ≡ Some w → word_in words id.0 ≡ w
  word-is id w e = ap (λ o. unwrap_or o []) e

  place-is : (place : Option ℕ) (id : Option WordId) → IsPlaceOf f words place id →
      place_by (word_in words) id ≡ option_map (word_of_place f.locations) place
  place-is None id e = ap (place_by (word_in words)) e
  place-is (Some l) id h = ap (place_by (word_in words)) h.1 ∙ ap Some (word-is h.0 (word_of_place f.locations l) h.2)

  place-below : (place : Option ℕ) (id : Option WordId) → IsPlaceOf f words place id → IsPlaceBelow (length words) id
  place-below None id e = subst (λ o. IsPlaceBelow (length words) o) (sym e) tt
  place-below (Some l) id h =
      subst (λ o. IsPlaceBelow (length words) o) (sym h.1)
      (slice_get_within words h.0.0 (word_of_place f.locations l) h.2)

  requests-are : (sel : Sel) (place : Option WordId) (act : Act) (tree_act : TreeAct) (ids : List NodeId) →
      IsPlaceOf f words sel.place place → act_by (word_in words) rows act ≡ tree_act →
      requests_by (word_in words) rows (map (a_request place sel.turn act) ids) ≡
      map (request_for f sel tree_act) (map tree ids)
  requests-are sel place act tree_act [] p a = refl
  requests-are sel place act tree_act (i ∷ ids) p a =
      let q = place-is sel.place place p in
      let rest = requests-are sel place act tree_act ids p a in
      (λ k. record { source = tree i; place = q k; turn = sel.turn; act = a k } ∷ rest k)

  pub held : (name : ℕ) → IsNumberOf (length f.records) name → (ids : List NodeId) → AreNamed rows vs name ids →
      (i : NodeId) → Contains ids i → i.0 < length rows
  held name number ids n i m =
      named-held rows sound f words r.loaded name number vs ds r.images i ((n.each i).0 m)

  pub trees : (name : ℕ) → IsNumberOf (length f.records) name → (ids : List NodeId) → AreNamed rows vs name ids →
      AreTreesOf f ds name (map tree ids)
  trees name number ids n = trees-of-name rows sound f words r.loaded name number vs ds ids r.images n

  pub removes : (sel : Sel) (asked : List Request) → IsOfFile f (commands.Remove sel) →
      AreRemoving f words rows vs sel asked → AreAskedBy f words rows ds (commands.Remove sel) asked
  removes sel asked o a =
      let ids = a.0 in
      let place = a.1 in
      let make = a_request place sel.turn Remove in
      subst (λ l. AreAskedBy f words rows ds (commands.Remove sel) l) (sym a.4) (record {
        asks = (map tree ids, trees sel.name o.0 ids a.2, requests-are sel place Remove remove ids a.3 refl);
        held = all-mapped (λ (q : Request). IsHeldIn rows q) make ids (λ i m. (held sel.name o.0 ids a.2 i m, tt));
        worded =
            all-mapped (λ (q : Request). IsWorded (length words) q) make ids
            (λ i m. (place-below sel.place place a.3, tt));
        fit = all-mapped (λ (q : Request). ActFits rows q.source.0 q.act) make ids (λ i m. tt);
      })

  pub many : (name line : ℕ) (fault : ScriptFault) → IsNumberOf (length f.records) name →
      NameMany rows vs line name fault → IsOfMany f ds line name fault
  many name line fault number h =
      let e = length-map h.0 tree in (
        length h.0,
        (map tree h.0, trees name number h.0 h.1, e),
        h.2,
        h.3,
      )

  pub not-many : (name line : ℕ) (fault : ScriptFault) (x : Tree) → IsTreeOf f ds name x →
      IsOfMany f ds line name fault → ⊥
  not-many name line fault x t h = h.2 (count-is (StandsFor f ds name) (x ∷ []) h.0 t h.1)

  pub same-tree : (name : ℕ) (x y : Tree) → IsTreeOf f ds name x → StandsFor f ds name y → x ≡ y
  same-tree name x y t s = only-one x y ((t.1 y).0 s)

  pub replaces : FitsByTrees rows → (sel : Sel) (tgt : Tgt) (line : ℕ) (asked : List Request) →
      IsOfFile f (commands.Replace sel tgt) → AreReplacing f words rows vs sel tgt asked →
      AreAskedBy f words rows ds (commands.Replace sel tgt) asked × IsRight f ds line (commands.Replace sel tgt)
  replaces fit sel tgt line asked o a =
      let ids = a.ids in
      let by : UseOf = record { turn = tgt.turn; place = a.word; id = a.target } in
      let make = a_request a.place sel.turn (Replace by) in
      let target = tree a.target in
      let is_target = trees tgt.name o.1.0 (a.target ∷ []) a.is_target in
      let target_held = held tgt.name o.1.0 (a.target ∷ []) a.is_target a.target (Contains-here a.target []) in
      let word = word-is a.word (word_of_place f.locations tgt.location) a.is_word in
      let own_held : (i : NodeId) → Contains ids i → i.0 < length rows =
      λ i m. held sel.name o.0.0 ids a.named i m in
      let own_fits : (i : NodeId) → Contains ids i → FitsAt rows i.0 a.target.0 =
      λ i m. All-contains (λ (j : NodeId). FitsAt rows j.0 a.target.0) ids i a.fits m in
      let word_below = slice_get_within words a.word.0 (word_of_place f.locations tgt.location) a.is_word in
      let fits : (i : NodeId) → Contains ids i → FitsBy (kind_of f) (tree i) target =
      λ i m.
      (fit (kind_of_record f) (word_in words) r.kinds i.0 (Replace by) (own_held i m) target_held).0 (own_fits i m) in (
        subst (λ l. AreAskedBy f words rows ds (commands.Replace sel tgt) l) (sym a.are) (record {
          asks = (
            target,
            map tree ids,
            is_target,
            trees sel.name o.0.0 ids a.named,
            all-mapped (λ x. FitsBy (kind_of f) x target) tree ids fits,
            requests-are sel a.place (Replace by) (replace (target_use f tgt target)) ids a.is_place
                (ap (λ w. replace (a_single tgt.turn w target)) word),
          );
          held = all-mapped (λ (q : Request). IsHeldIn rows q) make ids (λ i m. (own_held i m, target_held));
          worded =
              all-mapped (λ (q : Request). IsWorded (length words) q) make ids
              (λ i m. (place-below sel.place a.place a.is_place, word_below));
          fit = all-mapped (λ (q : Request). ActFits rows q.source.0 q.act) make ids own_fits;
        }),
        (λ fault h. elim h [
          | inl k ↦ not-many tgt.name line fault target is_target k
          | inr k ↦ (
              let t = same-tree tgt.name target k.0 is_target ((k.2.1 k.0).1 (Contains-here k.0 [])) in
              let from = Contains-map_cases tree k.1 ids (((trees sel.name o.0.0 ids a.named).1 k.1).0 k.3) in
              k.4 (subst (λ y. FitsBy (kind_of f) k.1 y) t
              (subst (λ x. FitsBy (kind_of f) x target) from.2 (fits from.0 from.1))))
        ]),
      )

  pub replace-faults : FitsByTrees rows → (sel : Sel) (tgt : Tgt) (line : ℕ) (fault : ScriptFault) →
      IsOfFile f (commands.Replace sel tgt) → IsReplaceFault rows vs line sel tgt fault →
      IsAmiss f ds line (commands.Replace sel tgt) fault
  replace-faults fit sel tgt line fault o (inl k) = inl (many tgt.name line fault o.1.0 k)
  replace-faults fit sel tgt line fault o (inr k) =
      let target = k.0 in
      let i = k.1 in
      let ids = k.2 in
      let is_target = trees tgt.name o.1.0 (target ∷ []) k.3 in
      let target_held = held tgt.name o.1.0 (target ∷ []) k.3 target (Contains-here target []) in
      let own = held sel.name o.0.0 ids k.4 i k.5 in
      let by : UseOf = record { turn = tgt.turn; place = record { 0 = 0 }; id = target } in
      inr (
        tree target,
        tree i,
        is_target,
        ((trees sel.name o.0.0 ids k.4).1 (tree i)).1 (Contains-map tree i ids k.5),
        (λ g. k.6 ((fit (kind_of_record f) (word_in words) r.kinds i.0 (Replace by) own target_held).1 g)),
        k.7,
      )
