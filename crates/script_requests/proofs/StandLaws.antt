-- The numbers of a name stand for its trees.
use Rattle.std.proofs.Common.{◌≡◌, ◌≤◌, ◌<◌, ◌+◌, ◌∙◌, sym, ap, subst, inl, inr, arith, true≢false, ℕ, zero}
use Rattle.std.proofs.Common.{suc, nat_eq, nat_lt}
use Rattle.std.proofs.Common.{length, map}
use Rattle.std.specs.Prelude.{List, [], ◌∷◌, Contains}
use Rattle.std.proofs.lemmas.Bool.{eq-eqb, eqb-true, ltb-true, ltb-false}
use Rattle.std.proofs.lemmas.List.Elements.{All-contains}
use Rattle.lists.specs.Distinct.{IsDistinct}
use Rattle.lists.proofs.Cases.{by_test, same_or_not}
use Rattle.lists.proofs.Members.{Contains-here, Contains-map, Contains-map_cases, Contains-there}
use Rattle.location_words.specs.declared.pair.Pair.{Pair}
use Rattle.expansion_laws.specs.Expansion.{IsNumberOf}
use Rattle.expansion_laws.specs.Keeping.{ResultsHaveTheKind}
use Rattle.expansion_laws.specs.Steps.{Step, kind}
use Rattle.expansion_laws.specs.Trees.{Tree, Use, origin}
use Rattle.expansion_laws.specs.Contexts.{bare}
use Rattle.expansion_laws.specs.Visits.{IsImage}
use Rattle.file_loading.specs.Loading.{kind_of_record, IsLoadedFrom}
use Rattle.shape_pool.specs.declared.node.NodeId.{NodeId}
use Rattle.shape_pool.specs.Calls.{IsLoaded, IsLoadedAs, IsOf}
use Rattle.shape_pool.specs.Laws.{word_in, IsSound}
use Rattle.shape_pool.specs.Rows.{Row, origin_at, kind_at, HaveKinds}
use Rattle.step_history.specs.Changes.{Becomes}
use Rattle.step_history.specs.Composition.{Done}
use Rattle.step_history.specs.Numbered.{tree_by}
use Rattle.brep_file.specs.declared.file.File.{File}
use Rattle.brep_file.specs.PlainRecords.{tree_of_record}
use Rattle.script_requests.specs.declared.version.Version.{Version}
use Rattle.script_requests.specs.AsTrees.{HasImages, HaveImages, IsStepBy}
use Rattle.script_requests.specs.Kinds.{kind_of}
use Rattle.script_requests.specs.Named.{id_of, AreNamed, IsNamed}
use Rattle.script_requests.specs.Names.{AreTreesOf, StandsFor}

-- ---- the first number of an origin
not-lt : (x y : ℕ) → (x < y → ⊥) → y ≤ x
not-lt x y h =
    by_test (nat_lt x y) (λ t. absurd (h (ltb-true x y t))) (λ f. let g = ltb-false x y f in omega (arith, g))

not-below : (j k : ℕ) → j < suc k → (j ≡ k → ⊥) → j < k
not-below j k lt other =
    by_test (nat_lt j k) (λ t. ltb-true j k t)
    (λ f. let g = ltb-false j k f in absurd (other (omega (arith, g, lt))))

module _ (rows : List Row) (o : ℕ) where
  abbrev IsFirstOf : ℕ → Type 0
  IsFirstOf m = IsOf rows o m × ((j : ℕ) → IsOf rows o j → m ≤ j)

  first-from : (n k i : ℕ) → i ≡ k + n → IsOf rows o i → ((j : ℕ) → j < k → IsOf rows o j → ⊥) → (m : ℕ) × IsFirstOf m
  first-from zero k i e of none = (i, (of, λ j h. not-lt j i (λ lt. none j (omega (arith, lt, e)) h)))
  first-from (suc n) k i e of none =
      by_test (nat_eq (origin_at rows k) o)
      (λ t.
      let within = of.0 in
      (k, ((omega (arith, within, e), eqb-true (origin_at rows k) o t), λ j h. not-lt j k (λ lt. none j lt h))))
      (λ f. first-from n (suc k) i (omega (arith, e)) of
      (λ j lt h. same_or_not j k
      (λ q. true≢false (sym (eq-eqb (origin_at rows k) o (subst (λ z. origin_at rows z ≡ o) q h.1)) ∙ f))
      (λ other. none j (not-below j k lt other) h)))

  pub loaded-as : IsLoaded rows o → (m : ℕ) × IsLoadedAs rows o m
  loaded-as l =
      let m = first-from l.1 0 l.1 (omega arith) l.2 (λ j lt h. absurd (omega (arith, lt))) in
      (m.0, (l.0, m.1.0, m.1.1))

module _ (rows : List Row) (sound : IsSound rows) (f : File) (words : List (List Pair))
    (loaded : IsLoadedFrom f words rows) where
  abbrev tree : NodeId → Tree
  tree = tree_by (word_in words) rows

  pub same-ids : (i j : NodeId) → i.0 < length rows → j.0 < length rows → tree i ≡ tree j → i ≡ j
  same-ids i j li lj e = ap id_of ((sound.ids_tell_trees_by words loaded.table loaded.places i.0 j.0 li lj).1 e)

  module _ (name : ℕ) (number : IsNumberOf (length f.records) name) where
    pub named-held : (vs : List Version) (ds : List Done) → HaveImages f words rows vs ds → (i : NodeId) →
        IsNamed rows vs name i → i.0 < length rows
    named-held [] [] h i n = n.1.0
    named-held [] (d ∷ ds) h i n = absurd h
    named-held (v ∷ vs) [] h i n = absurd h
    named-held (v ∷ vs) (d ∷ ds) h i (inl n) =
        (All-contains (λ (p : NodeId × NodeId). (p.0.0 < length rows) × (p.1.0 < length rows)) v.images (n.0, i)
        h.0.held.held n.2).1
    named-held (v ∷ vs) (d ∷ ds) h i (inr n) = n.1.1.0

    own-tree : (i : NodeId) → IsLoadedAs rows name i.0 → tree i ≡ tree_of_record f name
    own-tree i l = loaded.trees name i.0 number l

    -- what numbers of the name stand for, and what stands for trees of the name
    abbrev pub Stand : List Version → List Done → Type 0
    Stand vs ds =
        ((i : NodeId) → IsNamed rows vs name i → StandsFor f ds name (tree i)) ×
        ((x : Tree) → StandsFor f ds name x → (i : NodeId) × IsNamed rows vs name i × (tree i ≡ x))

    own-number : (i : NodeId) × IsLoadedAs rows name i.0
    own-number = let m = loaded-as rows name (loaded.loaded name number) in (id_of m.0, m.1)

    stand-next : (vs : List Version) (ds : List Done) (v : Version) (d : Done) → HaveImages f words rows vs ds →
        HasImages f words rows v d → Stand vs ds → Stand (v ∷ vs) (d ∷ ds)
    stand-next vs ds v d hs h ih =
        -- the second number of a pair whose first tree is one of the name's
        let image : (t x : Tree) (i : NodeId) → IsNamed rows vs name i → tree i ≡ t → Becomes d.change d.before t x →
        (j : NodeId) × Contains v.images (i, j) × (tree j ≡ x) =
        λ t x i n e b.
        let p = h.images.1 t x b in
        let held =
        All-contains (λ (q : NodeId × NodeId). (q.0.0 < length rows) × (q.1.0 < length rows)) v.images p.0 h.held.held
        p.1 in
        let same = same-ids p.0.0 i held.0 (named-held vs ds hs i n) (p.2 ∙ sym e) in
        (p.0.1, subst (λ k. Contains v.images (k, p.0.1)) same p.1, p.3) in (
          (λ i n. elim n [
            | inl k ↦ inl (tree k.0, ih.0 k.0 k.1, h.images.0 (k.0, i) k.2)
            | inr k ↦ inr (
              (λ t x st b.
                  let m = ih.1 t st in
                  let q = image t x m.0 m.1 m.2 b in
                  k.0 q.0 (m.0, m.1, q.1)),
              own-tree i k.1,
            )
          ]),
          (λ x s. elim s [
            | inl k ↦ (
                let m = ih.1 k.0 k.1 in
                let q = image k.0 x m.0 m.1 m.2 k.2 in
                (q.0, inl (m.0, m.1, q.1), q.2))
            | inr k ↦ (
              own-number.0,
              inr ((λ j n. k.0 (tree n.0) (tree j) (ih.0 n.0 n.1) (h.images.0 (n.0, j) n.2)), own-number.1),
              own-tree own-number.0 own-number.1 ∙ sym k.1,
            )
          ]),
        )

    pub stand : (vs : List Version) (ds : List Done) → HaveImages f words rows vs ds → Stand vs ds
    stand [] [] h = (
      (λ i l. own-tree i l),
      (λ x e. (own-number.0, own-number.1, own-tree own-number.0 own-number.1 ∙ sym e)),
    )
    stand [] (d ∷ ds) h = absurd h
    stand (v ∷ vs) [] h = absurd h
    stand (v ∷ vs) (d ∷ ds) h = stand-next vs ds v d h.1 h.0 (stand vs ds h.1)

    -- ---- the list of a name's numbers
    distinct-trees : (ids : List NodeId) → IsDistinct ids → ((i : NodeId) → Contains ids i → i.0 < length rows) →
        IsDistinct (map tree ids)
    distinct-trees [] d held = tt
    distinct-trees (i ∷ ids) d held = (
      (λ m.
          let from = Contains-map_cases tree (tree i) ids m in
          let same =
          same-ids from.0 i (held from.0 (Contains-there i from.0 ids from.1)) (held i (Contains-here i ids)) from.2 in
          d.0 (subst (λ z. Contains ids z) same from.1)),
      distinct-trees ids d.1 (λ k m. held k (Contains-there i k ids m)),
    )

    pub trees-of-name : (vs : List Version) (ds : List Done) (ids : List NodeId) → HaveImages f words rows vs ds →
        AreNamed rows vs name ids → AreTreesOf f ds name (map tree ids)
    trees-of-name vs ds ids h n =
        let s = stand vs ds h in (
          distinct-trees ids n.distinct (λ i m. named-held vs ds h i ((n.each i).0 m)),
          (λ x. (
            (λ st.
                let m = s.1 x st in
                subst (λ z. Contains (map tree ids) z) m.2 (Contains-map tree m.0 ids ((n.each m.0).1 m.1))),
            (λ k.
                let from = Contains-map_cases tree x ids k in
                subst (λ z. StandsFor f ds name z) from.2 (s.0 from.0 ((n.each from.0).0 from.1))),
          )),
        )

-- ---- the trees of a name have one kind
image-kind : (f : File) (results_keep : (s : Step) → ResultsHaveTheKind s) (d : Done) → IsStepBy f d → (t x : Tree) →
    Becomes d.change d.before t x → kind_of f x ≡ kind_of f t
image-kind f keep d is t x b =
    let s = is.step in
    let made : IsImage s d.before t x = subst (λ c. Becomes c d.before t x) is.is b in
    let by : (y : Tree) → kind s y ≡ kind_of f y = λ y. ap (λ k. k (origin y)) is.kinds in
    elim made [
      | inl r ↦ (
          let from = Contains-map_cases (λ (u : Use). u.tree) x r.1 r.4 in
          let k = keep s is.fits r.0 (bare t) r.1 r.3 from.0 from.1 in
          ap (λ y. kind_of f y) (sym from.2) ∙ sym (by from.0.tree) ∙ k ∙ by t)
      | inr r ↦ ap (λ y. kind_of f y) r.0
    ]

name-kind : (f : File) (words : List (List Pair)) (rows : List Row) (keep : (s : Step) → ResultsHaveTheKind s)
    (name : ℕ) (vs : List Version) (ds : List Done) → HaveImages f words rows vs ds → (x : Tree) →
    StandsFor f ds name x → kind_of f x ≡ kind_of f (tree_of_record f name)
name-kind f words rows keep name [] [] h x e = ap (λ y. kind_of f y) e
name-kind f words rows keep name [] (d ∷ ds) h x e = absurd h
name-kind f words rows keep name (v ∷ vs) [] h x e = absurd h
name-kind f words rows keep name (v ∷ vs) (d ∷ ds) h x (inl s) =
    image-kind f keep d h.0.step s.0 x s.2 ∙ name-kind f words rows keep name vs ds h.1 s.0 s.1
name-kind f words rows keep name (v ∷ vs) (d ∷ ds) h x (inr s) = ap (λ y. kind_of f y) s.1

pub one-kind : (f : File) (words : List (List Pair)) (rows : List Row) (keep : (s : Step) → ResultsHaveTheKind s)
    (name : ℕ) (vs : List Version) (ds : List Done) → HaveImages f words rows vs ds → (x y : Tree) →
    StandsFor f ds name x → StandsFor f ds name y → kind_of f x ≡ kind_of f y
one-kind f words rows keep name vs ds h x y s t =
    name-kind f words rows keep name vs ds h x s ∙ sym (name-kind f words rows keep name vs ds h y t)

pub tree-kind : (rows : List Row) (sound : IsSound rows) (f : File) (words : List (List Pair)) →
    HaveKinds rows (kind_of_record f) → (i : NodeId) → i.0 < length rows →
    kind_of f (tree_by (word_in words) rows i) ≡ kind_at rows i.0
tree-kind rows sound f words kinds i lt =
    ap (λ y. kind_of f y) (sound.trees_of_uses (word_in words) i.0 lt) ∙ kinds i.0 lt
