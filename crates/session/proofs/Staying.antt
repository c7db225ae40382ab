-- What a session holds stands for what it stood for, while the table of words and the pool grow.
use Rattle.std.proofs.Common.{◌≡◌, ◌<◌, ◌∙◌, ap, sym, subst, refl, arith, ℕ, List, [], ◌∷◌}
use Rattle.std.specs.Prelude.{◌↔◌, length, reverse, All, Contains, Option, Some, None}
use Rattle.std.proofs.lemmas.List.Elements.{All-contains, All-weaker}
use Rattle.std.proofs.lemmas.Option.{slice_get_within}
use Rattle.lists.proofs.Members.{Contains-here, Contains-there}
use Rattle.lists.proofs.Places.{at_place}
use Rattle.location_words.specs.declared.pair.Pair.{Pair}
use Rattle.location_words.specs.declared.table.WordId.{WordId}
use Rattle.location_words.specs.Tables.{IsTable}
use Rattle.expansion_laws.specs.Requests.{Act as TreeAct, Request as TreeRequest, replace}
use Rattle.expansion_laws.specs.Trees.{Tree}
use Rattle.shape_pool.specs.declared.node.NodeId.{NodeId}
use Rattle.shape_pool.specs.declared.node.UseOf.{UseOf}
use Rattle.shape_pool.specs.Laws.{IsSound, word_in}
use Rattle.shape_pool.specs.Rows.{Row, HasPlaces, tree_at, trees_of, uses_at}
use Rattle.requests.specs.declared.request.Request.{Request}
use Rattle.requests.specs.declared.request.Act.{Act}
use Rattle.requests.specs.declared.request.Act.TheVariants.{Remove, Replace}
use Rattle.requests.specs.Numbered.{ActIsHeldIn, AreHeldIn, IsHeldIn}
use Rattle.requests.specs.Readings.{act_by, place_by, request_by, requests_by, IsPlaceBelow}
use Rattle.step_history.specs.declared.history.StepHistory.{StepHistory}
use Rattle.step_history.specs.Changes.{Becomes}
use Rattle.step_history.specs.Composition.{Done}
use Rattle.step_history.specs.History.{History, ListsPairs, ListsTrees}
use Rattle.step_history.specs.Numbered.{ArePairsHeld, IsHeld, Tells, tree_by}
use Rattle.brep_file.specs.declared.file.File.{File}
use Rattle.file_loading.specs.Loading.{use_in, IsLoadedFrom}
use Rattle.file_loading.specs.Places.{KeepsWords}
use Rattle.file_loading.specs.Staying.{HaveGrown, LoadingStays}
use Rattle.script_requests.specs.declared.version.Version.{Version}
use Rattle.script_requests.specs.AsTrees.{ActIsWorded, HasImages, IsWorded}
use Rattle.session.specs.States.{State}
use Rattle.session.specs.Standing.{AreVersions, IsAsked, IsStocked, IsVersion, IsUseHeld, Stands}
use Rattle.session.specs.Views.{View}
use Rattle.session.proofs.HeldTrees.{listed-tree, tree-listed}

-- ---- lists of pairs and of trees, where numbers stand for what they stood for
module _ (old new : NodeId → Tree) (IsIn : NodeId → Type 0) (same : (i : NodeId) → IsIn i → new i ≡ old i) where
  pairs-stay : (pairs : List (NodeId × NodeId)) (R : Tree → Tree → Type 0) →
      All (λ (p : NodeId × NodeId). IsIn p.0 × IsIn p.1) pairs → ListsPairs old pairs R → ListsPairs new pairs R
  pairs-stay pairs R held lists = (
    (λ p contains.
        let h = All-contains (λ (p : NodeId × NodeId). IsIn p.0 × IsIn p.1) pairs p held contains in
        subst (λ x. R x (new p.1)) (sym (same p.0 h.0))
        (subst (R (old p.0)) (sym (same p.1 h.1)) (lists.0 p contains))),
    (λ t s r.
        let found = lists.1 t s r in
        let h = All-contains (λ (p : NodeId × NodeId). IsIn p.0 × IsIn p.1) pairs found.0 held found.1 in
        (found.0, found.1, same found.0.0 h.0 ∙ found.2, same found.0.1 h.1 ∙ found.3)),
  )

  trees-stay : (ids : List NodeId) (P : Tree → Type 0) → All IsIn ids → ListsTrees old ids P → ListsTrees new ids P
  trees-stay ids P held lists = (
    (λ i contains. subst P (sym (same i (All-contains IsIn ids i held contains))) (lists.0 i contains)),
    (λ t p.
        let found = lists.1 t p in
        (found.0, found.1, same found.0 (All-contains IsIn ids found.0 held found.1) ∙ found.2)),
  )

-- ---- words and the pool have grown
module _ (laws : LoadingStays) (words words' : List (List Pair)) (rows rows' : List Row) (sound : IsSound rows)
    (places : HasPlaces rows (length words)) (grown : HaveGrown words words' rows rows') where
  tree-same : (i : NodeId) → i.0 < length rows → tree_by (word_in words') rows' i ≡ tree_by (word_in words) rows i
  tree-same i lt = laws.trees words words' rows rows' i.0 sound places grown lt

  id-stays : (i : ℕ) → i < length rows → i < length rows'
  id-stays i lt = let g = grown.keeps_rows.grows in omega (arith, lt, g)

  place-stays : (i : ℕ) → i < length words → i < length words'
  place-stays i lt =
      let at = at_place words i lt in slice_get_within words' i at.0 (grown.keeps_words i at.0 at.1)

  pub use-held-stays : (u : UseOf) → IsUseHeld words rows u → IsUseHeld words' rows' u
  use-held-stays u h = (id-stays u.id.0 h.0, place-stays u.place.0 h.1)

  pub use-stays : (u : UseOf) → IsUseHeld words rows u → use_in words' rows' u ≡ use_in words rows u
  use-stays u h = laws.uses words words' rows rows' u sound places grown h.0 h.1

  pairs-held-stay : (pairs : List (NodeId × NodeId)) → ArePairsHeld rows pairs → ArePairsHeld rows' pairs
  pairs-held-stay pairs h =
      All-weaker (λ (p : NodeId × NodeId). (p.0.0 < length rows) × (p.1.0 < length rows))
      (λ (p : NodeId × NodeId). (p.0.0 < length rows') × (p.1.0 < length rows'))
      (λ p k. (id-stays p.0.0 k.0, id-stays p.1.0 k.1)) pairs h

  pub held-stays : (h : StepHistory) → IsHeld rows h → IsHeld rows' h
  held-stays h k = record {
    images = pairs-held-stay h.images k.images;
    generated = pairs-held-stay h.generated k.generated;
    removed =
        All-weaker (λ (i : NodeId). i.0 < length rows) (λ (i : NodeId). i.0 < length rows') (λ i lt. id-stays i.0 lt)
        h.removed k.removed;
  }

  lists-stay : (pairs : List (NodeId × NodeId)) (R : Tree → Tree → Type 0) → ArePairsHeld rows pairs →
      ListsPairs (tree_by (word_in words) rows) pairs R → ListsPairs (tree_by (word_in words') rows') pairs R
  lists-stay pairs R held lists =
      pairs-stay (tree_by (word_in words) rows) (tree_by (word_in words') rows') (λ (i : NodeId). i.0 < length rows)
      tree-same pairs R held lists

  pub tells-stay : (h : StepHistory) (told : History) → IsHeld rows h → Tells (tree_by (word_in words) rows) h told →
      Tells (tree_by (word_in words') rows') h told
  tells-stay h told held t = record {
    images = lists-stay h.images told.images held.images t.images;
    generated = lists-stay h.generated told.generated held.generated t.generated;
    removed =
        trees-stay (tree_by (word_in words) rows) (tree_by (word_in words') rows')
        (λ (i : NodeId). i.0 < length rows) tree-same h.removed told.removed held.removed t.removed;
  }

  images-stay : (f : File) (v : Version) (d : Done) → HasImages f words rows v d → HasImages f words' rows' v d
  images-stay f v d h = record {
    held = record { held = pairs-held-stay v.images h.held.held; order = h.held.order };
    images = lists-stay v.images (Becomes d.change d.before) h.held.held h.images;
    step = h.step;
  }

  pub version-stays : (f : File) (v : Version) (d : Done) (ds : List Done) → IsVersion f words rows v d ds →
      IsVersion f words' rows' v d ds
  version-stays f v d ds h = record {
    held = use-held-stays v.root h.held;
    root = use-stays v.root h.held ∙ h.root;
    before = h.before;
    makes = h.makes;
    word = h.word;
    images = images-stay f v d h.images;
    told = held-stays v.history h.told;
    history = tells-stay v.history _ h.told h.history;
  }

  pub versions-stay : (f : File) (vs : List Version) (ds : List Done) → AreVersions f words rows vs ds →
      AreVersions f words' rows' vs ds
  versions-stay f [] [] h = tt
  versions-stay f [] (d ∷ ds) h = absurd h
  versions-stay f (v ∷ vs) [] h = absurd h
  versions-stay f (v ∷ vs) (d ∷ ds) h = (version-stays f v d ds h.0, versions-stay f vs ds h.1)

-- ---- the table of words alone has grown
module _ (laws : LoadingStays) (f : File) (words words' : List (List Pair)) (rows : List Row) (sound : IsSound rows)
    (loaded : IsLoadedFrom f words rows) (kept : KeepsWords words words') (table : IsTable words') where
  longer : (i : ℕ) → i < length words → i < length words'
  longer i lt = let at = at_place words i lt in slice_get_within words' i at.0 (kept i at.0 at.1)

  pub grown-words : HaveGrown words words' rows rows
  grown-words = record {
    table = table;
    keeps_words = kept;
    keeps_rows = record {
      grows = omega arith;
      kinds = λ i lt. refl;
      origins = λ i lt. refl;
      uses = λ i lt. refl;
      trees = λ word i lt. refl;
    };
    keeps_loaded = record { loaded = λ o. ((λ h. h), (λ h. h)); loaded_as = λ o i. ((λ h. h), (λ h. h)) };
    places = λ i lt.
        All-weaker (λ (u : UseOf). u.place.0 < length words) (λ (u : UseOf). u.place.0 < length words')
        (λ u h. longer u.place.0 h) (uses_at rows i) (loaded.places i lt);
  }

  tree-read : (i : ℕ) → i < length rows → tree_at (word_in words') rows i ≡ tree_at (word_in words) rows i
  tree-read i lt = laws.trees words words' rows rows i sound loaded.places grown-words lt

  use-read : (u : UseOf) → u.id.0 < length rows → u.place.0 < length words →
      use_in words' rows u ≡ use_in words rows u
  use-read u held placed = laws.uses words words' rows rows u sound loaded.places grown-words held placed

  place-read : (p : Option WordId) → IsPlaceBelow (length words) p →
      place_by (word_in words') p ≡ place_by (word_in words) p
  place-read None h = refl
  place-read (Some w) h = ap Some (laws.words words words' w.0 kept h)

  act-read : (a : Act) → ActIsHeldIn rows a → ActIsWorded (length words) a →
      act_by (word_in words') rows a ≡ act_by (word_in words) rows a
  act-read Remove held worded = refl
  act-read (Replace by) held worded = ap replace (use-read by held worded)

  a_request : Tree → Option (List Pair) → Request → TreeAct → TreeRequest
  a_request x p r a = record { source = x; place = p; turn = r.turn; act = a }

  request-read : (r : Request) → IsHeldIn rows r → IsWorded (length words) r →
      request_by (word_in words') rows r ≡ request_by (word_in words) rows r
  unfolding a_request
  request-read r held worded =
      let word = word_in words in
      let word' = word_in words' in
      ap (λ x. a_request x (place_by word' r.place) r (act_by word' rows r.act)) (tree-read r.source.0 held.0) ∙
      ap (λ p. a_request (tree_at word rows r.source.0) p r (act_by word' rows r.act)) (place-read r.place worded.0) ∙
      ap (λ a. a_request (tree_at word rows r.source.0) (place_by word r.place) r a) (act-read r.act held.1 worded.1)

  map-same : (asked : List Request) → ((r : Request) → Contains asked r →
      request_by (word_in words') rows r ≡ request_by (word_in words) rows r) →
      requests_by (word_in words') rows asked ≡ requests_by (word_in words) rows asked
  map-same [] h = refl
  map-same (r ∷ rs) h =
      ap (λ x. x ∷ requests_by (word_in words') rows rs) (h r (Contains-here r rs)) ∙
      ap (λ l. request_by (word_in words) rows r ∷ l) (map-same rs (λ q m. h q (Contains-there r q rs m)))

  pub requests-read : (asked : List Request) → AreHeldIn rows asked → All (IsWorded (length words)) asked →
      requests_by (word_in words') rows asked ≡ requests_by (word_in words) rows asked
  requests-read asked held worded =
      map-same asked
      (λ r m.
      request-read r (All-contains (IsHeldIn rows) asked r held m)
      (All-contains (IsWorded (length words)) asked r worded m))

  act-worded-stays : (a : Act) → ActIsWorded (length words) a → ActIsWorded (length words') a
  act-worded-stays Remove h = tt
  act-worded-stays (Replace by) h = longer by.place.0 h

  place-below-stays : (p : Option WordId) → IsPlaceBelow (length words) p → IsPlaceBelow (length words') p
  place-below-stays None h = tt
  place-below-stays (Some w) h = longer w.0 h

  pub worded-stays : (asked : List Request) → All (IsWorded (length words)) asked → All (IsWorded (length words')) asked
  worded-stays asked h =
      All-weaker (IsWorded (length words)) (IsWorded (length words'))
      (λ r k. (place-below-stays r.place k.0, act-worded-stays r.act k.1)) asked h

  pub asked-stays : (asked : List Request) (s : State) → IsAsked f words rows asked s → IsAsked f words' rows asked s
  asked-stays asked s h = record {
    held = h.held;
    worded = worded-stays asked h.worded;
    fit = h.fit;
    stands = h.stands ∙ sym (requests-read asked h.held h.worded);
    over_datums = h.over_datums;
  }

  trees-read : (x : Tree) →
      Contains (trees_of (word_in words') rows) x ↔ Contains (trees_of (word_in words) rows) x
  trees-read x = (
    (λ m.
        let i = listed-tree (word_in words') rows x m in
        subst (Contains (trees_of (word_in words) rows)) (sym (tree-read i.0 i.1) ∙ i.2)
        (tree-listed (word_in words) rows i.0 i.1)),
    (λ m.
        let i = listed-tree (word_in words) rows x m in
        subst (Contains (trees_of (word_in words') rows)) (tree-read i.0 i.1 ∙ i.2)
        (tree-listed (word_in words') rows i.0 i.1)),
  )

  pub stocked-stays : (s : State) → IsStocked f words rows s → IsStocked f words' rows s
  stocked-stays s h = record {
    loaded = laws.loaded f words words' rows rows sound loaded grown-words;
    kinds = h.kinds;
    origins = h.origins;
    held = λ x. (
      (λ m. (h.held x).0 ((trees-read x).0 m)),
      (λ m. (trees-read x).1 ((h.held x).1 m)),
    );
    over_datums = λ x m. h.over_datums x ((trees-read x).0 m);
  }

-- a session stands for each state for which it stood
pub stands-still : LoadingStays → (v : View) (words' : List (List Pair)) → IsSound v.rows → KeepsWords v.words words' →
    IsTable words' → (s : State) → Stands v s → Stands (record v { words = words' }) s
stands-still laws v words' sound kept table s st =
    let loaded = st.stocked.loaded in
    let grown = grown-words laws v.file v.words words' v.rows sound loaded kept table in record {
      sound = st.sound;
      within = st.within;
      stocked = stocked-stays laws v.file v.words words' v.rows sound loaded kept table s st.stocked;
      first_held = use-held-stays laws v.words words' v.rows v.rows sound loaded.places grown v.first st.first_held;
      first = use-stays laws v.words words' v.rows v.rows sound loaded.places grown v.first st.first_held ∙ st.first;
      first_word = st.first_word;
      start_held = st.start_held;
      start = tells-stay laws v.words words' v.rows v.rows sound loaded.places grown v.start _ st.start_held st.start;
      versions =
          versions-stay laws v.words words' v.rows v.rows sound loaded.places grown v.file (reverse v.versions) s.steps
          st.versions;
      asked = asked-stays laws v.file v.words words' v.rows sound loaded kept table v.asked s st.asked;
      rule = st.rule;
      output = st.output;
      version = st.version;
      carried = st.carried;
    }
