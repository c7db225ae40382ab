-- A step that is carried out takes a session to the next state.
use Rattle.std.proofs.Common.{◌≡◌, ◌<◌, ◌∙◌, ap, sym, subst, refl, arith, inl, inr, ℕ, suc, Bool, List, [], ◌∷◌}
use Rattle.std.specs.Prelude.{◌⊎◌, ◌↔◌, ◌++◌, Contains, length, reverse}
use Rattle.std.specs.List.{flat_map}
use Rattle.std.specs.List.Sorted.{IsStrictlySortedBy}
use Rattle.std.proofs.lemmas.List.Elements.{Contains-append_cases, Contains-append_left}
use Rattle.std.proofs.lemmas.List.Elements.{Contains-append_right}
use Rattle.lists.proofs.Entries.{All-none}
use Rattle.lists.proofs.Members.{Contains-none, reverse-push}
use Rattle.orientation.specs.declared.kind.Kind.{Kind}
use Rattle.orientation.specs.Rules.{usual}
use Rattle.location_table.specs.Words.{datums_of}
use Rattle.location_words.specs.declared.pair.Pair.{Pair}
use Rattle.expansion_laws.specs.Expansion.{IsNumberOf}
use Rattle.expansion_laws.specs.Keeping.{AllFit, HasOriginsOf, HasWordsOf, IsWordOf, OriginsStay, Passes, WordsStay}
use Rattle.expansion_laws.specs.Measures.{subtrees}
use Rattle.expansion_laws.specs.Requests.{replace, Request as TreeRequest}
use Rattle.expansion_laws.specs.Rewriting.{StepsTo}
use Rattle.expansion_laws.specs.Steps.{Step}
use Rattle.expansion_laws.specs.Subtrees.{SubtreesStand}
use Rattle.expansion_laws.specs.Trees.{Tree, Use, origin}
use Rattle.expansion_laws.specs.Visits.{IsImage, IsReplaced}
use Rattle.shape_pool.specs.declared.node.UseOf.{UseOf}
use Rattle.shape_pool.specs.Calls.{Keeps, KeepsLoaded}
use Rattle.shape_pool.specs.Laws.{IsSound, word_in}
use Rattle.shape_pool.specs.Rows.{Row, HasPlaces, HaveKinds, origin_at, tree_at, trees_of}
use Rattle.requests.specs.declared.request.Request.{Request}
use Rattle.requests.specs.Numbered.{a_table, ActFits, IsHeldIn, Table}
use Rattle.requests.specs.Plans.{StepPlan}
use Rattle.requests.specs.Readings.{step_by, requests_by, FitsByTrees}
use Rattle.reshape.specs.Answers.{IsRewritten}
use Rattle.reshape.specs.Readings.{InSteps, IsCarriedOut}
use Rattle.step_history.specs.Changes.{by_requests, history_by}
use Rattle.step_history.specs.Composition.{history_after}
use Rattle.step_history.specs.History.{ListsPairs}
use Rattle.step_history.specs.Numbered.{pair_cmp, tree_by, ArePairsHeld, IsReading, Tells}
use Rattle.brep_file.specs.PlainRecords.{expansion_of}
use Rattle.file_loading.specs.Loading.{kind_of_record, use_in}
use Rattle.file_loading.specs.Staying.{HaveGrown, LoadingStays}
use Rattle.script_requests.specs.declared.version.Version.{Version}
use Rattle.script_requests.specs.AsTrees.{IsWorded}
use Rattle.script_requests.specs.Kinds.{kind_of}
use Rattle.session.specs.Stepped.{IsVersionMade}
use Rattle.session.specs.States.{after_step, done_to, held_trees, record_trees, root_of, State, step_of}
use Rattle.session.specs.Standing.{AreVersions, IsDatumOf, IsStocked, IsUseHeld, IsVersion, Stands}
use Rattle.session.specs.Views.{history_of_view, root_of_view, View}
use Rattle.session.proofs.HeldTrees.{listed-tree, tree-listed}
use Rattle.session.proofs.LastLaws.{last-held, last-history-held, last-is, last-tells, last-word}
use Rattle.session.proofs.Staying.{held-stays, tells-stay, use-held-stays, use-stays, versions-stay}
use Rattle.session.proofs.StepGiven.{all-nodes, datum-passes, is_datum, is_origin, no-record, origin-is, origin-passes}
use Rattle.session.proofs.StepGiven.{passes-datum, passes-origin, target-of, targets-fit, trees-on, words-on}
use Rattle.session.proofs.StepReads.{reads, step-is, tells-words}

-- ---- the step of a session
module _ (v : View) (s : State) (st : Stands v s) where
  abbrev pub word : ℕ → List Pair
  word = word_in v.words

  abbrev pub before : UseOf
  before = root_of_view v

  abbrev pub table : Table
  table = a_table v.asked v.rule

  pub before-held : IsUseHeld v.words v.rows before
  before-held = last-held v.file v.words v.rows v.first st.first_held (reverse v.versions) s.steps st.versions

  pub root-is : use_in v.words v.rows before ≡ root_of v.file s
  root-is = last-is v.file v.words v.rows v.first st.first (reverse v.versions) s.steps st.versions

  pub step-eq : step_by word v.rows (kind_of_record v.file) table ≡ step_of v.file s
  step-eq = step-is v.file v.words v.rows v.asked v.rule s st.asked st.rule

  -- a fact of each step that a plan carries out
  pub in-step : (n : ℕ) (plan : StepPlan) (P : Step → (ℕ → List Pair) → Type 0) →
      IsCarriedOut v.rows n before.id.0 plan table → InSteps v.rows n before.id.0 plan v.words P →
      P (step_of v.file s) word
  in-step n plan P carried h =
      subst (λ z. P z word) step-eq
      (h table (kind_of_record v.file) word carried
      (reads v.file v.words v.rows v.asked v.rule s st.asked st.rule st.stocked.loaded st.stocked.kinds))

-- ---- the next state
module _ (staying : LoadingStays) (origins_stay : (s : Step) (among : ℕ → Bool) → OriginsStay s (Passes among))
    (words_stay : (s : Step) (among : ℕ → Bool) → WordsStay s (Passes among))
    (stand : SubtreesStand) (v : View) (s : State) (st : Stands v s) (sound : IsSound v.rows)
    (by_trees : FitsByTrees v.rows)
    (n : ℕ) (plan : StepPlan) (carried : IsCarriedOut v.rows n (root_of_view v).id.0 plan (a_table v.asked v.rule))
    (rows' : List Row) (sound' : IsSound rows') (keeps : Keeps v.rows rows') (loaded : KeepsLoaded v.rows rows')
    (places : HasPlaces rows' (length v.words)) (ver : Version)
    (made : IsVersionMade v.rows rows' n v.words plan v.first (root_of_view v) (history_of_view v) ver) where
  abbrev w : ℕ → List Pair
  w = word_in v.words

  abbrev kind : ℕ → Kind
  kind = kind_of_record v.file

  abbrev step : Step
  step = step_of v.file s

  abbrev old-root : Use
  old-root = root_of v.file s

  abbrev u : UseOf
  u = root_of_view v

  abbrev pub new-root : Use
  new-root = use_in v.words rows' made.made.root

  grown : HaveGrown v.words v.words v.rows rows'
  grown = record {
    table = st.stocked.loaded.table;
    keeps_words = λ i x e. e;
    keeps_rows = keeps;
    keeps_loaded = loaded;
    places = places;
  }

  old-places : HasPlaces v.rows (length v.words)
  old-places = st.stocked.loaded.places

  rewritten : IsRewritten v.rows rows' u made.made step w
  rewritten = in-step v s st n plan (IsRewritten v.rows rows' u made.made) carried made.rewritten

  pub steps : StepsTo step old-root new-root
  steps = subst (λ z. StepsTo step z new-root) (root-is v s st) rewritten.steps

  images : ListsPairs (tree_by w rows') made.made.images (IsImage step old-root)
  images = subst (λ z. ListsPairs (tree_by w rows') made.made.images (IsImage step z)) (root-is v s st) rewritten.images

  replaced : ListsPairs (tree_by w rows') made.made.replaced (IsReplaced step old-root)
  replaced =
      subst (λ z. ListsPairs (tree_by w rows') made.made.replaced (IsReplaced step z)) (root-is v s st)
      rewritten.replaced

  -- ---- what is given
  is-asked : (r : TreeRequest) → Contains step.requests r → Contains (requests_by w v.rows v.asked) r
  is-asked r m = subst (λ rs. Contains rs r) st.asked.stands m

  of-given : (P : Tree → Type 0) → ((j : ℕ) → j < length v.rows → P (tree_at w v.rows j)) →
      P old-root.tree × ((r : TreeRequest) (by : Use) → Contains step.requests r × (r.act ≡ replace by) → P by.tree)
  of-given P all = (
    subst (λ (z : Use). P z.tree) (root-is v s st) (all u.id.0 (before-held v s st).0),
    (λ r by h.
        let t = target-of w v.rows sound v.asked st.asked.held r by (is-asked r h.0) h.1 in
        subst (λ (z : Use). P z.tree) t.5 (all t.1.id.0 t.6)),
  )

  all-fit : AllFit step
  all-fit r by h =
      targets-fit w v.rows sound v.asked st.asked.held by_trees kind st.stocked.kinds st.asked.fit r by
      (is-asked r h.0) h.1

  -- ---- origins
  abbrev most : ℕ
  most = length v.file.records

  new-origins : HasOriginsOf (Passes (is_origin most)) new-root.tree
  new-origins =
      origins_stay step (is_origin most) (origin-passes most 0 (inl refl)) old-root new-root
      (of-given (HasOriginsOf (Passes (is_origin most)))
      (all-nodes w v.rows sound (λ y. Passes (is_origin most) (origin y))
      (λ j lt. subst (Passes (is_origin most)) (sym (origin-is w v.rows sound j lt))
      (origin-passes most (origin_at v.rows j) (st.stocked.origins j lt)))))
      steps

  origins' : (i : ℕ) → i < length rows' → (origin_at rows' i ≡ 0) ⊎ IsNumberOf most (origin_at rows' i)
  origins' i lt =
      elim ((rewritten.held (tree_at w rows' i)).0 (tree-listed w rows' i lt)) [
        | inl old ↦ (
            let j = listed-tree w v.rows (tree_at w rows' i) old in
            subst (λ o. (o ≡ 0) ⊎ IsNumberOf most o)
            (sym (origin-is w v.rows sound j.0 j.1) ∙ ap origin j.2 ∙ origin-is w rows' sound' i lt)
            (st.stocked.origins j.0 j.1))
        | inr occurs ↦
            subst (λ o. (o ≡ 0) ⊎ IsNumberOf most o) (origin-is w rows' sound' i lt)
            (passes-origin most (origin (tree_at w rows' i)) (new-origins (tree_at w rows' i) occurs))
      ]

  -- ---- kinds
  kinds' : HaveKinds rows' kind
  kinds' i lt =
      elim (origins' i lt) [
        | inl e ↦ ap kind e ∙ no-record v.file ∙ sym (sound'.kinds_of_trees.made i lt e)
        | inr number ↦ (
            let l = st.stocked.loaded.loaded (origin_at rows' i) number in
            let j = l.1 in
            let of = l.2 in
            let g = keeps.grows in
            let within = of.0 in
            ap kind (sym of.1) ∙ st.stocked.kinds j of.0 ∙ sym (keeps.kinds j of.0) ∙
            sym (sound'.kinds_of_trees.one_kind i j lt (omega (arith, g, within))
            (sym (keeps.origins j of.0 ∙ of.1))))
      ]

  -- ---- words
  abbrev datums : ℕ
  datums = length (datums_of v.file.locations)

  new-words : HasWordsOf (IsDatumOf v.file) new-root.tree × IsWordOf (IsDatumOf v.file) new-root.word
  new-words =
      let D = IsDatumOf v.file in
      let E = Passes (is_datum datums) in
      let to = datum-passes datums in
      let h =
      words_stay step (is_datum datums) old-root new-root
      (of-given (HasWordsOf E)
      (λ j lt. trees-on D E to (tree_at w v.rows j)
      (st.stocked.over_datums (tree_at w v.rows j) (tree-listed w v.rows j lt))))
      (words-on D E to old-root.word
      (last-word v.file v.words v.rows st.first_word (reverse v.versions) s.steps st.versions))
      (λ r by h. words-on D E to by.word (st.asked.over_datums r by h.0 h.1)) steps in
      (trees-on E D (passes-datum datums) new-root.tree h.0, words-on E D (passes-datum datums) new-root.word h.1)

  -- ---- the trees held
  abbrev pub next : State
  next = after_step v.file s new-root

  held' : (x : Tree) → Contains (trees_of w rows') x ↔ Contains (held_trees v.file next) x
  held' x =
      let records = record_trees v.file most in
      let own = subtrees new-root.tree in
      let earlier = flat_map (λ (z : Use). subtrees z.tree) s.made in (
        (λ m. elim ((rewritten.held x).0 m) [
          | inl old ↦ elim (Contains-append_cases records earlier x ((st.stocked.held x).0 old)) [
            | inl r ↦ Contains-append_left records (own ++ earlier) x r
            | inr e ↦ Contains-append_right records (own ++ earlier) x (Contains-append_right own earlier x e)
          ]
          | inr occurs ↦ Contains-append_right records (own ++ earlier) x (Contains-append_left own earlier x occurs)
        ]),
        (λ m. (rewritten.held x).1 (elim (Contains-append_cases records (own ++ earlier) x m) [
          | inl r ↦ inl ((st.stocked.held x).1 (Contains-append_left records earlier x r))
          | inr k ↦ elim (Contains-append_cases own earlier x k) [
            | inl o ↦ inr o
            | inr e ↦ inl ((st.stocked.held x).1 (Contains-append_right records earlier x e))
          ]
        ])),
      )

  stocked' : IsStocked v.file v.words rows' next
  stocked' = record {
    loaded = staying.loaded v.file v.words v.words v.rows rows' sound st.stocked.loaded grown;
    kinds = kinds';
    origins = origins';
    held = held';
    over_datums = λ x m. elim ((rewritten.held x).0 m) [
      | inl old ↦ st.stocked.over_datums x old
      | inr occurs ↦ λ y k. new-words.0 y (stand.onward new-root.tree x y occurs k)
    ];
  }

  -- ---- the version
  reading : IsReading rows' (kind_of v.file) w (length v.words)
  reading = record {
    kinds = λ i lt. ap kind (origin-is w rows' sound' i lt) ∙ kinds' i lt;
    placed = places;
    told = tells-words v.words st.stocked.loaded.table;
  }

  step-told : Tells (tree_by w rows') made.step (history_by (by_requests step) old-root new-root)
  step-told =
      made.told (by_requests step) old-root new-root w (length v.words) reading
      (sym (ap (λ (z : Use). z.tree) (root-is v s st)) ∙ sym (keeps.trees w u.id.0 (before-held v s st).0)) refl images
      replaced

  earlier-told : Tells (tree_by w rows') (history_of_view v)
      (history_after (kind_of v.file) (expansion_of v.file) s.steps)
  earlier-told =
      tells-stay staying v.words v.words v.rows rows' sound old-places grown (history_of_view v)
      (history_after (kind_of v.file) (expansion_of v.file) s.steps)
      (last-history-held v.file v.words v.rows v.start st.start_held (reverse v.versions) s.steps st.versions)
      (last-tells v.file v.words v.rows v.start st.start (reverse v.versions) s.steps st.versions)

  first' : use_in v.words rows' v.first ≡ expansion_of v.file
  first' = use-stays staying v.words v.words v.rows rows' sound old-places grown v.first st.first_held ∙ st.first

  whole-told : Tells (tree_by w rows') ver.history
      (history_after (kind_of v.file) (expansion_of v.file) (done_to v.file s new-root ∷ s.steps))
  whole-told =
      made.chained (kind_of v.file) w (length v.words) reading (expansion_of v.file) s.steps
      (done_to v.file s new-root) (sym (ap (λ (z : Use). z.tree) first')) refl earlier-told step-told

  version' : IsVersion v.file v.words rows' ver (done_to v.file s new-root) s.steps
  version' = record {
    held = subst (IsUseHeld v.words rows') (sym made.root) (made.held.root, made.held.place);
    root = ap (λ z. use_in v.words rows' z) made.root;
    before = refl;
    makes = steps;
    word = new-words.1;
    images = record {
      held = record {
        held = subst (ArePairsHeld rows') (sym made.images) made.held.images;
        order = subst (IsStrictlySortedBy pair_cmp) (sym made.images) made.order.images;
      };
      images = subst (λ l. ListsPairs (tree_by w rows') l (IsImage step old-root)) (sym made.images) images;
      step = record { step = step; is = refl; kinds = refl; fits = all-fit };
    };
    told = made.history_held;
    history = whole-told;
  }

  -- ---- the session
  abbrev pub next-view : View
  next-view = record v {
    rows = rows';
    versions = v.versions ++ ver ∷ [];
    asked = [];
    rule = usual;
    carried = suc v.carried;
  }

  stands' : Stands next-view next
  stands' = record {
    sound = st.sound;
    within = st.within;
    stocked = stocked';
    first_held = use-held-stays staying v.words v.words v.rows rows' sound old-places grown v.first st.first_held;
    first = first';
    first_word = st.first_word;
    start_held = held-stays staying v.words v.words v.rows rows' sound old-places grown v.start st.start_held;
    start =
        tells-stay staying v.words v.words v.rows rows' sound old-places grown v.start
        (history_after (kind_of v.file) (expansion_of v.file) []) st.start_held st.start;
    versions =
        subst (λ l. AreVersions v.file v.words rows' l (done_to v.file s new-root ∷ s.steps))
        (sym (reverse-push v.versions ver)) (
          version',
          versions-stay staying v.words v.words v.rows rows' sound old-places grown v.file (reverse v.versions) s.steps
              st.versions,
        );
    asked = record {
      held = All-none (IsHeldIn rows');
      worded = All-none (IsWorded (length v.words));
      fit = All-none (λ (r : Request). ActFits rows' r.source.0 r.act);
      stands = refl;
      over_datums = λ r by m e. absurd (Contains-none r m);
    };
    rule = refl;
    output = st.output;
    version = st.version;
    carried = ap suc st.carried;
  }

  pub next-stands : (new : View) → new ≡ next-view → Stands new next
  next-stands new e = subst (λ z. Stands z next) (sym e) stands'
