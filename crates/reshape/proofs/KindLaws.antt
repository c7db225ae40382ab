-- The parts of a node that is rebuilt are of lower kinds.
use Rattle.std.proofs.Common.{◌≡◌, ◌<◌, ◌∙◌, ◌∷◌, ℕ, Bool, true, false, List, [], Contains, map, length}
use Rattle.std.proofs.Common.{arith, refl, sym, ap, subst, slice_get, Option, Some, None}
use Rattle.std.specs.Prelude.{if◌then◌else◌}
use Rattle.std.specs.Option.{option_map_or}
use Rattle.std.proofs.lemmas.List.Elements.{All-contains}
use Rattle.std.proofs.lemmas.Option.{slice_get_within}
use Rattle.lists.proofs.Entries.{All-place}
use Rattle.lists.proofs.Members.{Contains-flat_map_cases, Contains-here, Contains-map, Contains-map_cases}
use Rattle.lists.proofs.Places.{at_place}
use Rattle.orientation.specs.declared.kind.Kind.{Kind}
use Rattle.orientation.specs.Kinds.{IsBelow}
use Rattle.location_words.specs.declared.pair.Pair.{Pair}
use Rattle.expansion_laws.specs.Trees.{Tree, Use, origin, uses}
use Rattle.expansion_laws.specs.Contexts.{Context, bare}
use Rattle.expansion_laws.specs.Demands.{demands, demands_by}
use Rattle.expansion_laws.specs.Graph.{FitsBy, KindFits}
use Rattle.expansion_laws.specs.Keeping.{AllFit, ResultsHaveTheKind}
use Rattle.expansion_laws.specs.Requests.{Request as TreeRequest, replace}
use Rattle.expansion_laws.specs.Steps.{Step, kind}
use Rattle.shape_pool.specs.declared.node.NodeId.{NodeId}
use Rattle.shape_pool.specs.declared.node.UseOf.{UseOf}
use Rattle.shape_pool.specs.Laws.{IsSound}
use Rattle.shape_pool.specs.Rows.{Row, kind_at, tree_at, use_by, uses_at}
use Rattle.requests.specs.declared.request.Request.{Request}
use Rattle.requests.specs.declared.request.Act.{Act}
use Rattle.requests.specs.declared.request.Act.TheVariants.{Remove, Replace}
use Rattle.requests.specs.Numbered.{ActFits, IsHeldIn}
use Rattle.requests.specs.Plans.{StepPlan}
use Rattle.requests.specs.Readings.{act_by, request_by, FitsByTrees, TargetFits}
use Rattle.key_results.specs.declared.derive.Link.{Link}
use Rattle.key_results.specs.declared.derive.Outcome.{Outcome}
use Rattle.key_results.specs.declared.derive.Outcome.TheVariants.{Stays, Rebuilt, Joined}
use Rattle.key_results.specs.declared.derive.Visit.{Visit}
use Rattle.key_results.specs.declared.key.Key.{Key}
use Rattle.key_results.specs.declared.parts.Outgrowth.{Outgrowth}
use Rattle.key_results.specs.declared.parts.Part.{Part}
use Rattle.key_results.specs.Derivations.{linked as carried_by, results_at, results_of, AreLinked, AreVisitsHeld}
use Rattle.key_results.specs.Derived.{asked_by, id_at, DerivesResults, IsLinkedFrom, IsMetAs}
use Rattle.key_results.specs.Grown.{AreInOrder}
use Rattle.key_results.specs.Memos.{context_by}
use Rattle.key_results.specs.Parts.{is_own_at, own_at, results_by, results_in}
use Rattle.key_results.specs.Parts.{use_of_part, AreOfOwn, AreOutgrowths, ArePartsOfOwn}
use Rattle.key_results.specs.Results.{GiveResults}
use Rattle.reshape.specs.Readings.{IsStepOf}
use Rattle.reshape.specs.Collecting.{IsDerivedBy}
use Rattle.reshape.proofs.AskLaws.{kind-at-tree, uses-at-tree}

-- ---- every replace of a step that is carried out fits
abbrev KindFitsBy : (ℕ → Kind) → Tree → Tree → Type 0
KindFitsBy kinds = FitsBy (λ x. kinds (origin x))

same-target : (a b : Use) → replace a ≡ replace b → a ≡ b
same-target a b e = cc

fits-act : (rows : List Row) (word : ℕ → List Pair) (kinds : ℕ → Kind) (i : ℕ) (a : Act) (by : Use) →
    act_by word rows a ≡ replace by →
    TargetFits word rows kinds i a → KindFitsBy kinds (tree_at word rows i) by.tree
fits-act rows word kinds i Remove by e h = absurd cc
fits-act rows word kinds i (Replace target) by e h =
    subst (λ (u : Use). KindFitsBy kinds (tree_at word rows i) u.tree)
    (same-target (use_by word (tree_at word rows) target) by e) h

pub all-fit : (rows : List Row) (n root : ℕ) (plan : StepPlan) (table : List (List Pair)) (s : Step)
    (word : ℕ → List Pair) →
    IsStepOf rows n root plan table s word → FitsByTrees rows → AllFit s
all-fit rows n root plan table s word it fit r by h =
    let among = subst (λ (z : Step). Contains z.requests r) it.is h.0 in
    let c = Contains-map_cases (request_by word rows) r it.given.requests among in
    let q = c.0 in
    let held = All-contains (IsHeldIn rows) it.given.requests q it.carried.held c.1 in
    let fits = All-contains (λ (z : Request). ActFits rows z.source.0 z.act) it.given.requests q it.carried.fit c.1 in
    let target = (fit it.kind word it.reads.kinds q.source.0 q.act held.0 held.1).0 fits in
    let act : act_by word rows q.act ≡ replace by = ap (λ (z : TreeRequest). z.act) c.2 ∙ h.1 in
    let at-kinds = fits-act rows word it.kind q.source.0 q.act by act target in
    subst (λ (z : Step). KindFits z r.source by.tree) (sym it.is)
    (subst (λ (x : Tree). KindFitsBy it.kind x by.tree) (ap (λ (z : TreeRequest). z.source) c.2) at-kinds)

pub own-there : (outgrowths : List Outgrowth) (k : ℕ) → is_own_at outgrowths k ≡ true →
    (o : Outgrowth) × (slice_get outgrowths k ≡ Some o) × (o.own ≡ true)
own-there outgrowths k e = go (slice_get outgrowths k) refl e
  where
    go : (q : Option Outgrowth) → slice_get outgrowths k ≡ q → option_map_or (λ (o : Outgrowth). o.own) q false ≡ true →
        (o : Outgrowth) × (slice_get outgrowths k ≡ Some o) × (o.own ≡ true)
    go None a b = absurd cc
    go (Some o) a b = (o, a, b)

-- what a rebuilt visit asks for are the uses of its tree
asks-uses : (s : Step) (x : Tree) (here : Context) (o : Outcome) → IsMetAs s x here o → o ≡ Rebuilt →
    demands s x here ≡ uses x
asks-uses s x here Stays met e = absurd cc
asks-uses s x here Rebuilt met e = ap (demands_by s x here) met.0 ∙ ap (λ (b : Bool). if b then uses x else []) met.1
asks-uses s x here Joined met e = absurd cc

module _ (rows : List Row) (sound : IsSound rows) (n root_id : ℕ) (plan : StepPlan) (table : List (List Pair))
    (s : Step) (word : ℕ → List Pair)
    (it : IsStepOf rows n root_id plan table s word) (fit : FitsByTrees rows) (kinds : ResultsHaveTheKind s)
    (root : Use) (visits : List Visit)
    (derived : IsDerivedBy rows s word root visits) (linked : AreLinked visits)
    (told : DerivesResults s word rows derived.keys visits)
    (visits_held : AreVisitsHeld rows visits) (outgrowths : List Outgrowth)
    (out : AreOutgrowths word (results_of word (tree_at word rows) s.rule.prune visits) s.rule.prune visits outgrowths)
    (gives : GiveResults word (tree_at word rows) s.rule.prune visits outgrowths) (of_own : AreOfOwn outgrowths) where
  abbrev tree : ℕ → Tree
  tree = tree_at word rows

  abbrev R : List (List Use)
  R = results_of word tree s.rule.prune visits

  kind-of : (i : ℕ) → i < length rows → kind s (tree i) ≡ kind_at rows i
  kind-of i lt = kind-at-tree rows sound word s it.kind it.reads.kinds (ap (λ (z : Step). z.kind_of_origin) it.is) i lt

  -- a result of a key has the kind of the key's node
  result-kind : (j : ℕ) (k : Key) (u : Use) → slice_get derived.keys j ≡ Some k → Contains (results_at R j) u →
      kind s u.tree ≡ kind s (tree k.id.0)
  result-kind j k u e m =
      kinds (all-fit rows n root_id plan table s word it fit) (context_by word k) (bare (tree k.id.0)) (results_at R j)
      (told j k e) u m

  -- the tree of its own that comes of a key is its result
  own-result : (j : ℕ) → is_own_at outgrowths j ≡ true → Contains (results_at R j) (bare (own_at R j))
  own-result j e =
      let o = own-there outgrowths j e in
      let within = slice_get_within outgrowths j o.0 o.1 in
      let long = out.long in
      let given = gives linked out j (omega (arith, within, long)) in
      let by : results_in word (own_at R) outgrowths j ≡ bare (own_at R j) ∷ [] =
      ap (λ (q : Option Outgrowth). option_map_or (results_by word (own_at R) j) q []) o.1 ∙
      ap (λ (b : Bool). if b then bare (own_at R j) ∷ [] else map (use_of_part word (own_at R)) o.0.parts.items) o.2 in
      subst (λ (l : List Use). Contains l (bare (own_at R j))) (sym by ∙ given) (Contains-here (bare (own_at R j)) [])

  own-kind : (j : ℕ) (v : Visit) → slice_get visits j ≡ Some v → is_own_at outgrowths j ≡ true →
      kind s (own_at R j) ≡ kind_at rows v.id.0
  own-kind j v e own =
      let within = slice_get_within visits j v e in
      let long = derived.derives.long in
      let k = at_place derived.keys j (omega (arith, within, long)) in
      let id : k.0.id ≡ v.id = sym (derived.derives.each j k.0 v k.1 e).id in
      let held : v.id.0 < length rows = All-place (λ (w : Visit). w.id.0 < length rows) visits j v visits_held e in
      result-kind j k.0 (bare (own_at R j)) k.1 (own-result j own) ∙ ap (λ (i : NodeId). kind s (tree i.0)) id ∙
      kind-of v.id.0 held

  pub in-order : AreInOrder rows visits outgrowths
  in-order k v o p w at came rebuilt part there =
      let within = slice_get_within visits k v at in
      let long = derived.derives.long in
      let from = at_place derived.keys k (omega (arith, within, long)) in
      let is = derived.derives.each k from.0 v from.1 at in
      let held : v.id.0 < length rows = All-place (λ (z : Visit). z.id.0 < length rows) visits k v visits_held at in
      let own : is_own_at outgrowths p.of ≡ true =
      All-contains (λ (q : Part). is_own_at outgrowths q.of ≡ true) o.parts.items p
      (All-place (λ (z : Outgrowth). ArePartsOfOwn outgrowths z.parts.items) outgrowths k o of_own came) part in
      let joined = subst (λ (l : List Use). Contains l (use_of_part word (own_at R) p))
      (sym (out.each k v o at came).parts)
      (Contains-map (use_of_part word (own_at R)) p o.parts.items part) in
      let l = Contains-flat_map_cases (λ (z : Link). map (carried_by word v.mover z) (results_at R z.key))
      (use_of_part word (own_at R) p) v.links.items joined in
      let r = Contains-map_cases (carried_by word v.mover l.0) (use_of_part word (own_at R) p) (results_at R l.0.key)
      l.2 in
      let same : r.0.tree ≡ own_at R p.of = ap (λ (z : Use). z.tree) r.2 in
      let to = All-contains (IsLinkedFrom s word rows derived.keys from.0 k v.mover) v.links.items l.0 is.links l.1 in
      let asked = subst (λ (us : List Use). Contains us (asked_by s word rows derived.keys v.mover l.0)) (sym is.asked)
      (Contains-map (asked_by s word rows derived.keys v.mover) l.0 v.links.items l.1) in
      let used = subst (λ (us : List Use). Contains us (asked_by s word rows derived.keys v.mover l.0))
      (asks-uses s (tree from.0.id.0) (context_by word from.0) v.outcome is.met rebuilt ∙
      ap (λ (i : NodeId). uses (tree i.0)) (sym is.id) ∙
      uses-at-tree rows sound word v.id.0 held) asked in
      let u = Contains-map_cases (use_by word tree) (asked_by s word rows derived.keys v.mover l.0)
      (uses_at rows v.id.0) used in
      let below = All-contains (λ (z : UseOf). IsBelow (kind_at rows z.id.0) (kind_at rows v.id.0))
      (uses_at rows v.id.0) u.0
      (sound.kinds_of_trees.below v.id.0 held) u.1 in
      let earlier = All-contains (λ (z : UseOf). z.id.0 < v.id.0) (uses_at rows v.id.0) u.0
      (sound.uses_are_earlier v.id.0 held) u.1 in
      let id : id_at derived.keys l.0.key ≡ to.1.id.0 =
      ap (λ (q : Option Key). option_map_or (λ (z : Key). z.id.0) q 0) to.2 in
      let child : kind s (tree u.0.id.0) ≡ kind s (tree to.1.id.0) =
      ap (λ (z : Use). kind s z.tree) u.2 ∙ ap (λ (i : ℕ). kind s (tree i)) id in
      let kind-is : kind_at rows u.0.id.0 ≡ kind_at rows w.id.0 =
      sym (kind-of u.0.id.0 (omega (arith, earlier, held))) ∙ child ∙ sym (result-kind l.0.key to.1 r.0 to.2 r.1) ∙
      ap (kind s) same ∙ own-kind p.of w there own in
      subst (λ (z : Kind). IsBelow z (kind_at rows v.id.0)) kind-is below
