-- What a step is given: the root that is left and the targets that are asked for are trees held, and the targets fit.
use Rattle.std.proofs.Common.{◌≡◌, ◌<◌, ◌-◌, ◌∙◌, ap, sym, subst, refl, arith}
use Rattle.std.proofs.Common.{inl, inr, ℕ, zero, suc, Bool, true, false}
use Rattle.std.specs.Prelude.{◌⊎◌, List, All, Contains, length, nat_lt, if◌then◌else◌}
use Rattle.std.specs.Option.{option_map_or}
use Rattle.std.proofs.lemmas.Bool.{ltb-true, ltb-false}
use Rattle.std.proofs.lemmas.List.Elements.{All-contains}
use Rattle.std.proofs.lemmas.Option.{slice_get_past}
use Rattle.lists.proofs.Cases.{by_test}
use Rattle.lists.proofs.Members.{Contains-map_cases}
use Rattle.orientation.specs.declared.kind.Kind.{Kind}
use Rattle.orientation.specs.declared.kind.Kind.TheVariants.{Co}
use Rattle.location_words.specs.declared.pair.Pair.{Pair}
use Rattle.expansion_laws.specs.Expansion.{IsNumberOf}
use Rattle.expansion_laws.specs.Graph.{FitsBy}
use Rattle.expansion_laws.specs.Keeping.{AllNodes, HasWordsOf, IsWordOf, Passes}
use Rattle.expansion_laws.specs.Requests.{Act as TreeAct, Request as TreeRequest, remove, replace}
use Rattle.expansion_laws.specs.Trees.{Tree, Use, origin}
use Rattle.shape_pool.specs.declared.node.UseOf.{UseOf}
use Rattle.shape_pool.specs.Laws.{IsSound}
use Rattle.shape_pool.specs.Rows.{Row, HaveKinds, origin_at, tree_at, use_by}
use Rattle.requests.specs.declared.request.Act.{Act}
use Rattle.requests.specs.declared.request.Act.TheVariants.{Remove, Replace}
use Rattle.requests.specs.declared.request.Request.{Request}
use Rattle.requests.specs.Numbered.{ActFits, ActIsHeldIn, AreHeldIn, IsHeldIn}
use Rattle.requests.specs.Readings.{act_by, request_by, requests_by, FitsByTrees, TargetFits}
use Rattle.brep_file.specs.declared.file.File.{File}
use Rattle.brep_file.specs.declared.records.Record.{Record}
use Rattle.file_loading.specs.Loading.{kind_of_record}

-- ---- tests
to-test : (x y : ℕ) → x < y → nat_lt x y ≡ true
to-test x y lt = by_test (nat_lt x y) (λ t. t) (λ e. let g = ltb-false x y e in absurd (omega (arith, g, lt)))

abbrev pub is_origin : ℕ → ℕ → Bool
is_origin n o = nat_lt o (suc n)

pub origin-passes : (n o : ℕ) → (o ≡ 0) ⊎ IsNumberOf n o → Passes (is_origin n) o
origin-passes n o (inl e) = to-test o (suc n) (omega (arith, e))
origin-passes n o (inr h) = let l = h.1 in to-test o (suc n) (omega (arith, l))

origin-case : (n o : ℕ) → o < suc n → (o ≡ 0) ⊎ IsNumberOf n o
origin-case n zero lt = inl refl
origin-case n (suc o) lt = inr (omega arith, omega (arith, lt))

pub passes-origin : (n o : ℕ) → Passes (is_origin n) o → (o ≡ 0) ⊎ IsNumberOf n o
passes-origin n o h = origin-case n o (ltb-true o (suc n) h)

abbrev pub is_datum : ℕ → ℕ → Bool
is_datum n d = if nat_lt 0 d then nat_lt d (suc n) else false

pub datum-passes : (n d : ℕ) → IsNumberOf n d → Passes (is_datum n) d
datum-passes n d h =
    let least = h.0 in
    let most = h.1 in
    subst (λ b. (if b then nat_lt d (suc n) else false) ≡ true) (sym (to-test 0 d (omega (arith, least))))
    (to-test d (suc n) (omega (arith, most)))

datum-case : (n d : ℕ) (b : Bool) → (nat_lt 0 d ≡ b) → (if b then nat_lt d (suc n) else false) ≡ true → IsNumberOf n d
datum-case n d true e h =
    let least = ltb-true 0 d e in
    let most = ltb-true d (suc n) h in
    (omega (arith, least), omega (arith, most))
datum-case n d false e h = absurd cc

pub passes-datum : (n d : ℕ) → Passes (is_datum n) d → IsNumberOf n d
passes-datum n d h = datum-case n d (nat_lt 0 d) refl h

module _ (D E : ℕ → Type 0) (on : (d : ℕ) → D d → E d) where
  pub words-on : (w : List Pair) → IsWordOf D w → IsWordOf E w
  words-on w h = (h.0, λ p m. on p.datum (h.1 p m))

  pub trees-on : (x : Tree) → HasWordsOf D x → HasWordsOf E x
  trees-on x h y m u k = words-on u.word (h y m u k)

-- an origin that no record has is that of a compound
pub no-record : (f : File) → kind_of_record f 0 ≡ Co
no-record f =
    ap (λ o. option_map_or (λ (r : Record). r.head.kind) o Co)
    (slice_get_past f.records (length f.records - 0) (omega arith))

module _ (word : ℕ → List Pair) (rows : List Row) (sound : IsSound rows) where
  pub origin-is : (i : ℕ) → i < length rows → origin (tree_at word rows i) ≡ origin_at rows i
  origin-is i lt = ap origin (sound.trees_of_uses word i lt)

  -- what holds of all trees held holds of each node of one
  pub all-nodes : (N : Tree → Type 0) → ((j : ℕ) → j < length rows → N (tree_at word rows j)) →
      (i : ℕ) → i < length rows → AllNodes N (tree_at word rows i)
  all-nodes N all i lt y m =
      let r = sound.ids_of_subtrees.reached word i y lt m in
      let least = sound.ids_of_subtrees.held i r.0 lt r.1 in
      subst N r.2 (all r.0 (omega (arith, least, lt)))

  by_or : Use → TreeAct → Use
  by_or d remove = d
  by_or d (replace by) = by

  act-of : (by : Use) (a : Act) → act_by word rows a ≡ replace by →
      (u : UseOf) × (a ≡ Replace u) × (use_by word (tree_at word rows) u ≡ by)
  unfolding by_or
  act-of by Remove e = absurd cc
  act-of by (Replace u) e = (u, refl, ap (λ a. by_or by a) e)

  module _ (asked : List Request) (held : AreHeldIn rows asked) where
    -- the request and the use by numbers that a replace comes from
    pub target-of : (r : TreeRequest) (by : Use) → Contains (requests_by word rows asked) r → r.act ≡ replace by →
        (q : Request) × (u : UseOf) × Contains asked q × (q.act ≡ Replace u) × (request_by word rows q ≡ r) ×
        (use_by word (tree_at word rows) u ≡ by) × (u.id.0 < length rows)
    target-of r by m e =
        let from = Contains-map_cases (request_by word rows) r asked m in
        let act = act-of by from.0.act (ap (λ (z : TreeRequest). z.act) from.2 ∙ e) in
        let own = All-contains (IsHeldIn rows) asked from.0 held from.1 in
        (from.0, act.0, from.1, act.1, from.2, act.2, subst (ActIsHeldIn rows) act.1 own.1)

    pub targets-fit : FitsByTrees rows → (kind : ℕ → Kind) → HaveKinds rows kind →
        All (λ (r : Request). ActFits rows r.source.0 r.act) asked → (r : TreeRequest) (by : Use) →
        Contains (requests_by word rows asked) r → r.act ≡ replace by → FitsBy (λ x. kind (origin x)) r.source by.tree
    targets-fit by_trees kind kinds fit r by m e =
        let t = target-of r by m e in
        let q = t.0 in
        let own = All-contains (IsHeldIn rows) asked q held t.2 in
        let fits = All-contains (λ (r : Request). ActFits rows r.source.0 r.act) asked q fit t.2 in
        let at : TargetFits word rows kind q.source.0 q.act =
        (by_trees kind word kinds q.source.0 q.act own.0 own.1).0 fits in
        subst (λ x. FitsBy (λ y. kind (origin y)) r.source x) (ap (λ (z : Use). z.tree) t.5)
        (subst (λ x. FitsBy (λ y. kind (origin y)) x (tree_at word rows t.1.id.0))
        (ap (λ (z : TreeRequest). z.source) t.4)
        (subst (λ a. TargetFits word rows kind q.source.0 a) t.3 at))
