-- The keys that are found are all keys of the step.
use Rattle.std.proofs.Common.{◌≡◌, ◌<◌, ◌↔◌, ℕ, Bool, true, false, List, [], ◌∷◌, map, All, Contains, length}
use Rattle.std.proofs.Common.{sym, ◌∙◌, ap, subst, refl, Option, Some, None}
use Rattle.std.specs.Prelude.{IsTrue, unwrap_or}
use Rattle.std.specs.Option.{option_map, option_map_or}
use Rattle.std.proofs.lemmas.List.Elements.{All-contains, All-head, All-tail}
use Rattle.lists.specs.Distinct.{IsDistinct}
use Rattle.lists.proofs.Members.{Contains-map, Contains-map_cases}
use Rattle.location_words.specs.declared.pair.Pair.{Pair}
use Rattle.location_words.specs.declared.table.WordId.{WordId}
use Rattle.expansion_laws.specs.Trees.{Tree, Use}
use Rattle.expansion_laws.specs.Contexts.{Context, inside}
use Rattle.expansion_laws.specs.Steps.{Step}
use Rattle.expansion_laws.specs.Demands.{demands}
use Rattle.expansion_laws.specs.Visits.{LeadsTo, itself, onto}
use Rattle.expansion_laws.specs.RewritingLaws.{KeysStandForVisits}
use Rattle.expansion_laws.specs.Keys.{IsKey, IsKeyOfStep, Key as TreeKey, key}
use Rattle.shape_pool.specs.Rows.{Row, tree_at, HasPlaces}
use Rattle.shape_pool.specs.Laws.{IsSound, TellsBelow}
use Rattle.key_results.specs.declared.key.Key.{Key}
use Rattle.key_results.specs.Memos.{key_by, context_by, IsHeldKey}
use Rattle.key_results.specs.declared.fault.ApplyFault.{ApplyFault}
use Rattle.key_results.specs.Grown.{AreMoreThan}
use Rattle.expansion_laws.specs.StepMeasures.{IsWordKeyOf}
use Rattle.std.proofs.Common.{◌≢◌, ◌≤◌, ◌+◌, ◌++◌, arith, inl, inr}
use Rattle.std.specs.Prelude.{is_some, filter}
use Rattle.std.proofs.lemmas.List.{length-map}
use Rattle.std.proofs.lemmas.List.Elements.{All-filter}
use Rattle.lists.proofs.Distinct.{IsDistinct-push, IsDistinct-filter}
use Rattle.lists.proofs.Each.{All-from_members}
use Rattle.lists.proofs.Tests.{Contains-filter_cases}
use Rattle.reshape.proofs.NoteLaws.{All-push, worded-with}
use Rattle.reshape.specs.Limits.{most_keys}
use Rattle.reshape.specs.Collecting.{worded, AreOfStep, HasRoot, HasAsked, AreAllKeys, IsDueKey, IsKeysDue}
use Rattle.reshape.proofs.CollectLaws.{context-by}

-- two tests of one fact answer the same
same-test : {P : Type 0} (b c : Bool) → IsTrue b ↔ P → IsTrue c ↔ P → b ≡ c
same-test true true f g = refl
same-test false false f g = refl
same-test true false f g = sym (g.1 (f.0 refl))
same-test false true f g = f.1 (g.0 refl)

-- a visit has one key
pub one-key : (s : Step) (x : Tree) (here : Context) (k l : TreeKey) → IsKey s x here k → IsKey s x here l → k ≡ l
one-key s x here k l a b =
    a.4 ∙ (λ i. key (same-test a.0 b.0 a.2 b.2 i) (same-test a.1 b.1 a.3 b.3 i) x here) ∙ sym b.4

module _ (s : Step) (word : ℕ → List Pair) (rows : List Row) (root : Use) (keys : List Key)
    (stand : KeysStandForVisits s) (identity : word 0 ≡ [])
    (asked : (k : Key) → Contains keys k → HasAsked rows s word keys k) where
  -- with the key of a visit those of all that it leads to
  leads : {x y : Tree} {here there : Context} → LeadsTo s x here y there → (k : Key) → Contains keys k →
      IsKey s x here (key_by word rows k) →
      (l : Key) × Contains keys l × IsKey s y there (key_by word rows l)
  leads itself k c is = (k, c, is)
  leads {x} {y} {here} {there} (onto v m rest) k c is =
      let same-tree : tree_at word rows k.id.0 ≡ x = ap (λ (q : TreeKey). q.tree) is.4 in
      let at-key : Contains (demands s x (context_by word k)) v =
      subst (λ d. Contains (demands s x d) v) (context-by word rows k identity)
      (subst (λ us. Contains us v) (stand.same_demands x here (key_by word rows k) is) m) in
      let next = asked k c v (subst (λ z. Contains (demands s z (context_by word k)) v) (sym same-tree) at-key) in
      let here-key = (stand.same_keys x here (key_by word rows k) (key_by word rows next.0) v is m).1
      (subst (λ d. IsKey s v.tree (inside d v) (key_by word rows next.0)) (sym (context-by word rows k identity))
      next.2) in
      leads rest next.0 next.1 here-key

  pub all-found : HasRoot rows s word root keys → (q : TreeKey) → IsKeyOfStep s root q →
      Contains (map (key_by word rows) keys) q
  all-found first q of-step =
      let l = leads of-step.2 first.0 first.1 first.2 in
      subst (Contains (map (key_by word rows) keys))
      (sym (one-key s of-step.0 of-step.1 q (key_by word rows l.0) of-step.3 l.2))
      (Contains-map (key_by word rows) l.0 keys l.1)

-- keys that name held nodes and words stand for different keys where they differ
some-inj : {X : Type 0} {x y : X} → Some x ≡ Some y → x ≡ y
some-inj {x = x} e = ap (λ o. unwrap_or o x) e

word-tells : (n : ℕ) (word : ℕ → List Pair) → TellsBelow n word → (a b : Option WordId) →
    option_map_or (λ (w : WordId). w.0) a 0 < n →
    option_map_or (λ (w : WordId). w.0) b 0 < n →
    option_map (λ (w : WordId). word w.0) a ≡ option_map (λ (w : WordId). word w.0) b → a ≡ b
word-tells n word tells None None ha hb e = refl
word-tells n word tells None (Some b) ha hb e = absurd cc
word-tells n word tells (Some a) None ha hb e = absurd cc
word-tells n word tells (Some a) (Some b) ha hb e =
    (let same = tells a.0 b.0 ha hb (some-inj e) in λ i. Some (record { 0 = same i }))

module _ (rows : List Row) (sound : IsSound rows) (word : ℕ → List Pair) (n : ℕ) (places : HasPlaces rows n)
    (tells : TellsBelow n word) where
  pub key-tells : (a b : Key) → IsHeldKey rows n a → IsHeldKey rows n b → key_by word rows a ≡ key_by word rows b →
      a ≡ b
  key-tells a b ha hb e =
      let ids = (sound.ids_tell_trees n word places tells a.id.0 b.id.0 ha.0 hb.0).1 (ap (λ (q : TreeKey). q.tree) e) in
      let ws = word-tells n word tells a.word b.word ha.1 hb.1 (ap (λ (q : TreeKey). q.word) e) in
      λ i. record { id = record { 0 = ids i }; word = ws i; turn = (ap (λ (q : TreeKey). q.turn) e) i }

  pub keys-distinct : (keys : List Key) → All (IsHeldKey rows n) keys → IsDistinct keys →
      IsDistinct (map (key_by word rows) keys)
  keys-distinct [] held d = tt
  keys-distinct (k ∷ keys) held d =
      let rest = All-tail (IsHeldKey rows n) k keys held in (
        (λ m. let c = Contains-map_cases (key_by word rows) (key_by word rows k) keys m in
            d.0
            (subst (Contains keys) (key-tells c.0 k (All-contains (IsHeldKey rows n) keys c.0 rest c.1)
            (All-head (IsHeldKey rows n) k keys held) c.2) c.1)),
        keys-distinct keys rest d.1,
      )

  pub are-all-keys : (s : Step) (root : Use) (keys : List Key) → KeysStandForVisits s → word 0 ≡ [] →
      All (IsHeldKey rows n) keys → IsDistinct keys →
      AreOfStep rows s word root keys → HasRoot rows s word root keys →
      ((k : Key) → Contains keys k → HasAsked rows s word keys k) →
      AreAllKeys rows s word root keys
  are-all-keys s root keys stand identity held d of-step first asked = (
    keys-distinct keys held d,
    λ q. (
      all-found s word rows root keys stand identity asked first q,
      λ m. let c = Contains-map_cases (key_by word rows) q keys m in
          subst (IsKeyOfStep s root) c.2 (All-contains (λ (k : Key). IsKeyOfStep s root (key_by word rows k)) keys c.0
          of-step c.1),
    ),
  )

  -- ---- a key that is one too many
  word-key : (s : Step) (root : Use) (k : Key) → IsKeyOfStep s root (key_by word rows k) → is_some k.word ≡ true →
      IsWordKeyOf s root (key_by word rows k)
  word-key s root k of-step some = (of-step, go k.word some)
    where
      go : (o : Option WordId) → is_some o ≡ true → option_map (λ (w : WordId). word w.0) o ≢ None
      go None e = absurd cc
      go (Some w) e = λ h. absurd cc

  pub too-many : (s : Step) (root : Use) (keys : List Key) (k : Key) → All (IsHeldKey rows n) keys →
      IsHeldKey rows n k → IsDistinct keys →
      (Contains keys k → ⊥) → is_some k.word ≡ true → AreOfStep rows s word root keys →
      IsKeyOfStep s root (key_by word rows k) →
      most_keys ≤ worded keys → AreMoreThan most_keys (IsWordKeyOf s root)
  too-many s root keys k held k-held once new some of-step k-of-step full =
      let all : List Key = keys ++ k ∷ [] in
      let some-word : Key → Bool = (λ (q : Key). is_some q.word) in
      let words : List Key = filter some-word all in
      let all-held : All (IsHeldKey rows n) all = All-push (IsHeldKey rows n) keys k held k-held in
      let all-step : AreOfStep rows s word root all =
      All-push (λ (q : Key). IsKeyOfStep s root (key_by word rows q)) keys k of-step k-of-step in
      let distinct : IsDistinct words = IsDistinct-filter some-word all (IsDistinct-push keys k once new) in
      let held-words : All (IsHeldKey rows n) words = All-filter some-word (IsHeldKey rows n) all all-held in
      let are : All (IsWordKeyOf s root) (map (key_by word rows) words) =
      All-from_members (IsWordKeyOf s root) (map (key_by word rows) words) (λ q m.
      let c = Contains-map_cases (key_by word rows) q words m in
      let f = Contains-filter_cases some-word all c.0 c.1 in
      subst (IsWordKeyOf s root) c.2
      (word-key s root c.0 (All-contains (λ (z : Key). IsKeyOfStep s root (key_by word rows z)) all c.0 all-step f.0)
      f.1)) in
      let long : length (map (key_by word rows) words) ≡ length words = length-map words (key_by word rows) in
      let count : length words ≡ worded keys + 1 = sym
      (worded-with keys all k (worded keys) (worded keys + 1) refl some refl refl) in
      (map (key_by word rows) words, keys-distinct words held-words distinct, are, omega (arith, long, count, full))

  pub due-key : (s : Step) (root : Use) (keys : List Key) (k : Key) (count : ℕ) (fault : ApplyFault) →
      All (IsHeldKey rows n) keys → IsHeldKey rows n k →
      IsDistinct keys → AreOfStep rows s word root keys → IsKeyOfStep s root (key_by word rows k) →
      count ≡ worded keys → IsDueKey k keys count fault →
      IsKeysDue s root fault
  due-key s root keys k count fault held k-held once of-step k-of-step counted due = elim due [
    | inl none ↦ subst (IsKeysDue s root) (sym none) tt
    | inr past ↦ (let full : most_keys ≤ worded keys = (let a = past.3 in omega (arith, counted, a)) in
        subst (IsKeysDue s root) (sym past.0) (
          too-many s root keys k held k-held once past.1 past.2 of-step k-of-step
              full,
          refl,
        ))
  ]
