-- The measures of a step are those of the plain slow lists.
use Rattle.std.proofs.Common.{◌≡◌, refl, sym, ◌∙◌, ap, subst, inl, inr}
use Rattle.std.proofs.lemmas.List.Elements.{Contains-append_left, Contains-append_right, Contains-append_cases}
use Rattle.std.specs.Prelude.{◌⊎◌, ◌+◌, ◌&&◌, ℕ, suc, Bool, true, false, Some, is_some}
use Rattle.std.specs.Prelude.{is_none, unwrap_or, List, [], ◌++◌, map, length, Contains, if◌then◌else◌}
use Rattle.std.specs.List.{flat_map}
use Rattle.lists.proofs.Distinct.{IsDistinct-filter}
use Rattle.lists.specs.Distinct.{IsDistinct}
use Rattle.lists.proofs.Tests.{Contains-filter, Contains-filter_cases}
use Rattle.lists.proofs.Members.{Contains-flat_map, Contains-flat_map_cases}
use Rattle.lists.proofs.Members.{Contains-map, Contains-map_cases, Contains-none}
use Rattle.location_words.specs.declared.pair.Pair.{Pair}
use Rattle.location_words.specs.Laws.{WordsAreAGroup}
use Rattle.orientation.specs.Laws.{TurnsCompose}
use Rattle.expansion_laws.specs.Trees.{Tree, Use, uses}
use Rattle.expansion_laws.specs.Equality.{tree_eq}
use Rattle.expansion_laws.specs.Measures.{subtrees}
use Rattle.expansion_laws.specs.Contexts.{Context, at_root, inside, bare}
use Rattle.expansion_laws.specs.Requests.{match_of}
use Rattle.expansion_laws.specs.Steps.{Step, is_entered}
use Rattle.expansion_laws.specs.Rewriting.{results_within, RelativeResults}
use Rattle.expansion_laws.specs.Visits.{visits_within, IsVisit, itself as visit-itself}
use Rattle.expansion_laws.specs.Keys.{Key, IsKey, IsKeyOfStep, context_of}
use Rattle.expansion_laws.specs.WholeVisits.{is_whole}
use Rattle.expansion_laws.specs.StepMeasures.{uses_below, IsWordKeyOf, size_of, IsSize}
use Rattle.expansion_laws.specs.StepMeasures.{IsUseCount, IsRemainingWord, IsWordMade, IsHeldTree}
use Rattle.expansion_laws.specs.SlowMeasures.{key_eq, is_ranked, key_within}
use Rattle.expansion_laws.specs.SlowMeasures.{parts_within, size_within, words_within, held_word, keys_listed}
use Rattle.expansion_laws.specs.SlowMeasures.{word_keys_listed, words_listed, held_listed, MeasuresAreListed}
use Rattle.expansion_laws.specs.SlowMeasures.{MeasuresByLists, HeldTreesByLists, MeasuresAreDetermined}
use Rattle.expansion_laws.proofs.TreeEquality.{tree_eq-same, tree_eq-itself}
use Rattle.expansion_laws.proofs.LevelLemmas.{Rewrites-one}
use Rattle.expansion_laws.proofs.KeyLemmas.{results-same, results_depend_on_key_alone}
use Rattle.expansion_laws.proofs.KeyVisitLemmas.{same-for-key}
use Rattle.expansion_laws.proofs.KeyReachLemmas.{one-key}
use Rattle.expansion_laws.proofs.ListedLemmas.{led}
use Rattle.expansion_laws.proofs.UnconditionalLemmas.{visited-reached}
use Rattle.expansion_laws.proofs.WholeLemmas.{whole-listed, whole-told, use-there}
use Rattle.lists.proofs.Once.{once-has, once-of, once-distinct, counts-one, sum-same, sums-agree}
use Rattle.expansion_laws.proofs.MeasureKeys.{key_eq-same, key_eq-itself, ranked-reached, key-told, none-filled}
use Rattle.expansion_laws.proofs.MeasureKeys.{some-filled, filled-some, held-is, is-held, key-of-match}

-- ---- the keys of a step
module _ (turns : TurnsCompose) (group : WordsAreAGroup) (s : Step) (n : ℕ) (root : Use)
    (whole : is_whole s n root.tree (inside at_root root) ≡ true) (ranked : is_ranked s n root.tree ≡ true) where
  abbrev key_at : Tree × Context → Key
  key_at v = key_within s n v.0 v.1

  abbrev all_visits : List (Tree × Context)
  all_visits = visits_within s n root.tree (inside at_root root)

  visit-key : (x : Tree) (here : Context) → IsVisit s root x here → IsKey s x here (key_within s n x here)
  visit-key x here v = key-told s n x here (ranked-reached s (visited-reached s root x here v) n ranked)

  key-listed : (x : Tree) (here : Context) → IsVisit s root x here →
      Contains (keys_listed s n root) (key_within s n x here)
  key-listed x here v =
      once-has key_eq key_eq-same key_eq-itself (map key_at all_visits) (key_within s n x here)
      (Contains-map key_at (x, here) all_visits ((whole-listed turns group) s v n whole))

  -- a listed key is that of a visit
  listed-key : (k : Key) → Contains (keys_listed s n root) k →
      (x : Tree) × (here : Context) × IsVisit s root x here × IsKey s x here k
  listed-key k m =
      let from = Contains-map_cases key_at k all_visits
      (once-of key_eq key_eq-same key_eq-itself (map key_at all_visits) k m) in
      let v = led s n root.tree from.0.0 (inside at_root root) from.0.1 from.1 in
      (from.0.0, from.0.1, v, subst (λ k. IsKey s from.0.0 from.0.1 k) from.2 (visit-key from.0.0 from.0.1 v))

  step-key : (k : Key) → IsKeyOfStep s root k → Contains (keys_listed s n root) k
  step-key k h =
      subst (λ k. Contains (keys_listed s n root) k)
      (one-key s h.0 h.1 k (key_within s n h.0 h.1) h.3 (visit-key h.0 h.1 h.2)) (key-listed h.0 h.1 h.2)

  keys-once : IsDistinct (keys_listed s n root)
  keys-once = once-distinct key_eq key_eq-same key_eq-itself (map key_at all_visits)

  -- ---- the relative results of a key are those of each of its visits
  visit-told : (x : Tree) (here : Context) → IsVisit s root x here →
      (a : List Use) × (results_within s (suc n) here (bare x) ≡ Some a)
  visit-told x here v = (whole-told turns group) s v n whole (group.product_is_word [] root.word)

  visit-parts : (x : Tree) (here : Context) (k : Key) (results : List Use) → IsVisit s root x here → IsKey s x here k →
      RelativeResults s x here results → parts_within s n k ≡ results
  visit-parts x here k results v i r =
      let a = visit-told x here v in
      let tree : k.tree ≡ x = ap (λ (k : Key). k.tree) i.4 in
      let there : results_within s (suc n) (context_of k) (bare x) ≡ Some a.0 =
      sym (results-same s (suc n) here (context_of k) (bare x) (same-for-key s x here k i)) ∙ a.1 in
      ap (λ z. unwrap_or (results_within s (suc n) (context_of k) (bare z)) []) tree ∙ ap (λ o. unwrap_or o []) there ∙
      Rewrites-one s here (bare x) a.0 results (suc n, a.1) r

  key-entered : (x : Tree) (here : Context) (k : Key) → IsKey s x here k → is_entered s k.tree ≡ is_entered s x
  key-entered x here k i = ap (is_entered s) (ap (λ (k : Key). k.tree) i.4)

  -- ---- what keys add to the uses
  key-size : (x : Tree) (here : Context) (k : Key) (results : List Use) → IsVisit s root x here → IsKey s x here k →
      RelativeResults s x here results → size_within s n k ≡ size_of s x here results
  key-size x here k results v i r =
      let parts = visit-parts x here k results v i r in
      let met = key-of-match s x here k i in
      let entered = key-entered x here k i in
      λ j. length (parts j) + (if is_none (met j) && entered j then uses_below (parts j) else 0)

  listed-size : (k : Key) → Contains (keys_listed s n root) k → IsSize s root k (size_within s n k)
  listed-size k m =
      let h = listed-key k m in
      let a = visit-told h.0 h.1 h.2 in
      (h.0, h.1, a.0, h.2, h.3, (suc n, a.1), key-size h.0 h.1 k a.0 h.2 h.3 (suc n, a.1))

  -- ---- words
  remaining-there : (b c : Bool) (parts : List Use) (r : Use) (w : List Pair) → b ≡ true → c ≡ true → Contains parts r →
      Contains (map (λ v. v.word) (uses r.tree)) w →
      Contains (if b && c then flat_map (λ r. map (λ v. v.word) (uses r.tree)) parts else []) w
  remaining-there true true parts r w e f m i =
      Contains-flat_map (λ (r : Use). map (λ v. v.word) (uses r.tree)) r w parts m i
  remaining-there true false parts r w e f m i = absurd cc
  remaining-there false c parts r w e f m i = absurd cc

  remaining-from : (b c : Bool) (parts : List Use) (w : List Pair) →
      Contains (if b && c then flat_map (λ r. map (λ v. v.word) (uses r.tree)) parts else []) w →
      (r : Use) × Contains parts r × (b ≡ true) × (c ≡ true) × Contains (map (λ v. v.word) (uses r.tree)) w
  remaining-from true true parts w m =
      let from = Contains-flat_map_cases (λ (r : Use). map (λ v. v.word) (uses r.tree)) w parts m in
      (from.0, from.1, refl, refl, from.2)
  remaining-from true false parts w m = absurd (Contains-none w m)
  remaining-from false c parts w m = absurd (Contains-none w m)

  visit-word : (x : Tree) (here : Context) (results : List Use) (r : Use) (w : List Pair) → IsVisit s root x here →
      RelativeResults s x here results → Contains results r →
      (w ≡ r.word) ⊎ IsRemainingWord s x here r w → Contains (words_within s n (key_within s n x here)) w
  visit-word x here results r w v q m h =
      let k = key_within s n x here in
      let i = visit-key x here v in
      let parts = visit-parts x here k results v i q in
      let there = subst (λ l. Contains l r) (sym parts) m in
      elim h [
        | inl e ↦
            Contains-append_left (map (λ r. r.word) (parts_within s n k))
            (if is_none (match_of s.requests k.tree (context_of k)) && is_entered s k.tree
            then flat_map (λ r. map (λ v. v.word) (uses r.tree)) (parts_within s n k) else []) w
            (subst (λ z. Contains (map (λ (r : Use). r.word) (parts_within s n k)) z) (sym e)
            (Contains-map (λ (r : Use). r.word) r (parts_within s n k) there))
        | inr g ↦
            Contains-append_right (map (λ r. r.word) (parts_within s n k))
            (if is_none (match_of s.requests k.tree (context_of k)) && is_entered s k.tree
            then flat_map (λ r. map (λ v. v.word) (uses r.tree)) (parts_within s n k) else []) w
            (remaining-there (is_none (match_of s.requests k.tree (context_of k))) (is_entered s k.tree)
            (parts_within s n k) r w
            (ap is_none (key-of-match s x here k i ∙ g.0)) (key-entered x here k i ∙ g.1) there g.2)
      ]

  key-word : (k : Key) (w : List Pair) → Contains (keys_listed s n root) k → Contains (words_within s n k) w →
      (x : Tree) × (here : Context) × (results : List Use) × (r : Use) × IsVisit s root x here ×
      RelativeResults s x here results × Contains results r ×
      ((w ≡ r.word) ⊎ IsRemainingWord s x here r w)
  key-word k w m c =
      let h = listed-key k m in
      let a = visit-told h.0 h.1 h.2 in
      let parts = visit-parts h.0 h.1 k a.0 h.2 h.3 (suc n, a.1) in
      elim (Contains-append_cases (map (λ r. r.word) (parts_within s n k))
      (if is_none (match_of s.requests k.tree (context_of k)) && is_entered s k.tree
      then flat_map (λ r. map (λ v. v.word) (uses r.tree)) (parts_within s n k) else []) w c) [
        | inl l ↦
            (let from = Contains-map_cases (λ (r : Use). r.word) w (parts_within s n k) l in
            (h.0, h.1, a.0, from.0, h.2, (suc n, a.1), subst (λ l. Contains l from.0) parts from.1, inl (sym from.2)))
        | inr l ↦
            (let from = remaining-from (is_none (match_of s.requests k.tree (context_of k))) (is_entered s k.tree)
            (parts_within s n k) w l in (
              h.0,
              h.1,
              a.0,
              from.0,
              h.2,
              (suc n, a.1),
              subst (λ l. Contains l from.0) parts from.1,
              inr (
                sym (key-of-match s h.0 h.1 k h.3) ∙ none-filled (match_of s.requests k.tree (context_of k)) from.2,
                sym (key-entered h.0 h.1 k h.3) ∙ from.3,
                from.4,
              ),
            ))
      ]

  root-told : (r : List Use) × (results_within s (suc n) at_root root ≡ Some r)
  root-told = let a = visit-told root.tree (inside at_root root) visit-itself in
      (use-there turns group) s (suc n) at_root root a.0 a.1

  word-listed : (w : List Pair) → IsWordMade s root w → Contains (words_listed s n root) w
  word-listed w (inl h) =
      Contains-append_left (flat_map (words_within s n) (keys_listed s n root))
      (map (λ r. r.word) (unwrap_or (results_within s (suc n) at_root root) [])) w
      (Contains-flat_map (words_within s n) (key_within s n h.0 h.1) w (keys_listed s n root) (key-listed h.0 h.1 h.4)
      (visit-word h.0 h.1 h.2 h.3 w h.4 h.5 h.6 h.7))
  word-listed w (inr h) =
      let same : h.0 ≡ root-told.0 = Rewrites-one s at_root root h.0 root-told.0 h.1 (suc n, root-told.1) in
      Contains-append_right (flat_map (words_within s n) (keys_listed s n root))
      (map (λ r. r.word) (unwrap_or (results_within s (suc n) at_root root) [])) w
      (subst (λ l. Contains (map (λ (r : Use). r.word) l) w) (same ∙ ap (λ o. unwrap_or o []) (sym root-told.1)) h.2)

  listed-word : (w : List Pair) → Contains (words_listed s n root) w → IsWordMade s root w
  listed-word w m =
      elim (Contains-append_cases (flat_map (words_within s n) (keys_listed s n root))
      (map (λ r. r.word) (unwrap_or (results_within s (suc n) at_root root) [])) w m) [
        | inl l ↦ (let from = Contains-flat_map_cases (words_within s n) w (keys_listed s n root) l in
            inl (key-word from.0 w from.1 from.2))
        | inr l ↦ inr (
          root-told.0,
          (suc n, root-told.1),
          subst (λ l. Contains (map (λ (r : Use). r.word) l) w) (ap (λ o. unwrap_or o []) root-told.1) l,
        )
      ]

  pub measures-listed : MeasuresAreListed s n root
  measures-listed = record {
    keys = (keys-once, λ k. (step-key k, listed-key k));
    word_keys = (
      word_keys_listed s n root,
      (
        IsDistinct-filter (λ (k : Key). is_some k.word) (keys_listed s n root) keys-once,
        λ k. (
          (λ h. Contains-filter (λ (k : Key). is_some k.word) (keys_listed s n root) k (step-key k h.0)
              (filled-some k.word h.1)),
          (λ m. (let r = Contains-filter_cases (λ (k : Key). is_some k.word) (keys_listed s n root) k m in
              (listed-key k r.0, some-filled k.word r.1))),
        ),
      ),
      refl,
    );
    key_words = λ w. (
      (λ h. Contains-flat_map (λ (k : Key). held_word k.word) h.0 w (keys_listed s n root) (step-key h.0 h.1)
          (is-held h.0.word w h.2)),
      (λ m. (let from = Contains-flat_map_cases (λ (k : Key). held_word k.word) w (keys_listed s n root) m in
          (from.0, listed-key from.0 from.1, held-is from.0.word w from.2))),
    );
    uses_made =
        (keys_listed s n root, size_within s n, (keys-once, λ k. (step-key k, listed-key k)), listed-size, refl);
    words_made = λ w. (word-listed w, listed-word w);
  }

pub measures-by-lists : TurnsCompose → WordsAreAGroup → (s : Step) → MeasuresByLists s
measures-by-lists turns group s n root whole ranked = measures-listed turns group s n root whole ranked

-- ---- the trees that are held
held-there : (records : List Tree) (roots : List Use) (x : Tree) → IsHeldTree records roots x →
    Contains (records ++ flat_map (λ r. subtrees r.tree) roots) x
held-there records roots x (inl m) = Contains-append_left records (flat_map (λ r. subtrees r.tree) roots) x m
held-there records roots x (inr h) =
    Contains-append_right records (flat_map (λ r. subtrees r.tree) roots) x
    (Contains-flat_map (λ (r : Use). subtrees r.tree) h.0 x roots h.1 h.2)

held-from : (records : List Tree) (roots : List Use) (x : Tree) →
    Contains (records ++ flat_map (λ r. subtrees r.tree) roots) x → IsHeldTree records roots x
held-from records roots x m = elim (Contains-append_cases records (flat_map (λ r. subtrees r.tree) roots) x m) [
  | inl k ↦ inl k
  | inr k ↦ inr (Contains-flat_map_cases (λ (r : Use). subtrees r.tree) x roots k)
]

pub held-by-lists : HeldTreesByLists
held-by-lists records roots = (
  held_listed records roots,
  (
    once-distinct tree_eq tree_eq-same tree_eq-itself (records ++ flat_map (λ r. subtrees r.tree) roots),
    λ x. (
      (λ h. once-has tree_eq tree_eq-same tree_eq-itself (records ++ flat_map (λ r. subtrees r.tree) roots) x
          (held-there records roots x h)),
      (λ m.
          held-from records roots x (once-of tree_eq tree_eq-same tree_eq-itself
          (records ++ flat_map (λ r. subtrees r.tree) roots) x m)),
    ),
  ),
  refl,
)

-- ---- each measure is one number
size-one : (s : Step) (root : Use) (k : Key) (m n : ℕ) → IsSize s root k m → IsSize s root k n → m ≡ n
size-one s root k m n a b =
    let tree : a.0 ≡ b.0 = sym (ap (λ (k : Key). k.tree) a.4.4) ∙ ap (λ (k : Key). k.tree) b.4.4 in
    let parts : a.2 ≡ b.2 = Rewrites-one s b.1 (bare b.0) a.2 b.2
    (results_depend_on_key_alone s a.0 b.0 a.1 b.1 k a.2 a.4 b.4 a.5) b.5 in
    let met : match_of s.requests a.0 a.1 ≡ match_of s.requests b.0 b.1 =
    sym (key-of-match s a.0 a.1 k a.4) ∙ key-of-match s b.0 b.1 k b.4 in
    a.6 ∙ (λ j. length (parts j) + (if is_none (met j) && is_entered s (tree j) then uses_below (parts j) else 0)) ∙
    sym b.6

uses-one : (s : Step) (root : Use) (m n : ℕ) → IsUseCount s root m → IsUseCount s root n → m ≡ n
uses-one s root m n a b =
    let there = λ (k : Key) (i : Contains a.0 k). (b.2.1 k).0 ((a.2.1 k).1 i) in
    let back = λ (k : Key) (i : Contains b.0 k). (a.2.1 k).0 ((b.2.1 k).1 i) in
    a.4 ∙ sums-agree key_eq key_eq-same key_eq-itself a.1 a.0 b.0 a.2.0 b.2.0 there back ∙
    sum-same a.1 b.1 b.0 (λ k i. size-one s root k (a.1 k) (b.1 k) (a.3 k (back k i)) (b.3 k i)) ∙ sym b.4

pub measures-determined : (s : Step) (root : Use) → MeasuresAreDetermined s root
measures-determined s root = record {
  word_keys = counts-one (IsWordKeyOf s root);
  uses_made = uses-one s root;
  held = λ records roots. counts-one (IsHeldTree records roots);
}
