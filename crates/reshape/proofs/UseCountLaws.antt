-- The uses of a step are the sum of what its visits bring, key by key.
use Rattle.std.proofs.Common.{◌≡◌, ◌≤◌, ◌+◌, ◌∙◌, ◌++◌, ◌∷◌, ℕ, zero, suc, Bool}
use Rattle.std.proofs.Common.{true, List, [], Contains, map, length, take}
use Rattle.std.proofs.Common.{arith, refl, sym, ap, subst, slice_get, Option, Some}
use Rattle.std.specs.Prelude.{◌&&◌, sum_by, is_none, if◌then◌else◌, unwrap_or}
use Rattle.std.specs.List.{position_or_len}
use Rattle.std.specs.Option.{option_map_or}
use Rattle.std.proofs.lemmas.List.{take_all, length-map}
use Rattle.std.proofs.lemmas.List.Sums.{sum_by-append}
use Rattle.std.proofs.lemmas.Option.{same_Some, slice_get_within}
use Rattle.lists.specs.Distinct.{IsDistinct}
use Rattle.lists.proofs.Cases.{by_test}
use Rattle.lists.proofs.Entries.{slice_get-mapped}
use Rattle.lists.proofs.Members.{Contains-map, Contains-map_cases}
use Rattle.lists.proofs.Places.{at_place, Contains-at, place_of, slice_get-kept, slice_get-last, take-at}
use Rattle.location_words.specs.declared.pair.Pair.{Pair}
use Rattle.expansion_laws.specs.Trees.{Tree, Use}
use Rattle.expansion_laws.specs.Contexts.{Context}
use Rattle.expansion_laws.specs.Requests.{Request, match_of}
use Rattle.expansion_laws.specs.Steps.{Step, is_entered}
use Rattle.expansion_laws.specs.Rewriting.{RelativeResults}
use Rattle.expansion_laws.specs.Keys.{IsKeyOfStep, Key as TreeKey, context_of}
use Rattle.expansion_laws.specs.StepMeasures.{uses_below, size_of, IsSize, IsUseCount}
use Rattle.shape_pool.specs.Rows.{Row, tree_at}
use Rattle.key_results.specs.declared.derive.Outcome.{Outcome}
use Rattle.key_results.specs.declared.derive.Outcome.TheVariants.{Stays, Rebuilt, Joined}
use Rattle.key_results.specs.declared.derive.Visit.{Visit}
use Rattle.key_results.specs.declared.key.Key.{Key}
use Rattle.key_results.specs.Derivations.{results_at, results_of, results_over, size_made, sizes_from}
use Rattle.key_results.specs.Derived.{DerivesResults, IsDerivation, IsMetAs}
use Rattle.key_results.specs.Memos.{key_by, context_by}
use Rattle.key_results.specs.Results.{FollowVisits}
use Rattle.reshape.specs.Deriving.{HaveLaws}
use Rattle.reshape.specs.Collecting.{AreAllKeys}
use Rattle.reshape.proofs.CollectLaws.{context-by}

length-front : {X : Type 0} (xs : List X) (k : ℕ) → k ≤ length xs → length (take k xs) ≡ k
length-front xs zero le = refl
length-front [] (suc k) le = absurd (omega (arith, le))
length-front (x ∷ xs) (suc k) le = ap suc (length-front xs k (omega (arith, le)))

less-by : (m n : ℕ) → m ≤ n → (d : ℕ) × (m + d ≡ n)
less-by zero n le = (n, omega arith)
less-by (suc m) zero le = absurd (omega (arith, le))
less-by (suc m) (suc n) le = (let r = less-by m n (omega (arith, le)) in (r.0, (let e = r.1 in omega (arith, e))))

-- ---- what a list of visits denotes, entry by entry
module _ (word : ℕ → List Pair) (tree : ℕ → Tree) (prune : Bool) (follow : FollowVisits word tree prune)
    (visits : List Visit) where
  entry-later : (k : ℕ) (v : Visit) → slice_get visits k ≡ Some v → (more : ℕ) → suc k + more ≤ length visits →
      slice_get (results_of word tree prune (take (suc k + more) visits)) k ≡
      Some (results_over word tree prune (results_of word tree prune (take k visits)) v)
  entry-later k v e zero le =
      let next : suc k + 0 ≡ k + 1 = omega arith in
      let before = results_of word tree prune (take k visits) in
      let within = slice_get_within visits k v e in
      let long : length before ≡ k = follow.long (take k visits) ∙ length-front visits k (omega (arith, within)) in
      ap (λ (n : ℕ). slice_get (results_of word tree prune (take n visits)) k) next ∙
      ap (λ (l : List (List Use)). slice_get l k) (follow.next visits k v e) ∙
      ap (slice_get (before ++ results_over word tree prune before v ∷ [])) (sym long) ∙
      slice_get-last before (results_over word tree prune before v)
  entry-later k v e (suc more) le =
      let m : ℕ = suc k + more in
      let next : suc k + suc more ≡ m + 1 = omega arith in
      let w = at_place visits m (omega (arith, le)) in
      let before = results_of word tree prune (take m visits) in
      ap (λ (n : ℕ). slice_get (results_of word tree prune (take n visits)) k) next ∙
      ap (λ (l : List (List Use)). slice_get l k) (follow.next visits m w.0 w.1) ∙
      slice_get-kept before (results_over word tree prune before w.0 ∷ []) k
      (results_over word tree prune (results_of word tree prune (take k visits)) v)
      (entry-later k v e more (omega (arith, le)))

  -- the entry of a visit, over those before it
  pub entry-over : (k : ℕ) (v : Visit) → slice_get visits k ≡ Some v →
      results_at (results_of word tree prune visits) k ≡
      results_over word tree prune (results_of word tree prune (take k visits)) v
  entry-over k v e =
      let within = slice_get_within visits k v e in
      let rest = less-by (suc k) (length visits) (omega (arith, within)) in
      let all : take (suc k + rest.0) visits ≡ visits =
      take_all (suc k + rest.0) visits (let d = rest.1 in omega (arith, d)) in
      ap (λ (o : Option (List Use)). unwrap_or o [])
      (subst
      (λ (l : List Visit). slice_get (results_of word tree prune l) k ≡
      Some (results_over word tree prune (results_of word tree prune (take k visits)) v)) all
      (entry-later k v e rest.0 (let d = rest.1 in omega (arith, d))))

-- ---- the size of a key
size-by : (s : Step) (x y : Tree) (here there : Context) (o : Outcome) (results : List Use) → x ≡ y →
    match_of s.requests x here ≡ match_of s.requests y there →
    IsMetAs s y there o → size_made o results ≡ size_of s x here results
size-by s x y here there Stays results t m met =
    ap (λ (b : Bool). length results + (if b then uses_below results else 0))
    (sym ((λ i. is_none ((m ∙ met.0) i) && is_entered s (t i)) ∙ met.1))
size-by s x y here there Rebuilt results t m met =
    ap (λ (b : Bool). length results + (if b then uses_below results else 0))
    (sym ((λ i. is_none ((m ∙ met.0) i) && is_entered s (t i)) ∙ met.1))
size-by s x y here there Joined results t m met =
    ap (λ (b : Bool). length results + (if b then uses_below results else 0))
    (sym (ap (λ (q : Option Request). is_none q && is_entered s x) (m ∙ met.1)))

-- ---- a key is found by a test that tells keys
module _ (eq : TreeKey → TreeKey → Bool) (tells : (k l : TreeKey) → eq k l ≡ true → k ≡ l)
    (itself : (k : TreeKey) → eq k k ≡ true) where
  pub place-of-key : (xs : List TreeKey) (k : ℕ) (q : TreeKey) → IsDistinct xs → slice_get xs k ≡ Some q →
      position_or_len (eq q) xs ≡ k
  place-of-key [] k q d e = absurd cc
  place-of-key (x ∷ xs) zero q d e =
      (let same : eq q x ≡ true = subst (λ (z : TreeKey). eq q z ≡ true) (sym (same_Some x q e)) (itself q) in
      rw same refl)
  place-of-key (x ∷ xs) (suc k) q d e =
      let rest = place-of-key xs k q d.1 e in
      by_test (eq q x)
      (λ t. absurd (d.0 (subst (Contains xs) (tells q x t) (Contains-at xs k q e))))
      (λ f. rw f (omega (arith, rest)))

  module _ (s : Step) (word : ℕ → List Pair) (rows : List Row) (root : Use) (keys : List Key) (visits : List Visit)
      (laws : HaveLaws s)
      (identity : word 0 ≡ []) (whole : AreAllKeys rows s word root keys)
      (derives : IsDerivation s word rows keys visits)
      (told : DerivesResults s word rows keys visits) where
    abbrev R : List (List Use)
    R = results_of word (tree_at word rows) s.rule.prune visits

    abbrev trees : List TreeKey
    trees = map (key_by word rows) keys

    -- what the visits of a key bring
    abbrev size_at : ℕ → ℕ
    size_at k = option_map_or (λ (v : Visit). size_made v.outcome (results_at R k)) (slice_get visits k) 0

    abbrev size : TreeKey → ℕ
    size q = size_at (position_or_len (eq q) trees)

    at-key : (k : ℕ) (from : Key) → slice_get keys k ≡ Some from → IsSize s root (key_by word rows from) (size_at k)
    at-key k from e =
        let within = slice_get_within keys k from e in
        let long = derives.long in
        let v = at_place visits k (omega (arith, within, long)) in
        let is = derives.each k from v.0 e v.1 in
        let own : IsKeyOfStep s root (key_by word rows from) =
        (whole.1 (key_by word rows from)).1 (Contains-map (key_by word rows) from keys (Contains-at keys k from e)) in
        let x = own.0 in
        let here = own.1 in
        let tree : tree_at word rows from.id.0 ≡ x = ap (λ (q : TreeKey). q.tree) own.3.4 in
        let there : context_of (key_by word rows from) ≡ context_by word from = context-by word rows from identity in
        let at-x : RelativeResults s x (context_of (key_by word rows from)) (results_at R k) =
        subst (λ (c : Context). RelativeResults s x c (results_at R k)) (sym there)
        (subst (λ (y : Tree). RelativeResults s y (context_by word from) (results_at R k)) tree (told k from e)) in
        let results = (laws.stand.same_results x here (key_by word rows from) (results_at R k) own.3).1 at-x in
        let match : match_of s.requests x here ≡ match_of s.requests (tree_at word rows from.id.0)
        (context_by word from) =
        laws.stand.same_match x here (key_by word rows from) own.3 ∙
        (λ i. match_of s.requests (sym tree i) (there i)) in
        let value : size_at k ≡ size_made v.0.outcome (results_at R k) =
        ap (λ (o : Option Visit). option_map_or (λ (w : Visit). size_made w.outcome (results_at R k)) o 0) v.1 in (
          x,
          here,
          results_at R k,
          own.2,
          own.3,
          results,
          value ∙ size-by s x (tree_at word rows from.id.0) here (context_by word from) v.0.outcome (results_at R k)
              (sym tree) match is.met,
        )

    is-size : (q : TreeKey) → Contains trees q → IsSize s root q (size q)
    is-size q m =
        let c = Contains-map_cases (key_by word rows) q keys m in
        let p = place_of keys c.0 c.1 in
        let at : slice_get trees p.0 ≡ Some q = slice_get-mapped (key_by word rows) keys p.0 c.0 p.1 ∙ ap Some c.2 in
        let place : position_or_len (eq q) trees ≡ p.0 = place-of-key trees p.0 q whole.0 at in
        subst (λ (z : TreeKey). IsSize s root z (size q)) c.2
        (subst (λ (n : ℕ). IsSize s root (key_by word rows c.0) (size_at n)) (sym place) (at-key p.0 c.0 p.1))

    -- the sums, one key more
    sums : (i : ℕ) → i ≤ length visits →
        sum_by size (take i trees) ≡ sizes_from word (tree_at word rows) s.rule.prune [] (take i visits)
    sums zero le = sym (laws.follow word (tree_at word rows) s.rule.prune).size_none
    sums (suc i) le =
        let v = at_place visits i (omega (arith, le)) in
        let long = derives.long in
        let from = at_place keys i (omega (arith, le, long)) in
        let q = key_by word rows from.0 in
        let at : slice_get trees i ≡ Some q = slice_get-mapped (key_by word rows) keys i from.0 from.1 in
        let next : i + 1 ≡ suc i = omega arith in
        let place : position_or_len (eq q) trees ≡ i = place-of-key trees i q whole.0 at in
        let value : size q ≡ size_made v.0.outcome (results_at R i) =
        ap size_at place ∙
        ap (λ (o : Option Visit). option_map_or (λ (w : Visit). size_made w.outcome (results_at R i)) o 0) v.1 in
        let entry = entry-over word (tree_at word rows) s.rule.prune (laws.follow word (tree_at word rows) s.rule.prune)
        visits i v.0 v.1 in
        let one : sum_by size (q ∷ []) ≡ size q = omega arith in
        let left : sum_by size (take (suc i) trees) ≡ sum_by size (take i trees) + size q =
        ap (λ (n : ℕ). sum_by size (take n trees)) (sym next) ∙ ap (sum_by size) (take-at trees i q at) ∙
        sum_by-append size (take i trees) (q ∷ []) ∙
        ap (λ (k : ℕ). sum_by size (take i trees) + k) one in
        let right = ap (λ (n : ℕ). sizes_from word (tree_at word rows) s.rule.prune [] (take n visits)) (sym next) ∙
        (laws.follow word (tree_at word rows) s.rule.prune).size_next visits i v.0 v.1 in
        left ∙ (λ j. sums i (omega (arith, le)) j + (value ∙ ap (size_made v.0.outcome) entry) j) ∙ sym right

    pub use-count : IsUseCount s root (sizes_from word (tree_at word rows) s.rule.prune [] visits)
    use-count =
        let long = derives.long in
        let same : length trees ≡ length keys = length-map keys (key_by word rows) in
        let le : length visits ≤ length visits = omega arith in
        let whole-keys : take (length visits) trees ≡ trees =
        take_all (length visits) trees (omega (arith, long, same)) in
        let whole-visits : take (length visits) visits ≡ visits = take_all (length visits) visits le in
        let sum = sums (length visits) le in (
          trees,
          size,
          whole,
          is-size,
          sym (ap (sum_by size) (sym whole-keys) ∙ sum ∙
              ap (sizes_from word (tree_at word rows) s.rule.prune []) whole-visits),
        )
