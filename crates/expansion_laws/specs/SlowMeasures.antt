-- The measures of a step by plain slow lists: all visits one by one, and their keys.
use Rattle.std.specs.Prelude.{◌≡◌, ◌↔◌, ◌&&◌, ◌||◌, ℕ, zero, suc, Bool, true, false, Option}
use Rattle.std.specs.Prelude.{None, Some, is_some, is_none, unwrap_or, List, [], ◌∷◌, ◌++◌}
use Rattle.std.specs.Prelude.{map, filter, length, sum_by, Contains, if◌then◌else◌}
use Rattle.std.specs.List.{list_any, flat_map, list_all}
use Rattle.lists.specs.Sameness.{is_empty}
use Rattle.lists.specs.Distinct.{Counts, ListsEachOnce, each_once}
use Rattle.orientation.specs.Turns.{turn_eq}
use Rattle.location_words.specs.declared.pair.Pair.{Pair}
use Rattle.location_words.specs.Pairs.{pairs_eq}
use Rattle.expansion_laws.specs.Trees.{Tree, Use, uses}
use Rattle.expansion_laws.specs.Equality.{tree_eq}
use Rattle.expansion_laws.specs.Measures.{subtrees}
use Rattle.expansion_laws.specs.Contexts.{Context, at_root, inside, bare}
use Rattle.expansion_laws.specs.Requests.{match_of}
use Rattle.expansion_laws.specs.Steps.{Step, is_entered}
use Rattle.expansion_laws.specs.Rewriting.{results_within}
use Rattle.expansion_laws.specs.Visits.{visits_within}
use Rattle.expansion_laws.specs.Graph.{edges}
use Rattle.expansion_laws.specs.Keys.{asks_place, asks_turn, Key, key, IsKeyOfStep, context_of}
use Rattle.expansion_laws.specs.WholeVisits.{is_whole}
use Rattle.expansion_laws.specs.StepMeasures.{IsWordKeyOf, IsWordOfKey, size_of, IsUseCount, IsWordMade, IsHeldTree}

-- whether both are there and are one, or neither is there
abbrev pub option_eq : {X : Type 0} → (X → X → Bool) → Option X → Option X → Bool
option_eq eq None None = true
option_eq eq None (Some y) = false
option_eq eq (Some x) None = false
option_eq eq (Some x) (Some y) = eq x y

abbrev pub key_eq : Key → Key → Bool
key_eq k l = tree_eq k.tree l.tree && option_eq pairs_eq k.word l.word && option_eq turn_eq k.turn l.turn

module _ (s : Step) where
  -- whether no walk from a tree has more edges than this
  unfoldable pub is_ranked : ℕ → Tree → Bool
  is_ranked zero x = is_empty (edges s x)
  is_ranked (suc n) x = list_all (is_ranked n) (edges s x)

  -- whether a tree that asks is reached over at most so many edges
  unfoldable pub reaches_within : (Tree → Bool) → ℕ → Tree → Bool
  reaches_within asks zero x = asks x
  reaches_within asks (suc n) x = asks x || list_any (reaches_within asks n) (edges s x)

  -- the key of a visit, by walks of at most so many edges
  abbrev pub key_within : ℕ → Tree → Context → Key
  key_within n x here = key (reaches_within (asks_place s) n x) (reaches_within (asks_turn s) n x) x here

  -- the relative results of a key, and what it adds to the uses
  abbrev pub parts_within : ℕ → Key → List Use
  parts_within n k = unwrap_or (results_within s (suc n) (context_of k) (bare k.tree)) []

  abbrev pub size_within : ℕ → Key → ℕ
  size_within n k = size_of s k.tree (context_of k) (parts_within n k)

  -- the words of the relative results of a key, and of the uses of what remains
  abbrev pub words_within : ℕ → Key → List (List Pair)
  words_within n k =
      map (λ r. r.word) (parts_within n k) ++
      (if is_none (match_of s.requests k.tree (context_of k)) && is_entered s k.tree
      then flat_map (λ r. map (λ v. v.word) (uses r.tree)) (parts_within n k) else [])

-- the word that a key holds, if it holds one
abbrev pub held_word : Option (List Pair) → List (List Pair)
held_word None = []
held_word (Some w) = w ∷ []

module _ (s : Step) (n : ℕ) (root : Use) where
  abbrev pub keys_listed : List Key
  keys_listed = each_once key_eq (map (λ v. key_within s n v.0 v.1) (visits_within s n root.tree (inside at_root root)))

  abbrev pub word_keys_listed : List Key
  word_keys_listed = filter (λ k. is_some k.word) keys_listed

  abbrev pub key_words_listed : List (List Pair)
  key_words_listed = flat_map (λ k. held_word k.word) keys_listed

  abbrev pub uses_counted : ℕ
  uses_counted = sum_by (size_within s n) keys_listed

  abbrev pub words_listed : List (List Pair)
  words_listed =
      flat_map (words_within s n) keys_listed ++
      map (λ r. r.word) (unwrap_or (results_within s (suc n) at_root root) [])

abbrev pub held_listed : List Tree → List Use → List Tree
held_listed records roots = each_once tree_eq (records ++ flat_map (λ r. subtrees r.tree) roots)

-- where nothing is asked beyond so many demands and no walk is longer, these are the measures of the step
pub record MeasuresAreListed (s : Step) (n : ℕ) (root : Use) : Type 0 where
  pub keys : ListsEachOnce (keys_listed s n root) (IsKeyOfStep s root)
  pub word_keys : Counts (IsWordKeyOf s root) (length (word_keys_listed s n root))
  pub key_words : (w : List Pair) → IsWordOfKey s root w ↔ Contains (key_words_listed s n root) w
  pub uses_made : IsUseCount s root (uses_counted s n root)
  pub words_made : (w : List Pair) → IsWordMade s root w ↔ Contains (words_listed s n root) w

abbrev pub MeasuresByLists : Step → Type 0
MeasuresByLists s = (n : ℕ) (root : Use) →
    is_whole s n root.tree (inside at_root root) ≡ true → is_ranked s n root.tree ≡ true → MeasuresAreListed s n root

abbrev pub HeldTreesByLists : Type 0
HeldTreesByLists =
    (records : List Tree) (roots : List Use) → Counts (IsHeldTree records roots) (length (held_listed records roots))

-- each measure is one number at most
pub record MeasuresAreDetermined (s : Step) (root : Use) : Type 0 where
  pub word_keys : (m n : ℕ) → Counts (IsWordKeyOf s root) m → Counts (IsWordKeyOf s root) n → m ≡ n
  pub uses_made : (m n : ℕ) → IsUseCount s root m → IsUseCount s root n → m ≡ n
  pub held : (records : List Tree) (roots : List Use) (m n : ℕ) → Counts (IsHeldTree records roots) m →
      Counts (IsHeldTree records roots) n → m ≡ n
