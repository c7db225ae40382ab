-- The measures of a step, over its visits and their keys.
use Rattle.std.specs.Prelude.{◌≡◌, ◌≢◌, ◌⊎◌, ◌&&◌, true, ℕ, ◌+◌, None, Some, List, map}
use Rattle.std.specs.Prelude.{length, sum, sum_by, Contains, if◌then◌else◌, is_none}
use Rattle.lists.specs.Distinct.{ListsEachOnce}
use Rattle.location_words.specs.declared.pair.Pair.{Pair}
use Rattle.expansion_laws.specs.Trees.{Tree, Use, uses}
use Rattle.expansion_laws.specs.Measures.{OccursIn}
use Rattle.expansion_laws.specs.Contexts.{Context, at_root}
use Rattle.expansion_laws.specs.Requests.{match_of}
use Rattle.expansion_laws.specs.Steps.{Step, is_entered}
use Rattle.expansion_laws.specs.Rewriting.{Rewrites, RelativeResults}
use Rattle.expansion_laws.specs.Visits.{IsVisit}
use Rattle.expansion_laws.specs.Keys.{Key, IsKey, IsKeyOfStep}

-- the keys of a step that hold a word, and the words of these
abbrev pub IsWordKeyOf : Step → Use → Key → Type 0
IsWordKeyOf s root k = IsKeyOfStep s root k × (k.word ≢ None)

abbrev pub IsWordOfKey : Step → Use → List Pair → Type 0
IsWordOfKey s root w = (k : Key) × IsKeyOfStep s root k × (k.word ≡ Some w)

-- the uses in the trees of results
abbrev pub uses_below : List Use → ℕ
uses_below results = sum (map (λ r. length (uses r.tree)) results)

-- what a visit adds to the uses by its results: their number and, where no request meets its tree and this is entered,
-- that of the uses of the tree that remains
abbrev pub size_of : Step → Tree → Context → List Use → ℕ
size_of s x here results =
    length results + (if is_none (match_of s.requests x here) && is_entered s x then uses_below results else 0)

-- what a key adds is what its visits add
abbrev pub IsSize : Step → Use → Key → ℕ → Type 0
IsSize s root k n =
    (x : Tree) × (here : Context) × (results : List Use) × IsVisit s root x here × IsKey s x here k ×
    RelativeResults s x here results ×
    (n ≡ size_of s x here results)

-- the uses of a step: the sum of what its keys add
abbrev pub IsUseCount : Step → Use → ℕ → Type 0
IsUseCount s root n =
    (keys : List Key) × (size : Key → ℕ) × ListsEachOnce keys (IsKeyOfStep s root) ×
    ((k : Key) → Contains keys k → IsSize s root k (size k)) × (n ≡ sum_by size keys)

-- the words of the uses of what remains of an entered tree that no request meets
abbrev pub IsRemainingWord : Step → Tree → Context → Use → List Pair → Type 0
IsRemainingWord s x here r w =
    (match_of s.requests x here ≡ None) × (is_entered s x ≡ true) × Contains (map (λ v. v.word) (uses r.tree)) w

-- the words that are tested after the uses: those of relative results, of the uses of what remains and of the root's
-- results
abbrev pub IsWordMade : Step → Use → List Pair → Type 0
IsWordMade s root w =
    ((x : Tree) × (here : Context) × (results : List Use) × (r : Use) × IsVisit s root x here ×
    RelativeResults s x here results × Contains results r ×
    ((w ≡ r.word) ⊎ IsRemainingWord s x here r w)) ⊎
    ((results : List Use) × Rewrites s at_root root results × Contains (map (λ r. r.word) results) w)

-- a tree that is held: that of a record, or one that occurs in the root of a step carried out
abbrev pub IsHeldTree : List Tree → List Use → Tree → Type 0
IsHeldTree records roots x = Contains records x ⊎ ((r : Use) × Contains roots r × OccursIn x r.tree)
