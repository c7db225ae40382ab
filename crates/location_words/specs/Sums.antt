-- Pairs in a sum that isn't tested yet.
use Rattle.std.specs.Prelude.{◌≤◌, ◌+◌, ◌*◌, ℕ, List, All, length, map, nat_abs, reverse}
use Rattle.location_words.specs.declared.pair.Pair.{Pair}
use Rattle.location_words.specs.declared.sum.Wide.{Wide}
use Rattle.location_words.specs.Pairs.{pair}

abbrev pub as_pair : Wide → Pair
as_pair q = pair q.datum q.power

-- the pairs, from the last to the first
abbrev pub from_last : List Wide → List Pair
from_last qs = reverse (map as_pair qs)

-- no power is larger than n: of pairs, and of those of a sum
abbrev pub ArePowersWithin : ℕ → List Pair → Type 0
ArePowersWithin n ps = All (λ (p : Pair). nat_abs p.power ≤ n) ps

abbrev pub IsWithin : ℕ → List Wide → Type 0
IsWithin n qs = All (λ (q : Wide). nat_abs q.power ≤ n) qs

-- no power grows by more than k
abbrev pub GrowsBy : ℕ → List Wide → List Wide → Type 0
GrowsBy k old new = (n : ℕ) → IsWithin n old → IsWithin (n + k) new

-- no power grows by more than the powers of these pairs do together
abbrev pub GrowsByAll : List Pair → List Wide → List Wide → Type 0
GrowsByAll pairs old new =
    (n m : ℕ) → IsWithin n old → ArePowersWithin m pairs → IsWithin (n + length pairs * m) new
