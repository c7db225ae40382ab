-- How a table finds the live requests of a number: by its place among the sources.
use Rattle.std.specs.Prelude.{◌≡◌, ◌≢◌, ℕ, ◌≤◌, nat_eq, List, [], length, Option, Some, None, slice_get, Vec}
use Rattle.std.specs.List.{position_or_len}
use Rattle.std.specs.Global.{Global}
use Rattle.requests.specs.declared.request.Request.{Request}
use Rattle.requests.specs.Numbered.{live_at, with_live}

-- the list at a place, and none where there is no such place
abbrev pub items_of : Option (Vec Request Global) → List Request
items_of None = []
items_of (Some l) = l.items

abbrev pub list_at : List (Vec Request Global) → ℕ → List Request
list_at live k = items_of (slice_get live k)

-- the place of a number among the sources, and where it isn't one the place after them
abbrev pub place_of : List ℕ → ℕ → ℕ
place_of sources i = position_or_len (nat_eq i) sources

abbrev pub listed_at : List ℕ → List (Vec Request Global) → ℕ → List Request
listed_at sources live i = list_at live (place_of sources i)

-- each number has the same live requests as before; each other number has; and this one has one more
abbrev pub ListsAlike : List ℕ → List (Vec Request Global) → List ℕ → List (Vec Request Global) → Type 0
ListsAlike sources live sources' live' = (i : ℕ) → listed_at sources' live' i ≡ listed_at sources live i

abbrev pub ListsOthersAlike : ℕ → List ℕ → List (Vec Request Global) → List ℕ → List (Vec Request Global) → Type 0
ListsOthersAlike source sources live sources' live' =
    (i : ℕ) → i ≢ source → listed_at sources' live' i ≡ listed_at sources live i

abbrev pub ListsToo : Request → List ℕ → List (Vec Request Global) → List ℕ → List (Vec Request Global) → Type 0
ListsToo r sources live sources' live' =
    listed_at sources' live' r.source.0 ≡ with_live (listed_at sources live r.source.0) r

-- there is a list for each source, and those beyond are empty
pub record IsSpared (sources : List ℕ) (live : List (Vec Request Global)) : Type 0 where
  pub long : length sources ≤ length live
  pub empty : (k : ℕ) → length sources ≤ k → list_at live k ≡ []

pub record IsIndexed (given : List Request) (sources : List ℕ) (live : List (Vec Request Global)) : Type 0 where
  pub spared : IsSpared sources live
  pub listed : (i : ℕ) → listed_at sources live i ≡ live_at given i
