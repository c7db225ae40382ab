-- How two words meet, and what they leave of each other.
use Rattle.std.specs.Prelude.{◌≡◌, ◌≢◌, ◌≤◌, ◌<◌, ◌+◌, ◌-◌, ◌+ℤ◌, ◌++◌, ℕ, pos, List, Option}
use Rattle.std.specs.Prelude.{length, take, drop, option_to_list, slice_index_or}
use Rattle.location_words.specs.declared.pair.Pair.{Pair}
use Rattle.location_words.specs.declared.products.Seam.{Seam}

-- three parts, one after another, of which the middle one is a pair or nothing
abbrev pub in_three : List Pair → Option Pair → List Pair → List Pair
in_three first middle last = first ++ option_to_list middle ++ last

-- how many pairs there are in three parts, the middle one a pair or nothing
abbrev pub count_of_three : ℕ → Option Pair → ℕ → ℕ
count_of_three first middle last = first + length (option_to_list middle) + last

-- the words past a seam: the first pairs of the inner one, the pair that the two that meet make, and the outer one's
-- last pairs
abbrev pub sewn : Seam → List Pair → List Pair → List Pair
sewn seam inner outer = in_three (take seam.kept inner) seam.joined (drop seam.dropped outer)

-- they have no more pairs than the two words
abbrev pub IsNoLonger : Seam → List Pair → List Pair → Type 0
IsNoLonger seam inner outer =
    count_of_three seam.kept seam.joined (length outer - seam.dropped) ≤ length inner + length outer

-- what two words leave where so many pairs of each cancel
abbrev pub left_past : ℕ → List Pair → List Pair → List Pair
left_past gone inner outer = take (length inner - gone) inner ++ drop gone outer

-- the next two pairs, if there are two, don't cancel: of one datum, they have powers with another sum than 0
abbrev pub StopsPast : ℕ → List Pair → List Pair → Type 0
StopsPast gone inner outer = (d : Pair) → gone < length inner → gone < length outer →
    (slice_index_or inner (length inner - gone - 1) d).datum ≡ (slice_index_or outer gone d).datum →
    (slice_index_or inner (length inner - gone - 1) d).power +ℤ (slice_index_or outer gone d).power ≢ pos 0
