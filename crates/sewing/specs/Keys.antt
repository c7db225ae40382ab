-- Ends as triples of numbers, which are put in order.
use Rattle.std.specs.Prelude.{ℕ, List, map}
use Rattle.std.specs.Ordering.{nat_cmp, ordering_then}
use Rattle.std.specs.declared.cmp.Ordering.{Ordering}
use Rattle.orientation.specs.declared.turn.Turn.{Turn}
use Rattle.orientation.specs.declared.turn.Turn.TheVariants.{Forward, Reversed, Internal, External}
use Rattle.shape_pool.specs.declared.node.UseOf.{UseOf}
use Rattle.shape_pool.specs.Rows.{Row}
use Rattle.sewing.specs.Asked.{ends_at}

-- different numbers for different turns
abbrev pub number_of : Turn → ℕ
number_of Forward = 0
number_of Reversed = 1
number_of Internal = 2
number_of External = 3

-- the numbers of the turn, of the word and of the node
abbrev pub Key : Type 0
Key = ℕ × ℕ × ℕ

abbrev pub key_of : UseOf → Key
key_of u = (number_of u.turn, u.place.0, u.id.0)

abbrev pub keys_at : List Row → Turn → ℕ → List Key
keys_at rows sign i = map key_of (ends_at rows sign i)

-- the order of keys
abbrev pub key_cmp : Key → Key → Ordering
key_cmp a b = ordering_then (ordering_then (nat_cmp a.0 b.0) (nat_cmp a.1 b.1)) (nat_cmp a.2 b.2)
