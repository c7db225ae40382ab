-- Keys by numbers, and what they stand for.
use Rattle.std.specs.Prelude.{ℕ, ◌<◌, List, length, unwrap_or}
use Rattle.std.specs.Option.{option_map, option_map_or}
use Rattle.orientation.specs.declared.turn.Turn.{Turn}
use Rattle.orientation.specs.declared.turn.Turn.TheVariants.{Forward}
use Rattle.location_words.specs.declared.pair.Pair.{Pair}
use Rattle.location_words.specs.declared.table.WordId.{WordId}
use Rattle.expansion_laws.specs.Contexts.{Context}
use Rattle.expansion_laws.specs.Keys.{Key as TreeKey}
use Rattle.shape_pool.specs.Rows.{Row, tree_at}
use Rattle.key_results.specs.declared.key.Key.{Key}

-- the turn and the number of the word of the context that stands for a key
abbrev pub turn_here : Key → Turn
turn_here k = unwrap_or k.turn Forward

abbrev pub place_here : Key → ℕ
place_here k = option_map_or (λ (w : WordId). w.0) k.word 0

-- a key names a held node, and a word with a number below n
abbrev pub IsHeldKey : List Row → ℕ → Key → Type 0
IsHeldKey rows n k = (k.id.0 < length rows) × (place_here k < n)

module _ (word : ℕ → List Pair) where
  -- the key that a key by numbers stands for
  abbrev pub key_by : List Row → Key → TreeKey
  key_by rows k = record {
    tree = tree_at word rows k.id.0;
    word = option_map (λ (w : WordId). word w.0) k.word;
    turn = k.turn;
  }

  -- the context that stands for it
  abbrev pub context_by : Key → Context
  context_by k = record { turn = turn_here k; word = word (place_here k) }
