-- Contexts: the accumulated turn and word under which a use stands.
use Rattle.std.specs.Prelude.{List, []}
use Rattle.orientation.specs.declared.turn.Turn.{Turn}
use Rattle.orientation.specs.declared.turn.Turn.TheVariants.{Forward}
use Rattle.orientation.specs.Turns.{composed}
use Rattle.location_words.specs.declared.pair.Pair.{Pair}
use Rattle.location_words.specs.Pairs.{mul}
use Rattle.expansion_laws.specs.Trees.{Tree, Use, a_single}

-- the accumulated turn and word of a parent
pub record Context : Type 0 where
  pub turn : Turn
  pub word : List Pair

-- the context of the root: forward and the identity
abbrev pub at_root : Context
at_root = record { turn = Forward; word = [] }

-- the accumulated turn and word of a use in a context; they are the context of the uses of its tree
abbrev pub inside : Context → Use → Context
inside c u = record { turn = composed c.turn u.turn; word = mul c.word u.word }

-- a use as it stands under a turn and a word
abbrev pub carried : Turn → List Pair → Use → Use
carried t w u = a_single (composed t u.turn) (mul w u.word) u.tree

-- the forward use of a tree under no word
abbrev pub bare : Tree → Use
bare x = a_single Forward [] x
