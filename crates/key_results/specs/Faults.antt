-- Faults of words and of the pool as faults of a step.
use Rattle.std.specs.Prelude.{◌≡◌, ℕ, Option, Some, List}
use Rattle.location_words.specs.declared.pair.Pair.{Pair}
use Rattle.location_words.specs.Faults.{fault_of}
use Rattle.location_words.specs.declared.fault.WordFault.{WordFault}
use Rattle.location_words.specs.declared.fault.WordFault.TheVariants.{Pairs as TooManyPairs, Power as TooLarge}
use Rattle.location_words.specs.declared.fault.WordFault.TheVariants.{NoMemory as NoMemoryForWord}
use Rattle.shape_pool.specs.declared.fault.PoolFault.{PoolFault}
use Rattle.shape_pool.specs.declared.fault.PoolFault.TheVariants.{TooMany, TooDeep, NoMemory as NoMemoryForNode}
use Rattle.key_results.specs.declared.fault.ApplyFault.{ApplyFault}
use Rattle.key_results.specs.declared.fault.ApplyFault.TheVariants.{Limit, NoMemory}
use Rattle.key_results.specs.declared.fault.LimitKind.{LimitKind}
use Rattle.key_results.specs.declared.fault.LimitKind.TheVariants.{WordPairs, WordPower, Depth, Nodes}

abbrev pub of_word : WordFault → ApplyFault
of_word (TooManyPairs n) = Limit WordPairs n
of_word (TooLarge n) = Limit WordPower n
of_word NoMemoryForWord = NoMemory

abbrev pub of_node : PoolFault → ApplyFault
of_node (TooMany n) = Limit Nodes n
of_node (TooDeep n) = Limit Depth n
of_node NoMemoryForNode = NoMemory

-- a fault is the one that is due of a word, unless it is want of memory
abbrev pub IsDueOfWord : Option WordFault → ApplyFault → Type 0
IsDueOfWord due (Limit WordPairs n) = due ≡ Some (TooManyPairs n)
IsDueOfWord due (Limit WordPower n) = due ≡ Some (TooLarge n)
IsDueOfWord due (Limit _ n) = ⊥
IsDueOfWord due NoMemory = Unit {0}

-- one of some words is past a limit, which is told
abbrev pub IsWordFault : (List Pair → Type 0) → LimitKind → ℕ → Type 0
IsWordFault W WordPairs n = (w : List Pair) × W w × (fault_of w ≡ Some (TooManyPairs n))
IsWordFault W WordPower n = (w : List Pair) × W w × (fault_of w ≡ Some (TooLarge n))
IsWordFault W _ n = ⊥

-- so a fault is due, unless it is want of memory
abbrev pub IsDueAmong : (List Pair → Type 0) → ApplyFault → Type 0
IsDueAmong W (Limit which n) = IsWordFault W which n
IsDueAmong W NoMemory = Unit {0}
