-- Plain records as the records of a file.
use Rattle.std.specs.Prelude.{ℕ, ◌<◌, List, map}
use Rattle.expansion_laws.specs.declared.fault.ExpandFault.{ExpandFault}
use Rattle.expansion_laws.specs.declared.fault.ExpandFault.TheVariants.{TooBig, Word, NoMemory}
use Rattle.expansion_laws.specs.declared.records.PlainUse.{PlainUse}
use Rattle.expansion_laws.specs.declared.records.PlainRecord.{PlainRecord}
use Rattle.expansion_laws.specs.Expansion.{NumberedUse, tree_of_number}
use Rattle.expansion_laws.specs.Measures.{use_count}

abbrev pub numbered_use : PlainUse → NumberedUse
numbered_use u = record { turn = u.turn; word = u.word; number = u.number }

-- the uses of each record, in file order
abbrev pub rows : List PlainRecord → List (List NumberedUse)
rows records = map (λ r. map numbered_use r.uses) records

-- how many uses the tree of a number has
abbrev pub uses_under : List PlainRecord → ℕ → ℕ
uses_under records number = use_count (tree_of_number (rows records) number)

-- an expansion is refused where its tree has more uses than the budget, unless for want of memory
abbrev pub IsDueExpansion : ℕ → ℕ → ExpandFault → Type 0
IsDueExpansion count budget TooBig = budget < count
IsDueExpansion count budget (Word fault) = ⊥
IsDueExpansion count budget NoMemory = Unit {0}
