-- Marks: one for each record of a file, by its number.
use Rattle.std.specs.Prelude.{ℕ, ◌-◌, Bool, false, not, List, filter, slice_index_or}
use Rattle.brep_file.specs.declared.uses.FileUse.{FileUse}

-- the mark of a number
abbrev pub mark_of : List Bool → ℕ → Bool
mark_of marks k = slice_index_or marks (k - 1) false

-- the uses of records that stay
abbrev pub kept_uses : (ℕ → Bool) → List FileUse → List FileUse
kept_uses removed us = filter (λ u. not (removed u.number)) us
