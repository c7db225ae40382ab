-- What the text written for a root says of it.
use Rattle.std.specs.Prelude.{◌≡◌, ◌↔◌, Contains}
use Rattle.expansion_laws.specs.Trees.{Tree, Use, origin}
use Rattle.expansion_laws.specs.Measures.{subtrees}
use Rattle.expansion_laws.specs.Sharing.{with_origins}
use Rattle.expansion_laws.specs.Written.{flat, origins_of}
use Rattle.brep_file.specs.declared.file.File.{File}
use Rattle.brep_file.specs.PlainRecords.{expansion_of}

-- Two occurrences in the file `g` go through one record exactly where their trees, with the origins put back, are
-- equal.
abbrev pub SharesEqualTrees : Use → File → Type 0
SharesEqualTrees root g =
    (x y : Tree) → Contains (subtrees (expansion_of g).tree) x → Contains (subtrees (expansion_of g).tree) y →
    (origin x ≡ origin y)
    ↔ (with_origins (origins_of (flat root.tree)) x ≡ with_origins (origins_of (flat root.tree)) y)
