-- How few records a file can have that expands to a root.
use Rattle.std.specs.Prelude.{◌≡◌, ℕ, ◌≤◌, List, length}
use Rattle.expansion_laws.specs.Trees.{Use}
use Rattle.expansion_laws.specs.Expansion.{NumberedUse, IsFile, expansion}
use Rattle.expansion_laws.specs.Sharing.{use_with_origins}
use Rattle.expansion_laws.specs.Written.{flat}

-- a file that expands to the root, whatever origins its numbers stand for, has a record for each distinct subtree at
-- least
abbrev pub NoFileHasFewer : Use → Type 0
NoFileHasFewer root =
    (records : List (List NumberedUse)) (file_root : NumberedUse) (origin_of : ℕ → ℕ) → IsFile records file_root →
    use_with_origins origin_of (expansion records file_root) ≡ root → length (flat root.tree) ≤ length records
