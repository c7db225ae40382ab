-- The versions in which a head can be written.
use Rattle.std.specs.Prelude.{◌≡◌, ◌⊎◌, ℕ}
use Rattle.tshape_data.specs.Sound.{IsSoundHead}
use Rattle.tshape_data.specs.declared.head_bounds.HeadBounds.{HeadBounds}
use Rattle.tshape_data.specs.declared.head.Head.{Head}

-- a version's own version, or 1
abbrev pub IsOutputOf : ℕ → ℕ → Type 0
IsOutputOf own version = (version ≡ own) ⊎ (version ≡ 1)

-- a file of some version with tables of some sizes can hold the head, and the version is the file's or 1
pub record CanBeWrittenIn (version : ℕ) (h : Head) : Type 0 where
  pub sizes : HeadBounds
  pub own : ℕ
  pub sound : IsSoundHead sizes own h
  pub output : IsOutputOf own version
