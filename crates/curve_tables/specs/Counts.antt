-- How many decimals the parts of a curve have.
use Rattle.std.specs.Prelude.{ℕ, ◌==◌, Bool, if◌then◌else◌}
use Rattle.curve_tables.specs.declared.parts.Dimension.{Dimension}
use Rattle.curve_tables.specs.declared.parts.Dimension.TheVariants.{Plane, Space}
use Rattle.curve_tables.specs.declared.parts.Wrap.{Wrap}
use Rattle.curve_tables.specs.declared.parts.Wrap.TheVariants.{Trimmed, Offset}

-- line 1, circle 2, ellipse 3, parabola 4, hyperbola 5
abbrev pub plain_size : Dimension → ℕ → ℕ
plain_size Plane code = if code == 1 then 4
    else (if code == 2 then 7 else (if code == 3 then 8 else (if code == 4 then 7 else 8)))
plain_size Space code = if code == 1 then 6
    else (if code == 2 then 13 else (if code == 3 then 14 else (if code == 4 then 13 else 14)))

-- a pole, and its weight where the curve is rational
abbrev pub per_pole : Dimension → Bool → ℕ
per_pole Plane rational = if rational then 3 else 2
per_pole Space rational = if rational then 4 else 3

-- in front of a basis: the ends of the trimmed curve; the offset, and in space its direction
abbrev pub wrap_size : Dimension → Wrap → ℕ
wrap_size d Trimmed = 2
wrap_size Plane Offset = 1
wrap_size Space Offset = 4
