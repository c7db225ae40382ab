-- How many decimals the parts of a surface have.
use Rattle.std.specs.Prelude.{ℕ, ◌==◌, ◌||◌, Bool, if◌then◌else◌}
use Rattle.surface_tables.specs.declared.parts.Wrap.{Wrap}
use Rattle.surface_tables.specs.declared.parts.Wrap.TheVariants.{Trimmed, Offset}

-- plane, cylinder, cone, sphere, torus
abbrev pub plain_size : ℕ → ℕ
plain_size code = if code == 1 then 12
    else (if code == 2 then 13 else (if code == 3 then 14 else (if code == 4 then 13 else 14)))

-- extrusion: a direction; revolution: a point and a direction
abbrev pub swept_size : ℕ → ℕ
swept_size code = if code == 6 then 3 else 6

-- a pole, and its weight where the surface is rational in either direction
abbrev pub per_pole : Bool → Bool → ℕ
per_pole urational vrational = if urational || vrational then 4 else 3

-- rectangular trim: the ranges of u and v; offset: the distance
abbrev pub wrap_size : Wrap → ℕ
wrap_size Trimmed = 4
wrap_size Offset = 1
