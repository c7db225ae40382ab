-- How many decimals the entries have.
use Rattle.std.specs.Prelude.{ℕ, ◌+◌, ◌*◌, Bool, if◌then◌else◌}

-- of a polygon's nodes: one parameter each, where there are parameters
abbrev pub param_count : ℕ → Bool → ℕ
param_count nodes params = if params then nodes else 0

-- a polygon in space: the deflection, three coordinates of each node, the parameters
abbrev pub polygon_size : ℕ → Bool → ℕ
polygon_size nodes params = 1 + 3 * nodes + param_count nodes params

-- a polygon on a mesh: the deflection, the parameters
abbrev pub polygon_on_size : ℕ → Bool → ℕ
polygon_on_size nodes params = 1 + param_count nodes params

-- a mesh: the deflection, three coordinates of each node, and two parameters of each where there are parameters
abbrev pub mesh_size : ℕ → Bool → ℕ
mesh_size nodes uv = 1 + 3 * nodes + (if uv then 2 * nodes else 0)
