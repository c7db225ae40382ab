-- A code that may come makes room for one less.
use Rattle.std.proofs.Common.{◌≡◌, ℕ, zero, suc, ◌-◌, ◌<◌, List, refl, arith}
use Rattle.lists.specs.Results.{◌>>=◌}
use Rattle.brep_tokens.specs.declared.text.Token.{Token}
use Rattle.curve_tables.specs.Chains.{chain_at, code_at, coded_at}
use Rattle.curve_tables.specs.declared.parts.Dimension.{Dimension}
use Rattle.curve_tables.specs.declared.parts.Frame.{Frame}

pub chain_inside : (d : Dimension) (room : ℕ) (frames : List Frame) (ts : List Token) → 0 < room
    → chain_at d room frames ts ≡ (code_at ts >>= λ c. coded_at d frames (chain_at d (room - 1)) c.0.0 c.1)
chain_inside d zero frames ts lt = absurd (omega (arith, lt))
chain_inside d (suc n) frames ts lt =
    let e : suc n - 1 ≡ n = omega arith in
    rw e refl
