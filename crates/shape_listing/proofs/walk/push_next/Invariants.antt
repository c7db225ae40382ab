use Rattle.std.specs.Prelude.{ℕ, ◌-◌}
use Rattle.orientation.specs.declared.kind.Kind.{Kind}
use Rattle.shape_pool.specs.Rows.{HaveKinds}
use Rattle.shape_listing.specs.ByNumber.{HasTold, IsExploring}
use Rattle.shape_listing.proofs.walk.push_next.Given as goal

abbrev pub invariant-lines : goal.invariant-lines
invariant-lines g l =
    IsExploring l.pool l.explorer ×
    ((kind : ℕ → Kind) → HaveKinds l.pool kind →
    HasTold (λ done. g.B.TakesBytes.gives l.initial.text done l.text) kind l.initial.explorer l.count l.explorer
    (l.count - l._at))
