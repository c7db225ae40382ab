-- The last level is the innermost.
use Rattle.std.proofs.Common.{◌≡◌, ◌-◌, Some, List, sym, subst, length, slice_get}
use Rattle.explorer.specs.declared.trail.Level.{Level}
use Rattle.explorer.specs.Levels.{Path}
use Rattle.explorer.specs.Trails.{IsInnermost}
use Rattle.explorer.proofs.TrailLemmas.{is-innermost}
use Rattle.explorer.proofs.trail.Trail.last.Goals as goal

pub returns-clause-some : goal.returns-clause-some
returns-clause-some c =
    let at : slice_get c.self.inside.levels.items (length c.self.inside.levels.items - 1) ≡
    Some c.in_ok-level.level.now =
    subst (λ (l : List Level). slice_get l (length l - 1) ≡ Some c.in_ok-level.level.now) c.deref.ensures.value
    (sym c.in_ok-level.ensures.value) in
    subst (λ (p : Path). IsInnermost p.levels c.in_ok-level.level.now.id c.in_ok-level.level.now.at) c.self.view_is
    (is-innermost c.self.inside.levels.items c.in_ok-level.level.now at)
