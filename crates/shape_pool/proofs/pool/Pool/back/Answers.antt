-- The first nodes alone.
use Rattle.std.proofs.Common.{◌≤◌, ◌∙◌, sym, ap, subst, take, List, length}
use Rattle.lists.proofs.Places.{map-take}
use Rattle.shape_pool.specs.declared.held.Held.{Held}
use Rattle.shape_pool.specs.Rows.{Row, HasPlaces}
use Rattle.shape_pool.specs.Calls.{Keeps, KeepsLoadedBelow}
use Rattle.shape_pool.specs.Held.{row_of, rows_of, IsIndex}
use Rattle.shape_pool.proofs.IndexLaws.{IsIndex-take}
use Rattle.shape_pool.proofs.HandingLaws.{few-held}
use Rattle.shape_pool.proofs.LoadedLaws.{keeps-loaded-below}
use Rattle.shape_pool.proofs.CallLaws.{keeps-taken, places-taken}
use Rattle.shape_pool.proofs.pool.Pool.back.Goals as goal

pub invariant_of-self : goal.invariant_of-self
invariant_of-self c =
    let held : List Held = c.self.inside.stock in
    let within : c.args.mark ≤ length held = subst (λ n. c.args.mark ≤ n) (few-held held c.args.self.now c.self.view_is)
    c.requires in
    subst IsIndex (sym c.truncate.ensures) (IsIndex-take held c.args.mark within c.self.invariant)

pub returns-clause-rows : goal.returns-clause-rows
returns-clause-rows c = ap rows_of c.truncate.ensures ∙ map-take row_of c.args.mark c.self.inside.stock ∙
    ap (λ (rs : List Row). take c.args.mark rs) c.self.view_is

pub returns-clause-kept : goal.returns-clause-kept
returns-clause-kept c =
    subst (λ (rows : List Row). Keeps rows c.args.self.now) (sym (returns-clause-rows c))
    (keeps-taken c.args.self.now c.args.mark)

pub returns-clause-loaded : goal.returns-clause-loaded
returns-clause-loaded c =
    subst (KeepsLoadedBelow c.args.mark c.args.self.now) (sym (returns-clause-rows c))
    (keeps-loaded-below c.args.self.now c.args.mark)

pub returns-clause-places : goal.returns-clause-places
returns-clause-places c =
    λ n p. subst (λ (rows : List Row). HasPlaces rows n) (sym (returns-clause-rows c))
    (places-taken c.args.self.now c.args.mark n p)
