-- A compound of origin 0 over held nodes.
use Rattle.std.proofs.Common.{subst, refl, inl, List}
use Rattle.orientation.specs.declared.kind.Kind.TheVariants.{Co}
use Rattle.shape_pool.specs.Rows.{Row}
use Rattle.shape_pool.specs.Calls.{IsHandedIn}
use Rattle.shape_pool.specs.Held.{rows_of}
use Rattle.shape_pool.proofs.CallLaws.{handed-keeps, handed-loaded, handed-places, handed-tree}
use Rattle.shape_pool.proofs.pool.Pool.wrap.Goals as goal

pub returns-clause-tree : goal.returns-clause-tree
returns-clause-tree c =
    let new : List Row = rows_of c.hold_made.new.stock in
    let handed = subst (λ (rs : List Row). IsHandedIn rs Co 0 c.args.uses.now new c.in_ok-made.made.0) c.self.view_is
    c.in_ok-made.ensures.handed in
    handed-tree c.args.self.now Co 0 c.args.uses.now new c.in_ok-made.made.0 handed c.in_ok-made.ensures.index.rows
    c.requires.held

pub returns-clause-loaded : goal.returns-clause-loaded
returns-clause-loaded c =
    let new : List Row = rows_of c.hold_made.new.stock in
    let handed = subst (λ (rs : List Row). IsHandedIn rs Co 0 c.args.uses.now new c.in_ok-made.made.0) c.self.view_is
    c.in_ok-made.ensures.handed in
    handed-loaded c.args.self.now Co 0 c.args.uses.now new c.in_ok-made.made.0 handed (inl refl)

pub returns-clause-places : goal.returns-clause-places
returns-clause-places c =
    let new : List Row = rows_of c.hold_made.new.stock in
    let handed = subst (λ (rs : List Row). IsHandedIn rs Co 0 c.args.uses.now new c.in_ok-made.made.0) c.self.view_is
    c.in_ok-made.ensures.handed in
    handed-places c.args.self.now Co 0 c.args.uses.now new c.in_ok-made.made.0 handed

pub returns-clause-kept : goal.returns-clause-kept
returns-clause-kept c =
    let new : List Row = rows_of c.hold_made.new.stock in
    let handed = subst (λ (rs : List Row). IsHandedIn rs Co 0 c.args.uses.now new c.in_ok-made.made.0) c.self.view_is
    c.in_ok-made.ensures.handed in
    handed-keeps c.args.self.now Co 0 c.args.uses.now new c.in_ok-made.made.0 handed
