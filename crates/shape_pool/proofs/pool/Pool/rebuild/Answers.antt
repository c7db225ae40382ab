-- A held node over other uses.
use Rattle.std.proofs.Common.{subst, refl, inr, List}
use Rattle.shape_pool.specs.Rows.{Row, kind_at, origin_at}
use Rattle.shape_pool.specs.Calls.{IsHandedIn}
use Rattle.shape_pool.specs.Held.{rows_of, IsRows}
use Rattle.shape_pool.proofs.CallLaws.{handed-keeps, handed-loaded, handed-node}
use Rattle.shape_pool.proofs.CallLaws.{handed-places, handed-tree, kind-of-held}
use Rattle.shape_pool.proofs.pool.Pool.rebuild.Goals as goal

pub returns-clause-node : goal.returns-clause-node
returns-clause-node g c =
    let new : List Row = rows_of c.hold_changed.new.stock in
    let handed =
    subst
    (λ (rs : List Row). IsHandedIn rs (kind_at rs c.args.id.0) (origin_at rs c.args.id.0) c.args.uses.now new
    c.in_ok-made.made.0) c.self.view_is c.in_ok-made.ensures.handed in
    handed-node c.args.self.now (kind_at c.args.self.now c.args.id.0) (origin_at c.args.self.now c.args.id.0)
    c.args.uses.now new c.in_ok-made.made.0 handed
    (kind-of-held c.args.self.now (subst IsRows c.self.view_is c.self.invariant.rows) c.args.id.0 c.requires.id)

pub returns-clause-tree : goal.returns-clause-tree
returns-clause-tree g c =
    let new : List Row = rows_of c.hold_changed.new.stock in
    let handed =
    subst
    (λ (rs : List Row). IsHandedIn rs (kind_at rs c.args.id.0) (origin_at rs c.args.id.0) c.args.uses.now new
    c.in_ok-made.made.0) c.self.view_is c.in_ok-made.ensures.handed in
    handed-tree c.args.self.now (kind_at c.args.self.now c.args.id.0) (origin_at c.args.self.now c.args.id.0)
    c.args.uses.now new c.in_ok-made.made.0 handed c.in_ok-made.ensures.index.rows c.requires.held

pub returns-clause-loaded : goal.returns-clause-loaded
returns-clause-loaded g c =
    let new : List Row = rows_of c.hold_changed.new.stock in
    let handed =
    subst
    (λ (rs : List Row). IsHandedIn rs (kind_at rs c.args.id.0) (origin_at rs c.args.id.0) c.args.uses.now new
    c.in_ok-made.made.0) c.self.view_is c.in_ok-made.ensures.handed in
    handed-loaded c.args.self.now (kind_at c.args.self.now c.args.id.0) (origin_at c.args.self.now c.args.id.0)
    c.args.uses.now new c.in_ok-made.made.0 handed (inr (c.args.id.0, (c.requires.id, refl)))

pub returns-clause-places : goal.returns-clause-places
returns-clause-places g c =
    let new : List Row = rows_of c.hold_changed.new.stock in
    let handed =
    subst
    (λ (rs : List Row). IsHandedIn rs (kind_at rs c.args.id.0) (origin_at rs c.args.id.0) c.args.uses.now new
    c.in_ok-made.made.0) c.self.view_is c.in_ok-made.ensures.handed in
    handed-places c.args.self.now (kind_at c.args.self.now c.args.id.0) (origin_at c.args.self.now c.args.id.0)
    c.args.uses.now new c.in_ok-made.made.0 handed

pub returns-clause-kept : goal.returns-clause-kept
returns-clause-kept g c =
    let new : List Row = rows_of c.hold_changed.new.stock in
    let handed =
    subst
    (λ (rs : List Row). IsHandedIn rs (kind_at rs c.args.id.0) (origin_at rs c.args.id.0) c.args.uses.now new
    c.in_ok-made.made.0) c.self.view_is c.in_ok-made.ensures.handed in
    handed-keeps c.args.self.now (kind_at c.args.self.now c.args.id.0) (origin_at c.args.self.now c.args.id.0)
    c.args.uses.now new c.in_ok-made.made.0 handed
