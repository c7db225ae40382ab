-- A node of an origin that isn't loaded.
use Rattle.std.proofs.Common.{subst, List}
use Rattle.shape_pool.specs.Rows.{Row}
use Rattle.shape_pool.specs.Calls.{IsHandedIn}
use Rattle.shape_pool.specs.Held.{rows_of}
use Rattle.shape_pool.proofs.CallLaws.{fresh-loaded, handed-keeps, handed-node, handed-places, handed-tree, kind-of-new}
use Rattle.shape_pool.proofs.pool.Pool.load.Goals as goal

pub returns-clause-node : goal.returns-clause-node
returns-clause-node c =
    let new : List Row = rows_of c.hold_loaded.new.stock in
    let handed = subst (λ (rs : List Row). IsHandedIn rs c.args.kind c.args.origin c.args.uses.now new c.in_ok-id.id.0)
    c.self.view_is c.in_ok-id.ensures.handed in
    handed-node c.args.self.now c.args.kind c.args.origin c.args.uses.now new c.in_ok-id.id.0 handed
    (kind-of-new c.args.self.now c.args.origin c.args.kind c.requires.new c.requires.origin)

pub returns-clause-tree : goal.returns-clause-tree
returns-clause-tree c =
    let new : List Row = rows_of c.hold_loaded.new.stock in
    let handed = subst (λ (rs : List Row). IsHandedIn rs c.args.kind c.args.origin c.args.uses.now new c.in_ok-id.id.0)
    c.self.view_is c.in_ok-id.ensures.handed in
    handed-tree c.args.self.now c.args.kind c.args.origin c.args.uses.now new c.in_ok-id.id.0 handed
    c.in_ok-id.ensures.index.rows c.requires.held

pub returns-clause-loaded : goal.returns-clause-loaded
returns-clause-loaded c =
    let new : List Row = rows_of c.hold_loaded.new.stock in
    let handed = subst (λ (rs : List Row). IsHandedIn rs c.args.kind c.args.origin c.args.uses.now new c.in_ok-id.id.0)
    c.self.view_is c.in_ok-id.ensures.handed in
    fresh-loaded c.args.self.now c.args.kind c.args.origin c.args.uses.now new c.in_ok-id.id.0 handed c.requires.new
    c.requires.origin

pub returns-clause-places : goal.returns-clause-places
returns-clause-places c =
    let new : List Row = rows_of c.hold_loaded.new.stock in
    let handed = subst (λ (rs : List Row). IsHandedIn rs c.args.kind c.args.origin c.args.uses.now new c.in_ok-id.id.0)
    c.self.view_is c.in_ok-id.ensures.handed in
    handed-places c.args.self.now c.args.kind c.args.origin c.args.uses.now new c.in_ok-id.id.0 handed

pub returns-clause-kept : goal.returns-clause-kept
returns-clause-kept c =
    let new : List Row = rows_of c.hold_loaded.new.stock in
    let handed = subst (λ (rs : List Row). IsHandedIn rs c.args.kind c.args.origin c.args.uses.now new c.in_ok-id.id.0)
    c.self.view_is c.in_ok-id.ensures.handed in
    handed-keeps c.args.self.now c.args.kind c.args.origin c.args.uses.now new c.in_ok-id.id.0 handed
