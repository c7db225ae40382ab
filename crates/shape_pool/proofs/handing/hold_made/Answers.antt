-- A compound over held nodes is handed in.
use Rattle.std.proofs.Common.{ap, subst, suc, refl, List, Err}
use Rattle.shape_pool.specs.declared.held.Held.{Held}
use Rattle.shape_pool.specs.Rows.{greatest}
use Rattle.shape_pool.specs.Calls.{IsRefused}
use Rattle.shape_pool.specs.Held.{rows_of, stored_depth, IsOver, IsTooDeep}
use Rattle.lists.proofs.Errors.{IfErr-on}
use Rattle.shape_pool.proofs.HandingLaws.{refused-deep, refused-many, within}
use Rattle.shape_pool.proofs.IndexLaws.{entered}
use Rattle.shape_pool.proofs.CallLaws.{kind-of-made, no-below}
use Rattle.orientation.specs.declared.kind.Kind.TheVariants.{Co}
use Rattle.shape_pool.proofs.handing.hold_made.Goals as goal

pub returns-in_err-node-clause-refused : goal.returns-in_err-node-clause-refused
returns-in_err-node-clause-refused c =
    let held : List Held = c.args.stock.now in
    let deep =
    subst (λ (hs : List Held). IsTooDeep (suc (greatest (stored_depth hs) c.args.uses.now)) c.in_err-node.field-0.0)
    c.held.ensures c.in_err-node.ensures.err in
    IfErr-on _ c.in_err-node.field-0.0 (IsRefused (rows_of held) 0 c.args.uses.now) c.from_residual.ensures.1
    (refused-deep held c.args.uses.now c.requires.held c.requires.index 0 c.in_err-node.field-0.0 deep)

pub returns-in_err-id-clause-refused : goal.returns-in_err-id-clause-refused
returns-in_err-id-clause-refused c =
    let held : List Held = c.args.stock.now in
    let over : IsOver held Co 0 c.args.uses.now c.in_ok-node.node =
    subst (λ (hs : List Held). IsOver hs Co 0 c.args.uses.now c.in_ok-node.node) c.held.ensures
    c.in_ok-node.ensures.ok in
    IfErr-on _ c.in_err-id.field-0.0 (IsRefused (rows_of held) 0 c.args.uses.now) c.from_residual-in_err-id.ensures.1
    (refused-many held c.args.uses.now c.requires.held c.requires.index 0 Co c.in_ok-node.node over
    c.in_err-id.field-0.0
    (λ n e. c.in_err-id.ensures.many n (ap Err e)) (λ n e. c.in_err-id.ensures.deep n (ap Err e)))

pub returns-clause-index : goal.returns-clause-index
returns-clause-index c =
    let held : List Held = c.args.stock.now in
    let over : IsOver held Co 0 c.args.uses.now c.in_ok-node.node =
    subst (λ (hs : List Held). IsOver hs Co 0 c.args.uses.now c.in_ok-node.node) c.held.ensures
    c.in_ok-node.ensures.ok in
    (entered held Co 0 c.args.uses.now c.in_ok-node.node over c.requires.index (no-below (rows_of held) c.args.uses.now)
    (kind-of-made (rows_of held) c.requires.index.rows) (λ z. refl)
    c.hand_in.new.stock c.in_ok-id.id.0 c.in_ok-id.ensures.ok).0

pub returns-clause-handed : goal.returns-clause-handed
returns-clause-handed c =
    let held : List Held = c.args.stock.now in
    let over : IsOver held Co 0 c.args.uses.now c.in_ok-node.node =
    subst (λ (hs : List Held). IsOver hs Co 0 c.args.uses.now c.in_ok-node.node) c.held.ensures
    c.in_ok-node.ensures.ok in
    (entered held Co 0 c.args.uses.now c.in_ok-node.node over c.requires.index (no-below (rows_of held) c.args.uses.now)
    (kind-of-made (rows_of held) c.requires.index.rows) (λ z. refl)
    c.hand_in.new.stock c.in_ok-id.id.0 c.in_ok-id.ensures.ok).1

pub returns-clause-within : goal.returns-clause-within
returns-clause-within c =
    let held : List Held = c.args.stock.now in
    let over : IsOver held Co 0 c.args.uses.now c.in_ok-node.node =
    subst (λ (hs : List Held). IsOver hs Co 0 c.args.uses.now c.in_ok-node.node) c.held.ensures
    c.in_ok-node.ensures.ok in
    within held c.args.uses.now c.requires.held c.requires.index 0 Co c.in_ok-node.node over
