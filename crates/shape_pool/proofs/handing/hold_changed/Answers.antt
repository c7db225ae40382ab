-- A held node over other uses is handed in.
use Rattle.std.proofs.Common.{ap, subst, suc, List, Err}
use Rattle.std.proofs.lemmas.List.{length-map}
use Rattle.shape_pool.specs.declared.held.Held.{Held}
use Rattle.shape_pool.specs.Rows.{kind_at, origin_at, greatest}
use Rattle.shape_pool.specs.Calls.{IsRefused}
use Rattle.shape_pool.specs.Held.{rows_of, stored_depth, IsOver, IsTooDeep}
use Rattle.lists.proofs.Errors.{IfErr-on}
use Rattle.shape_pool.proofs.HandingLaws.{refused-deep, refused-many, within}
use Rattle.shape_pool.proofs.IndexLaws.{entered}
use Rattle.shape_pool.proofs.CallLaws.{kind-of-held, compound-of-held}
use Rattle.shape_pool.proofs.handing.hold_changed.Goals as goal

pub returns-in_err-node-clause-refused : goal.returns-in_err-node-clause-refused
returns-in_err-node-clause-refused c =
    let held : List Held = c.args.stock.now in
    let deep =
    subst (λ (hs : List Held). IsTooDeep (suc (greatest (stored_depth hs) c.args.uses.now)) c.in_err-node.field-0.0)
    c.held.ensures c.in_err-node.ensures.err in
    IfErr-on _ c.in_err-node.field-0.0 (IsRefused (rows_of held) (origin_at (rows_of c.args.stock.now) c.args.id.0)
    c.args.uses.now) c.from_residual.ensures.1
    (refused-deep held c.args.uses.now c.requires.held c.requires.index
    (origin_at (rows_of c.args.stock.now) c.args.id.0) c.in_err-node.field-0.0 deep)

pub returns-in_err-made-clause-refused : goal.returns-in_err-made-clause-refused
returns-in_err-made-clause-refused c =
    let held : List Held = c.args.stock.now in
    let over : IsOver held (kind_at (rows_of held) c.args.id.0) (origin_at (rows_of held) c.args.id.0) c.args.uses.now
    c.in_ok-node.node =
    subst
    (λ (hs : List Held). IsOver hs (kind_at (rows_of hs) c.args.id.0) (origin_at (rows_of hs) c.args.id.0)
    c.args.uses.now c.in_ok-node.node) c.held.ensures c.in_ok-node.ensures.ok in
    IfErr-on _ c.in_err-made.field-0.0 (IsRefused (rows_of held) (origin_at (rows_of c.args.stock.now) c.args.id.0)
    c.args.uses.now) c.from_residual-in_err-made.ensures.1
    (refused-many held c.args.uses.now c.requires.held c.requires.index
    (origin_at (rows_of c.args.stock.now) c.args.id.0) (kind_at (rows_of c.args.stock.now) c.args.id.0)
    c.in_ok-node.node over c.in_err-made.field-0.0
    (λ n e. c.in_err-made.ensures.many n (ap Err e)) (λ n e. c.in_err-made.ensures.deep n (ap Err e)))

pub returns-clause-index : goal.returns-clause-index
returns-clause-index c =
    let held : List Held = c.args.stock.now in
    let over : IsOver held (kind_at (rows_of held) c.args.id.0) (origin_at (rows_of held) c.args.id.0) c.args.uses.now
    c.in_ok-node.node =
    subst
    (λ (hs : List Held). IsOver hs (kind_at (rows_of hs) c.args.id.0) (origin_at (rows_of hs) c.args.id.0)
    c.args.uses.now c.in_ok-node.node) c.held.ensures c.in_ok-node.ensures.ok in
    (entered held (kind_at (rows_of c.args.stock.now) c.args.id.0) (origin_at (rows_of c.args.stock.now) c.args.id.0)
    c.args.uses.now c.in_ok-node.node over c.requires.index c.requires.below
    (kind-of-held (rows_of held) c.requires.index.rows c.args.id.0 (rw length-map c.requires.id))
    (compound-of-held (rows_of held) c.requires.index.rows c.args.id.0 (rw length-map c.requires.id))
    c.hand_in.new.stock c.in_ok-made.made.0 c.in_ok-made.ensures.ok).0

pub returns-clause-handed : goal.returns-clause-handed
returns-clause-handed c =
    let held : List Held = c.args.stock.now in
    let over : IsOver held (kind_at (rows_of held) c.args.id.0) (origin_at (rows_of held) c.args.id.0) c.args.uses.now
    c.in_ok-node.node =
    subst
    (λ (hs : List Held). IsOver hs (kind_at (rows_of hs) c.args.id.0) (origin_at (rows_of hs) c.args.id.0)
    c.args.uses.now c.in_ok-node.node) c.held.ensures c.in_ok-node.ensures.ok in
    (entered held (kind_at (rows_of c.args.stock.now) c.args.id.0) (origin_at (rows_of c.args.stock.now) c.args.id.0)
    c.args.uses.now c.in_ok-node.node over c.requires.index c.requires.below
    (kind-of-held (rows_of held) c.requires.index.rows c.args.id.0 (rw length-map c.requires.id))
    (compound-of-held (rows_of held) c.requires.index.rows c.args.id.0 (rw length-map c.requires.id))
    c.hand_in.new.stock c.in_ok-made.made.0 c.in_ok-made.ensures.ok).1

pub returns-clause-within : goal.returns-clause-within
returns-clause-within c =
    let held : List Held = c.args.stock.now in
    let over : IsOver held (kind_at (rows_of held) c.args.id.0) (origin_at (rows_of held) c.args.id.0) c.args.uses.now
    c.in_ok-node.node =
    subst
    (λ (hs : List Held). IsOver hs (kind_at (rows_of hs) c.args.id.0) (origin_at (rows_of hs) c.args.id.0)
    c.args.uses.now c.in_ok-node.node) c.held.ensures c.in_ok-node.ensures.ok in
    within held c.args.uses.now c.requires.held c.requires.index (origin_at (rows_of c.args.stock.now) c.args.id.0)
    (kind_at (rows_of c.args.stock.now) c.args.id.0) c.in_ok-node.node over
