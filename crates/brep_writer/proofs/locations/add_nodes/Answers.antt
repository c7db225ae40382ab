use Rattle.std.proofs.Common.{◌<◌, ◌∙◌, ap, subst, sym, take_all, take}
use Rattle.std.specs.Prelude.{ℕ, length, map}
use Rattle.std.proofs.lemmas.List.Elements.{All-contains}
use Rattle.shape_pool.specs.declared.node.NodeId.{NodeId}
use Rattle.brep_writer.specs.Located.{AddsNodes}
use Rattle.brep_writer.specs.Sources.{HasOrigin}
use Rattle.brep_writer.proofs.Adding.{adds-push, item-there, numbers-more, over-kept}
use Rattle.brep_writer.proofs.locations.add_nodes.Goals as goal

pub loop-id-init : goal.loop-id-init
loop-id-init c = c.added_parts_join.ensures.none c.args.locations.now c.requires.numbering

pub add_node-requires-clause-id : goal.add_node-requires-clause-id
add_node-requires-clause-id c =
    All-contains (λ (i : ℕ). i < length c.args.source.now.pool.now) c.args.order.now.numbers _ c.requires.held
    (item-there c.ids-id-items.result.now c.args.order.now.numbers c.loop-id.id-index _ c.loop-id-test.true
    c.ids-id-items.ensures)

pub add_node-requires-clause-origin : goal.add_node-requires-clause-origin
add_node-requires-clause-origin c =
    All-contains (HasOrigin c.args.source.now) c.args.order.now.numbers _ c.requires.origins
    (item-there c.ids-id-items.result.now c.args.order.now.numbers c.loop-id.id-index _ c.loop-id-test.true
    c.ids-id-items.ensures)

pub add_node-requires-clause-numbering : goal.add_node-requires-clause-numbering
add_node-requires-clause-numbering c = c.loop-id.invariant.numbering

pub add_node-requires-clause-over : goal.add_node-requires-clause-over
add_node-requires-clause-over c =
    over-kept c.args.source.now _ _ _ c.args.locations.now c.loop-id.locations c.requires.over c.loop-id.invariant

pub loop-id-preserved : goal.loop-id-preserved
loop-id-preserved c =
    let s = c.args.source.now in
    let ids = c.ids-id-items.result.now in
    subst (λ ns. AddsNodes s ns c.args.locations.now c.add_node.new.locations)
    (sym (numbers-more ids c.loop-id.id-index _ c.loop-id-test.true))
    (adds-push c.added_parts_join.ensures s (map (λ (n : NodeId). n.0) (take c.loop-id.id-index ids)) _
    c.args.locations.now c.loop-id.locations c.add_node.new.locations c.loop-id.invariant c.in_ok-add_node.ensures)

pub returns : goal.returns
returns c =
    subst (λ ns. AddsNodes c.args.source.now ns c.args.locations.now c.loop-id.locations)
    (ap (map (λ (n : NodeId). n.0)) (take_all c.loop-id.id-index c.ids-id-items.result.now c.loop-id-test.false)
    ∙ c.ids-id-items.ensures)
    c.loop-id.invariant
