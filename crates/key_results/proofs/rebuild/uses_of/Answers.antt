-- One part more.
use Rattle.std.proofs.Common.{◌∙◌, ap}
use Rattle.std.proofs.lemmas.List.{take_all}
use Rattle.key_results.specs.Grown.{node_uses}
use Rattle.key_results.proofs.NewRoot.{no_part, uses-turn}
use Rattle.key_results.proofs.rebuild.uses_of.Goals as goal

pub loop-part-init : goal.loop-part-init
loop-part-init c = λ d. c.new-uses.ensures.items

pub bounds-nodes-part : goal.bounds-nodes-part
bounds-nodes-part c = c.requires c.loop-part.part-index no_part c.loop-part-test.true

pub loop-part-preserved : goal.loop-part-preserved
loop-part-preserved c = λ d.
    uses-turn d c.args.nodes.now c.args.parts.now c.loop-part.part-index c.loop-part-test.true c.requires
    c.loop-part.uses.items c.push.new.self.items
    c.in_ok-push.ensures.items (c.loop-part.invariant d)

pub returns : goal.returns
returns c =
    λ d. c.loop-part.invariant d ∙ ap (node_uses d c.args.nodes.now)
    (take_all c.loop-part.part-index c.args.parts.now c.loop-part-test.false)
