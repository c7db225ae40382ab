-- One pair more.
use Rattle.std.proofs.Common.{◌≡◌, ◌≤◌, ◌<◌, ◌∙◌, true, false, List, sym}
use Rattle.std.proofs.Common.{subst, length, slice_index_or, slice_get, Some}
use Rattle.std.proofs.lemmas.Option.{slice_get-get_or}
use Rattle.key_results.specs.declared.parts.Part.{Part}
use Rattle.key_results.proofs.LinkTurns.{at-item}
use Rattle.key_results.proofs.NewRoot.{no_id, no_part}
use Rattle.key_results.proofs.PairLaws.{own-pair, part-pair, no-part, all-parts}
use Rattle.key_results.proofs.images.add_pairs.Goals as goal

pub returns-then-outgrowth : goal.returns-then-outgrowth
returns-then-outgrowth c =
    own-pair c.args.id c.args.nodes.now c.args.key c.args.outgrowth.now c.args.pairs.now.items c.push.new.self.items
    (slice_index_or c.args.nodes.now c.args.key no_id) c.if-outgrowth.true
    (slice_get-get_or c.args.nodes.now c.args.key no_id c.requires.key)
    c.in_ok-push.ensures.items

pub loop-part-init : goal.loop-part-init
loop-part-init c = no-part c.args.id c.args.nodes.now c.args.key c.args.outgrowth.now c.args.pairs.now.items

pub bounds-nodes-part : goal.bounds-nodes-part
bounds-nodes-part c =
    at-item (λ (p : Part). p.of < length c.args.nodes.now) c.as_slice-part-items.result.now
    c.args.outgrowth.now.parts.items c.loop-part.part-index no_part
    c.as_slice-part-items.ensures.value c.loop-part-test.true c.requires.parts

pub loop-part-preserved : goal.loop-part-preserved
loop-part-preserved c =
    let parts = c.args.outgrowth.now.parts.items in
    let nodes = c.args.nodes.now in
    let xs = c.as_slice-part-items.result.now in
    let i = c.loop-part.part-index in
    let q = slice_index_or xs i no_part in
    let lt : q.of < length nodes =
    at-item (λ (p : Part). p.of < length nodes) xs parts i no_part c.as_slice-part-items.ensures.value
    c.loop-part-test.true c.requires.parts in
    part-pair c.args.id nodes c.args.key c.args.outgrowth.now c.args.pairs.now.items c.loop-part.pairs.items
    c.push-in-loop-part.new.self.items parts i q
    (slice_index_or nodes q.of no_id)
    (subst (λ zs. slice_get zs i ≡ Some q) c.as_slice-part-items.ensures.value
    (slice_get-get_or xs i no_part c.loop-part-test.true))
    (slice_get-get_or nodes q.of no_id lt) c.in_ok-push-2.ensures.items c.loop-part.invariant

pub returns : goal.returns
returns c =
    all-parts c.args.id c.args.nodes.now c.args.key c.args.outgrowth.now c.args.pairs.now.items c.loop-part.pairs.items
    c.loop-part.part-index
    (λ t. let wrong : true ≡ false = sym t ∙ c.if-outgrowth.false in absurd cc)
    (subst (λ (ps : List Part). length ps ≤ c.loop-part.part-index) c.as_slice-part-items.ensures.value
    c.loop-part-test.false) c.loop-part.invariant
