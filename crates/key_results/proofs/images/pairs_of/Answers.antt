-- One visit more.
use Rattle.std.proofs.Common.{arith, ◌<◌, length}
use Rattle.std.proofs.lemmas.List.Elements.{All-weaker}
use Rattle.key_results.specs.declared.parts.Part.{Part}
use Rattle.key_results.specs.Parts.{IsHeldPart}
use Rattle.key_results.proofs.LinkTurns.{read-at}
use Rattle.key_results.proofs.PairLaws.{pairs-next, no-pair, all-pairs}
use Rattle.key_results.proofs.images.pairs_of.Goals as goal

pub loop-k-init : goal.loop-k-init
loop-k-init c =
    no-pair c.args.visits.now c.args.outgrowths.now c.args.nodes.now c.args.all c.new-pairs.result.items
    c.new-pairs.ensures.items

pub bounds-outgrowths-k : goal.bounds-outgrowths-k
bounds-outgrowths-k c = omega (arith, c.loop-k-test.true, c.requires.long)

pub add_chosen-requires-clause-key : goal.add_chosen-requires-clause-key
add_chosen-requires-clause-key c = omega (arith, c.loop-k-test.true, c.requires.nodes)

pub add_chosen-requires-clause-parts : goal.add_chosen-requires-clause-parts
add_chosen-requires-clause-parts c =
    let k = c.loop-k.k in
    let o = c.index-outgrowths-k.result in
    let lt = c.loop-k-test.true in
    let has = read-at c.args.outgrowths.now k o (omega (arith, lt, c.requires.long)) c.index-outgrowths-k.is in
    All-weaker (IsHeldPart k c.requires.parts.0) (λ (p : Part). p.of < length c.args.nodes.now)
    (λ p h. let a = h.0 in omega (arith, a, lt, c.requires.nodes)) o.parts.items (c.requires.parts.1 k o has)

pub loop-k-preserved : goal.loop-k-preserved
loop-k-preserved c =
    let k = c.loop-k.k in
    let v = c.index-visits-k.result in
    let o = c.index-outgrowths-k.result in
    let lt = c.loop-k-test.true in
    pairs-next c.args.visits.now c.args.outgrowths.now c.args.nodes.now c.args.all c.loop-k.pairs.items
    c.add_chosen.new.pairs.items k v o
    (read-at c.args.visits.now k v lt c.index-visits-k.is)
    (read-at c.args.outgrowths.now k o (omega (arith, lt, c.requires.long)) c.index-outgrowths-k.is)
    c.in_ok-add_chosen.ensures c.loop-k.invariant

pub returns : goal.returns
returns c =
    all-pairs c.args.visits.now c.args.outgrowths.now c.args.nodes.now c.args.all c.loop-k.pairs.items c.loop-k.k
    c.loop-k-test.false c.loop-k.invariant
