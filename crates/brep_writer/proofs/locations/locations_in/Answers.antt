use Rattle.std.proofs.Common.{◌∙◌, ap, arith, length}
use Rattle.brep_writer.proofs.Adding.{located}
use Rattle.brep_writer.proofs.locations.locations_in.Goals as goal

pub add_nodes-requires-clause-over : goal.add_nodes-requires-clause-over
add_nodes-requires-clause-over c =
    record { section = c.in_ok-locations.ensures.section; table = c.in_ok-locations.ensures.table }

pub add_word-requires-clause-numbering : goal.add_word-requires-clause-numbering
add_word-requires-clause-numbering c = c.in_ok-add_nodes.ensures.numbering

pub add_word-requires-clause-id : goal.add_word-requires-clause-id
add_word-requires-clause-id c =
    let below = c.requires.place in
    let same = ap length (c.in_ok-add_nodes.ensures.table ∙ c.in_ok-locations.ensures.table) in
    omega (arith, below, same)

pub returns : goal.returns
returns c =
    located c.added_parts_join.ensures c.args.source.now c.laws.ensures c.requires.loaded c.args.root
    c.args.order.now.numbers c.requires.order c.in_ok-locations.locations c.add_nodes.new.locations c.add_word.new.self
    (record { section = c.in_ok-locations.ensures.section; table = c.in_ok-locations.ensures.table })
    c.in_ok-locations.ensures.none c.in_ok-add_nodes.ensures c.in_ok-add_word.ensures
