use Rattle.brep_writer.proofs.Adding.{adds-node, on-ok, over-kept}
use Rattle.brep_writer.proofs.locations.add_node.Goals as goal

pub add_uses-requires-clause-numbering : goal.add_uses-requires-clause-numbering
add_uses-requires-clause-numbering c = (c.in_ok-add_data.ensures c.args.source.now.file.now.version).numbering

pub add_uses-requires-clause-over : goal.add_uses-requires-clause-over
add_uses-requires-clause-over c =
    over-kept c.args.source.now _ _ _ c.args.locations.now c.add_data.new.locations c.requires.over
    (c.in_ok-add_data.ensures c.args.source.now.file.now.version)

pub returns : goal.returns
returns c =
    let s = c.args.source.now in
    let named = c.in_ok-add_data.ensures s.file.now.version in
    on-ok c.add_uses.result
    (adds-node s c.laws.ensures c.args.id.0 c.requires.id c.args.locations.now c.add_data.new.locations c.requires.over
    (over-kept s _ _ _ c.args.locations.now c.add_data.new.locations c.requires.over named) c.added_parts_join.ensures
    c.add_uses.new.locations named)
    c.add_uses.ensures
