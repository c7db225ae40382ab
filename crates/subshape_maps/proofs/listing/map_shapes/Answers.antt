-- All shapes are met, and those of the kind are taken.
use Rattle.subshape_maps.proofs.NumberLemmas.{shapes-told}
use Rattle.subshape_maps.proofs.ListLemmas.{map-is}
use Rattle.subshape_maps.proofs.listing.map_shapes.Goals as goal

pub returns-clause-map : goal.returns-clause-map
returns-clause-map c =
    map-is c.args.pool.now c.laws.ensures (shapes-told c.equal_trees_tell.ensures c.test_tells.ensures) c.all_shapes.new.words c.args.words.now c.in_ok-seen.ensures.grows c.requires.places
    c.args.root c.requires.root c.requires.place c.args.kind c.in_ok-seen.seen.keys c.in_ok-shapes.shapes c.in_ok-seen.ensures.met c.in_ok-shapes.ensures
