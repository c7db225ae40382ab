-- Shapes at first places are distinct, and so are their numbers.
use Rattle.std.proofs.Common.{subst}
use Rattle.std.specs.Prelude.{List}
use Rattle.subshape_maps.specs.declared.shape.ShapeAt.{ShapeAt}
use Rattle.subshape_maps.specs.Numbered.{Meets}
use Rattle.subshape_maps.proofs.NumberLemmas.{shapes-told}
use Rattle.subshape_maps.proofs.AboveLemmas.{met-distinct}
use Rattle.subshape_maps.proofs.listing.all_shapes.Goals as goal

pub returns-clause-once : goal.returns-clause-once
returns-clause-once c =
    met-distinct (shapes-told c.equal_trees_tell.ensures c.test_tells.ensures) c.args.words.now c.meet.new.words c.args.pool.now c.meet.new.seen.keys c.args.at
    (subst (λ (l : List ShapeAt). Meets c.args.words.now c.meet.new.words c.args.pool.now l c.meet.new.seen.keys c.args.at) c.new-seen.ensures.empty c.in_ok-meet.ensures.met)
