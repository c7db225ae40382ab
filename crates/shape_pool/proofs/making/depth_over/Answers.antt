-- The greatest depth so far, and that of one more use.
use Rattle.std.proofs.Common.{◌≤◌, ◌<◌, ◌∙◌, ap, arith, length, slice_index_or, List}
use Rattle.std.specs.Prelude.{max}
use Rattle.shape_pool.specs.declared.node.UseOf.{UseOf}
use Rattle.shape_pool.specs.declared.held.Held.{Held}
use Rattle.shape_pool.specs.Rows.{most_depth}
use Rattle.shape_pool.specs.Held.{stored_depth}
use Rattle.shape_pool.proofs.MakingLaws.{any_use, greatest-more}
use Rattle.shape_pool.proofs.making.depth_over.Goals as goal

pub loop-u-preserved : goal.loop-u-preserved
loop-u-preserved c =
    let uses : List UseOf = c.args.uses.now in
    let held : List Held = c.args.held.now in
    let lt : c.loop-u.u-index < length uses = omega arith in
    let u : UseOf = slice_index_or uses c.loop-u.u-index any_use in
    let depth : stored_depth held u.id.0 ≤ most_depth =
    c.requires.shallow u.id.0 (c.requires.held c.loop-u.u-index any_use lt) in
    let read = c.depth.ensures in (
      greatest-more (stored_depth held) uses c.loop-u.u-index any_use c.loop-u.deepest c.max_of-deepest.result lt
          c.loop-u.invariant.0 (c.max_of-deepest.ensures ∙ ap (max c.loop-u.deepest) read),
      omega (arith, depth, read, c.loop-u.invariant.1, c.max_of-deepest.ensures),
    )
