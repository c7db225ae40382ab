-- The root is still to come, under its own turn and word.
use Rattle.explorer.proofs.WayLemmas.{root-left}
use Rattle.explorer.proofs.explorer.Explorer.new.Goals as goal

pub returns-clause-left : goal.returns-clause-left
returns-clause-left c = λ kind kinds.
    root-left c.words_are_a_group.ensures c.args.words.now c.len.ensures.table c.args.pool.now kind c.args.find
    c.args.avoid c.args.root c.requires.place c.in_ok-trail.trail.levels c.in_ok-trail.ensures.none
