-- One use more.
use Rattle.std.proofs.Common.{◌∙◌, ◌++◌, ◌∷◌, [], sym, ap}
use Rattle.std.proofs.lemmas.List.{append_assoc}
use Rattle.lists.proofs.Places.{take-at}
use Rattle.shape_pool.specs.Laws.{ids_used}
use Rattle.requests.proofs.ends.push_uses.Goals as goal

pub loop-at-preserved : goal.loop-at-preserved
loop-at-preserved c =
    let more = take-at (ids_used c.args.pool.now c.args.id.0) c.loop-at.at c.used_at.result.0 c.used_at.ensures.id in
    c.in_ok-push.ensures.items ∙ ap (λ l. l ++ c.used_at.result.0 ∷ []) c.loop-at.invariant ∙
    append_assoc c.args.ends.now.items _ (c.used_at.result.0 ∷ []) ∙ ap (λ l. c.args.ends.now.items ++ l) (sym more)
