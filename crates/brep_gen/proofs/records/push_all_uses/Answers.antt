-- One use more.
use Rattle.std.proofs.Common.{◌∙◌, ◌++◌, ◌-◌, ◌+◌, ap}
use Rattle.brep_gen.specs.Generated.{forward, use_words}
use Rattle.brep_gen.specs.Spacing.{spaced}
use Rattle.brep_gen.proofs.TextLemmas.{spaced_more, spaced_none}
use Rattle.brep_gen.proofs.records.push_all_uses.Goals as goal

pub loop-k-preserved : goal.loop-k-preserved
loop-k-preserved c =
    c.in_ok-push_use.ensures
    ∙ ap (λ t. t ++ spaced (use_words forward (c.args.n - (c.args.first + c.loop-k.k)) 0)) c.loop-k.invariant
    ∙ spaced_more c.args.text.now.items c.loop-k.k (λ k. use_words forward (c.args.n - (c.args.first + k)) 0)

pub loop-k-init : goal.loop-k-init
loop-k-init c = spaced_none c.args.text.now.items (λ k. use_words forward (c.args.n - (c.args.first + k)) 0)
