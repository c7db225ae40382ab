-- What is rebuilt is one deeper.
use Rattle.std.proofs.Common.{◌∙◌, sym, ap}
use Rattle.std.specs.Prelude.{◌&&◌, not}
use Rattle.lists.specs.Sameness.{is_empty}
use Rattle.shape_pool.specs.Rows.{tree_at}
use Rattle.key_results.specs.Derivations.{made_of}
use Rattle.key_results.specs.Weights.{weight}
use Rattle.key_results.proofs.WeightLaws.{weight-rebuilt}
use Rattle.key_results.proofs.weighing.weight_of.Goals as goal

pub returns-else-is_pruned-clause-weight : goal.returns-else-is_pruned-clause-weight
returns-else-is_pruned-clause-weight c = λ word parts below.
    let no = is_empty c.args.visit.now.links.items in
    let x = tree_at word c.args.pool.now c.args.visit.now.id.0 in
    weight-rebuilt (c.args.prune && not no && is_empty parts) x parts c.args.below
    (sym (c.is_pruned.ensures parts below) ∙ c.if-is_pruned.false) below ∙
    ap (λ o. weight (made_of o c.args.prune no x parts)) (sym c.in-Rebuilt.is)
