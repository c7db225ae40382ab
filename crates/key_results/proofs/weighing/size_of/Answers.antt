-- What is rebuilt brings its result and its uses.
use Rattle.std.proofs.Common.{◌∙◌, sym, ap}
use Rattle.std.specs.Prelude.{min}
use Rattle.lists.specs.Sameness.{is_empty}
use Rattle.key_results.specs.Derivations.{made_of, size_made, most_told}
use Rattle.key_results.specs.Weights.{weight}
use Rattle.key_results.proofs.WeightLaws.{size-rebuilt}
use Rattle.key_results.proofs.weighing.size_of.Goals as goal

pub returns-in-Rebuilt : goal.returns-in-Rebuilt
returns-in-Rebuilt c = λ prune x parts below own.
    let no = is_empty c.args.visit.now.links.items in
    size-rebuilt prune no x parts c.args.below c.args.own c.saturating_add.result below
    (own ∙ ap (λ o. weight (made_of o prune no x parts)) c.in-Rebuilt.is) c.saturating_add.ensures ∙
    ap (λ o. min (size_made o (made_of o prune no x parts)) most_told) (sym c.in-Rebuilt.is)
