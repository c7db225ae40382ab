-- Live requests suffice for a match.
use Rattle.std.proofs.Common.{◌∙◌, ap, List}
use Rattle.requests.specs.declared.request.Request.{Request}
use Rattle.requests.specs.Numbered.{last_allowed}
use Rattle.requests.proofs.MatchLaws.{match-live}
use Rattle.requests.proofs.plan.Plan.find.Goals as goal

pub returns-clause-matched : goal.returns-clause-matched
returns-clause-matched c = λ p given at is_live.
    c.last_allowing.ensures ∙
    ap (λ (l : List Request). last_allowed l c.args.turn c.args.word.0) (c.live.ensures p at ∙ is_live) ∙
    match-live c.args.turn c.args.word.0 given p.id
