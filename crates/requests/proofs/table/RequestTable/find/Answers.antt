-- Live requests suffice for a match.
use Rattle.std.proofs.Common.{◌∙◌, ap, List}
use Rattle.requests.specs.declared.request.Request.{Request}
use Rattle.requests.specs.Numbered.{last_allowed}
use Rattle.requests.proofs.MatchLaws.{match-live}
use Rattle.requests.proofs.table.RequestTable.find.Goals as goal

pub returns : goal.returns
returns c =
    c.last_allowing.ensures ∙ ap (λ (l : List Request). last_allowed l c.args.turn c.args.word.0) c.live.ensures ∙
    match-live c.args.turn c.args.word.0 c.args.self.now.requests c.args.id.0
