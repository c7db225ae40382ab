-- The rule of a step leaves the requests as they are.
use Rattle.std.proofs.Common.{sym, subst, List}
use Rattle.requests.specs.declared.request.Request.{Request}
use Rattle.requests.specs.Numbered.{AreHeldIn}
use Rattle.pool_rows.proofs.checks.carry_out.Goals as goal

pub returns-in-until : goal.returns-in-until
returns-in-until c = subst (λ (l : List Request). AreHeldIn c.args.scene.now.pool l) (sym c.until.ensures) c.requires

pub returns-in-prune : goal.returns-in-prune
returns-in-prune c = subst (λ (l : List Request). AreHeldIn c.args.scene.now.pool l) (sym c.prune.ensures) c.requires
