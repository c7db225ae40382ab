-- A number is one of those met already, or goes last.
use Rattle.std.proofs.Common.{subst}
use Rattle.std.specs.Prelude.{ℕ, List}
use Rattle.step_history.specs.Gathering.{IsNoted}
use Rattle.step_history.proofs.MetLaws.{noted}
use Rattle.step_history.proofs.met.Met.note.Goals as goal

pub returns : goal.returns
returns c =
    subst (λ (l : List ℕ). IsNoted l c.args.id c.insert.new.self.keys) c.self.view_is
    (noted c.self.inside.ids.keys c.insert.new.self.keys c.args.id c.in_ok-insert.ensures.keys)
