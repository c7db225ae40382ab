-- What is met from nothing is what the root reaches.
use Rattle.std.proofs.Common.{subst}
use Rattle.std.specs.Prelude.{List, ℕ, [], ◌∷◌}
use Rattle.step_history.specs.Gathering.{Meets}
use Rattle.step_history.specs.Numbered.{AreBelow}
use Rattle.step_history.proofs.StepLaws.{nodes-held}
use Rattle.step_history.proofs.WalkLaws.{Contains-nothing, met-reached}
use Rattle.step_history.proofs.below.nodes_of.Goals as goal

pub meet-requires : goal.meet-requires
meet-requires c = record { id = c.requires; closed = λ i j m. absurd (Contains-nothing c.new-met.result i c.new-met.ensures m) }

pub returns : goal.returns
returns c =
    let below : AreBelow c.args.pool.now c.args.root.0 c.meet.new.met =
    met-reached c.args.pool.now c.args.root.0 c.meet.new.met
    (subst (λ (l : List ℕ). Meets c.args.pool.now (c.args.root.0 ∷ []) l c.meet.new.met) c.new-met.ensures c.in_ok-meet.ensures) in record {
      below = below;
      held = nodes-held c.args.pool.now c.laws.ensures c.args.root.0 c.requires c.meet.new.met below;
    }
