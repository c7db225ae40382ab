-- The output has version 1 in the next state.
use Rattle.std.proofs.Common.{subst}
use Rattle.script_text.specs.declared.command.Command.TheVariants.{OutputFirst}
use Rattle.session.specs.Commands.{GoesOn}
use Rattle.session.specs.Views.{View}
use Rattle.session.proofs.EndLaws.{a-session, session-on}
use Rattle.session.proofs.SetLaws.{first-version-on}
use Rattle.session.proofs.session.Session.write_first.Goals as goal

pub invariant_of-self : goal.invariant_of-self
invariant_of-self c =
    let i = c.self.inside in
    let v : View =
    a-session i.file i.words i.pool i.first i.start i.versions.items i.asked.items i.rule i.output i.carried in
    session-on v (record v { output = 1 }) OutputFirst c.self.invariant (first-version-on v)

pub returns-clause-done : goal.returns-clause-done
returns-clause-done c =
    let i = c.self.inside in
    let v : View =
    a-session i.file i.words i.pool i.first i.start i.versions.items i.asked.items i.rule i.output i.carried in
    subst (λ z. GoesOn z (record v { output = 1 }) OutputFirst) c.self.view_is (first-version-on v)
