use Rattle.std.proofs.Common.{arith, ◌≡◌, None}
use Rattle.std.proofs.lemmas.Grind.{common_steps}
use Rattle.brep_tokens.specs.Forms.{power_of}
use Rattle.brep_tokens.proofs.FormLaws.{power_none}
use Rattle.brep_tokens.proofs.forms.power.Goals as goal

pub returns-in-empty-clause-none : goal.returns-in-empty-clause-none
returns-in-empty-clause-none c =
    let none : power_of c.args.text.now ≡ None = grind (arith, common_steps) in
    power_none c.args.text.now none

pub returns-in-None-clause-none : goal.returns-in-None-clause-none
returns-in-None-clause-none c =
    let none : power_of c.args.text.now ≡ None = grind (arith, common_steps) in
    power_none c.args.text.now none

pub returns-then-n-eq0-clause-none : goal.returns-then-n-eq0-clause-none
returns-then-n-eq0-clause-none c =
    let none : power_of c.args.text.now ≡ None = grind (arith, common_steps) in
    power_none c.args.text.now none
