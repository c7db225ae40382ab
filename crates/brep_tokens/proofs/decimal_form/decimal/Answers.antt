use Rattle.std.proofs.Common.{◌≡◌, arith}
use Rattle.std.proofs.lemmas.Grind.{common_steps}
use Rattle.brep_tokens.specs.Forms.{is_decimal}
use Rattle.brep_tokens.proofs.DecimalGrammar.{decimal_tells}
use Rattle.brep_tokens.proofs.decimal_form.decimal.Goals as goal

pub returns-in-45-clause-spelled : goal.returns-in-45-clause-spelled
unfolding is_decimal
returns-in-45-clause-spelled c =
    let exact : c.unsigned.result ≡ is_decimal c.args.text.now = grind (arith, common_steps) in
    decimal_tells c.args.text.now c.unsigned.result exact

pub returns-in-len1-up-clause-spelled : goal.returns-in-len1-up-clause-spelled
unfolding is_decimal
returns-in-len1-up-clause-spelled c =
    let exact : c.unsigned-in-len1-up.result ≡ is_decimal c.args.text.now = grind (arith, common_steps) in
    decimal_tells c.args.text.now c.unsigned-in-len1-up.result exact
