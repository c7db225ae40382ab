use Rattle.std.proofs.Common.{arith}
use Rattle.std.proofs.lemmas.Str.Parse.{digits_value-take-le, digit_at}
use Rattle.brep_tokens.proofs.NumberForms.{worth_below, worth_more, numeral_facts}
use Rattle.brep_tokens.proofs.forms.worth.Goals as goal

pub overflow_mul-value : goal.overflow_mul-value
overflow_mul-value c = omega (
  arith,
  c.loop-b.invariant,
  digits_value-take-le 10 c.args.text.now c.loop-b.b-index
      (omega arith),
  worth_below c.args.text.now c.requires,
)

pub overflow_add-value : goal.overflow_add-value
overflow_add-value c = omega (
  arith,
  c.loop-b.invariant,
  digits_value-take-le 10 c.args.text.now c.loop-b.b-index
      (omega arith),
  worth_below c.args.text.now c.requires,
  c.type_inv.text c.loop-b.b-index,
)

pub overflow_sub-value : goal.overflow_sub-value
overflow_sub-value c = omega (
  arith,
  digit_at c.args.text.now c.loop-b.b-index (numeral_facts c.args.text.now c.requires).digits
      c.loop-b-test.true,
)

pub loop-b-preserved : goal.loop-b-preserved
loop-b-preserved c = worth_more c.args.text.now c.loop-b.b-index c.loop-b.value c.requires c.loop-b-test.true
    c.loop-b.invariant
