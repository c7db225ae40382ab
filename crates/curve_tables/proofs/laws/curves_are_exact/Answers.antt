use Rattle.std.proofs.Common.{◌-◌, arith}
use Rattle.curve_tables.proofs.CurveLaws2 as two
use Rattle.curve_tables.proofs.CurveLaws3 as three
use Rattle.curve_tables.proofs.laws.curves_are_exact.Goals as goal

pub returns : goal.returns
returns c = record {
  curve2 = two.exact c.chains_are_exact.ensures 0 64 (omega arith);
  curve3 = λ nest le. three.exact c.chains_are_exact.ensures nest (64 - nest) (omega (arith, le));
  forms2 = λ x is. two.forms c.fields_are_decimals.ensures x 0 is;
  forms3 = λ nest x is. three.forms c.fields_are_decimals.ensures x nest is;
  spells2 = λ x is short. two.spells x 0 is short;
  spells3 = λ nest x is short. three.spells x nest is short;
}
