-- The test of equal ends is exact.
use Rattle.std.proofs.Common.{refl}
use Rattle.lists.proofs.Sameness.{permuted, same-of-permuted}
use Rattle.orientation.specs.declared.turn.Turn.TheVariants.{Forward}
use Rattle.expansion_laws.specs.Equality.{use_eq}
use Rattle.expansion_laws.specs.Ends.{ends_under, EqualEndsTell, EndsComeOut}
use Rattle.expansion_laws.proofs.TreeEquality.{use_eq-same, use_eq-itself}

pub equal-ends-tell : EqualEndsTell
equal-ends-tell first sign second = (
  permuted use_eq use_eq-same use_eq-itself (ends_under Forward first) (ends_under sign second),
  same-of-permuted use_eq use_eq-same use_eq-itself (ends_under Forward first) (ends_under sign second),
)

pub ends_come_out : EndsComeOut
ends_come_out = record {
  itself = refl;
  in_any_order = refl;
  the_other_way = refl;
  turned = refl;
  sign_of_the_second = refl;
  with_repeats = refl;
  of_one_number = refl;
  at_one_place = refl;
}
