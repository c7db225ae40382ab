-- The digits of one-digit numbers.
use Rattle.std.proofs.Common.{◌≡◌, refl}
use Rattle.std.specs.Prelude.{[], ◌∷◌}
use Rattle.std.specs.Fmt.{decimal, digits}

pub digit_1 : decimal 1 ≡ 49 ∷ []
unfolding digits
digit_1 = refl

pub digit_2 : decimal 2 ≡ 50 ∷ []
unfolding digits
digit_2 = refl

pub digit_3 : decimal 3 ≡ 51 ∷ []
unfolding digits
digit_3 = refl

pub digit_4 : decimal 4 ≡ 52 ∷ []
unfolding digits
digit_4 = refl

pub digit_5 : decimal 5 ≡ 53 ∷ []
unfolding digits
digit_5 = refl

pub digit_6 : decimal 6 ≡ 54 ∷ []
unfolding digits
digit_6 = refl

pub digit_7 : decimal 7 ≡ 55 ∷ []
unfolding digits
digit_7 = refl
