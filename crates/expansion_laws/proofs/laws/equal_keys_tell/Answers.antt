-- Both ways, by the keys.
use Rattle.std.proofs.Common.{◌≡◌, subst}
use Rattle.std.specs.Prelude.{true}
use Rattle.expansion_laws.specs.SlowMeasures.{key_eq}
use Rattle.expansion_laws.proofs.MeasureKeys.{key_eq-same, key_eq-itself}
use Rattle.expansion_laws.proofs.laws.equal_keys_tell.Goals as goal

pub returns : goal.returns
returns c = λ k l. (key_eq-same k l, λ e. subst (λ z. key_eq k z ≡ true) e (key_eq-itself k))
