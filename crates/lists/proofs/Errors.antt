-- What is said of an error that goes on.
use Rattle.std.proofs.Common.{◌≡◌, sym, subst, Result, Ok, Err}
use Rattle.std.specs.Prelude.{IfErr}
use Rattle.std.specs.Result.{IsErrAnd}

pub IfErr-on : {A E : Type 0} (r : Result A E) (e : E) (P : E → Type 0) → IsErrAnd r (λ z. z ≡ e) → P e → IfErr r P
IfErr-on (Ok u) e P wrong h = absurd wrong
IfErr-on (Err z) e P is h = subst P (sym is) h
