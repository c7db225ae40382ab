-- Small steps of reading.
use Rattle.std.proofs.Common.{◌≡◌, ◌&&◌, Bool, true, false, if◌then◌else◌, List, Option, Some, None, Result, Ok, Err}
use Rattle.std.proofs.Common.{refl, ap, subst}
use Rattle.entry_readers.specs.Reading.{Refusal, spelled}
use Rattle.lists.proofs.Results.{ok_is}
use Rattle.brep_tokens.specs.declared.text.Token.{Token}
use Rattle.brep_tokens.specs.declared.fault.ReadCode.{ReadCode}

pub some_is : {A : Type 0} {x y : A} → Some x ≡ Some y → x ≡ y
some_is e = cc

pub and_true : (a b : Bool) → (a && b) ≡ true → (a ≡ true) × (b ≡ true)
and_true true b e = (refl, e)
and_true false b e = absurd cc

pub branch_ok : {A : Type 0} (b : Bool) (r : Result A Refusal) (d : Refusal) (y : A) → (if b then r else Err d) ≡ Ok y
    → (b ≡ true) × (r ≡ Ok y)
branch_ok true r d y e = (refl, e)
branch_ok false r d y e = absurd cc

pub spelled_ok : {A : Type 0} (code : ReadCode) (t : Token) (ts rest : List Token) (o : Option A) (x : A)
    → spelled code t ts o ≡ Ok (x, rest) → (o ≡ Some x) × (ts ≡ rest)
spelled_ok code t ts rest (Some y) x e =
    let p = ok_is (y, ts) (x, rest) e in
    (ap (λ q. Some q.0) p, ap (λ q. q.1) p)
spelled_ok code t ts rest None x e = absurd cc

pub chosen : {A : Type 0} (b : Bool) (x : A) (o : Option A) (y : A) (P : A → Type 0)
    → (if b then Some x else o) ≡ Some y → (b ≡ true → P x) → (o ≡ Some y → P y) → P y
chosen true x o y P e first others = subst P (some_is e) (first refl)
chosen false x o y P e first others = others e

abbrev pub paired : {A : Type 0} → A → List Token → A × List Token
paired x ts = (x, ts)

-- the value and the rest that a pair has
pub both : {A : Type 0} (P : A → List Token → Type 0) (x y : A) (ts rest : List Token) → paired x ts ≡ paired y rest
    → P x ts → P y rest
both {A = A} P x y ts rest e p = subst (λ (q : A × List Token). P q.0 q.1) e p
