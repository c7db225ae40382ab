-- How many entries were read.
use Rattle.std.proofs.Common.{◌≡◌, ℕ, zero, suc, ◌+◌, List, [], ◌∷◌, ◌++◌, length, Result, Ok, Err, IfOk, ap, arith}
use Rattle.std.proofs.lemmas.List.{length-append}
use Rattle.brep_tokens.specs.State.{Scan}
use Rattle.brep_tokens.specs.declared.fault.ReadStop.{ReadStop}
use Rattle.brep_tokens.specs.declared.text.Token.{Token}
use Rattle.entry_readers.specs.Entries.{entries_from}
use Rattle.entry_readers.specs.Reading.{Read}
use Rattle.lists.proofs.Results.{bind_ok, ok_is}
use Rattle.brep_file.specs.Giving.{Gives, front}

pub entries_longer : {A : Type 0} (read : List Token → Read A) (n : ℕ) (xs : List A) (ts rest : List Token)
    (ys : List A) → entries_from read xs n ts ≡ Ok (ys, rest) → length ys ≡ length xs + n
entries_longer {A = A} read zero xs ts rest ys e =
    let same : length xs ≡ length ys = ap (λ (q : List A × List Token). length q.0) (ok_is (xs, ts) (ys, rest) e) in
    omega (arith, same)
entries_longer read (suc n) xs ts rest ys e =
    let b = bind_ok (read ts) (λ x. entries_from read (xs ++ x.0 ∷ []) n x.1) (ys, rest) e in
    let others = entries_longer read n (xs ++ b.0.0 ∷ []) b.0.1 rest ys b.2 in
    omega (arith, others, length-append xs (b.0.0 ∷ []))

-- as many as were asked for
pub many_given : {X A : Type 0} (items : X → List A) (read : List Token → Read A) (n : ℕ) (old new : Scan)
    (r : Result X ReadStop)
    → Gives items (entries_from read [] n) old new r → IfOk r (λ x. length (items x) ≡ n)
many_given items read n old new (Ok x) h =
    let longer = entries_longer read n [] (front old) (front new) (items x) h.0 in
    omega (arith, longer)
many_given items read n old new (Err e) h = tt
