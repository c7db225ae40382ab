-- Steps of reading so many things.
use Rattle.std.proofs.Common.{◌≡◌, ℕ, zero, suc, ◌-◌, ◌<◌, ◌==◌, false, List, [], Ok, Err, refl, arith}
use Rattle.std.proofs.lemmas.Bool.Decides.{nat_tests}
use Rattle.lists.specs.Results.{◌>>=◌}
use Rattle.entry_readers.specs.Reading.{Read, more}
use Rattle.brep_tokens.specs.declared.text.Token.{Token}
use Rattle.brep_file.specs.Many.{many_from, many_left}

not_done : (n : ℕ) → 0 < n → (n == 0) ≡ false
not_done n lt = grind (arith, nat_tests)

module _ {S : Type 0} (step : S → List Token → Read S) where
  one_of : (s : S) (n : ℕ) (ts : List Token) → 0 < n
      → many_from step s n ts ≡ (step s ts >>= λ x. many_from step x.0 (n - 1) x.1)
  one_of s zero ts lt = absurd (omega (arith, lt))
  one_of s (suc n) ts lt =
      let e : suc n - 1 ≡ n = omega arith in
      rw e refl

  pub moved : (left : List Token → Read S) (s : S) (n : ℕ) → 0 < n → (x : S) (ts rest : List Token)
      → left ts ≡ Ok (x, rest) → many_left step left s n ts ≡ many_from step x (n - 1) rest
  moved left s n lt x ts rest e = rw (not_done n lt, e) refl

  pub fresh : (left : List Token → Read S) (s : S) (n : ℕ) → 0 < n → ((ts : List Token) → left ts ≡ step s ts)
      → (ts : List Token) → many_left step left s n ts ≡ many_from step s n ts
  fresh left s n lt new ts = rw (not_done n lt, new ts, one_of s n ts lt) refl

  pub fresh_open : (left : List Token → Read S) (s : S) (n : ℕ) → 0 < n → left [] ≡ Err more
      → many_left step left s n [] ≡ Err more
  fresh_open left s n lt e = rw (not_done n lt, e) refl
