-- A section whose next entry is whole, or not begun.
use Rattle.std.proofs.Common.{◌≡◌, ℕ, zero, suc, ◌-◌, ◌<◌, ◌==◌, false, List, [], ◌∷◌, ◌++◌, Ok, Err, refl, arith}
use Rattle.std.proofs.lemmas.Bool.Decides.{nat_tests}
use Rattle.lists.specs.Results.{◌>>=◌}
use Rattle.entry_readers.specs.Reading.{Read, more}
use Rattle.brep_tokens.specs.declared.text.Token.{Token}
use Rattle.entry_readers.specs.Entries.{entries_from, entries_left}

not_done : (n : ℕ) → 0 < n → (n == 0) ≡ false
not_done n lt = grind (arith, nat_tests)

module _ {A : Type 0} (read : List Token → Read A) where
  step : (xs : List A) (n : ℕ) (ts : List Token) → 0 < n
      → entries_from read xs n ts ≡ (read ts >>= λ x. entries_from read (xs ++ x.0 ∷ []) (n - 1) x.1)
  step xs zero ts lt = absurd (omega (arith, lt))
  step xs (suc n) ts lt =
      let e : suc n - 1 ≡ n = omega arith in
      rw e refl

  pub moved : (left : List Token → Read A) (xs : List A) (n : ℕ) → 0 < n → (x : A) (ts rest : List Token)
      → left ts ≡ Ok (x, rest) → entries_left read left xs n ts ≡ entries_from read (xs ++ x ∷ []) (n - 1) rest
  moved left xs n lt x ts rest e = rw (not_done n lt, e) refl

  pub fresh : (left : List Token → Read A) (xs : List A) (n : ℕ) → 0 < n → ((ts : List Token) → left ts ≡ read ts)
      → (ts : List Token) → entries_left read left xs n ts ≡ entries_from read xs n ts
  fresh left xs n lt new ts = rw (not_done n lt, new ts, step xs n ts lt) refl

  pub fresh_open : (left : List Token → Read A) (xs : List A) (n : ℕ) → 0 < n → left [] ≡ Err more
      → entries_left read left xs n [] ≡ Err more
  fresh_open left xs n lt e = rw (not_done n lt, e) refl
