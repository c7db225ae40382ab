-- Reading so many things, each after those before it.
use Rattle.std.specs.Prelude.{◌-◌, ℕ, zero, suc, ◌==◌, if◌then◌else◌, List, Ok}
use Rattle.brep_tokens.specs.declared.text.Token.{Token}
use Rattle.lists.specs.Results.{◌>>=◌}
use Rattle.entry_readers.specs.Reading.{Read}

-- `step` reads one more, and gives all that were read
module _ {S : Type 0} (step : S → List Token → Read S) where
  -- so many more, after these
  abbrev pub many_from : S → ℕ → List Token → Read S
  many_from s zero ts = Ok (s, ts)
  many_from s (suc n) ts = step s ts >>= λ x. many_from x.0 n x.1

  -- the same, where one of them is begun
  abbrev pub many_left : (List Token → Read S) → S → ℕ → List Token → Read S
  many_left left s due ts = if due == 0 then Ok (s, ts) else (left ts >>= λ x. many_from x.0 (due - 1) x.1)
