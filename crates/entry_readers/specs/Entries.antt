-- Reading so many entries.
use Rattle.std.specs.Prelude.{◌-◌, ℕ, zero, suc, ◌==◌, if◌then◌else◌, List, [], ◌∷◌, ◌++◌, Ok}
use Rattle.brep_tokens.specs.declared.text.Token.{Token}
use Rattle.lists.specs.Results.{◌>>=◌}
use Rattle.entry_readers.specs.Reading.{Read}

module _ {A : Type 0} (read : List Token → Read A) where
  -- so many entries, after these
  abbrev pub entries_from : List A → ℕ → List Token → Read (List A)
  entries_from xs zero ts = Ok (xs, ts)
  entries_from xs (suc n) ts = read ts >>= λ x. entries_from (xs ++ x.0 ∷ []) n x.1

  -- the same, where one is begun
  abbrev pub entries_left : (List Token → Read A) → List A → ℕ → List Token → Read (List A)
  entries_left left xs due ts = if due == 0 then Ok (xs, ts)
      else (left ts >>= λ x. entries_from (xs ++ x.0 ∷ []) (due - 1) x.1)
