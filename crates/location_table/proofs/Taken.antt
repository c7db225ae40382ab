-- One more factor is taken.
use Rattle.std.proofs.Common.{◌≡◌, ℤ, ◌≤◌, List, [], ◌∷◌, ◌++◌, length, None, Ok, refl, sym, subst, ◌∙◌}
use Rattle.std.specs.Prelude.{◌⊎◌, nat_abs}
use Rattle.brep_tokens.specs.declared.text.Token.{Token}
use Rattle.location_words.specs.declared.pair.Pair.{Pair}
use Rattle.location_words.specs.Pairs.{mul, power}
use Rattle.location_words.specs.Faults.{fault_of, fault_of_power}
use Rattle.location_table.specs.declared.entry.Factor.{Factor}
use Rattle.location_table.specs.declared.entry.LocationEntry.{LocationEntry}
use Rattle.location_table.specs.Words.{word_of_factors, word_of_place, words_of}
use Rattle.location_table.specs.Limits.{most_factors, passed, AreWithin}
use Rattle.location_table.specs.Locations.{factors_from, power_from, signed_at}
use Rattle.location_table.proofs.Places.{within_push, word_push}

-- the factor is read, and its word and limits follow
pub record IsTaken (before : List LocationEntry) (factors : List Factor) (f : Factor) (w : List Pair) : Type 0 where
  pub read : (t : Token) (rest : List Token) → signed_at (t ∷ rest) ≡ Ok (f.power, rest)
      → power_from (length before) (words_of before) factors f.place (t ∷ rest) ≡ factors_from (length before)
      (words_of before) (factors ++ f ∷ []) rest
  pub word : w ≡ word_of_factors (words_of before) (factors ++ f ∷ [])
  pub within : AreWithin (length before) (words_of before) [] (factors ++ f ∷ [])

pub record Fits (so_far v : List Pair) (p : ℤ) (w : List Pair) : Type 0 where
  pub passes : passed so_far v p ≡ None
  pub factors : (length v ≤ 1) ⊎ (nat_abs p ≤ most_factors)
  pub power_is : fault_of_power v p ≡ None
  pub product : fault_of (mul (power v p) so_far) ≡ None
  pub made : w ≡ mul (power v p) so_far

is_taken : (before : List LocationEntry) (factors : List Factor) (f : Factor) (w : List Pair)
    → AreWithin (length before) (words_of before) [] factors → 1 ≤ f.place → f.place ≤ length before
    → Fits (word_of_factors (words_of before) factors) (word_of_place before f.place) f.power w
    → IsTaken before factors f w
is_taken before factors f w are from to fits = record {
  read = λ t rest s. rw (s, fits.passes) refl;
  word = fits.made ∙ sym (word_push (words_of before) factors f);
  within = within_push (length before) (words_of before) [] factors f are
      (record { from = from; earlier = to; factors = fits.factors; power = fits.power_is; word = fits.product });
}

pub taken : (before : List LocationEntry) (factors : List Factor) (f : Factor) (w so_far v : List Pair) (q : ℤ)
    → AreWithin (length before) (words_of before) [] factors → 1 ≤ f.place → f.place ≤ length before
    → so_far ≡ word_of_factors (words_of before) factors → v ≡ word_of_place before f.place → q ≡ f.power
    → Fits so_far v q w → IsTaken before factors f w
taken before factors f w so_far v q are from to a b c fits =
    is_taken before factors f w are from to
    (subst (λ p. Fits (word_of_factors (words_of before) factors) (word_of_place before f.place) p w) c
    (subst (λ u. Fits (word_of_factors (words_of before) factors) u q w) b (subst (λ s. Fits s v q w) a fits)))
