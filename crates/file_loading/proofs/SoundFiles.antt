-- A sound file's records name records above them.
use Rattle.std.proofs.Common.{◌≡◌, ◌<◌, ◌≤◌, ◌+◌, ◌-◌, ◌∙◌, suc, refl, sym, ap, subst, arith}
use Rattle.std.specs.Prelude.{ℕ, Some, List, [], ◌∷◌, map, length, reverse, All, slice_get}
use Rattle.std.specs.Option.{option_map}
use Rattle.std.proofs.lemmas.List.{length-map, length-reverse}
use Rattle.std.proofs.lemmas.List.Elements.{All-map, All-weaker}
use Rattle.std.proofs.lemmas.Option.{same_Some, slice_get-map, slice_get_within}
use Rattle.lists.proofs.Places.{at_place, slice_get-reverse}
use Rattle.expansion_laws.specs.Expansion.{NumberedUse, NamesAbove, IsFile, IsNumberOf}
use Rattle.brep_file.specs.PlainRecords.{plain_records, plain_root, plain_use}
use Rattle.brep_file.specs.Sound.{IsSound, IsUse}
use Rattle.brep_file.specs.declared.file.File.{File}
use Rattle.brep_file.specs.declared.records.Record.{Record}

-- each use of the record with the number `own` names a record above it, of n
abbrev NamesAboveIts : ℕ → ℕ → List NumberedUse → Type 0
NamesAboveIts n own us = All (λ (u : NumberedUse). (own < u.number) × (u.number ≤ n)) us

names-from : (most first : ℕ) (records : List (List NumberedUse)) → most + 1 ≡ first + length records →
    ((i : ℕ) (us : List NumberedUse) → slice_get records i ≡ Some us → NamesAboveIts most (first + i) us)
    → NamesAbove first records
names-from most first [] size h = tt
names-from most first (us ∷ rest) size h = (
  (λ k d lt. (let low = (h 0 us refl k d lt).0 in let high = (h 0 us refl k d lt).1 in
      (omega (arith, low), omega (arith, high, size)))),
  names-from most (suc first) rest (omega (arith, size))
      (λ i vs e. (let there : first + suc i ≡ suc first + i = omega arith in
      subst (λ n. NamesAboveIts most n vs) there (h (suc i) vs e))),
)

module _ (records : List (List NumberedUse)) where
  from-end : (k : ℕ) → IsNumberOf (length records) k
      → slice_get (reverse records) (k - 1) ≡ slice_get records (length records - k)
  from-end k n =
      let low = n.0 in let high = n.1 in
      let same : length records - suc (k - 1) ≡ length records - k = omega (arith, low) in
      slice_get-reverse records (k - 1) (omega (arith, low, high)) ∙ ap (slice_get records) same

  names-by_number :
      ((k : ℕ) (us : List NumberedUse) → IsNumberOf (length records) k
      → slice_get records (length records - k) ≡ Some us → NamesAboveIts (length records) k us) →
      NamesAbove 1 (reverse records)
  names-by_number h =
      let long = length-reverse records in
      names-from (length records) 1 (reverse records) (omega (arith, long)) (λ i us e.
      let within = slice_get_within (reverse records) i us e in
      let n : IsNumberOf (length records) (1 + i) = (omega arith, omega (arith, within, long)) in
      let back : (1 + i) - 1 ≡ i = omega arith in
      h (1 + i) us n (sym (from-end (1 + i) n) ∙ ap (slice_get (reverse records)) back ∙ e))

module _ (f : File) (sound : IsSound f) where
  abbrev plain : Record → List NumberedUse
  plain r = map (plain_use f.locations) r.uses

  names-its : (k : ℕ) (us : List NumberedUse) → IsNumberOf (length (plain_records f)) k
      → slice_get (plain_records f) (length (plain_records f) - k) ≡ Some us
      → NamesAboveIts (length (plain_records f)) k us
  names-its k us n e =
      let count : length (plain_records f) ≡ length f.records = length-map f.records plain in
      let number : IsNumberOf (length f.records) k = subst (λ j. IsNumberOf j k) count n in
      let low = number.0 in let high = number.1 in
      let at = at_place f.records (length f.records - k) (omega (arith, low, high)) in
      let there : slice_get (plain_records f) (length (plain_records f) - k) ≡ Some (plain at.0) =
      ap (λ m. slice_get (plain_records f) (m - k)) count ∙ slice_get-map plain f.records (length f.records - k)
      ∙ ap (option_map plain) at.1 in
      let here : NamesAboveIts (length f.records) k (plain at.0) =
      All-map (λ (v : NumberedUse). (k < v.number) × (v.number ≤ length f.records)) (plain_use f.locations) at.0.uses
      (All-weaker (IsUse f k at.0.head.kind) (λ u. (k < u.number) × (u.number ≤ length f.records))
      (λ u is. (is.above, is.named)) at.0.uses (sound.records k at.0 number at.1).uses) in
      subst (λ j. NamesAboveIts j k us) (sym count)
      (subst (NamesAboveIts (length f.records) k) (same_Some (plain at.0) us (sym there ∙ e)) here)

  pub sound-file : IsFile (plain_records f) (plain_root f)
  sound-file = record {
    names_above = names-by_number (plain_records f) names-its;
    names_root =
        subst (λ j. IsNumberOf j f.root.number)
        (sym (length-map f.records (λ (r : Record). map (plain_use f.locations) r.uses))) sound.root;
  }
