-- Records whose uses name records above them, told record by record in file order.
use Rattle.std.proofs.Common.{◌≡◌, ◌<◌, ◌≤◌, ◌+◌, ◌-◌, ℕ, zero, suc, sym, ◌∙◌, ap, subst, arith, length}
use Rattle.std.specs.Prelude.{List, [], ◌∷◌, map, reverse, All, slice_index_or}
use Rattle.std.proofs.lemmas.List.{length-reverse, length-map, get_or-map, get_or-reverse}
use Rattle.std.proofs.lemmas.List.Elements.{All-map}
use Rattle.expansion_laws.specs.Expansion.{NumberedUse, NamesAbove}
use Rattle.expansion_laws.specs.PlainFile.{rows, numbered_use}
use Rattle.expansion_laws.specs.declared.records.PlainUse.{PlainUse}
use Rattle.expansion_laws.specs.declared.records.PlainRecord.{PlainRecord}

-- a use that names a record above the one with the number `own`, of so many
abbrev pub IsAbove : ℕ → ℕ → NumberedUse → Type 0
IsAbove most own u = (own < u.number) × (u.number ≤ most)

-- the same of a use of a plain record
abbrev pub IsAboveOwn : ℕ → ℕ → PlainUse → Type 0
IsAboveOwn most own u = (own < u.number) × (u.number ≤ most)

names-from : (most first : ℕ) (records : List (List NumberedUse)) → most + 1 ≡ first + length records →
    ((i : ℕ) → i < length records → All (IsAbove most (first + i)) (slice_index_or records i []))
    → NamesAbove first records
names-from most first [] size h = tt
names-from most first (us ∷ rest) size h = (
  (λ k d lt. (let is = h zero (omega arith) k d lt in let low = is.0 in let high = is.1 in
      (omega (arith, low), omega (arith, high, size)))),
  names-from most (suc first) rest (omega (arith, size))
      (λ i lt. (let there : first + suc i ≡ suc first + i = omega arith in
      subst (λ n. All (IsAbove most n) (slice_index_or rest i [])) there (h (suc i) (omega (arith, lt))))),
)

abbrev row_of : PlainRecord → List NumberedUse
row_of r = map numbered_use r.uses

abbrev none : PlainRecord
none = record { uses = [] }

module _ (records : List PlainRecord)
    (told : (j : ℕ) (d : PlainRecord) → j < length records →
    All (IsAboveOwn (length records) (length records - j)) (slice_index_or records j d).uses)
  where
    from-end : (i : ℕ) → i < length records
        → slice_index_or (reverse (rows records)) i [] ≡ row_of (slice_index_or records (length records - 1 - i) none)
    from-end i lt =
        let long = length-map records row_of in
        get_or-reverse (rows records) i [] (omega (arith, lt, long))
        ∙ ap (λ n. slice_index_or (rows records) (n - 1 - i) []) long
        ∙ get_or-map row_of records (length records - 1 - i) none [] (omega (arith, lt))

    named : (i : ℕ) → i < length records
        → All (IsAbove (length records) (1 + i)) (slice_index_or (reverse (rows records)) i [])
    named i lt =
        let j : ℕ = length records - 1 - i in
        let own : length records - j ≡ 1 + i = omega (arith, lt) in
        let here : All (IsAbove (length records) (length records - j)) (row_of (slice_index_or records j none)) =
        All-map (IsAbove (length records) (length records - j)) numbered_use (slice_index_or records j none).uses
        (told j none (omega (arith, lt))) in
        subst (λ us. All (IsAbove (length records) (1 + i)) us) (sym (from-end i lt))
        (subst (λ k. All (IsAbove (length records) k) (row_of (slice_index_or records j none))) own here)

    pub names-told : NamesAbove 1 (reverse (rows records))
    names-told =
        let long : length (reverse (rows records)) ≡ length records =
        length-reverse (rows records) ∙ length-map records row_of in
        names-from (length records) 1 (reverse (rows records)) (omega (arith, long))
        (λ i lt. named i (omega (arith, lt, long)))
