-- The section that is written: its datums and the further words, and the place of each word in it.
use Rattle.std.proofs.Common.{◌≡◌, ◌≤◌, ◌<◌, ◌+◌, ◌-◌, refl, sym, ◌∙◌, ap, subst, arith, inl, inr}
use Rattle.std.specs.Prelude.{ℕ, zero, suc, ℤ, pos, Bool, true, false, if◌then◌else◌, List, [], ◌∷◌, ◌++◌, length, map}
use Rattle.std.specs.Prelude.{slice_get, unwrap_or, Option, Some, None, Contains}
use Rattle.std.specs.List.{AllByRecursion}
use Rattle.std.specs.Cmp.{signed_Decides}
use Rattle.std.specs.Ordering.{int_eq}
use Rattle.std.proofs.lemmas.List.{length-append, length-map}
use Rattle.std.proofs.lemmas.Option.{unwrap_or-slice_get}
use Rattle.lists.proofs.Members.{Contains-none}
use Rattle.lists.proofs.Cases.{by_test}
use Rattle.entry_readers.specs.Begins.{AreDecimals}
use Rattle.location_words.specs.declared.pair.Pair.{Pair}
use Rattle.location_words.specs.Pairs.{pair}
use Rattle.location_table.specs.declared.entry.LocationEntry.{LocationEntry}
use Rattle.location_table.specs.declared.entry.LocationEntry.TheVariants.{Datum, Product}
use Rattle.location_table.specs.Laws.{WrittenIsHeld}
use Rattle.location_table.specs.Locations.{AreSoundAfter, AreSoundLocations}
use Rattle.location_table.specs.Words.{at_place, datum_word, datums_of, words_of, word_of_place}
use Rattle.location_table.specs.Written.{IsWordOver, datum_words, product_of, written_section}
use Rattle.written_locations.specs.Further.{fixed_number, place_in, number_of_word}
use Rattle.written_locations.specs.Laws.{NumbersArePlaces}
use Rattle.written_locations.proofs.Words.{Word, by_fixed, some-none}
use Rattle.written_locations.proofs.Numbers.{place-has, place-within, fixed-number, open-number}

-- ---- lists
get-after : {X : Type 0} (xs ys : List X) (i : ℕ) → slice_get (xs ++ ys) (length xs + i) ≡ slice_get ys i
get-after [] ys i = (let e : 0 + i ≡ i = omega arith in ap (slice_get ys) e)
get-after (x ∷ xs) ys i = (let e : length (x ∷ xs) + i ≡ suc (length xs + i) = omega arith in
    ap (slice_get (x ∷ (xs ++ ys))) e ∙ get-after xs ys i)

get-before : {X : Type 0} (xs ys : List X) (i : ℕ) (x : X) → slice_get xs i ≡ Some x → slice_get (xs ++ ys) i ≡ Some x
get-before [] ys i x e = absurd cc
get-before (z ∷ xs) ys zero x e = e
get-before (z ∷ xs) ys (suc i) x e = get-before xs ys i x e

-- ---- the words of datums
length-datum_words : (from n : ℕ) → length (datum_words from n) ≡ n
length-datum_words from zero = refl
length-datum_words from (suc n) = ap suc (length-datum_words (from + 1) n)

datum-at : (from n i : ℕ) → i < n → slice_get (datum_words from n) i ≡ Some (datum_word (suc (from + i)))
datum-at from zero i lt = absurd (omega (arith, lt))
datum-at from (suc n) zero lt = (let e : from + 1 ≡ suc (from + 0) = omega arith in ap (λ d. Some (datum_word d)) e)
datum-at from (suc n) (suc i) lt =
    let rest = datum-at (from + 1) n i (omega (arith, lt)) in
    let e : suc (from + 1 + i) ≡ suc (from + suc i) = omega arith in
    rest ∙ ap (λ d. Some (datum_word d)) e

-- ---- datums of a sound section
datums-after : (before entries : List LocationEntry) → AreSoundAfter before entries
    → AllByRecursion (AreDecimals 12) (datums_of entries)
datums-after before [] sound = tt
datums-after before (Datum texts ∷ entries) sound = (sound.0, datums-after (before ++ Datum texts ∷ []) entries sound.1)
datums-after before (Product factors ∷ entries) sound = datums-after (before ++ Product factors ∷ []) entries sound.1

pub datums-sound : (entries : List LocationEntry) → AreSoundLocations entries
    → AllByRecursion (AreDecimals 12) (datums_of entries)
datums-sound entries sound = datums-after [] entries sound

-- ---- the places of a written section
pub length-written : (datums : List (List (List ℕ))) (further : List Word)
    → length (written_section datums further) ≡ length datums + length further
length-written datums further =
    let both = length-append (map Datum datums) (map product_of further) in
    let a = length-map datums Datum in let b = length-map further product_of in
    omega (arith, both, a, b)

module _ (law : WrittenIsHeld) (datums : List (List (List ℕ))) (further : List Word)
    (over : AllByRecursion (IsWordOver (length datums)) further) where
  abbrev place_words : List Word
  place_words = [] ∷ (datum_words 0 (length datums) ++ further)

  at-place : (k : ℕ) (w : Word) → slice_get place_words k ≡ Some w
      → word_of_place (written_section datums further) k ≡ w
  at-place k w e =
      ap (λ l. at_place l k) (law.words datums further over)
      ∙ sym (unwrap_or-slice_get place_words k [])
      ∙ ap (λ o. unwrap_or o []) e

  datum-place : (d : ℕ) → 1 ≤ d → d ≤ length datums → slice_get place_words d ≡ Some (datum_word d)
  datum-place zero low high = absurd (omega (arith, low))
  datum-place (suc i) low high =
      let e : suc (0 + i) ≡ suc i = omega arith in
      get-before (datum_words 0 (length datums)) further i (datum_word (suc (0 + i)))
      (datum-at 0 (length datums) i (omega (arith, high)))
      ∙ ap (λ d. Some (datum_word d)) e

  further-place : (w : Word) (k : ℕ) → place_in further w ≡ k → Contains further w
      → slice_get place_words (length datums + k) ≡ Some w
  further-place w zero e m = (let low = (place-within further w m).0 in absurd (omega (arith, low, e)))
  further-place w (suc k) e m =
      let long = length-datum_words 0 (length datums) in
      let there : length datums + suc k ≡ suc (length (datum_words 0 (length datums)) + k) = omega (arith, long) in
      ap (slice_get place_words) there
      ∙ get-after (datum_words 0 (length datums)) further k
      ∙ ap (slice_get ([] ∷ further)) (sym e)
      ∙ place-has [] further w m

  open-place : (w : Word) → fixed_number w ≡ None → Contains further w
      → word_of_place (written_section datums further) (number_of_word (length datums) further w) ≡ w
  open-place w e m =
      ap (word_of_place (written_section datums further)) (open-number (length datums) further w e)
      ∙ at-place (length datums + place_in further w) w (further-place w (place_in further w) refl m)

  -- the place of a word has it
  pub place-of_word : (w : Word) → IsWordOver (length datums) w → (fixed_number w ≡ None → Contains further w) →
      word_of_place (written_section datums further) (number_of_word (length datums) further w) ≡ w
  place-of_word [] is has = at-place 0 [] refl
  place-of_word (p ∷ []) is has = by_test (int_eq p.power (pos 1))
      (λ e.
      (let fixed : fixed_number (p ∷ []) ≡ Some p.datum = ap (λ b. if b then Some p.datum else None) e in
      let one : p.power ≡ pos 1 = (signed_Decides p.power (pos 1)).0 e in
      let range = is.over.0 in
      ap (word_of_place (written_section datums further)) (fixed-number (length datums) further (p ∷ []) p.datum fixed)
      ∙ at-place p.datum (datum_word p.datum) (datum-place p.datum range.0 range.1)
      ∙ (λ i. record { datum = p.datum; power = sym one i } ∷ [])))
      (λ e.
      (let none : fixed_number (p ∷ []) ≡ None = ap (λ b. if b then Some p.datum else None) e in
      open-place (p ∷ []) none (has none)))
  place-of_word (p ∷ q ∷ w) is has = open-place (p ∷ q ∷ w) refl (has refl)

  -- and it is a place of the section
  pub place-within_section : (w : Word) → IsWordOver (length datums) w → (fixed_number w ≡ None → Contains further w) →
      number_of_word (length datums) further w ≤ length (written_section datums further)
  place-within_section w is has = by_fixed (fixed_number w)
      (λ k e. (let n = fixed-number (length datums) further w k e in let low = fixed-few w is k e in let long =
      length-written datums further in omega (arith, n, low, long)))
      (λ e. (let n = open-number (length datums) further w e in let high = (place-within further w (has e)).1 in
      let long = length-written datums further in omega (arith, n, high, long)))
    where
      fixed-few : (v : Word) → IsWordOver (length datums) v → (k : ℕ) → fixed_number v ≡ Some k → k ≤ length datums
      fixed-few [] over_it k e = (let z : 0 ≡ k = some-same e in omega (arith, z))
        where
          some-same : {a b : ℕ} → Some a ≡ Some b → a ≡ b
          some-same h = ap (λ o. unwrap_or o 0) h
      fixed-few (p ∷ []) over_it k e = by_test (int_eq p.power (pos 1))
          (λ t.
          (let fixed : fixed_number (p ∷ []) ≡ Some p.datum = ap (λ b. if b then Some p.datum else None) t in
          let same : p.datum ≡ k = ap (λ o. unwrap_or o 0) (sym fixed ∙ e) in
          let high = over_it.over.0.1 in omega (arith, same, high)))
          (λ t. (let none : fixed_number (p ∷ []) ≡ None = ap (λ b. if b then Some p.datum else None) t in
          absurd (some-none e none)))
      fixed-few (p ∷ q ∷ v) over_it k e = absurd (some-none e refl)

pub numbers_are_places : WrittenIsHeld → NumbersArePlaces
numbers_are_places law = record { size = length-written; within = place-within_section law; word = place-of_word law }
