-- Sections that grow by an entry.
use Rattle.std.proofs.Common.{◌≡◌, ℕ, ◌+◌, ◌-◌, ◌<◌, ◌≤◌, List, [], ◌∷◌, ◌++◌, length, map, fold, drop, get_or}
use Rattle.std.proofs.Common.{slice_index_or, Option, Some, refl, ap, sym, subst, ◌∙◌, append-nil, arith, length-append}
use Rattle.std.specs.Prelude.{slice_get}
use Rattle.std.specs.Option.{option_map}
use Rattle.std.proofs.lemmas.Option.{slice_get_within, slice_get_read, slice_get-get_or, slice_get-map}
use Rattle.std.proofs.lemmas.Option.{get_or_from_slice_get}
use Rattle.std.proofs.lemmas.List.{get_or_append_left, length-map, drop_more}
use Rattle.std.proofs.lemmas.List.Sums.{fold-append}
use Rattle.location_words.specs.declared.pair.Pair.{Pair}
use Rattle.location_table.specs.declared.entry.Factor.{Factor}
use Rattle.location_table.specs.declared.entry.LocationEntry.{LocationEntry}
use Rattle.location_table.specs.declared.entry.LocationEntry.TheVariants.{Datum, Product}
use Rattle.location_table.specs.Words.{datum_word, datums_of, identity_alone, places_of, with_entry, with_factor}
use Rattle.location_table.specs.Words.{word_of_factors, words_of, Places}
use Rattle.location_table.specs.Held.{most_entries, IsSection}
use Rattle.location_table.specs.Limits.{IsWithin, AreWithin}

pub places_push : (entries : List LocationEntry) (e : LocationEntry)
    → places_of (entries ++ e ∷ []) ≡ with_entry (places_of entries) e
places_push entries e = fold-append with_entry identity_alone entries (e ∷ [])

-- ---- datums

pub datums_append : (xs ys : List LocationEntry) → datums_of (xs ++ ys) ≡ datums_of xs ++ datums_of ys
datums_append [] ys = refl
datums_append (Datum texts ∷ xs) ys = ap (λ z. texts ∷ z) (datums_append xs ys)
datums_append (Product factors ∷ xs) ys = datums_append xs ys

count_from : (p : Places) (entries : List LocationEntry)
    → (fold with_entry p entries).datums ≡ p.datums + length (datums_of entries)
count_from p [] = omega arith
count_from p (Datum texts ∷ entries) = count_from (with_entry p (Datum texts)) entries ∙ omega arith
count_from p (Product factors ∷ entries) = count_from (with_entry p (Product factors)) entries

pub datum_count : (entries : List LocationEntry) → (places_of entries).datums ≡ length (datums_of entries)
datum_count entries = count_from identity_alone entries ∙ omega arith

abbrev read_datum : List (List ℕ) → Option LocationEntry
read_datum texts = Some (Datum texts)

pub kept_get : {A : Type 0} (xs ys : List A) (i : ℕ) (x : A) → slice_get xs i ≡ Some x → slice_get (xs ++ ys) i ≡ Some x
kept_get xs ys i x e =
    let lt : i < length xs = slice_get_within xs i x e in
    let all : i < length (xs ++ ys) = omega (arith, lt, length-append xs ys) in
    slice_get-get_or (xs ++ ys) i x all ∙ ap Some (get_or_append_left xs ys x i lt ∙ get_or_from_slice_get xs i x x e)

kept_reads : (entries more : List LocationEntry) (places : List ℕ) (ds : List (List (List ℕ)))
    → map (slice_get entries) places ≡ map read_datum ds → map (slice_get (entries ++ more)) places ≡ map read_datum ds
kept_reads entries more [] [] e = refl
kept_reads entries more [] (d ∷ ds) e = absurd cc
kept_reads entries more (p ∷ places) [] e = absurd cc
kept_reads entries more (p ∷ places) (d ∷ ds) e =
    let first : slice_get entries p ≡ Some (Datum d) = cc in
    let others : map (slice_get entries) places ≡ map read_datum ds = cc in
    rw (kept_get entries more p (Datum d) first, kept_reads entries more places ds others) refl

pub map_append : {A B : Type 0} (f : A → B) (xs ys : List A) → map f (xs ++ ys) ≡ map f xs ++ map f ys
map_append f [] ys = refl
map_append f (x ∷ xs) ys = ap (λ z. f x ∷ z) (map_append f xs ys)

last_get : {A : Type 0} (xs : List A) (x : A) → slice_get (xs ++ x ∷ []) (length xs) ≡ Some x
last_get [] x = refl
last_get (y ∷ xs) x = last_get xs x

-- ---- a section with one more entry
module _ (identity : List Pair) (entries : List LocationEntry) (words : List (List Pair)) (places : List ℕ)
    (is : IsSection identity entries words places) (room : length entries < most_entries) where
  grown : {A : Type 0} (x : A) → (xs : List A) → length (xs ++ x ∷ []) ≡ length xs + 1
  grown x xs = length-append xs (x ∷ [])

  pub with_product : (factors : List Factor) (w : List Pair) → w ≡ word_of_factors (words_of entries) factors
      → IsSection identity (entries ++ Product factors ∷ []) (words ++ w ∷ []) places
  with_product factors w e = record {
    none = is.none;
    few = omega (arith, room, grown (Product factors) entries);
    words_are = ap (λ z. z ++ w ∷ []) is.words_are ∙ ap (λ z. words_of entries ++ z ∷ []) e
        ∙ sym (ap (λ (p : Places). p.words) (places_push entries (Product factors)));
    each = omega (arith, is.each, grown w words, grown (Product factors) entries);
    some = omega (arith, is.some, grown (Product factors) entries);
    datums = kept_reads entries (Product factors ∷ []) places (datums_of entries) is.datums
        ∙ sym (ap (map read_datum) (datums_append entries (Product factors ∷ []) ∙ append-nil (datums_of entries)));
  }

  pub places_many : length places ≡ length (datums_of entries)
  places_many = sym (length-map places (slice_get entries)) ∙ ap length is.datums
      ∙ length-map (datums_of entries) read_datum

  pub with_datum : (texts : List (List ℕ)) (w : List Pair) (number place : ℕ) → number ≡ length (datums_of entries) + 1
      → place ≡ length entries → w ≡ datum_word number
      → IsSection identity (entries ++ Datum texts ∷ []) (words ++ w ∷ []) (places ++ place ∷ [])
  with_datum texts w number place n at e =
      let number_is : number ≡ (places_of entries).datums + 1 = omega (arith, n, datum_count entries) in
      let here : slice_get (entries ++ Datum texts ∷ []) place ≡ Some (Datum texts) =
      subst (λ i. slice_get (entries ++ Datum texts ∷ []) i ≡ Some (Datum texts)) (sym at)
      (last_get entries (Datum texts)) in
      record {
        none = is.none;
        few = omega (arith, room, grown (Datum texts) entries);
        words_are = ap (λ z. z ++ w ∷ []) is.words_are ∙ ap (λ z. words_of entries ++ z ∷ [])
            (e ∙ ap datum_word number_is) ∙ sym (ap (λ (p : Places). p.words) (places_push entries (Datum texts)));
        each = omega (arith, is.each, grown w words, grown (Datum texts) entries);
        some = omega (arith, is.some, grown place places, grown (Datum texts) entries);
        datums = map_append (slice_get (entries ++ Datum texts ∷ [])) places (place ∷ [])
            ∙ ap (λ z. z ++ slice_get (entries ++ Datum texts ∷ []) place ∷ [])
            (kept_reads entries (Datum texts ∷ []) places (datums_of entries) is.datums)
            ∙ ap (λ z. map read_datum (datums_of entries) ++ z ∷ []) here
            ∙ sym (map_append read_datum (datums_of entries) (texts ∷ []))
            ∙ sym (ap (map read_datum) (datums_append entries (Datum texts ∷ [])));
      }

-- ---- the datum of a number
pub datum_place : (identity : List Pair) (entries : List LocationEntry) (words : List (List Pair)) (places : List ℕ)
    → IsSection identity entries words places → (d p : ℕ) → 1 ≤ d → d ≤ length (datums_of entries)
    → p ≡ slice_index_or places (d - 1) p
    → (texts : List (List ℕ)) × (slice_get (datums_of entries) (d - 1) ≡ Some texts)
    × (slice_get entries p ≡ Some (Datum texts))
datum_place identity entries words places is d p from to e =
    let many : length places ≡ length (datums_of entries) = sym (length-map places (slice_get entries))
    ∙ ap length is.datums ∙ length-map (datums_of entries) read_datum in
    let lt : d - 1 < length (datums_of entries) = omega (arith, from, to) in
    let texts : List (List ℕ) = get_or (datums_of entries) (d - 1) [] in
    let found : slice_get (datums_of entries) (d - 1) ≡ Some texts =
    slice_get-get_or (datums_of entries) (d - 1) [] lt in
    let at : slice_get places (d - 1) ≡ Some p = slice_get_read places (length places) (d - 1) p refl
    (omega (arith, lt, many)) e in
    let both : option_map (slice_get entries) (slice_get places (d - 1)) ≡ option_map read_datum
    (slice_get (datums_of entries) (d - 1)) =
    sym (slice_get-map (slice_get entries) places (d - 1)) ∙ ap (λ z. slice_get z (d - 1)) is.datums
    ∙ slice_get-map read_datum (datums_of entries) (d - 1) in
    let both' : option_map (slice_get entries) (Some p) ≡ option_map read_datum (Some texts) =
    sym (ap (option_map (slice_get entries)) at) ∙ both ∙ ap (option_map read_datum) found in
    (texts, found, cc)

pub datum_there : (entries : List LocationEntry) (p : ℕ) (x : LocationEntry) (texts : List (List ℕ))
    → x ≡ slice_index_or entries p x → slice_get entries p ≡ Some (Datum texts) → x ≡ Datum texts
datum_there entries p x texts e at = e ∙ get_or_from_slice_get entries p (Datum texts) x at

pub no_product : (x : LocationEntry) (texts : List (List ℕ)) (factors : List Factor) → x ≡ Datum texts
    → x ≡ Product factors → ⊥
no_product x texts factors e f = cc

pub one_datum : (x : LocationEntry) (a b : List (List ℕ)) → x ≡ Datum a → x ≡ Datum b → a ≡ b
one_datum x a b e f = cc

-- ---- factors within the limits, from one on
pub factor_first : (count : ℕ) (words : List (List Pair)) (w : List Pair) (items : List Factor) (i : ℕ) (d : Factor)
    → i < length items → AreWithin count words w (drop i items)
    → IsWithin count words w (slice_index_or items i d)
    × AreWithin count words (with_factor words w (slice_index_or items i d)) (drop (i + 1) items)
factor_first count words w items i d lt within = subst (λ z. AreWithin count words w z) (drop_more items i d lt) within

pub factor_next : (words : List (List Pair)) (w : List Pair) (items : List Factor) (i : ℕ) (d : Factor)
    → i < length items
    → fold (with_factor words) w (drop i items) ≡ fold (with_factor words)
    (with_factor words w (slice_index_or items i d)) (drop (i + 1) items)
factor_next words w items i d lt = ap (fold (with_factor words) w) (drop_more items i d lt)

pub within_push : (count : ℕ) (words : List (List Pair)) (w : List Pair) (factors : List Factor) (f : Factor)
    → AreWithin count words w factors → IsWithin count words (fold (with_factor words) w factors) f
    → AreWithin count words w (factors ++ f ∷ [])
within_push count words w [] f are is = (is, tt)
within_push count words w (g ∷ factors) f are is =
    (are.0, within_push count words (with_factor words w g) factors f are.1 is)

pub word_push : (words : List (List Pair)) (factors : List Factor) (f : Factor)
    → word_of_factors words (factors ++ f ∷ []) ≡ with_factor words (word_of_factors words factors) f
word_push words factors f = fold-append (with_factor words) [] factors (f ∷ [])
