-- The words of the places of a section.
use Rattle.std.proofs.Common.{◌≡◌, ℕ, zero, suc, ℤ, pos, negsuc, ◌+◌, ◌≤◌, ◌==◌, ◌+ℤ◌, Bool, true, false, if◌then◌else◌}
use Rattle.std.proofs.Common.{List, [], ◌∷◌, ◌++◌, length, map, reverse, fold, refl, ap, sym, subst, ◌∙◌, append_assoc}
use Rattle.std.proofs.Common.{append-nil, arith, length-append}
use Rattle.std.specs.Prelude.{nat_abs}
use Rattle.std.specs.List.{AllByRecursion}
use Rattle.std.proofs.lemmas.Grind.{reverse_onto}
use Rattle.std.proofs.lemmas.List.Elements.{All-nil, All-cons}
use Rattle.std.proofs.lemmas.List.Sums.{fold-append}
use Rattle.location_words.specs.declared.pair.Pair.{Pair}
use Rattle.location_words.specs.Pairs.{factor as factor_of, inverse, is_zero, most_power, mul, norm, opposite, pair}
use Rattle.location_words.specs.Pairs.{power, taken_onto, times}
use Rattle.location_words.specs.Laws.{LimitsTell, WordsAreAGroup}
use Rattle.location_table.specs.declared.entry.Factor.{Factor}
use Rattle.location_table.specs.declared.entry.LocationEntry.{LocationEntry}
use Rattle.location_table.specs.declared.entry.LocationEntry.TheVariants.{Datum, Product}
use Rattle.location_table.specs.Words.{at_place, datum_word, datums_of, identity_alone, places_of, with_entry}
use Rattle.location_table.specs.Words.{with_factor, word_of_factors, words_of, Places}
use Rattle.location_table.specs.Limits.{AreWithin}
use Rattle.location_table.specs.Locations.{AreSoundAfter, IsSoundLocation}
use Rattle.location_table.specs.Written.{IsOver, IsWordOver}
use Rattle.location_table.specs.Laws.{PlacesHaveWords}
use Rattle.location_table.proofs.Places.{datum_count, datums_append, places_push}

-- ---- how many words
length_from : (p : Places) (entries : List LocationEntry)
    → length (fold with_entry p entries).words ≡ length p.words + length entries
length_from p [] = omega arith
length_from p (Datum texts ∷ entries) = length_from (with_entry p (Datum texts)) entries
    ∙ omega (arith, length-append p.words (datum_word (p.datums + 1) ∷ []))
length_from p (Product factors ∷ entries) = length_from (with_entry p (Product factors)) entries
    ∙ omega (arith, length-append p.words (word_of_factors p.words factors ∷ []))

pub length_is : (entries : List LocationEntry) → length (words_of entries) ≡ length entries + 1
length_is entries = length_from identity_alone entries ∙ omega arith

kept_from : (p : Places) (entries : List LocationEntry) → (more : List (List Pair))
    × ((fold with_entry p entries).words ≡ p.words ++ more)
kept_from p [] = ([], sym (append-nil p.words))
kept_from p (Datum texts ∷ entries) =
    let m = kept_from (with_entry p (Datum texts)) entries in
    (datum_word (p.datums + 1) ∷ m.0, m.1 ∙ append_assoc p.words (datum_word (p.datums + 1) ∷ []) m.0)
kept_from p (Product factors ∷ entries) =
    let m = kept_from (with_entry p (Product factors)) entries in
    (word_of_factors p.words factors ∷ m.0, m.1 ∙ append_assoc p.words (word_of_factors p.words factors ∷ []) m.0)

pub kept : (before entries : List LocationEntry) → (more : List (List Pair))
    × (words_of (before ++ entries) ≡ words_of before ++ more)
kept before entries =
    let m = kept_from (places_of before) entries in
    (m.0, ap (λ (p : Places). p.words) (fold-append with_entry identity_alone before entries) ∙ m.1)

-- ---- the datums of products
pub all_append : {A : Type 0} (P : A → Type 0) (xs ys : List A) → AllByRecursion P xs → AllByRecursion P ys
    → AllByRecursion P (xs ++ ys)
all_append P [] ys a b = b
all_append P (x ∷ xs) ys a b = (a.0, all_append P xs ys a.1 b)

module _ (n : ℕ) where
  abbrev InRange : Pair → Type 0
  InRange p = (1 ≤ p.datum) × (p.datum ≤ n)

  over_reverse : (xs : List Pair) → IsOver n xs → IsOver n (reverse xs)
  over_reverse [] a = tt
  over_reverse (x ∷ xs) a =
      subst (IsOver n) (sym (reverse_onto xs x []))
      (all_append InRange (reverse xs) (x ∷ []) (over_reverse xs a.1) (a.0, tt))

  over_if : (b : Bool) (xs ys : List Pair) → IsOver n xs → IsOver n ys → IsOver n (if b then xs else ys)
  over_if true xs ys a b = a
  over_if false xs ys a b = b

  over_taken : (acc : List Pair) (p : Pair) → IsOver n acc → InRange p → IsOver n (taken_onto acc p)
  over_taken [] p a r = over_if (is_zero p.power) [] (p ∷ []) tt (r, tt)
  over_taken (last ∷ earlier) p a r =
      over_if (is_zero p.power) (last ∷ earlier) (if last.datum == p.datum
      then (if is_zero (last.power +ℤ p.power) then earlier else pair last.datum (last.power +ℤ p.power) ∷ earlier)
      else p ∷ last ∷ earlier) a
      (over_if (last.datum == p.datum) (if is_zero (last.power +ℤ p.power) then earlier
      else pair last.datum (last.power +ℤ p.power) ∷ earlier) (p ∷ last ∷ earlier)
      (over_if (is_zero (last.power +ℤ p.power)) earlier (pair last.datum (last.power +ℤ p.power) ∷ earlier)
      a.1 (a.0, a.1))
      (r, a))

  over_fold : (acc l : List Pair) → IsOver n acc → IsOver n l → IsOver n (fold taken_onto acc l)
  over_fold acc [] a b = a
  over_fold acc (p ∷ l) a b = over_fold (taken_onto acc p) l (over_taken acc p a b.0) b.1

  pub over_norm : (l : List Pair) → IsOver n l → IsOver n (norm l)
  over_norm l a = over_reverse (fold taken_onto [] l) (over_fold [] l tt a)

  pub over_mul : (outer inner : List Pair) → IsOver n outer → IsOver n inner → IsOver n (mul outer inner)
  over_mul outer inner a b = over_norm (inner ++ outer) (all_append InRange inner outer b a)

  over_opposite : (w : List Pair) → IsOver n w → IsOver n (map opposite w)
  over_opposite [] a = tt
  over_opposite (p ∷ w) a = (a.0, over_opposite w a.1)

  pub over_inverse : (w : List Pair) → IsOver n w → IsOver n (inverse w)
  over_inverse w a = over_opposite (reverse w) (over_reverse w a)

  over_times : (w : List Pair) (k : ℕ) → IsOver n w → IsOver n (times w k)
  over_times w zero a = tt
  over_times w (suc k) a = over_mul (times w k) w (over_times w k a) a

  over_factor : (w : List Pair) (p : ℤ) → IsOver n w → IsOver n (factor_of w p)
  over_factor w (pos k) a = a
  over_factor w (negsuc k) a = over_inverse w a

  pub over_power : (w : List Pair) (p : ℤ) → IsOver n w → IsOver n (power w p)
  over_power w p a = over_times (factor_of w p) (nat_abs p) (over_factor w p a)

  -- ---- words of sound entries
  identity_over : IsWordOver n []
  identity_over = record {
    held = record {
      is_word = refl;
      few = omega arith;
      small =
          All-nil (λ p. nat_abs p.power ≤ most_power);
    };
    over = tt;
  }

  word_over : (words : List (List Pair)) (k : ℕ) → AllByRecursion (IsWordOver n) words → IsWordOver n (at_place words k)
  word_over [] k a = identity_over
  word_over (w ∷ words) zero a = a.0
  word_over (w ∷ words) (suc k) a = word_over words k a.1

module _ (group : WordsAreAGroup) (limits : LimitsTell) where
  factors_over : (n count : ℕ) (words : List (List Pair)) → AllByRecursion (IsWordOver n) words
      → (w : List Pair) (factors : List Factor) → IsWordOver n w → AreWithin count words w factors
      → IsWordOver n (fold (with_factor words) w factors)
  factors_over n count words all w [] is are = is
  factors_over n count words all w (f ∷ factors) is are =
      let held = (limits (with_factor words w f)).0 are.0.word in
      let v : List Pair = power (at_place words f.place) f.power in
      let next : IsWordOver n (with_factor words w f) = record {
        held = record { is_word = group.product_is_word v w; few = held.0; small = held.1 };
        over = over_mul n v w (over_power n (at_place words f.place) f.power (word_over n words f.place all).over)
            is.over;
      } in
      factors_over n count words all (with_factor words w f) factors next are.1

  over_more : (m n : ℕ) → m ≤ n → (l : List Pair) → IsOver m l → IsOver n l
  over_more m n le [] a = tt
  over_more m n le (p ∷ l) a = ((a.0.0, omega (arith, a.0.1, le)), over_more m n le l a.1)

  words_more : (m n : ℕ) → m ≤ n → (words : List (List Pair)) → AllByRecursion (IsWordOver m) words
      → AllByRecursion (IsWordOver n) words
  words_more m n le [] a = tt
  words_more m n le (w ∷ words) a =
      (record { held = a.0.held; over = over_more m n le w a.0.over }, words_more m n le words a.1)

  abbrev AreHeld : List LocationEntry → Type 0
  AreHeld entries = AllByRecursion (IsWordOver (length (datums_of entries))) (words_of entries)

  one_held : (before : List LocationEntry) (e : LocationEntry) → AreHeld before → IsSoundLocation before e
      → AreHeld (before ++ e ∷ [])
  one_held before (Datum texts) held sound =
      let n : ℕ = length (datums_of before) in
      let many : length (datums_of (before ++ Datum texts ∷ [])) ≡ n + 1 =
      ap length (datums_append before (Datum texts ∷ [])) ∙ length-append (datums_of before) (texts ∷ []) in
      let words : words_of (before ++ Datum texts ∷ []) ≡ words_of before ++ datum_word (n + 1) ∷ [] =
      ap (λ (p : Places). p.words) (places_push before (Datum texts))
      ∙ ap (λ k. words_of before ++ datum_word (k + 1) ∷ []) (datum_count before) in
      let new : IsWordOver (n + 1) (datum_word (n + 1)) = record {
        held = record {
          is_word = refl;
          few = omega arith;
          small =
              All-cons (λ p. nat_abs p.power ≤ most_power) (pair (n + 1) (pos 1)) [] (omega arith)
              (All-nil (λ p. nat_abs p.power ≤ most_power));
        };
        over = ((omega arith, omega arith), tt);
      } in
      rw (many, words) (all_append (IsWordOver (n + 1)) (words_of before) (datum_word (n + 1) ∷ [])
      (words_more n (n + 1) (omega arith) (words_of before) held) (new, tt))
  one_held before (Product factors) held sound =
      let n : ℕ = length (datums_of before) in
      let same : length (datums_of (before ++ Product factors ∷ [])) ≡ n =
      ap length (datums_append before (Product factors ∷ []) ∙ append-nil (datums_of before)) in
      let words : words_of (before ++ Product factors ∷ []) ≡ words_of before ++ word_of_factors
      (words_of before) factors ∷ [] = ap (λ (p : Places). p.words) (places_push before (Product factors)) in
      let new = factors_over n (length before) (words_of before) held [] factors (identity_over n) sound.0 in
      rw (same, words) (all_append (IsWordOver n) (words_of before) (word_of_factors (words_of before) factors ∷ [])
      held (new, tt))

  held_after : (before entries : List LocationEntry) → AreHeld before → AreSoundAfter before entries
      → AreHeld (before ++ entries)
  held_after before [] held sound = subst AreHeld (sym (append-nil before)) held
  held_after before (e ∷ entries) held sound =
      subst AreHeld (append_assoc before (e ∷ []) entries)
      (held_after (before ++ e ∷ []) entries (one_held before e held sound.0) sound.1)

  pub places_have_words : PlacesHaveWords
  places_have_words = record {
    length_is = length_is;
    kept = kept;
    held = λ entries sound. held_after [] entries (identity_over 0, tt) sound;
    reduced = over_norm;
    product = over_mul;
    inverted = over_inverse;
    powered = over_power;
  }
