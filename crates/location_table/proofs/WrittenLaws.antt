-- Words that are written as products of datums.
use Rattle.std.proofs.Common.{◌≡◌, ℕ, zero, suc, ℤ, pos, ◌+◌, ◌<◌, ◌≤◌, ◌^◌, inl, Bool, true, false, if◌then◌else◌}
use Rattle.std.proofs.Common.{List, [], ◌∷◌, ◌++◌, length, map, reverse, fold, slice_index_or, None, refl, ap, sym}
use Rattle.std.proofs.Common.{subst, ◌∙◌, append_assoc, append-nil, arith, length-append}
use Rattle.std.specs.Prelude.{nat_abs}
use Rattle.std.specs.List.{AllByRecursion}
use Rattle.std.proofs.Math.IntN.{one, *ℤ-one, *ℤ_comm}
use Rattle.std.proofs.Math.Seq.{get_or-append_seam}
use Rattle.std.proofs.lemmas.List.{get_or_append_left, length-map}
use Rattle.std.proofs.lemmas.List.Elements.{All-nil, All-cons}
use Rattle.entry_readers.specs.Begins.{AreDecimals}
use Rattle.location_words.specs.declared.pair.Pair.{Pair}
use Rattle.location_words.specs.Pairs.{is_zero, most_power, mul, norm, pair, power, AllSmall, IsHeldWord}
use Rattle.location_words.specs.Faults.{fault_of, fault_of_power}
use Rattle.location_words.specs.Laws.{LimitsTell, PairsMakeWords, WordsAreAGroup}
use Rattle.location_table.specs.declared.entry.Factor.{Factor}
use Rattle.location_table.specs.declared.entry.LocationEntry.{LocationEntry}
use Rattle.location_table.specs.declared.entry.LocationEntry.TheVariants.{Datum}
use Rattle.location_table.specs.Words.{at_place, datum_word, datums_of, identity_alone, with_entry, with_factor}
use Rattle.location_table.specs.Words.{word_of_place, words_of, Places}
use Rattle.location_table.specs.Limits.{AreWithin}
use Rattle.location_table.specs.Locations.{factor, AreSoundAfter, HasForm, IsSoundLocation}
use Rattle.location_table.specs.Written.{datum_words, product_of, IsOver, IsWordOver}
use Rattle.location_table.specs.Laws.{WrittenIsHeld}
use Rattle.location_table.proofs.Places.{datums_append, places_push}
use Rattle.location_table.proofs.PlaceLaws.{kept, length_is}

module _ (group : WordsAreAGroup) (pairs : PairsMakeWords) (limits : LimitsTell) where
  -- ---- parts of words
  prefix_small : (xs ys : List Pair) → AllSmall (xs ++ ys) → AllSmall xs
  prefix_small xs ys all k d lt = subst (λ (p : Pair). nat_abs p.power ≤ most_power) (get_or_append_left xs ys d k lt)
      (all k d (omega (arith, lt, length-append xs ys)))

  pub prefix_held : (xs ys : List Pair) → IsHeldWord (xs ++ ys) → IsHeldWord xs
  prefix_held xs ys is = record {
    is_word = pairs.beginning_is_word xs ys is.is_word;
    few = omega (arith, is.few, length-append xs ys);
    small = prefix_small xs ys is.small;
  }

  seam_small : (xs : List Pair) (y : Pair) (ys : List Pair) → AllSmall (xs ++ y ∷ ys) → nat_abs y.power ≤ most_power
  seam_small xs y ys all =
      let lt : length xs < length (xs ++ y ∷ ys) = omega (arith, length-append xs (y ∷ ys)) in
      subst (λ (p : Pair). nat_abs p.power ≤ most_power) (get_or-append_seam xs y ys y) (all (length xs) y lt)

  -- ---- a power of a datum
  datum_power : (d : ℕ) (p : ℤ) → power (datum_word d) p ≡ norm (pair d p ∷ [])
  unfolding one
  datum_power d p = pairs.power_of_pair (pair d (pos 1)) p ∙ ap (λ z. norm (pair d z ∷ []))
      (*ℤ_comm (pos 1) p ∙ *ℤ-one p)

  one_none : (q : Pair) → nat_abs q.power ≤ most_power → (b : Bool)
      → fault_of (reverse (if b then [] else q ∷ [])) ≡ None
  one_none q small true = refl
  one_none q small false = (limits (q ∷ [])).1 (
    omega arith,
    All-cons (λ p. nat_abs p.power ≤ most_power) q [] small
        (All-nil (λ p. nat_abs p.power ≤ most_power)),
  )

  datum_none : (d : ℕ) (p : ℤ) → nat_abs p ≤ most_power → fault_of_power (datum_word d) p ≡ None
  datum_none d p small = ap fault_of (datum_power d p) ∙ one_none (pair d p) small (is_zero p)

  abbrev as_factor : Pair → Factor
  as_factor p = factor p.datum p.power

  forms_are : (n : ℕ) → n < 10 ^ 18 → (xs ys : List Pair) → IsHeldWord (xs ++ ys) → IsOver n ys
      → AllByRecursion HasForm (map as_factor ys)
  forms_are n small xs [] held over = tt
  forms_are n small xs (y ∷ ys) held over =
      let size : nat_abs y.power ≤ most_power = seam_small xs y ys held.small in (
        (omega (arith, over.0.1, small), omega (arith, size)),
        forms_are n small (xs ++ y ∷ []) ys
            (subst IsHeldWord (sym (append_assoc xs (y ∷ []) ys)) held) over.1,
      )

  -- ---- where each of the first places is a datum
  module _ (n count : ℕ) (words : List (List Pair)) (are_datums : (d : ℕ) → 1 ≤ d → d ≤ n
      → at_place words d ≡ datum_word d) (within : n ≤ count) where
    factor_onto : (xs : List Pair) (y : Pair) → norm (xs ++ y ∷ []) ≡ xs ++ y ∷ [] → 1 ≤ y.datum → y.datum ≤ n
        → with_factor words xs (as_factor y) ≡ xs ++ y ∷ []
    factor_onto xs y is from to =
        ap (λ v. mul (power v y.power) xs) (are_datums y.datum from to)
        ∙ ap (λ v. mul v xs) (datum_power y.datum y.power)
        ∙ sym (group.associative (y ∷ []) [] xs)
        ∙ ap (mul (y ∷ [])) (group.identity_outer xs (pairs.beginning_is_word xs (y ∷ []) is))
        ∙ is

    record Written (xs ys : List Pair) : Type 0 where
      within_are : AreWithin count words xs (map as_factor ys)
      made : fold (with_factor words) xs (map as_factor ys) ≡ xs ++ ys

    written_from : (xs ys : List Pair) → IsHeldWord (xs ++ ys) → IsOver n ys → Written xs ys
    written_from xs [] held over = record { within_are = tt; made = sym (append-nil xs) }
    written_from xs (y ∷ ys) held over =
        let whole : IsHeldWord ((xs ++ y ∷ []) ++ ys) = subst IsHeldWord (sym (append_assoc xs (y ∷ []) ys)) held in
        let next = prefix_held (xs ++ y ∷ []) ys whole in
        let onto : with_factor words xs (as_factor y) ≡ xs ++ y ∷ [] =
        factor_onto xs y next.is_word over.0.0 over.0.1 in
        let is_datum = are_datums y.datum over.0.0 over.0.1 in
        let size : nat_abs y.power ≤ most_power = seam_small xs y ys held.small in
        let more = written_from (xs ++ y ∷ []) ys whole over.1 in
        record {
          within_are = (
            record {
              from = over.0.0;
              earlier = omega (arith, over.0.1, within);
              factors = inl (subst (λ (v : List Pair). length v ≤ 1) (sym is_datum) (omega arith));
              power = ap (λ v. fault_of_power v y.power) is_datum ∙ datum_none y.datum y.power size;
              word = ap fault_of onto ∙ (limits (xs ++ y ∷ [])).1 (next.few, next.small);
            },
            subst (λ w. AreWithin count words w (map as_factor ys)) (sym onto) more.within_are,
          );
          made = ap (λ w. fold (with_factor words) w (map as_factor ys)) onto ∙ more.made ∙ append_assoc xs (y ∷ []) ys;
        }

  -- ---- the first places of a written section
  datums_from : (p : Places) (ds : List (List (List ℕ)))
      → (fold with_entry p (map Datum ds)).words ≡ p.words ++ datum_words p.datums (length ds)
  datums_from p [] = sym (append-nil p.words)
  datums_from p (d ∷ ds) = datums_from (with_entry p (Datum d)) ds
      ∙ append_assoc p.words (datum_word (p.datums + 1) ∷ []) (datum_words (p.datums + 1) (length ds))

  words_of_datums : (ds : List (List (List ℕ))) → words_of (map Datum ds) ≡ [] ∷ datum_words 0 (length ds)
  words_of_datums ds = datums_from identity_alone ds

  datum_here : (k n : ℕ) (more : List (List Pair)) (j : ℕ) → j < n
      → slice_index_or (datum_words k n ++ more) j [] ≡ datum_word (k + 1 + j)
  datum_here k zero more j lt = absurd (omega (arith, lt))
  datum_here k (suc n) more zero lt = ap datum_word (omega arith)
  datum_here k (suc n) more (suc j) lt = datum_here (k + 1) n more j (omega (arith, lt)) ∙ ap datum_word (omega arith)

  first_place : (n : ℕ) (more : List (List Pair)) (d : ℕ) → 1 ≤ d → d ≤ n
      → at_place ([] ∷ (datum_words 0 n ++ more)) d ≡ datum_word d
  first_place n more zero from to = absurd (omega (arith, from))
  first_place n more (suc j) from to = datum_here 0 n more j (omega (arith, to)) ∙ ap datum_word (omega arith)

  module _ (ds : List (List (List ℕ))) (others : List LocationEntry) where
    pub places_are : (d : ℕ) → 1 ≤ d → d ≤ length ds → at_place (words_of (map Datum ds ++ others)) d ≡ datum_word d
    places_are d from to =
        let m = kept (map Datum ds) others in
        ap (λ ws. at_place ws d) (m.1 ∙ ap (λ ws. ws ++ m.0) (words_of_datums ds))
        ∙ first_place (length ds) m.0 d from to

    many : length ds ≤ length (map Datum ds ++ others)
    many = omega (arith, length-append (map Datum ds) others, length-map ds Datum)

    entry_written : (w : List Pair) → IsWordOver (length ds) w
        → Written (length ds) (length (map Datum ds ++ others)) (words_of (map Datum ds ++ others)) places_are many [] w
    entry_written w is = written_from (length ds) (length (map Datum ds ++ others)) (words_of (map Datum ds ++ others))
        places_are many [] w is.held is.over

    sound_entry : (w : List Pair) → length ds < 10 ^ 18 → IsWordOver (length ds) w
        → IsSoundLocation (map Datum ds ++ others) (product_of w)
    sound_entry w small is = ((entry_written w is).within_are, forms_are (length ds) small [] w is.held is.over)

    push_word : (w : List Pair) → IsWordOver (length ds) w
        → words_of ((map Datum ds ++ others) ++ product_of w ∷ []) ≡ words_of (map Datum ds ++ others) ++ w ∷ []
    push_word w is = ap (λ (p : Places). p.words) (places_push (map Datum ds ++ others) (product_of w))
        ∙ ap (λ v. words_of (map Datum ds ++ others) ++ v ∷ []) (entry_written w is).made

    last_word : (w : List Pair) → IsWordOver (length ds) w
        → word_of_place ((map Datum ds ++ others) ++ product_of w ∷ []) (length ds + length others + 1) ≡ w
    last_word w is =
        let here : length ds + length others + 1 ≡ length (words_of (map Datum ds ++ others)) =
        omega (
          arith,
          length_is (map Datum ds ++ others),
          length-append (map Datum ds) others,
          length-map ds Datum,
        ) in
        ap (λ ws. at_place ws (length ds + length others + 1)) (push_word w is)
        ∙ ap (λ i. at_place (words_of (map Datum ds ++ others) ++ w ∷ []) i) here
        ∙ get_or-append_seam (words_of (map Datum ds ++ others)) w [] []

  -- ---- the whole section
  module _ (ds : List (List (List ℕ))) where
    sound_datums : (before : List LocationEntry) (new : List (List (List ℕ))) (rest : List LocationEntry)
        → AllByRecursion (AreDecimals 12) new → AreSoundAfter (before ++ map Datum new) rest
        → AreSoundAfter before (map Datum new ++ rest)
    sound_datums before [] rest are sound = subst (λ b. AreSoundAfter b rest) (append-nil before) sound
    sound_datums before (d ∷ new) rest are sound = (
      are.0,
      sound_datums (before ++ Datum d ∷ []) new rest are.1
          (subst (λ b. AreSoundAfter b rest) (sym (append_assoc before (Datum d ∷ []) (map Datum new))) sound),
    )

    sound_products : (others : List LocationEntry) (words : List (List Pair)) → length ds < 10 ^ 18
        → AllByRecursion (IsWordOver (length ds)) words → AreSoundAfter (map Datum ds ++ others) (map product_of words)
    sound_products others [] small are = tt
    sound_products others (w ∷ words) small are = (
      sound_entry ds others w small are.0,
      subst (λ b. AreSoundAfter b (map product_of words))
          (sym (append_assoc (map Datum ds) others (product_of w ∷ [])))
          (sound_products (others ++ product_of w ∷ []) words small are.1),
    )

    products_words : (others : List LocationEntry) (words : List (List Pair))
        → AllByRecursion (IsWordOver (length ds)) words
        → words_of ((map Datum ds ++ others) ++ map product_of words) ≡ words_of (map Datum ds ++ others) ++ words
    products_words others [] are = ap words_of (append-nil (map Datum ds ++ others))
        ∙ sym (append-nil (words_of (map Datum ds ++ others)))
    products_words others (w ∷ words) are =
        let step : (map Datum ds ++ (others ++ product_of w ∷ [])) ++ map product_of words ≡ (map Datum ds ++ others)
        ++ map product_of (w ∷ words) =
        ap (λ b. b ++ map product_of words) (sym (append_assoc (map Datum ds) others (product_of w ∷ [])))
        ∙ append_assoc (map Datum ds ++ others) (product_of w ∷ []) (map product_of words) in
        sym (ap words_of step)
        ∙ products_words (others ++ product_of w ∷ []) words are.1
        ∙ ap (λ b. words_of b ++ words) (sym (append_assoc (map Datum ds) others (product_of w ∷ [])))
        ∙ ap (λ ws. ws ++ words) (push_word ds others w are.0)
        ∙ append_assoc (words_of (map Datum ds ++ others)) (w ∷ []) words

  only_datums : (ds : List (List (List ℕ))) → datums_of (map Datum ds) ≡ ds
  only_datums [] = refl
  only_datums (d ∷ ds) = ap (λ z. d ∷ z) (only_datums ds)

  no_datums : (words : List (List Pair)) → datums_of (map product_of words) ≡ []
  no_datums [] = refl
  no_datums (w ∷ words) = no_datums words

  pub written_is_held : WrittenIsHeld
  written_is_held = record {
    sound_entry = sound_entry;
    word = last_word;
    sound_section = λ ds words small datums are. (let e = append-nil (map Datum ds) in
        sound_datums ds [] ds (map product_of words) datums (subst (λ b. AreSoundAfter b (map product_of words)) e
        (sound_products ds [] words small are)));
    words = λ ds words are. (let e = append-nil (map Datum ds) in
        ap (λ b. words_of (b ++ map product_of words)) (sym e) ∙ products_words ds [] words are
        ∙ ap (λ b. words_of b ++ words) e ∙ ap (λ ws. ws ++ words) (words_of_datums ds));
    datums_are = λ ds words. datums_append (map Datum ds) (map product_of words)
        ∙ ap (λ z. datums_of (map Datum ds) ++ z) (no_datums words) ∙ append-nil (datums_of (map Datum ds))
        ∙ only_datums ds;
  }
