-- Adding a word: it is entered, and its number is noted.
use Rattle.std.proofs.Common.{◌≡◌, ◌≤◌, ◌<◌, ◌+◌, ◌^◌, refl, sym, ◌∙◌, ap, subst, arith, inl, inr, get_or-set_same}
use Rattle.std.proofs.Common.{get_or-set_other, set}
use Rattle.std.specs.Prelude.{ℕ, zero, suc, ◌⊎◌, ◌||◌, Bool, true, false, if◌then◌else◌, List, [], ◌∷◌, ◌++◌, fold}
use Rattle.std.specs.Prelude.{map, drop, length, nat_eq, slice_get, slice_index, unwrap_or, Option, Some, None}
use Rattle.std.specs.Prelude.{Contains}
use Rattle.std.specs.List.{list_any}
use Rattle.std.specs.Vec.{with_item}
use Rattle.std.proofs.lemmas.Bool.{eqb-true, eqb-false}
use Rattle.std.proofs.lemmas.List.{length-append, length-set, map-append}
use Rattle.std.proofs.lemmas.List.Elements.{Contains-get_or, Contains-append_cases}
use Rattle.std.proofs.lemmas.List.Sums.{fold-append}
use Rattle.lists.proofs.Members.{Contains-cases, Contains-none}
use Rattle.lists.proofs.Cases.{by_test}
use Rattle.location_words.specs.declared.pair.Pair.{Pair}
use Rattle.location_words.specs.Pairs.{pairs_eq}
use Rattle.location_words.specs.Tables.{entered, TellsApart}
use Rattle.location_table.specs.declared.entry.LocationEntry.{LocationEntry}
use Rattle.location_table.specs.declared.entry.LocationEntry.TheVariants.{Datum, Product}
use Rattle.location_table.specs.Words.{Places, with_entry, identity_alone, words_of, datums_of, word_of_place}
use Rattle.location_table.specs.Words.{word_of_factors, datum_word}
use Rattle.written_locations.specs.declared.written.WrittenLocations.{WrittenLocations}
use Rattle.written_locations.specs.Further.{fixed_number, with_word, place_in, number_of_word}
use Rattle.written_locations.specs.Added.{further_of, number_at, word_at, word_of_id, Adds, AddsAll, AddsWords, Enters}
use Rattle.written_locations.specs.Added.{HasNumber, HoldsWord, IsAdded, IsNumbering, IsWordAdded}
use Rattle.written_locations.proofs.Words.{Word, open-enters, with-kept, with-has, with-known}
use Rattle.written_locations.proofs.Numbers.{place-has, place-within, number-kept, open-number}

-- ---- the words of places
length-places : (p : Places) (entries : List LocationEntry)
    → length (fold with_entry p entries).words ≡ length p.words + length entries
length-places p [] = omega arith
length-places p (Datum texts ∷ entries) =
    let rest = length-places (with_entry p (Datum texts)) entries in
    let one = length-append p.words (datum_word (p.datums + 1) ∷ []) in
    omega (arith, rest, one)
length-places p (Product factors ∷ entries) =
    let rest = length-places (with_entry p (Product factors)) entries in
    let one = length-append p.words (word_of_factors p.words factors ∷ []) in
    omega (arith, rest, one)

pub length-words : (entries : List LocationEntry) → length (words_of entries) ≡ suc (length entries)
length-words entries = (let all = length-places identity_alone entries in omega (arith, all))

pub word-member : (entries : List LocationEntry) (place : ℕ) → place ≤ length entries
    → Contains (words_of entries) (word_of_place entries place)
word-member entries place le =
    (let long = length-words entries in Contains-get_or (words_of entries) place [] (omega (arith, le, long)))

pub datums-few : (entries : List LocationEntry) → length (datums_of entries) ≤ length entries
datums-few [] = omega arith
datums-few (Datum texts ∷ entries) = (let rest = datums-few entries in omega (arith, rest))
datums-few (Product factors ∷ entries) = (let rest = datums-few entries in omega (arith, rest))

-- ---- the table of words, which begins with the identity
no-identity : (w : Word) → fixed_number w ≡ None → pairs_eq w [] ≡ false
no-identity [] e = absurd cc
no-identity (p ∷ ps) e = refl

pub entered-table : (further : List Word) (w : Word) → fixed_number w ≡ None
    → entered ([] ∷ further) w ≡ [] ∷ entered further w
entered-table further w e =
    ap (λ b. if b || list_any (pairs_eq w) further then [] ∷ further else [] ∷ (further ++ w ∷ [])) (no-identity w e)
    ∙ by_test (list_any (pairs_eq w) further) (λ t. rw t refl) (λ t. rw t refl)

-- ---- a word without a number of its own is entered
module _ (s : WrittenLocations) (n : IsNumbering s) (w : Word) (unfixed : fixed_number w ≡ None) (words : List Word)
    (is : words ≡ entered s.words w) where
  abbrev t : WrittenLocations
  t = record {
    section = s.section;
    table = s.table;
    of_places = s.of_places;
    of_words = s.of_words;
    words = words;
  }

  table-is : words ≡ [] ∷ entered (further_of s) w
  table-is = is ∙ ap (λ l. entered l w) n.words ∙ entered-table (further_of s) w unfixed

  further-is : further_of t ≡ with_word (further_of s) w
  further-is = ap (drop 1) table-is ∙ sym (open-enters (further_of s) w unfixed)

  number-keeps : (noted : List ℕ) (k : ℕ) (v : Word) → HasNumber s noted k v → HasNumber t noted k v
  number-keeps noted k v h = record {
    number =
        h.number
        ∙ sym (number-kept (length (datums_of s.section.now)) (further_of s) w v h.held)
        ∙ ap (λ l. number_of_word (length (datums_of s.section.now)) l v) (sym further-is);
    held = λ f. subst (λ l. Contains l v) (sym further-is) (with-kept (further_of s) w v (h.held f));
  }

  entered-held : Contains (further_of t) w
  entered-held = subst (λ l. Contains l w) (sym further-is) (with-has (further_of s) w unfixed)

  entered-words : words ≡ [] ∷ further_of t
  entered-words = table-is ∙ ap (λ l. [] ∷ l) (sym (ap (drop 1) table-is))

  entered-numbering : IsNumbering t
  entered-numbering = record {
    few = n.few;
    words = entered-words;
    size = n.size;
    table_size = n.table_size;
    known = λ k le. elim (n.known k le) [
      | inl zero_yet ↦ inl zero_yet
      | inr h ↦ inr (number-keeps s.of_places.items k (word_at s k) h)
    ];
    known_words = λ k lt. elim (n.known_words k lt) [
      | inl zero_yet ↦ inl zero_yet
      | inr h ↦ inr (number-keeps s.of_words.items k (word_of_id s k) h)
    ];
  }

  pub entered-enters : Enters w s t
  entered-enters = record {
    section = refl;
    table = refl;
    of_places = refl;
    of_words = refl;
    numbering = entered-numbering;
    words = further-is;
    held = λ f. entered-held;
    kept = λ k h. number-keeps s.of_places.items k (word_at s k) h;
    words_kept = λ k h. number-keeps s.of_words.items k (word_of_id s k) h;
  }

  -- the number that the table gives the word is its place
  entered-id : (id : ℕ) → TellsApart words w id → id ≡ place_in (further_of t) w
  entered-id id same =
      let at : slice_get words (place_in (further_of t) w) ≡ Some w =
      ap (λ l. slice_get l (place_in (further_of t) w)) entered-words ∙ place-has [] (further_of t) w entered-held in
      sym ((same (place_in (further_of t) w) w at).1 refl)

  pub entered-number : (datums id : ℕ) → datums ≡ length (datums_of s.section.now) → TellsApart words w id
      → datums + id ≡ number_at t w
  entered-number datums id d same =
      let i = entered-id id same in
      (λ j. d j + i j) ∙ sym (open-number (length (datums_of s.section.now)) (further_of t) w unfixed)

  pub entered-fits : (datums id long : ℕ) → datums ≡ length (datums_of s.section.now) → TellsApart words w id
      → long ≡ length words → long < 2 ^ 57 → datums + id ≤ 18446744073709551615
  entered-fits datums id long d same is_long small =
      let i = entered-id id same in
      let high = (place-within (further_of t) w entered-held).1 in
      let size = ap length entered-words in
      let fewer = datums-few s.section.now in
      let few = n.few in
      omega (arith, i, d, high, size, is_long, small, fewer, few)

-- ---- a word with a number of its own, or one that is a further word already, changes nothing
pub known-enters : (s : WrittenLocations) → IsNumbering s → (w : Word) → HoldsWord s w → Enters w s s
known-enters s n w held = record {
  section = refl;
  table = refl;
  of_places = refl;
  of_words = refl;
  numbering = n;
  words = sym (with-known (further_of s) w held);
  held = held;
  kept = λ k h. h;
  words_kept = λ k h. h;
}

-- ---- a number is noted
noted-here : (s : WrittenLocations) (noted : List ℕ) (k number : ℕ) (w : Word) → k < length noted
    → number ≡ number_at s w → HoldsWord s w → HasNumber s (set noted k number) k w
noted-here s noted k number w lt is held =
    record { number = get_or-set_same noted k number 0 lt ∙ is; held = held }

noted-known : (s : WrittenLocations) (noted : List ℕ) (word : ℕ → Word) (k number j : ℕ) → k < length noted
    → number ≡ number_at s (word k) → HoldsWord s (word k)
    → (slice_index noted j ≡ 0) ⊎ HasNumber s noted j (word j)
    → (slice_index (set noted k number) j ≡ 0) ⊎ HasNumber s (set noted k number) j (word j)
noted-known s noted word k number j lt is held known = by_test (nat_eq j k)
    (λ e. inr (subst (λ i. HasNumber s (set noted k number) i (word i)) (sym (eqb-true j k e))
    (noted-here s noted k number (word k) lt is held)))
    (λ e. (let stays = get_or-set_other noted k j number 0 (eqb-false j k e) in
    elim known [
      | inl zero_yet ↦ inl (stays ∙ zero_yet)
      | inr h ↦ inr (record { number = stays ∙ h.number; held = h.held })
    ]))

-- what was noted is noted yet
noted-kept : (s : WrittenLocations) (noted : List ℕ) (word : ℕ → Word) (k number j : ℕ) → k < length noted
    → number ≡ number_at s (word k) → HoldsWord s (word k)
    → HasNumber s noted j (word j) → HasNumber s (set noted k number) j (word j)
noted-kept s noted word k number j lt is held h = by_test (nat_eq j k)
    (λ e. subst (λ i. HasNumber s (set noted k number) i (word i)) (sym (eqb-true j k e))
    (noted-here s noted k number (word k) lt is held))
    (λ e. record { number = get_or-set_other noted k j number 0 (eqb-false j k e) ∙ h.number; held = h.held })

-- of a place
module _ (s t : WrittenLocations) (place number : ℕ) (le : place ≤ length s.section.now)
    (enters : Enters (word_at s place) s t) (is : number ≡ number_at t (word_at s place)) where
  abbrev pub place-noted : WrittenLocations
  place-noted = record {
    section = t.section;
    table = t.table;
    of_places = with_item t.of_places place number;
    of_words = t.of_words;
    words = t.words;
  }

  short : place < length t.of_places.items
  short =
      let size = enters.numbering.size in
      let section = ap (λ r. length r.now) enters.section in
      omega (arith, le, size, section)

  word-is : word_at t place ≡ word_at s place
  word-is = ap (λ r. word_of_place r.now place) enters.section

  here-is : number ≡ number_at t (word_at t place)
  here-is = is ∙ ap (number_at t) (sym word-is)

  here-held : HoldsWord t (word_at t place)
  here-held = subst (HoldsWord t) (sym word-is) enters.held

  place-numbering : IsNumbering place-noted
  place-numbering = record {
    few = enters.numbering.few;
    words = enters.numbering.words;
    size = length-set t.of_places.items place number ∙ enters.numbering.size;
    table_size = enters.numbering.table_size;
    known = λ k within. noted-known t t.of_places.items (word_at t) place number k short here-is here-held
        (enters.numbering.known k within);
    known_words = enters.numbering.known_words;
  }

  pub place-adds : Adds (place ∷ []) s place-noted
  place-adds = record {
    section = ap (λ r. r.now) enters.section;
    table = ap (λ r. r.now) enters.table;
    numbering = place-numbering;
    words = enters.words;
    added = λ k m. elim (Contains-cases place k [] m) [
      | inl same ↦ subst (IsAdded place-noted) same
          (noted-here t t.of_places.items place number (word_at t place) short here-is here-held)
      | inr none ↦ absurd (Contains-none k none)
    ];
    words_added = λ k none. absurd (Contains-none k none);
    kept = λ k h. noted-kept t t.of_places.items (word_at t) place number k short here-is here-held (enters.kept k h);
    words_kept = enters.words_kept;
  }

-- of a word of the table
module _ (s t : WrittenLocations) (id number : ℕ) (lt : id < length s.table.now)
    (enters : Enters (word_of_id s id) s t) (is : number ≡ number_at t (word_of_id s id)) where
  abbrev pub word-noted : WrittenLocations
  word-noted = record {
    section = t.section;
    table = t.table;
    of_places = t.of_places;
    of_words = with_item t.of_words id number;
    words = t.words;
  }

  id-short : id < length t.of_words.items
  id-short =
      let size = enters.numbering.table_size in
      let table = ap (λ r. length r.now) enters.table in
      omega (arith, lt, size, table)

  id-word : word_of_id t id ≡ word_of_id s id
  id-word = ap (λ r. unwrap_or (slice_get r.now id) []) enters.table

  id-is : number ≡ number_at t (word_of_id t id)
  id-is = is ∙ ap (number_at t) (sym id-word)

  id-held : HoldsWord t (word_of_id t id)
  id-held = subst (HoldsWord t) (sym id-word) enters.held

  word-numbering : IsNumbering word-noted
  word-numbering = record {
    few = enters.numbering.few;
    words = enters.numbering.words;
    size = enters.numbering.size;
    table_size = length-set t.of_words.items id number ∙ enters.numbering.table_size;
    known = enters.numbering.known;
    known_words = λ k within. noted-known t t.of_words.items (word_of_id t) id number k id-short id-is id-held
        (enters.numbering.known_words k within);
  }

  pub word-adds : AddsWords (id ∷ []) s word-noted
  word-adds = record {
    section = ap (λ r. r.now) enters.section;
    table = ap (λ r. r.now) enters.table;
    numbering = word-numbering;
    words = enters.words;
    added = λ k none. absurd (Contains-none k none);
    words_added = λ k m. elim (Contains-cases id k [] m) [
      | inl same ↦ subst (IsWordAdded word-noted) same
          (noted-here t t.of_words.items id number (word_of_id t id) id-short id-is id-held)
      | inr none ↦ absurd (Contains-none k none)
    ];
    kept = enters.kept;
    words_kept = λ k h. noted-kept t t.of_words.items (word_of_id t) id number k id-short id-is id-held
        (enters.words_kept k h);
  }

-- what is noted already stays
pub place-stays : (s : WrittenLocations) → IsNumbering s → (place : ℕ) → IsAdded s place → Adds (place ∷ []) s s
place-stays s n place h = record {
  section = refl;
  table = refl;
  numbering = n;
  words = sym (with-known (further_of s) (word_at s place) h.held);
  added = λ k m. elim (Contains-cases place k [] m) [
    | inl same ↦ subst (IsAdded s) same h
    | inr none ↦ absurd (Contains-none k none)
  ];
  words_added = λ k none. absurd (Contains-none k none);
  kept = λ k h. h;
  words_kept = λ k h. h;
}

pub word-stays : (s : WrittenLocations) → IsNumbering s → (id : ℕ) → IsWordAdded s id → AddsWords (id ∷ []) s s
word-stays s n id h = record {
  section = refl;
  table = refl;
  numbering = n;
  words = sym (with-known (further_of s) (word_of_id s id) h.held);
  added = λ k none. absurd (Contains-none k none);
  words_added = λ k m. elim (Contains-cases id k [] m) [
    | inl same ↦ subst (IsWordAdded s) same h
    | inr none ↦ absurd (Contains-none k none)
  ];
  kept = λ k h. h;
  words_kept = λ k h. h;
}

-- ---- one after another
pub adds-none : (s : WrittenLocations) → IsNumbering s → AddsAll [] [] [] s s
adds-none s n = record {
  section = refl;
  table = refl;
  numbering = n;
  words = refl;
  added = λ k m. absurd (Contains-none k m);
  words_added = λ k m. absurd (Contains-none k m);
  kept = λ k h. h;
  words_kept = λ k h. h;
}

pub adds-all : (ws vs : List Word) (places others ids more : List ℕ) (s t u : WrittenLocations)
    → AddsAll ws places ids s t → AddsAll vs others more t u → AddsAll (ws ++ vs) (places ++ others) (ids ++ more) s u
adds-all ws vs places others ids more s t u a b = record {
  section = b.section ∙ a.section;
  table = b.table ∙ a.table;
  numbering = b.numbering;
  words = b.words ∙ ap (λ l. fold with_word l vs) a.words ∙ sym (fold-append with_word (further_of s) ws vs);
  added = λ k m. elim (Contains-append_cases places others k m) [
    | inl h ↦ b.kept k (a.added k h)
    | inr h ↦ b.added k h
  ];
  words_added = λ k m. elim (Contains-append_cases ids more k m) [
    | inl h ↦ b.words_kept k (a.words_added k h)
    | inr h ↦ b.words_added k h
  ];
  kept = λ k h. b.kept k (a.kept k h);
  words_kept = λ k h. b.words_kept k (a.words_kept k h);
}

pub adds-more : (first others : List ℕ) (s t u : WrittenLocations) → Adds first s t → Adds others t u
    → Adds (first ++ others) s u
adds-more first others s t u a b =
    subst (λ ws. AddsAll ws (first ++ others) [] s u)
    ((λ i. map (word_at s) first ++ map (word_of_place (a.section i)) others)
    ∙ sym (map-append (word_at s) first others))
    (adds-all (map (word_at s) first) (map (word_at t) others) first others [] [] s t u a b)

pub adds-more_words : (first others : List ℕ) (s t u : WrittenLocations) → AddsWords first s t → AddsWords others t u
    → AddsWords (first ++ others) s u
adds-more_words first others s t u a b =
    subst (λ ws. AddsAll ws [] (first ++ others) s u)
    ((λ i. map (word_of_id s) first ++ map (λ k. unwrap_or (slice_get (a.table i) k) []) others)
    ∙ sym (map-append (word_of_id s) first others))
    (adds-all (map (word_of_id s) first) (map (word_of_id t) others) [] [] first others s t u a b)
