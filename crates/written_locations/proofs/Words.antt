-- Further words: which they are, that each stands once, and how many they are.
use Rattle.std.proofs.Common.{◌≡◌, ◌≤◌, ◌<◌, ◌+◌, refl, sym, ◌∙◌, ap, subst, arith, inl, inr}
use Rattle.std.specs.Prelude.{ℕ, zero, suc, ◌⊎◌, Bool, true, false, if◌then◌else◌, List, [], ◌∷◌, ◌++◌, fold, length}
use Rattle.std.specs.Prelude.{slice_get, Option, Some, None, Contains}
use Rattle.std.specs.List.{list_any}
use Rattle.std.proofs.lemmas.List.{append_assoc, length-append}
use Rattle.std.proofs.lemmas.List.Elements.{Contains-append_left, Contains-push, Contains-push_cases}
use Rattle.std.proofs.lemmas.List.Sums.{fold-append}
use Rattle.lists.specs.Distinct.{IsDistinct}
use Rattle.lists.proofs.Tests.{list_any-contains, list_any-found}
use Rattle.lists.proofs.Members.{Contains-cases, Contains-here, Contains-none, Contains-there}
use Rattle.lists.proofs.Distinct.{IsDistinct-push, length-le_from_distinct}
use Rattle.lists.proofs.Cases.{by_test}
use Rattle.location_words.specs.declared.pair.Pair.{Pair}
use Rattle.location_words.specs.Equal.{pairs_decide}
use Rattle.location_words.specs.Pairs.{pairs_eq}
use Rattle.location_words.specs.Tables.{entered}
use Rattle.location_table.specs.declared.entry.LocationEntry.{LocationEntry}
use Rattle.location_table.specs.declared.entry.LocationEntry.TheVariants.{Datum, Product}
use Rattle.location_table.specs.Words.{Places, with_entry, identity_alone, places_of, words_of, datums_of, datum_word}
use Rattle.location_table.specs.Words.{word_of_factors}
use Rattle.written_locations.specs.Further.{fixed_number, with_word, with_word_by, further_words, place_in}
use Rattle.written_locations.specs.Further.{number_of_word, or_after}

abbrev pub Word : Type 0
Word = List Pair

-- ---- by whether a word has a number of its own
abbrev pub by_fixed : {P : Type 0} (o : Option ℕ) → ((k : ℕ) → o ≡ Some k → P) → (o ≡ None → P) → P
by_fixed (Some k) f g = f k refl
by_fixed None f g = g refl

pub some-none : {k : ℕ} {o : Option ℕ} → o ≡ Some k → o ≡ None → ⊥
some-none a b = cc

pub fixed-stays : (words : List Word) (w : Word) (k : ℕ) → fixed_number w ≡ Some k → with_word words w ≡ words
fixed-stays words w k e = ap (λ o. with_word_by o words w) e

pub open-enters : (words : List Word) (w : Word) → fixed_number w ≡ None → with_word words w ≡ entered words w
open-enters words w e = ap (λ o. with_word_by o words w) e

-- ---- entering a word
pub any-member : (words : List Word) (w : Word) → list_any (pairs_eq w) words ≡ true → Contains words w
any-member words w e =
    let found = list_any-found (pairs_eq w) words e in
    subst (Contains words) (sym ((pairs_decide w found.0).0 found.2)) found.1

pub member-any : (words : List Word) (w : Word) → Contains words w → list_any (pairs_eq w) words ≡ true
member-any words w m = list_any-contains (pairs_eq w) w words m ((pairs_decide w w).1 refl)

entered-by : (b : Bool) (words : List Word) (w : Word) → list_any (pairs_eq w) words ≡ b
    → entered words w ≡ (if b then words else words ++ w ∷ [])
entered-by b words w e = ap (λ c. if c then words else words ++ w ∷ []) e

-- what was there stays in front
pub entered-front : (words : List Word) (w : Word) → (more : List Word) × (entered words w ≡ words ++ more)
entered-front words w = by_test (list_any (pairs_eq w) words)
    (λ e. ([], entered-by true words w e ∙ sym (no-more words)))
    (λ e. (w ∷ [], entered-by false words w e))
  where
    no-more : (xs : List Word) → xs ++ [] ≡ xs
    no-more [] = refl
    no-more (x ∷ xs) = ap (λ l. x ∷ l) (no-more xs)

pub entered-has : (words : List Word) (w : Word) → Contains (entered words w) w
entered-has words w = by_test (list_any (pairs_eq w) words)
    (λ e. subst (λ l. Contains l w) (sym (entered-by true words w e)) (any-member words w e))
    (λ e. subst (λ l. Contains l w) (sym (entered-by false words w e)) (Contains-push words w))

pub entered-cases : (words : List Word) (w v : Word) → Contains (entered words w) v → Contains words v ⊎ (w ≡ v)
entered-cases words w v m = by_test (list_any (pairs_eq w) words)
    (λ e. inl (subst (λ l. Contains l v) (entered-by true words w e) m))
    (λ e. elim (Contains-push_cases words w v (subst (λ l. Contains l v) (entered-by false words w e) m)) [
      | inl k ↦
          inl k
      | inr same ↦ inr same
    ])

pub entered-distinct : (words : List Word) (w : Word) → IsDistinct words → IsDistinct (entered words w)
entered-distinct words w d = by_test (list_any (pairs_eq w) words)
    (λ e. subst IsDistinct (sym (entered-by true words w e)) d)
    (λ e. subst IsDistinct (sym (entered-by false words w e))
    (IsDistinct-push words w d (λ m. true-false (member-any words w m) e)))
  where
    true-false : {b : Bool} → b ≡ true → b ≡ false → ⊥
    true-false t f = cc

pub entered-kept : (words : List Word) (w v : Word) → Contains words v → Contains (entered words w) v
entered-kept words w v m =
    let front = entered-front words w in
    subst (λ l. Contains l v) (sym front.1) (Contains-append_left words front.0 v m)

-- ---- the same for a word that may have a number of its own
pub with-kept : (words : List Word) (w v : Word) → Contains words v → Contains (with_word words w) v
with-kept words w v m = by_fixed (fixed_number w)
    (λ k e. subst (λ l. Contains l v) (sym (fixed-stays words w k e)) m)
    (λ e. subst (λ l. Contains l v) (sym (open-enters words w e)) (entered-kept words w v m))

pub with-has : (words : List Word) (w : Word) → fixed_number w ≡ None → Contains (with_word words w) w
with-has words w e = subst (λ l. Contains l w) (sym (open-enters words w e)) (entered-has words w)

pub with-cases : (words : List Word) (w v : Word) → Contains (with_word words w) v
    → Contains words v ⊎ ((w ≡ v) × (fixed_number w ≡ None))
with-cases words w v m = by_fixed (fixed_number w)
    (λ k e. inl (subst (λ l. Contains l v) (fixed-stays words w k e) m))
    (λ e. elim (entered-cases words w v (subst (λ l. Contains l v) (open-enters words w e) m)) [
      | inl k ↦ inl k
      | inr same ↦ inr (same, e)
    ])

pub with-distinct : (words : List Word) (w : Word) → IsDistinct words → IsDistinct (with_word words w)
with-distinct words w d = by_fixed (fixed_number w)
    (λ k e. subst IsDistinct (sym (fixed-stays words w k e)) d)
    (λ e. subst IsDistinct (sym (open-enters words w e)) (entered-distinct words w d))

-- a word that has its number already adds nothing
pub with-known : (words : List Word) (w : Word) → (fixed_number w ≡ None → Contains words w) → with_word words w ≡ words
with-known words w has = by_fixed (fixed_number w)
    (λ k e. fixed-stays words w k e)
    (λ e. open-enters words w e ∙ entered-by true words w (member-any words w (has e)))

-- ---- words one after another
folded-kept : (acc ws : List Word) (v : Word) → Contains acc v → Contains (fold with_word acc ws) v
folded-kept acc [] v m = m
folded-kept acc (w ∷ ws) v m = folded-kept (with_word acc w) ws v (with-kept acc w v m)

folded-found : (acc ws : List Word) (v : Word) → Contains ws v → fixed_number v ≡ None
    → Contains (fold with_word acc ws) v
folded-found acc [] v m e = absurd (Contains-none v m)
folded-found acc (w ∷ ws) v m e = elim (Contains-cases w v ws m) [
  | inl same ↦ folded-kept (with_word acc w) ws v (subst (λ z. Contains (with_word acc z) v) (sym same)
      (with-has acc v e))
  | inr k ↦ folded-found (with_word acc w) ws v k e
]

folded-from : (acc ws : List Word) (v : Word) → Contains (fold with_word acc ws) v
    → Contains acc v ⊎ (Contains ws v × (fixed_number v ≡ None))
folded-from acc [] v m = inl m
folded-from acc (w ∷ ws) v m = elim (folded-from (with_word acc w) ws v m) [
  | inl k ↦ elim (with-cases acc w v k) [
    | inl old ↦ inl old
    | inr new ↦ inr (
      subst (Contains (w ∷ ws)) new.0 (Contains-here w ws),
      subst (λ z. fixed_number z ≡ None) new.0 new.1,
    )
  ]
  | inr k ↦ inr (Contains-there w v ws k.0, k.1)
]

folded-distinct : (acc ws : List Word) → IsDistinct acc → IsDistinct (fold with_word acc ws)
folded-distinct acc [] d = d
folded-distinct acc (w ∷ ws) d = folded-distinct (with_word acc w) ws (with-distinct acc w d)

pub further-found : (ws : List Word) (v : Word) → Contains ws v → fixed_number v ≡ None → Contains (further_words ws) v
further-found ws v m e = folded-found [] ws v m e

pub further-from : (ws : List Word) (v : Word) → Contains (further_words ws) v → Contains ws v × (fixed_number v ≡ None)
further-from ws v m = elim (folded-from [] ws v m) [ inl k ↦ absurd (Contains-none v k) | inr k ↦ k ]

pub further-distinct : (ws : List Word) → IsDistinct (further_words ws)
further-distinct ws = folded-distinct [] ws tt

pub further-push : (ws : List Word) (w : Word) → further_words (ws ++ w ∷ []) ≡ with_word (further_words ws) w
further-push ws w = fold-append with_word [] ws (w ∷ [])

-- ---- how many they are
abbrev pub open_by : Option ℕ → Word → List Word → List Word
open_by (Some k) w ws = ws
open_by None w ws = w ∷ ws

-- the words of a list that take a record
abbrev pub open_words : List Word → List Word
open_words [] = []
open_words (w ∷ ws) = open_by (fixed_number w) w (open_words ws)

open-member : (ws : List Word) (v : Word) → Contains ws v → fixed_number v ≡ None → Contains (open_words ws) v
open-member [] v m e = absurd (Contains-none v m)
open-member (w ∷ ws) v m e = elim (Contains-cases w v ws m) [
  | inl same ↦ subst (λ o. Contains (open_by o w (open_words ws)) v) (sym (ap fixed_number same ∙ e))
      (subst (λ z. Contains (z ∷ open_words ws) v) (sym same) (Contains-here v (open_words ws)))
  | inr k ↦ by_fixed (fixed_number w)
      (λ j f. subst (λ o. Contains (open_by o w (open_words ws)) v) (sym f) (open-member ws v k e))
      (λ f. subst (λ o. Contains (open_by o w (open_words ws)) v) (sym f)
      (Contains-there w v (open_words ws) (open-member ws v k e)))
]

-- one word more takes a record at most
open-push : (ws : List Word) (w : Word) → length (open_words (ws ++ w ∷ [])) ≤ suc (length (open_words ws))
open-push [] w = by_fixed (fixed_number w)
    (λ j f. (let s = ap (λ o. length (open_by o w [])) f in omega (arith, s)))
    (λ f. (let s = ap (λ o. length (open_by o w [])) f in omega (arith, s)))
open-push (v ∷ ws) w = by_fixed (fixed_number v)
    (λ j f. (let a = ap (λ o. length (open_by o v (open_words (ws ++ w ∷ [])))) f in let b =
    ap (λ o. length (open_by o v (open_words ws))) f in
    let rest = open-push ws w in omega (arith, a, b, rest)))
    (λ f. (let a = ap (λ o. length (open_by o v (open_words (ws ++ w ∷ [])))) f in let b =
    ap (λ o. length (open_by o v (open_words ws))) f in
    let rest = open-push ws w in omega (arith, a, b, rest)))

-- and none where it has a number of its own
closed-push : (ws : List Word) (w : Word) (k : ℕ) → fixed_number w ≡ Some k → open_words (ws ++ w ∷ []) ≡ open_words ws
closed-push [] w k e = ap (λ o. open_by o w []) e
closed-push (v ∷ ws) w k e = ap (λ l. open_by (fixed_number v) v l) (closed-push ws w k e)

datum-fixed : (d : ℕ) → fixed_number (datum_word d) ≡ Some d
datum-fixed d = refl

open-entries : (p : Places) (entries : List LocationEntry)
    → length (open_words (fold with_entry p entries).words) + length (datums_of entries) ≤ length (open_words p.words)
    + length entries
open-entries p [] = omega arith
open-entries p (Datum texts ∷ entries) =
    let rest = open-entries (with_entry p (Datum texts)) entries in
    let same = ap length (closed-push p.words (datum_word (p.datums + 1)) (p.datums + 1)
    (datum-fixed (p.datums + 1))) in
    omega (arith, rest, same)
open-entries p (Product factors ∷ entries) =
    let rest = open-entries (with_entry p (Product factors)) entries in
    let one = open-push p.words (word_of_factors p.words factors) in
    omega (arith, rest, one)

-- with the datums the further words are no more than the entries of a section whose places' words they are
pub further-few : (entries : List LocationEntry) (further : List Word) → IsDistinct further
    → ((w : Word) → Contains further w → Contains (words_of entries) w × (fixed_number w ≡ None)) →
    length (datums_of entries) + length further ≤ length entries
further-few entries further distinct of =
    let count = length-le_from_distinct further (open_words (words_of entries)) distinct
    (λ w m. open-member (words_of entries) w (of w m).0 (of w m).1) in
    let all = open-entries identity_alone entries in
    omega (arith, count, all)
