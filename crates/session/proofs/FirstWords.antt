-- The words of a file's uses are over its datums.
use Rattle.std.proofs.Common.{◌≡◌, ◌≤◌, ◌∙◌, ◌-◌, ap, sym, subst, refl, arith, ℕ, zero, suc, List, [], ◌∷◌, map}
use Rattle.std.specs.Prelude.{length, reverse, nat_lt, slice_get, unwrap_or, Contains, Option, None, Some, get_or}
use Rattle.std.proofs.lemmas.Bool.{ltb-false, ltb-true}
use Rattle.std.proofs.lemmas.List.{get_or_past}
use Rattle.std.proofs.lemmas.Option.{slice_get-get_or}
use Rattle.lists.proofs.Cases.{by_test}
use Rattle.lists.proofs.Each.{each-contains}
use Rattle.lists.proofs.Members.{Contains-here, Contains-map_cases, Contains-none, Contains-reversed, Contains-there}
use Rattle.lists.proofs.Places.{Contains-at}
use Rattle.location_table.specs.declared.entry.LocationEntry.{LocationEntry}
use Rattle.location_table.specs.Laws.{PlacesHaveWords}
use Rattle.location_table.specs.Locations.{AreSoundLocations}
use Rattle.location_table.specs.Words.{datums_of, word_of_place, words_of}
use Rattle.location_table.specs.Written.{IsWordOver}
use Rattle.location_words.specs.declared.pair.Pair.{Pair}
use Rattle.expansion_laws.specs.Expansion.{expanded, trees_from, IsNumberOf, NumberedUse}
use Rattle.expansion_laws.specs.Keeping.{IsWordOf}
use Rattle.expansion_laws.specs.Trees.{list_of, tree_of, uses, uses_of, Tree, Use}
use Rattle.brep_file.specs.declared.file.File.{File}
use Rattle.brep_file.specs.declared.records.Record.{Record}
use Rattle.brep_file.specs.PlainRecords.{plain_records, plain_use, tree_of_record}
use Rattle.session.specs.Standing.{IsDatumOf}

pub empty-word : (D : ℕ → Type 0) → IsWordOf D []
empty-word D = (refl, λ p m. absurd (Contains-none p m))

over-word : (n : ℕ) (w : List Pair) → IsWordOver n w → IsWordOf (IsNumberOf n) w
over-word n w h = (
  h.held.is_word,
  λ p m. each-contains (λ (p : Pair). (1 ≤ p.datum) × (p.datum ≤ n)) w p h.over m,
)

-- the word of each place
pub place-word : PlacesHaveWords → (entries : List LocationEntry) → AreSoundLocations entries → (k : ℕ) →
    IsWordOf (IsNumberOf (length (datums_of entries))) (word_of_place entries k)
place-word laws entries sound k =
    let n = length (datums_of entries) in
    let ws = words_of entries in
    by_test (nat_lt k (length ws))
    (λ t.
    let lt = ltb-true k (length ws) t in
    over-word n (get_or ws k [])
    (each-contains (IsWordOver n) ws (get_or ws k []) (laws.held entries sound)
    (Contains-at ws k (get_or ws k []) (slice_get-get_or ws k [] lt))))
    (λ e.
    let past = ltb-false k (length ws) e in
    subst (IsWordOf (IsNumberOf n)) (sym (get_or_past ws k [] (omega (arith, past)))) (empty-word (IsNumberOf n)))

-- ---- the uses of a record's tree
list_of-uses_of : (us : List Use) → list_of (uses_of us) ≡ us
list_of-uses_of [] = refl
list_of-uses_of (u ∷ us) = ap (λ rest. u ∷ rest) (list_of-uses_of us)

-- a use of a tree has the word of one of some records' uses
abbrev HasWordIn : List (List NumberedUse) → Use → Type 0
HasWordIn recs u =
    (us : List NumberedUse) × (p : NumberedUse) × Contains recs us × Contains us p × (u.word ≡ p.word)

tree-uses : (first : ℕ) (recs : List (List NumberedUse)) (i : ℕ) (t : Tree) →
    slice_get (trees_from first recs) i ≡ Some t → (u : Use) → Contains (uses t) u → HasWordIn recs u
tree-uses first [] i t e u m = absurd cc
tree-uses first (us ∷ recs) zero t e u m =
    let below = map (expanded (suc first) (trees_from (suc first) recs)) us in
    let is : tree_of first below ≡ t = ap (λ o. unwrap_or o t) e in
    let own : Contains (uses (tree_of first below)) u = subst (λ x. Contains (uses x) u) (sym is) m in
    let from =
    Contains-map_cases (expanded (suc first) (trees_from (suc first) recs)) u us
    (subst (λ l. Contains l u) (list_of-uses_of below) own) in
    (us, from.0, Contains-here us recs, from.1, sym (ap (λ (z : Use). z.word) from.2))
tree-uses first (us ∷ recs) (suc i) t e u m =
    let h = tree-uses (suc first) recs i t e u m in
    (h.0, h.1, Contains-there us h.0 recs h.2, h.3, h.4)

entry-uses : (recs : List (List NumberedUse)) (i : ℕ) (o : Option Tree) → slice_get (trees_from 1 recs) i ≡ o →
    (u : Use) → Contains (uses (unwrap_or o (tree_of 0 []))) u → HasWordIn recs u
entry-uses recs i None e u m = absurd (Contains-none u m)
entry-uses recs i (Some t) e u m = tree-uses 1 recs i t e u m

pub record-words : PlacesHaveWords → (f : File) → AreSoundLocations f.locations → (k : ℕ) (u : Use) →
    Contains (uses (tree_of_record f k)) u → IsWordOf (IsDatumOf f) u.word
record-words laws f sound k u m =
    let recs = plain_records f in
    let h = entry-uses (reverse recs) (k - 1) (slice_get (trees_from 1 (reverse recs)) (k - 1)) refl u m in
    let r =
    Contains-map_cases (λ (r : Record). map (plain_use f.locations) r.uses) h.0 f.records
    (Contains-reversed h.0 recs h.2) in
    let p =
    Contains-map_cases (plain_use f.locations) h.1 r.0.uses (subst (λ l. Contains l h.1) (sym r.2) h.3) in
    subst (IsWordOf (IsDatumOf f)) (ap (λ (z : NumberedUse). z.word) p.2 ∙ sym h.4)
    (place-word laws f.locations sound p.0.location)
