-- The lines of locations.
use Rattle.std.proofs.Common.{◌≡◌, ◌<◌, ◌≤◌, ◌+◌, ◌^◌, refl, sym, ◌∙◌, ap, subst, arith, add-one}
use Rattle.std.specs.Prelude.{ℕ, Some, List, [], ◌∷◌, ◌++◌, map}
use Rattle.std.specs.Prelude.{take, length, slice_get, slice_index_or, codes}
use Rattle.std.specs.List.{flat_map, join_with_byte}
use Rattle.std.specs.Fmt.{decimal, digits, signed_decimal}
use Rattle.std.proofs.Math.Seq.{take-suc}
use Rattle.std.proofs.lemmas.Grind.{flat_map-append}
use Rattle.std.proofs.lemmas.List.{append_assoc, append-nil, length-append, length-map, map-append}
use Rattle.lists.proofs.Places.{take-at}
use Rattle.brep_tokens.specs.Written.{line_text, lines_text}
use Rattle.location_words.specs.declared.pair.Pair.{Pair}
use Rattle.location_table.specs.declared.entry.LocationEntry.{LocationEntry}
use Rattle.location_table.specs.declared.entry.LocationEntry.TheVariants.{Datum, Product}
use Rattle.location_table.specs.Locations.{factor, spell_factor, spell_location}
use Rattle.location_table.specs.Words.{datums_of}
use Rattle.location_table.specs.Written.{product_of, written_section}
use Rattle.written_locations.specs.declared.written.WrittenLocations.{WrittenLocations}
use Rattle.written_locations.specs.Added.{IsNumbering}
use Rattle.written_locations.specs.Laws.{SectionsHold}
use Rattle.brep_file.specs.Spelling.{section}
use Rattle.written_layout.specs.Layout.{location_lines, pair_text}
use Rattle.written_layout.proofs.TableLines.{lines-before}

-- ---- one item more
take-one : {X : Type 0} (xs : List X) (i : ℕ) (d : X) → i < length xs
    → take (i + 1) xs ≡ take i xs ++ slice_index_or xs i d ∷ []
take-one xs i d lt = rw add-one (take-suc xs i d lt)

-- ---- how many entries the section that is written has
pub few-written : SectionsHold → (s : WrittenLocations) → IsNumbering s → (datums further : ℕ)
    → datums ≡ length (datums_of s.section.now) → further < 2 ^ 57 → datums + further ≤ 18446744073709551615
few-written sections s n datums further d small =
    let fewer = sections.few_datums s.section.now in let few = n.few in
    omega (arith, d, small, fewer, few)

-- ---- words on a line
spaced : (x : List ℕ) (xs : List (List ℕ)) → join_with_byte 32 (x ∷ xs) ≡ x ++ flat_map (λ (t : List ℕ). 32 ∷ t) xs
spaced x [] = sym (append-nil x)
spaced x (y ∷ ys) = ap (λ t. x ++ 32 ∷ t) (spaced y ys)

-- the first word, the others each after a space, and the end of the line
pub spaced_line : (x : List ℕ) (xs : List (List ℕ))
    → line_text (x ∷ xs) ≡ (x ++ flat_map (λ (t : List ℕ). 32 ∷ t) xs) ++ 10 ∷ []
spaced_line x xs = ap (λ t. t ++ 10 ∷ []) (spaced x xs)

pairs-spaced : (w : List Pair)
    → flat_map (λ (t : List ℕ). 32 ∷ t) (flat_map spell_factor (map (λ (p : Pair). factor p.datum p.power) w))
    ≡ flat_map pair_text w
pairs-spaced [] = refl
pairs-spaced (p ∷ w) =
    ap (λ t. 32 ∷ (decimal p.datum ++ 32 ∷ (signed_decimal p.power ++ t))) (pairs-spaced w)
    ∙ sym (ap (λ t. 32 ∷ t) (append_assoc (decimal p.datum) (32 ∷ signed_decimal p.power) (flat_map pair_text w)))

zero_text : decimal 0 ≡ 48 ∷ []
unfolding digits
zero_text = refl

two_text : decimal 2 ≡ 50 ∷ []
unfolding digits
two_text = refl

pub word_text : (w : List Pair)
    → line_text (spell_location (product_of w)) ≡ 50 ∷ (flat_map pair_text w ++ codes " 0\n")
word_text w =
    let factors : List (List ℕ) = flat_map spell_factor (map (λ (p : Pair). factor p.datum p.power) w) in
    ap (λ t. t ++ 10 ∷ []) (spaced (decimal 2) (factors ++ decimal 0 ∷ []))
    ∙ ap (λ t. (decimal 2 ++ t) ++ 10 ∷ []) (flat_map-append (λ (t : List ℕ). 32 ∷ t) factors (decimal 0 ∷ [])
    ∙ (λ i. pairs-spaced w i ++ (32 ∷ (zero_text i ++ []))))
    ∙ ap (λ t. (t ++ (flat_map pair_text w ++ 32 ∷ 48 ∷ [])) ++ 10 ∷ []) two_text
    ∙ ap (λ t. 50 ∷ t) (append_assoc (flat_map pair_text w) (32 ∷ 48 ∷ []) (10 ∷ []))

-- one word more
pub words-more : (words : List (List Pair)) (i : ℕ) (w : List Pair) → slice_get words i ≡ Some w →
    lines_text (map spell_location (map product_of (take (i + 1) words)))
    ≡ lines_text (map spell_location (map product_of (take i words))) ++ line_text (spell_location (product_of w))
words-more words i w is =
    ap (λ l. lines_text (map spell_location (map product_of l))) (take-at words i w is)
    ∙ ap (λ l. lines_text (map spell_location l)) (map-append product_of (take i words) (w ∷ []))
    ∙ ap lines_text (map-append spell_location (map product_of (take i words)) (product_of w ∷ []))
    ∙ flat_map-append line_text (map spell_location (map product_of (take i words)))
    (spell_location (product_of w) ∷ [])
    ∙ ap (λ t. lines_text (map spell_location (map product_of (take i words))) ++ t)
    (append-nil (line_text (spell_location (product_of w))))

datums-append : (a b : List LocationEntry) → datums_of (a ++ b) ≡ datums_of a ++ datums_of b
datums-append [] b = refl
datums-append (Datum texts ∷ a) b = ap (λ l. texts ∷ l) (datums-append a b)
datums-append (Product factors ∷ a) b = datums-append a b

-- the lines of datums
abbrev pub datum_lines : List LocationEntry → List ℕ
datum_lines entries = lines_text (map spell_location (map Datum (datums_of entries)))

datum_lines-append : (a b : List LocationEntry) → datum_lines (a ++ b) ≡ datum_lines a ++ datum_lines b
datum_lines-append a b =
    ap (λ l. lines_text (map spell_location (map Datum l))) (datums-append a b)
    ∙ ap (λ l. lines_text (map spell_location l)) (map-append Datum (datums_of a) (datums_of b))
    ∙ ap lines_text (map-append spell_location (map Datum (datums_of a)) (map Datum (datums_of b)))
    ∙ flat_map-append line_text (map spell_location (map Datum (datums_of a)))
    (map spell_location (map Datum (datums_of b)))

pub datum_line : (e : LocationEntry) (texts : List (List ℕ)) → e ≡ Datum texts
    → line_text (spell_location e) ≡ datum_lines (e ∷ [])
datum_line e texts is =
    subst (λ (x : LocationEntry). line_text (spell_location x) ≡ datum_lines (x ∷ [])) (sym is)
    (sym (append-nil (line_text (spell_location (Datum texts)))))

pub datums-more : (entries : List LocationEntry) (i : ℕ) (d : LocationEntry) → i < length entries →
    datum_lines (take (i + 1) entries) ≡ datum_lines (take i entries) ++ datum_lines (slice_index_or entries i d ∷ [])
datums-more entries i d lt =
    ap datum_lines (take-one entries i d lt) ∙ datum_lines-append (take i entries) (slice_index_or entries i d ∷ [])

-- the heading of the section of locations, its datums and its further words
pub section_parts : (entries : List LocationEntry) (words : List (List Pair)) (count : ℕ)
    → count ≡ length (datums_of entries) + length words
    → line_text (codes "Locations" ∷ decimal count ∷ [])
    ++ (datum_lines entries ++ lines_text (map spell_location (map product_of words)))
    ≡ lines_text (location_lines (written_section (datums_of entries) words))
section_parts entries words count is =
    let datums : List LocationEntry = map Datum (datums_of entries) in
    let products : List LocationEntry = map product_of words in
    let long : count ≡ length (datums ++ products) =
    (let a = length-map (datums_of entries) Datum in let b = length-map words product_of in
    let e = length-append datums products in omega (arith, is, a, b, e)) in
    (λ i. line_text (codes "Locations" ∷ decimal (long i) ∷ [])
    ++ (lines_text (map spell_location datums) ++ lines_text (map spell_location products)))
    ∙ ap (λ t. line_text (codes "Locations" ∷ decimal (length (datums ++ products)) ∷ []) ++ t)
    (lines-before (map spell_location datums) (map spell_location products)
    ∙ ap lines_text (sym (map-append spell_location datums products)))
