-- The tokens of a written file have at most 128 bytes.
use Rattle.std.proofs.Common.{◌≡◌, ◌<◌, ◌≤◌, ◌-◌, refl, sym, ◌∙◌, ap, subst, arith, get_or}
use Rattle.std.specs.Prelude.{ℕ, ◌^◌, ℤ, pos, negsuc, nat_abs, suc, Bool, true, false, if◌then◌else◌, Option}
use Rattle.std.specs.Prelude.{Some, None, List, [], ◌∷◌, ◌++◌, map, length, codes, slice_get, Contains}
use Rattle.std.specs.List.{AllByRecursion, flat_map}
use Rattle.std.specs.Option.{option_map_or}
use Rattle.std.specs.Fmt.{decimal, signed_decimal}
use Rattle.std.proofs.lemmas.Fmt.{length-decimal-le}
use Rattle.std.proofs.lemmas.Grind.{flat_map-append}
use Rattle.std.proofs.lemmas.List.Elements.{recursion_from_All, All-weaker}
use Rattle.std.proofs.lemmas.Option.{slice_get-get_or}
use Rattle.lists.proofs.Places.{Contains-at}
use Rattle.lists.proofs.Each.{each-append, each-contains, each-flat_map, each-left, each-of, each-right}
use Rattle.lists.proofs.Members.{Contains-here, Contains-there}
use Rattle.orientation.specs.declared.kind.Kind.{Kind}
use Rattle.orientation.specs.declared.kind.Kind.TheVariants.{Ve, Ed, Wi, Fa, Sh, So, CS, Co}
use Rattle.orientation.specs.Kinds.{name_of}
use Rattle.location_words.specs.declared.pair.Pair.{Pair}
use Rattle.location_words.specs.Pairs.{most_power}
use Rattle.location_table.specs.declared.entry.LocationEntry.{LocationEntry}
use Rattle.location_table.specs.declared.entry.LocationEntry.TheVariants.{Datum, Product}
use Rattle.location_table.specs.Locations.{factor, spell_factor, spell_location}
use Rattle.location_table.specs.Words.{datums_of}
use Rattle.location_table.specs.Written.{IsOver, IsWordOver, product_of, written_section}
use Rattle.expansion_laws.specs.Trees.{Tree, origin}
use Rattle.expansion_laws.specs.Equality.{tree_eq}
use Rattle.expansion_laws.specs.Expansion.{IsNumberOf}
use Rattle.tshape_data.specs.Flags.{spell_flags}
use Rattle.tshape_data.specs.Laws.{RenumberingKeepsParts}
use Rattle.tshape_data.specs.Parts.{Part, token, entry, located, payload_parts}
use Rattle.tshape_data.specs.Locations.{renumbered_part, renumbered_payload, location_of_part, data_locations}
use Rattle.tshape_data.specs.Spelling.{part_text, spell_head, spell_payload}
use Rattle.tshape_data.specs.declared.head.Head.{Head}
use Rattle.tshape_data.specs.declared.head.Payload.{Payload}
use Rattle.brep_file.specs.declared.uses.FileUse.{FileUse}
use Rattle.brep_file.specs.declared.records.Record.{Record}
use Rattle.brep_file.specs.declared.file.File.{File}
use Rattle.brep_file.specs.PlainRecords.{record_of, tree_of_record}
use Rattle.brep_file.specs.Sound.{IsRecord, IsSound, IsUse}
use Rattle.brep_file.specs.Spelling.{section, spell_use, spell_file, spell_record, spell_tables}
use Rattle.brep_writer.specs.Dress.{head_for, made_head, rebuilt}

abbrev pub Short : List ℕ → Type 0
Short text = length text ≤ 128

abbrev pub AreShort : List (List ℕ) → Type 0
AreShort texts = AllByRecursion Short texts

-- ---- numbers
pub number-short : (n : ℕ) → n < 10 ^ 18 → length (decimal n) ≤ 18
number-short n lt = length-decimal-le 18 n (omega arith) lt (omega (arith, lt))

power-short : (p : ℤ) → nat_abs p ≤ most_power → Short (signed_decimal p)
power-short (pos n) le = (let s = number-short n (omega (arith, le)) in omega (arith, s))
power-short (negsuc n) le = (let s = number-short (suc n) (omega (arith, le)) in omega (arith, s))

-- ---- locations
pub datums-short : (entries : List LocationEntry) → AreShort (flat_map spell_location entries)
    → AllByRecursion AreShort (datums_of entries)
datums-short [] h = tt
datums-short (Datum texts ∷ entries) h = (
  each-left Short texts (flat_map spell_location entries) h.1,
  datums-short entries (each-right Short texts (flat_map spell_location entries) h.1),
)
datums-short (Product factors ∷ entries) h =
    datums-short entries (each-right Short (spell_location (Product factors)) (flat_map spell_location entries) h)

factors-short : (datums : ℕ) → datums < 10 ^ 18 → (w : List Pair) → IsOver datums w
    → AllByRecursion (λ (p : Pair). nat_abs p.power ≤ most_power) w →
    AreShort (flat_map spell_factor (map (λ (p : Pair). factor p.datum p.power) w))
factors-short datums few [] over small = tt
factors-short datums few (p ∷ w) over small =
    let high = over.0.1 in
    let number = number-short p.datum (omega (arith, high, few)) in
    (omega (arith, number), (power-short p.power small.0, factors-short datums few w over.1 small.1))

pub product-short : (datums : ℕ) → datums < 10 ^ 18 → (w : List Pair) → IsWordOver datums w
    → AreShort (spell_location (product_of w))
product-short datums few w is =
    let two = number-short 2 (omega arith) in let none = number-short 0 (omega arith) in (
      omega (arith, two),
      each-append Short (flat_map spell_factor (map (λ (p : Pair). factor p.datum p.power) w)) (decimal 0 ∷ [])
          (factors-short datums few w is.over (recursion_from_All (λ (p : Pair). nat_abs p.power ≤ most_power) w
          is.held.small)) (omega (arith, none), tt),
    )

datum-entries : (datums : List (List (List ℕ))) → AllByRecursion AreShort datums
    → AreShort (flat_map spell_location (map Datum datums))
datum-entries [] h = tt
datum-entries (texts ∷ datums) h =
    (let one = number-short 1 (omega arith) in (
      omega (arith, one),
      each-append Short texts (flat_map spell_location (map Datum datums)) h.0
          (datum-entries datums h.1),
    ))

product-entries : (datums : ℕ) → datums < 10 ^ 18 → (words : List (List Pair))
    → AllByRecursion (IsWordOver datums) words → AreShort (flat_map spell_location (map product_of words))
product-entries datums few [] over = tt
product-entries datums few (w ∷ words) over =
    each-append Short (spell_location (product_of w)) (flat_map spell_location (map product_of words))
    (product-short datums few w over.0) (product-entries datums few words over.1)

pub written-entries : (datums : List (List (List ℕ))) (words : List (List Pair)) → length datums < 10 ^ 18
    → AllByRecursion AreShort datums → AllByRecursion (IsWordOver (length datums)) words →
    AreShort (flat_map spell_location (written_section datums words))
written-entries datums words few short over =
    subst AreShort (sym (flat_map-append spell_location (map Datum datums) (map product_of words)))
    (each-append Short (flat_map spell_location (map Datum datums)) (flat_map spell_location (map product_of words))
    (datum-entries datums short) (product-entries (length datums) few words over))

-- ---- sections
pub section-short : {A : Type 0} (word : List ℕ) (spell : A → List (List ℕ)) (entries : List A) → Short word
    → length entries < 10 ^ 18 → AreShort (flat_map spell entries) → AreShort (section word spell entries)
section-short word spell entries short few entries_short =
    (let n = number-short (length entries) few in (short, (omega (arith, n), entries_short)))

-- ---- records
name-short : (k : Kind) → Short (name_of k)
name-short Ve = omega arith
name-short Ed = omega arith
name-short Wi = omega arith
name-short Fa = omega arith
name-short Sh = omega arith
name-short So = omega arith
name-short CS = omega arith
name-short Co = omega arith

pub use-short : (u : FileUse) → u.number < 10 ^ 18 → u.location < 10 ^ 18 → AreShort (spell_use u)
use-short u number location =
    (let a = number-short u.number number in let b = number-short u.location location in
    (omega (arith, a), (omega (arith, b), tt)))

-- ---- records
pub record-short : (version : ℕ) (r : Record) → AreShort (spell_payload version r.head.payload)
    → AllByRecursion (λ (u : FileUse). (u.number < 10 ^ 18) × (u.location < 10 ^ 18)) r.uses →
    AreShort (spell_record version r)
record-short version r payload uses =
    each-append Short (spell_head version r.head) (flat_map spell_use r.uses ++ codes "*" ∷ []) (
      name-short r.head.kind,
      each-append Short (spell_payload version r.head.payload) (spell_flags r.head.flags ∷ []) payload
          (omega arith, tt),
    )
    (each-append Short (flat_map spell_use r.uses) (codes "*" ∷ [])
    (each-flat_map (λ (u : FileUse). (u.number < 10 ^ 18) × (u.location < 10 ^ 18)) Short spell_use
    (λ u h. use-short u h.0 h.1) r.uses uses) (omega arith, tt))

-- the data of a record of the file
pub payload-of_record : (version : ℕ) (r : Record) → AreShort (spell_record version r)
    → AreShort (spell_payload version r.head.payload)
payload-of_record version r h =
    each-left Short (spell_payload version r.head.payload) (spell_flags r.head.flags ∷ [])
    (each-left Short (spell_head version r.head) (flat_map spell_use r.uses ++ codes "*" ∷ []) h).1

payload-perhaps : (version : ℕ) (b : Bool) (h : Head) → AreShort (spell_payload version h.payload)
    → AreShort (spell_payload version (if b then h else rebuilt h).payload)
payload-perhaps version true h s = s
payload-perhaps version false h s = s

pub payload-chosen : (version : ℕ) (o : Option Record) (same : Bool)
    → ((r : Record) → o ≡ Some r → AreShort (spell_payload version r.head.payload)) →
    AreShort (spell_payload version (option_map_or (λ (r : Record). if same then r.head else rebuilt r.head) o
    made_head).payload)
payload-chosen version None same h = tt
payload-chosen version (Some r) same h = payload-perhaps version same r.head (h r refl)

-- with other numbers of locations
renumbered-short : (renumber : ℕ → ℕ) (ps : List Part) → AreShort (map part_text ps)
    → ((n : ℕ) → Contains (flat_map location_of_part ps) n → renumber n < 10 ^ 18)
    → AreShort (map part_text (map (renumbered_part renumber) ps))
renumbered-short renumber [] short small = tt
renumbered-short renumber (token text ∷ ps) short small = (short.0, renumbered-short renumber ps short.1 small)
renumbered-short renumber (entry table n ∷ ps) short small = (short.0, renumbered-short renumber ps short.1 small)
renumbered-short renumber (located n ∷ ps) short small =
    let number = number-short (renumber n) (small n (Contains-here n (flat_map location_of_part ps))) in (
      omega (arith, number),
      renumbered-short renumber ps short.1
          (λ m k. small m (Contains-there n m (flat_map location_of_part ps) k)),
    )

pub renumbered_payload-short : RenumberingKeepsParts → (version : ℕ) (renumber : ℕ → ℕ) (p : Payload)
    → AreShort (spell_payload version p) → ((n : ℕ) → Contains (data_locations version p) n → renumber n < 10 ^ 18) →
    AreShort (spell_payload version (renumbered_payload renumber p))
renumbered_payload-short law version renumber p short small =
    subst (λ ps. AreShort (map part_text ps)) (sym (law.parts version renumber p))
    (renumbered-short renumber (payload_parts version p) short small)

-- ---- whole files
-- the tokens after the tables
abbrev pub shape_tokens : File → List (List ℕ)
shape_tokens f = section (codes "TShapes") (spell_record f.version) f.records ++ spell_use f.root

-- the data under which a tree is written are a record's
pub payload-for : (f : File) → IsSound f → (x : Tree) → AreShort (spell_payload f.version (head_for f x).payload)
payload-for f sound x =
    payload-chosen f.version (record_of f (origin x)) (tree_eq x (tree_of_record f (origin x))) (λ r e.
    payload-of_record f.version r (each-contains (λ (q : Record). AreShort (spell_record f.version q)) f.records r
    (each-of Short (spell_record f.version) f.records
    (each-left Short (section (codes "TShapes") (spell_record f.version) f.records) (spell_use f.root)
    (each-right Short (spell_tables f) (shape_tokens f) sound.tokens)).1.1)
    (Contains-at f.records (length f.records - origin x) r e)))

pub file-short : (g : File) → AreShort (spell_tables g) → length g.locations < 10 ^ 18 → length g.records < 10 ^ 18 →
    ((k : ℕ) (r : Record) → IsNumberOf (length g.records) k → record_of g k ≡ Some r → IsRecord g k r) →
    ((k : ℕ) (r : Record) → IsNumberOf (length g.records) k → record_of g k ≡ Some r
    → AreShort (spell_payload g.version r.head.payload)) →
    IsNumberOf (length g.records) g.root.number → g.root.location ≤ length g.locations → AreShort (spell_file g)
file-short g tables locations records each payloads root location =
    each-append Short (spell_tables g) (shape_tokens g) tables
    (each-append Short (section (codes "TShapes") (spell_record g.version) g.records) (spell_use g.root)
    (section-short (codes "TShapes") (spell_record g.version) g.records (omega arith) records
    (each-flat_map (λ (r : Record). AreShort (spell_record g.version r)) Short (spell_record g.version) (λ r h. h)
    g.records
    (recursion_from_All (λ (r : Record). AreShort (spell_record g.version r)) g.records (λ i d lt.
    let k : ℕ = length g.records - i in
    let back : length g.records - k ≡ i = omega (arith, lt) in
    let number : IsNumberOf (length g.records) k = (omega (arith, lt), omega arith) in
    let r : Record = get_or g.records i d in
    let at : record_of g k ≡ Some r = ap (slice_get g.records) back ∙ slice_get-get_or g.records i d lt in
    record-short g.version r (payloads k r number at)
    (recursion_from_All (λ (u : FileUse). (u.number < 10 ^ 18) × (u.location < 10 ^ 18)) r.uses
    (All-weaker (IsUse g k r.head.kind) (λ (u : FileUse). (u.number < 10 ^ 18) × (u.location < 10 ^ 18))
    (λ u is. (let named = is.named in let place = is.location in
    (omega (arith, named, records), omega (arith, place, locations)))) r.uses (each k r number at).uses))))))
    (let high = root.1 in use-short g.root (omega (arith, high, records)) (omega (arith, location, locations))))
