-- A text is read exactly as it is spelled.
use Rattle.std.proofs.Common.{◌≡◌, ℕ, ◌≤◌, nat_le, true, false, inl, inr, Bool, if◌then◌else◌, List, [], ◌∷◌, ◌++◌}
use Rattle.std.proofs.Common.{length, map, Option, Some, None, Result, Ok, Err, refl, sym, ap, subst, ◌∙◌, append-nil}
use Rattle.std.proofs.Common.{arith}
use Rattle.std.specs.Prelude.{codes, nat_eq}
use Rattle.std.specs.List.{AllByRecursion}
use Rattle.std.specs.Cmp.Lexicographic.{pointwise}
use Rattle.std.proofs.lemmas.Bool.{leb-true, le-leb}
use Rattle.std.proofs.lemmas.Slice.Eq.{bytes_eq-Decides}
use Rattle.brep_tokens.specs.Laws.{FormsAreExact, ScannerGivesTokens}
use Rattle.brep_tokens.specs.Tokens.{Word, Head, missing, unread, version, head_at, words_at, after_head, tokens_of}
use Rattle.brep_tokens.specs.declared.text.Token.{Token}
use Rattle.brep_tokens.specs.declared.fault.ReadFault.{ReadFault}
use Rattle.entry_readers.specs.Reading.{Read, fault, more}
use Rattle.entry_readers.specs.Begins.{Begins, FieldsAreExact}
use Rattle.orientation.specs.Laws.{SignsAndNamesTell}
use Rattle.location_table.specs.Sections.{SectionsAreExact}
use Rattle.curve_tables.specs.Laws.{CurvesAreExact}
use Rattle.surface_tables.specs.Laws.{SurfacesAreExact}
use Rattle.mesh_tables.specs.Laws.{MeshesAreExact}
use Rattle.tshape_data.specs.Laws.{HeadsAreExact}
use Rattle.tshape_data.specs.RepReading.{most_reps}
use Rattle.brep_file.specs.declared.file.File.{File}
use Rattle.brep_file.specs.Sound.{Limits, IsWithin, IsSound}
use Rattle.brep_file.specs.Spelling.{spell_file}
use Rattle.brep_file.specs.Reads.{IsSpelling, Spells, texts_of}
use Rattle.brep_file.specs.RecordLeft.{IsVersionRead}
use Rattle.brep_file.specs.FileReading.{begun, from_locations, short_front, too_long, ended, tail_fault, after_zero}
use Rattle.brep_file.specs.FileReading.{closed, finished, read_words, read_head, read_text}
use Rattle.brep_file.proofs.Basics.{some_is}
use Rattle.brep_file.proofs.FileLaws.{file_takes, file_again}
use Rattle.brep_file.proofs.SoundLaws.{sound_from, within_from}
use Rattle.brep_file.proofs.SoundAgain.{counted, fits_from}

-- ---- tokens of at most 128 bytes

abbrev pub AreShort : List (List ℕ) → Type 0
AreShort texts = AllByRecursion (λ text. length text ≤ 128) texts

abbrev pub token_texts : List Token → List (List ℕ)
token_texts ts = map (λ t. t.text) ts

guard_none : (b : Bool) (o : Option ReadFault) (x : ReadFault) → (if b then o else Some x) ≡ None
    → (b ≡ true) × (o ≡ None)
guard_none true o x e = (refl, e)
guard_none false o x e = absurd cc

all_short : (ws : List Word) → too_long ws ≡ None
    → AreShort (texts_of ws) × (token_texts (short_front ws) ≡ texts_of ws)
all_short [] e = (tt, refl)
all_short (w ∷ ws) e =
    let g = guard_none (nat_le (length w.text) 128) (too_long ws) _ e in
    let rest = all_short ws g.1 in
    ((leb-true (length w.text) 128 g.0, rest.0), rw g.0 (ap (λ z. w.text ∷ z) rest.1))

pub short_again : (ws : List Word) → AreShort (texts_of ws)
    → (too_long ws ≡ None) × (token_texts (short_front ws) ≡ texts_of ws)
short_again [] are = (refl, refl)
short_again (w ∷ ws) are =
    let rest = short_again ws are.1 in
    (rw (le-leb (length w.text) 128 are.0) rest.0, rw (le-leb (length w.text) 128 are.0) (ap (λ z. w.text ∷ z) rest.1))

-- ---- tokens that begin with texts

begins_texts : (ts : List Token) (xs : List (List ℕ)) (rest : List Token) → Begins ts xs rest
    → token_texts ts ≡ xs ++ token_texts rest
begins_texts ts [] rest b = ap token_texts b
begins_texts [] (x ∷ xs) rest b = absurd b
begins_texts (t ∷ ts) (x ∷ xs) rest b = rw (b.0, begins_texts ts xs rest b.1) refl

abbrev tail_of : List (List ℕ) → List (List ℕ)
tail_of [] = []
tail_of (x ∷ xs) = xs

abbrev first_of : List ℕ → List (List ℕ) → List ℕ
first_of y [] = y
first_of y (x ∷ xs) = x

pub texts_begin : (ts : List Token) (xs ys : List (List ℕ)) → token_texts ts ≡ xs ++ ys
    → (rest : List Token) × Begins ts xs rest × (token_texts rest ≡ ys)
texts_begin ts [] ys e = (ts, refl, e)
texts_begin [] (x ∷ xs) ys e = absurd cc
texts_begin (t ∷ ts) (x ∷ xs) ys e =
    let rest = texts_begin ts xs ys (ap tail_of e) in
    (rest.0, (ap (first_of []) e, rest.1), rest.2)

-- the texts that a file is spelled by are among those of the words
short_part : (xs ys : List (List ℕ)) → AreShort (xs ++ ys) → AreShort xs
short_part [] ys are = tt
short_part (x ∷ xs) ys are = (are.0, short_part xs ys are.1)

pub short_joined : (xs ys : List (List ℕ)) → AreShort xs → AreShort ys → AreShort (xs ++ ys)
short_joined [] ys are others = others
short_joined (x ∷ xs) ys are others = (are.0, short_joined xs ys are.1 others)

-- ---- after the root use

ended_ok : (f g : File) (o : Option ReadFault) → ended f o ≡ Ok g → (o ≡ None) × (f ≡ g)
ended_ok f g None e = (refl, cc)
ended_ok f g (Some x) e = absurd cc

-- nothing more, or a closing `0`
abbrev IsClosing : List Token → Type 0
IsClosing [] = Unit {0}
IsClosing (t ∷ []) = t.text ≡ codes "0"
IsClosing (t ∷ u ∷ ts) = ⊥

after_ok : (f g : File) (long : Option ReadFault) (t : Token) (ts : List Token) → t.text ≡ codes "0"
    → after_zero f long ts ≡ Ok g → (long ≡ None) × (f ≡ g) × IsClosing (t ∷ ts)
after_ok f g long t [] zero e = (let x = ended_ok f g long e in (x.0, x.1, zero))
after_ok f g long t (u ∷ ts) zero e = absurd cc

branch : {A : Type 0} (b : Bool) (r : Result A ReadFault) (d : ReadFault) (y : A) → (if b then r else Err d) ≡ Ok y
    → (b ≡ true) × (r ≡ Ok y)
branch true r d y e = (refl, e)
branch false r d y e = absurd cc

closed_ok : (f g : File) (long : Option ReadFault) (ts : List Token) → closed f long ts ≡ Ok g
    → (long ≡ None) × (f ≡ g) × IsClosing ts
closed_ok f g long [] e = (let x = ended_ok f g long e in (x.0, x.1, tt))
closed_ok f g long (t ∷ ts) e =
    let z = branch (pointwise nat_eq t.text (codes "0")) (after_zero f long ts) (tail_fault t) g e in
    after_ok f g long t ts ((bytes_eq-Decides t.text (codes "0")).0 z.0) z.1

abbrev read_ok : File → List Token → Read File
read_ok f rest = Ok (f, rest)

abbrev file_ok : File → Result File ReadFault
file_ok f = Ok f

same_file : (f g : File) → file_ok f ≡ file_ok g → f ≡ g
same_file f g e = cc

finished_ok : (size : ℕ) (ws : List Word) (r : Read File) (f : File) → finished size ws r ≡ Ok f
    → (rest : List Token) × (r ≡ Ok (f, rest)) × (too_long ws ≡ None) × IsClosing rest
finished_ok size ws (Ok x) f e =
    let c = closed_ok x.0 f (too_long ws) x.1 e in
    (x.1, ap (λ (g : File). read_ok g x.1) c.1, c.0, c.2)
finished_ok size ws (Err more) f e = absurd cc
finished_ok size ws (Err (fault x)) f e = absurd cc

closing_texts : (ts : List Token) → IsClosing ts → (f : File) (texts : List (List ℕ))
    → texts ≡ spell_file f ++ token_texts ts → IsSpelling texts f
closing_texts [] is f texts e = inl (e ∙ append-nil (spell_file f))
closing_texts (t ∷ []) is f texts e = inr (e ∙ ap (λ z. spell_file f ++ z ∷ []) is)
closing_texts (t ∷ u ∷ ts) is f texts e = absurd is

closed_again : (f : File) (ts : List Token) (ys : List (List ℕ)) → token_texts ts ≡ ys → (ys ≡ [])
    → closed f None ts ≡ Ok f
closed_again f [] ys e none = refl
closed_again f (t ∷ ts) ys e none = absurd cc

no_second : {x : List ℕ} {xs : List (List ℕ)} → x ∷ xs ≡ [] → ⊥
no_second e = absurd cc

closed_zero : (f : File) (ts : List Token) → token_texts ts ≡ codes "0" ∷ [] → closed f None ts ≡ Ok f
closed_zero f [] e = absurd cc
closed_zero f (t ∷ []) e =
    let zero : pointwise nat_eq t.text (codes "0") ≡ true =
    (bytes_eq-Decides t.text (codes "0")).1 (ap (first_of []) e) in
    rw zero refl
closed_zero f (t ∷ u ∷ ts) e = absurd (no_second (ap tail_of e))

-- ---- the whole text

module _ (scans : ScannerGivesTokens) (forms : FormsAreExact) (fields : FieldsAreExact) (names : SignsAndNamesTell)
    (locations : SectionsAreExact) (curves : CurvesAreExact) (meshes : MeshesAreExact) (surfaces : SurfacesAreExact)
    (heads : HeadsAreExact) where
  words_take : (limits : Limits) (size v : ℕ) (ws : List Word) (f : File) → IsVersionRead v
      → read_words limits size v ws ≡ Ok f → (f.version ≡ v) × IsSpelling (texts_of ws) f × IsSound f
      × IsWithin limits f
  words_take limits size v ws f known e =
      let whole = finished_ok size ws (from_locations limits (begun v) (short_front ws)) f e in
      let file = file_takes forms fields names locations curves meshes surfaces heads limits v
      (short_front ws) whole.0 f whole.1 in
      let short = all_short ws whole.2 in
      let texts : texts_of ws ≡ spell_file f ++ token_texts whole.0 =
      sym short.1 ∙ begins_texts (short_front ws) (spell_file f) whole.0 file.0 in
      let own = short_part (spell_file f) (token_texts whole.0) (subst AreShort texts short.0) in (
        file.2,
        closing_texts whole.0 whole.3 f (texts_of ws) texts,
        sound_from names f limits file.1 (subst IsVersionRead (sym file.2) known) own,
        within_from names f limits file.1,
      )

  head_takes : (limits : Limits) (size : ℕ) (h : Head) (f : File)
      → ((v : ℕ) (ws : List Word) → after_head h ≡ Some (v, ws) → IsVersionRead v) → read_head limits size h ≡ Ok f
      → ((ws : List Word) × (after_head h ≡ Some (f.version, ws)) × IsSpelling (texts_of ws) f) × IsSound f
      × IsWithin limits f
  head_takes limits size missing f known e = absurd cc
  head_takes limits size (unread line k) f known e = absurd cc
  head_takes limits size (version v k rest) f known e =
      let w = words_take limits size v (words_at k rest) f (known v (words_at k rest) refl) e in
      ((words_at k rest, ap (λ (m : ℕ). Some (m, words_at k rest)) (sym w.0), w.1), w.2, w.3)

  pub takes : (limits : Limits) (bytes : List ℕ) (f : File) → read_text limits bytes ≡ Ok f
      → Spells bytes f × IsWithin limits f
  unfolding read_text tokens_of
  takes limits bytes f e =
      let h = head_takes limits (length bytes) (head_at true 1 0 bytes) f
      (λ v ws is. (scans.version bytes v ws is).2) e in
      (record { tokens = h.0; sound = h.1 }, h.2)

  -- what is read of words with the spelling of a file and then these texts
  spelled_again : (limits : Limits) (size : ℕ) (ws : List Word) (f : File) (ys : List (List ℕ))
      → texts_of ws ≡ spell_file f ++ ys → AreShort ys → IsSound f → IsWithin limits f
      → ((ts : List Token) → token_texts ts ≡ ys → closed f None ts ≡ Ok f) → read_words limits size f.version ws ≡ Ok f
  spelled_again limits size ws f ys texts few sound within closes =
      let short = short_again ws (subst AreShort (sym texts) (short_joined (spell_file f) ys sound.tokens few)) in
      let split = texts_begin (short_front ws) (spell_file f) ys (short.1 ∙ texts) in
      let read = file_again forms fields names locations curves meshes surfaces heads limits (short_front ws) split.0 f
      split.1 (fits_from names f sound most_reps limits (counted limits f within)) in
      rw (read, short.0) (closes split.0 split.2)

  words_again : (limits : Limits) (size : ℕ) (ws : List Word) (f : File) → IsSpelling (texts_of ws) f → IsSound f
      → IsWithin limits f → read_words limits size f.version ws ≡ Ok f
  words_again limits size ws f (inl e) sound within =
      spelled_again limits size ws f [] (e ∙ sym (append-nil (spell_file f))) tt sound within
      (λ ts e. closed_again f ts [] e refl)
  words_again limits size ws f (inr e) sound within =
      spelled_again limits size ws f (codes "0" ∷ []) e (omega arith, tt) sound within (closed_zero f)

  head_again : (limits : Limits) (size : ℕ) (h : Head) (ws : List Word) (f : File) → after_head h ≡ Some (f.version, ws)
      → IsSpelling (texts_of ws) f → IsSound f → IsWithin limits f → read_head limits size h ≡ Ok f
  head_again limits size missing ws f e spelled sound within = absurd cc
  head_again limits size (unread line k) ws f e spelled sound within = absurd cc
  head_again limits size (version v k rest) ws f e spelled sound within =
      let pair : (v, words_at k rest) ≡ (f.version, ws) = some_is e in
      let same : words_at k rest ≡ ws = ap (λ (p : ℕ × List Word). p.1) pair in
      let one : v ≡ f.version = ap (λ (p : ℕ × List Word). p.0) pair in
      ap (λ (m : ℕ). read_words limits size m (words_at k rest)) one ∙ ap (read_words limits size f.version) same
      ∙ words_again limits size ws f spelled sound within

  pub again : (limits : Limits) (bytes : List ℕ) (f : File) → Spells bytes f → IsWithin limits f
      → read_text limits bytes ≡ Ok f
  unfolding read_text tokens_of
  again limits bytes f spells within = head_again limits (length bytes) (head_at true 1 0 bytes) spells.tokens.0 f
      spells.tokens.1 spells.tokens.2 spells.sound within
