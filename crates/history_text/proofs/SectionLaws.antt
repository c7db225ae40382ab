-- A section is read exactly as it is spelled.
use Rattle.std.proofs.Common.{◌≡◌, ℕ, zero, suc, ◌+◌, ◌-◌, ◌<◌, List, [], ◌∷◌, ◌++◌, length, Option, Some, None, Ok, refl, sym, ap, subst, ◌∙◌, append_assoc, arith}
use Rattle.std.specs.Fmt.{decimal}
use Rattle.std.specs.List.{join_with_byte}
use Rattle.std.proofs.lemmas.List.{append-nil}
use Rattle.brep_tokens.specs.Laws.{FormsAreExact}
use Rattle.brep_tokens.specs.Written.{line_text, lines_text}
use Rattle.lists.proofs.Results.{bind_ok, ok_is}
use Rattle.history_text.specs.HistoryText.{IsShort}
use Rattle.history_text.specs.LineForms.{count_of_line, cut_at}
use Rattle.history_text.specs.Reading.{Left, first_line, line_at, lines_at, said_before, section_at}
use Rattle.history_text.proofs.LineCuts.{Lacks, cut_again, cut_joins}
use Rattle.history_text.proofs.FormLaws.{count_there}

abbrev pub left_at : ℕ → List ℕ → Left
left_at n bytes = record { number = n; bytes = bytes }

-- ---- one line

said_ok : {A : Type 0} (n : ℕ) (rest : List ℕ) (o : Option A) (x : A) (left : Left) → said_before n rest o ≡ Ok (x, left) → (o ≡ Some x) × (rest ≡ left.bytes)
said_ok {A} n rest None x left e = absurd cc
said_ok {A} n rest (Some y) x left e =
    let same = ok_is {A = A × Left} {E = ℕ} (y, left_at (n + 1) rest) (x, left) e in
    (ap (λ (q : A × Left). Some q.0) same, ap (λ (q : A × Left). q.1.bytes) same)

line_ok : {A : Type 0} (form : List ℕ → Option A) (n : ℕ) (o : Option (List ℕ × List ℕ)) (x : A) (left : Left) → first_line form n o ≡ Ok (x, left)
    → (line : List ℕ) × (o ≡ Some (line, left.bytes)) × (form line ≡ Some x)
line_ok form n None x left e = absurd cc
line_ok form n (Some cut) x left e =
    let s = said_ok n cut.1 (form cut.0) x left e in
    (cut.0, ap (λ z. Some (cut.0, z)) s.1, s.0)

pub line_there : {A : Type 0} (form : List ℕ → Option A) (old : Left) (x : A) (left : Left) → line_at form old ≡ Ok (x, left)
    → (line : List ℕ) × (form line ≡ Some x) × (old.bytes ≡ line ++ 10 ∷ left.bytes)
line_there form old x left e =
    let s = line_ok form old.number (cut_at 10 old.bytes) x left e in
    (s.0, s.2, cut_joins 10 old.bytes s.0 left.bytes s.1)

pub line_again : {A : Type 0} (form : List ℕ → Option A) (line : List ℕ) (x : A) (n : ℕ) (bytes rest : List ℕ) → Lacks 10 line → form line ≡ Some x → bytes ≡ line ++ 10 ∷ rest
    → line_at form (left_at n bytes) ≡ Ok (x, left_at (n + 1) rest)
line_again form line x n bytes rest lacks is spelled =
    let cut : cut_at 10 bytes ≡ Some (line, rest) = ap (λ z. cut_at 10 z) spelled ∙ cut_again 10 line rest lacks in
    rw (cut, is) refl

-- ---- rows: lines whose form depends on what the ones before them said

-- what is said after this, with the words of its lines
abbrev pub rows : {A : Type 0} → (List A → A → List (List ℕ)) → List A → List A → List (List (List ℕ))
rows words said [] = []
rows words said (x ∷ xs) = words said x ∷ rows words (said ++ x ∷ []) xs

abbrev pub AllFit : {A : Type 0} → (List A → A → Type 0) → List A → List A → Type 0
AllFit Fits said [] = Unit {0}
AllFit Fits said (x ∷ xs) = Fits said x × AllFit Fits (said ++ x ∷ []) xs

pub record AreRows {A : Type 0} (due : List A → List ℕ → Option A) (words : List A → A → List (List ℕ)) (Fits : List A → A → Type 0) : Type 0 where
  pub there : (said : List A) (line : List ℕ) (x : A) → due said line ≡ Some x → Fits said x × (line ≡ join_with_byte 32 (words said x))
  pub again : (said : List A) (x : A) → Fits said x → due said (join_with_byte 32 (words said x)) ≡ Some x
  pub lacks : (said : List A) (x : A) → Fits said x → Lacks 10 (join_with_byte 32 (words said x))

-- a line's text before others
ended : (line rest : List ℕ) → (line ++ 10 ∷ []) ++ rest ≡ line ++ 10 ∷ rest
ended line rest = append_assoc line (10 ∷ []) rest

pub begins : (words : List (List ℕ)) (lines : List (List (List ℕ))) (rest : List ℕ) → lines_text (words ∷ lines) ++ rest ≡ join_with_byte 32 words ++ 10 ∷ (lines_text lines ++ rest)
begins words lines rest = append_assoc (line_text words) (lines_text lines) rest ∙ ended (join_with_byte 32 words) (lines_text lines ++ rest)

pub pushed : {A : Type 0} (said : List A) (x : A) (new : List A) → (said ++ x ∷ []) ++ new ≡ said ++ x ∷ new
pushed said x new = append_assoc said (x ∷ []) new

module _ {A : Type 0} (due : List A → List ℕ → Option A) (words : List A → A → List (List ℕ)) (Fits : List A → A → Type 0) (are : AreRows due words Fits) where
  pub lines_there : (n : ℕ) (said : List A) (old : Left) (xs : List A) (left : Left) → lines_at due said n old ≡ Ok (xs, left)
      → (new : List A) × (xs ≡ said ++ new) × (length new ≡ n) × AllFit Fits said new × (old.bytes ≡ lines_text (rows words said new) ++ left.bytes)
  lines_there zero said old xs left e =
      let same = ok_is {A = List A × Left} {E = ℕ} (said, old) (xs, left) e in
      ([], sym (ap (λ (q : List A × Left). q.0) same) ∙ sym (append-nil said), refl, tt, ap (λ (q : List A × Left). q.1.bytes) same)
  lines_there (suc n) said old xs left e =
      let b = bind_ok (line_at (due said) old) (λ next. lines_at due (said ++ next.0 ∷ []) n next.1) (xs, left) e in
      let l = line_there (due said) old b.0.0 b.0.1 b.1 in
      let r = are.there said l.0 b.0.0 l.1 in
      let more = lines_there n (said ++ b.0.0 ∷ []) b.0.1 xs left b.2 in (
        b.0.0 ∷ more.0,
        more.1 ∙ pushed said b.0.0 more.0,
        ap suc more.2,
        (r.0, more.3),
        l.2 ∙ ap (λ z. z ++ 10 ∷ b.0.1.bytes) r.1 ∙ ap (λ z. join_with_byte 32 (words said b.0.0) ++ 10 ∷ z) more.4 ∙ sym (begins (words said b.0.0) (rows words (said ++ b.0.0 ∷ []) more.0) left.bytes),
      )

  -- ---- sections

  module _ (forms : FormsAreExact) where
    pub section_there : (word : List ℕ) (old : Left) (xs : List A) (left : Left) → section_at word due old ≡ Ok (xs, left)
        → IsShort (length xs) × AllFit Fits [] xs × (old.bytes ≡ lines_text ((word ∷ decimal (length xs) ∷ []) ∷ rows words [] xs) ++ left.bytes)
    section_there word old xs left e =
        let b = bind_ok (line_at (count_of_line word) old) (λ count. lines_at due [] count.0 count.1) (xs, left) e in
        let l = line_there (count_of_line word) old b.0.0 b.0.1 b.1 in
        let c = count_there forms word l.0 b.0.0 l.1 in
        let more = lines_there b.0.0 [] b.0.1 xs left b.2 in
        let count : b.0.0 ≡ length xs = sym more.2 ∙ ap (λ (z : List A). length z) (sym more.1) in (
          subst IsShort count c.0,
          subst (AllFit Fits []) (sym more.1) more.3,
          l.2 ∙ ap (λ z. z ++ 10 ∷ b.0.1.bytes) c.1 ∙ ap (λ k. (word ++ 32 ∷ decimal k) ++ 10 ∷ b.0.1.bytes) count
              ∙ ap (λ z. (word ++ 32 ∷ decimal (length xs)) ++ 10 ∷ z) (more.4 ∙ ap (λ (z : List A). lines_text (rows words [] z) ++ left.bytes) (sym more.1))
              ∙ sym (begins (word ∷ decimal (length xs) ∷ []) (rows words [] xs) left.bytes),
        )

-- ---- a row more

pub row_read : {A : Type 0} (due : List A → List ℕ → Option A) (said : List A) (n : ℕ) (old new : Left) (x : A) → 0 < n → line_at (due said) old ≡ Ok (x, new)
    → lines_at due said n old ≡ lines_at due (said ++ x ∷ []) (n - 1) new
row_read due said zero old new x some e = absurd (omega (arith, some))
row_read due said (suc n) old new x some e = let k : suc n - 1 ≡ n = omega arith in rw (e, k) refl
