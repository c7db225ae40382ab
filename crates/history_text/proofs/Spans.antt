-- Readers of so many lines: these lines are read whole, none of them is blamed, and where the text ends among them the next one is.
use Rattle.std.proofs.Common.{◌≡◌, ℕ, zero, suc, ◌+◌, ◌-◌, ◌<◌, ◌≤◌, inl, inr, List, [], ◌∷◌, ◌++◌, length, take, Option, Some, Ok, Err, refl, sym, ap, subst, ◌∙◌, append_assoc, arith}
use Rattle.std.specs.Fmt.{decimal}
use Rattle.std.specs.List.{join_with_byte}
use Rattle.std.proofs.Math.Seq.{take-append-add}
use Rattle.std.proofs.lemmas.Bool.{cases_lt}
use Rattle.std.proofs.lemmas.Grind.{flat_map-append}
use Rattle.std.proofs.lemmas.List.{append-nil, length-append, take-append-le}
use Rattle.brep_tokens.specs.Laws.{FormsAreExact}
use Rattle.brep_tokens.specs.Written.{line_text, lines_text}
use Rattle.lists.specs.Results.{◌>>=◌}
use Rattle.history_text.specs.HistoryText.{IsShort}
use Rattle.history_text.specs.LineForms.{count_of_line}
use Rattle.history_text.specs.Reading.{Left, Read, line_at, lines_at, section_at}
use Rattle.history_text.proofs.FormLaws.{count_again}
use Rattle.history_text.proofs.LineCuts.{Lacks, Lacks-append, decimal_lacks}
use Rattle.history_text.proofs.Rises.{AtLeast, Rises, rises_line, rises_lines, rises_then}
use Rattle.history_text.proofs.SectionLaws.{AllFit, AreRows, begins, left_at, line_again, pushed, rows}

pub record Spans {A : Type 0} (read : Left → Read A) (lines : List (List (List ℕ))) (x : A) : Type 0 where
  pub whole : (m : ℕ) (rest : List ℕ) → read (left_at m (lines_text lines ++ rest)) ≡ Ok (x, left_at (m + length lines) rest)
  pub short : (m k : ℕ) → k < length lines → read (left_at m (lines_text (take k lines))) ≡ Err (m + k)
  pub front : (m k : ℕ) (rest : List ℕ) → k ≤ length lines → AtLeast (m + k) (read (left_at m (lines_text (take k lines) ++ rest)))

-- no lines
pub spans_none : {A : Type 0} (x : A) → Spans (λ left. Ok (x, left)) [] x
spans_none {A} x = record {
  whole = λ m rest. (let e : m ≡ m + 0 = omega arith in ap {B = Read A} (λ (k : ℕ). Ok (x, left_at k rest)) e);
  short = λ m k lt. absurd (omega (arith, lt));
  front = λ m k rest le. omega (arith, le);
}

at_once : {A : Type 0} (x : A) (n : ℕ) (rest : List ℕ) → AtLeast {A = A} n (Ok (x, left_at n rest))
at_once x n rest = omega arith

-- one line
pub spans_line : {A : Type 0} (form : List ℕ → Option A) (words : List (List ℕ)) (x : A) → Lacks 10 (join_with_byte 32 words) → form (join_with_byte 32 words) ≡ Some x
    → Spans (line_at form) (words ∷ []) x
spans_line {A} form words x lacks is = record {
  whole = whole_line;
  short = short_line;
  front = front_line;
}
  where
    whole_line : (m : ℕ) (rest : List ℕ) → line_at form (left_at m (lines_text (words ∷ []) ++ rest)) ≡ Ok (x, left_at (m + 1) rest)
    whole_line m rest = line_again form (join_with_byte 32 words) x m (lines_text (words ∷ []) ++ rest) rest lacks is (begins words [] rest)

    front_line : (m k : ℕ) (rest : List ℕ) → k ≤ 1 → AtLeast (m + k) (line_at form (left_at m (lines_text (take k (words ∷ [])) ++ rest)))
    front_line m zero rest le = let e : m ≡ m + 0 = omega arith in subst (λ n. AtLeast n (line_at form (left_at m rest))) e (rises_line form (left_at m rest))
    front_line m (suc zero) rest le = subst (AtLeast {A = A} (m + 1)) (sym (whole_line m rest)) (at_once x (m + 1) rest)
    front_line m (suc (suc k)) rest le = absurd (omega (arith, le))

    short_line : (m k : ℕ) → k < 1 → line_at form (left_at m (lines_text (take k (words ∷ [])))) ≡ Err (m + k)
    short_line m zero lt = let e : m ≡ m + 0 = omega arith in ap {B = Read A} (λ (n : ℕ). Err n) e
    short_line m (suc k) lt = absurd (omega (arith, lt))

-- lines behind lines
module _ {A B : Type 0} (r : Left → Read A) (f : A × Left → Read B) (first second : List (List (List ℕ))) (x : A) (y : B) (one : Spans r first x) (two : Spans (λ left. f (x, left)) second y) (rises : Rises f) where
  then_whole : (m : ℕ) (rest : List ℕ) → (r (left_at m (lines_text (first ++ second) ++ rest)) >>= f) ≡ Ok (y, left_at (m + length (first ++ second)) rest)
  then_whole m rest =
      let text : lines_text (first ++ second) ++ rest ≡ lines_text first ++ (lines_text second ++ rest) =
      ap (λ z. z ++ rest) (flat_map-append line_text first second) ∙ append_assoc (lines_text first) (lines_text second) rest in
      let count : m + length first + length second ≡ m + length (first ++ second) = omega (arith, length-append first second) in
      ap (λ (z : List ℕ). r (left_at m z) >>= f) text ∙ ap (λ (z : Read A). z >>= f) (one.whole m (lines_text second ++ rest))
      ∙ two.whole (m + length first) rest ∙ ap {B = Read B} (λ (k : ℕ). Ok (y, left_at k rest)) count

  then_short : (m k : ℕ) → k < length (first ++ second) → (r (left_at m (lines_text (take k (first ++ second)))) >>= f) ≡ Err (m + k)
  then_short m k lt =
      elim (cases_lt k (length first)) [
        | inl within ↦
            ap (λ (z : List (List (List ℕ))). r (left_at m (lines_text z)) >>= f) (take-append-le k first second (omega (arith, within)))
            ∙ ap (λ (z : Read A). z >>= f) (one.short m k within)
        | inr behind ↦ (
            let j = k - length first in
            let at : k ≡ length first + j = omega (arith, behind) in
            let cut : take k (first ++ second) ≡ first ++ take j second = ap (λ (n : ℕ). take n (first ++ second)) at ∙ take-append-add first second j in
            let text : lines_text (take k (first ++ second)) ≡ lines_text first ++ lines_text (take j second) = ap (λ (z : List (List (List ℕ))). lines_text z) cut ∙ flat_map-append line_text first (take j second) in
            let place : m + length first + j ≡ m + k = omega (arith, at) in
            ap (λ (z : List ℕ). r (left_at m z) >>= f) text ∙ ap (λ (z : Read A). z >>= f) (one.whole m (lines_text (take j second)))
            ∙ two.short (m + length first) j (omega (arith, lt, behind, length-append first second)) ∙ ap {B = Read B} (λ (n : ℕ). Err n) place)
      ]

  then_front : (m k : ℕ) (rest : List ℕ) → k ≤ length (first ++ second) → AtLeast (m + k) (r (left_at m (lines_text (take k (first ++ second)) ++ rest)) >>= f)
  then_front m k rest le =
      elim (cases_lt k (length first)) [
        | inl within ↦
            subst (λ (z : List (List (List ℕ))). AtLeast (m + k) (r (left_at m (lines_text z ++ rest)) >>= f)) (sym (take-append-le k first second (omega (arith, within))))
            (rises_then (m + k) (r (left_at m (lines_text (take k first) ++ rest))) f (one.front m k rest (omega (arith, within))) rises)
        | inr behind ↦ (
            let j = k - length first in
            let at : k ≡ length first + j = omega (arith, behind) in
            let cut : take k (first ++ second) ≡ first ++ take j second = ap (λ (n : ℕ). take n (first ++ second)) at ∙ take-append-add first second j in
            let text : lines_text (take k (first ++ second)) ++ rest ≡ lines_text first ++ (lines_text (take j second) ++ rest) =
            ap (λ (z : List (List (List ℕ))). lines_text z ++ rest) cut ∙ ap (λ (z : List ℕ). z ++ rest) (flat_map-append line_text first (take j second)) ∙ append_assoc (lines_text first) (lines_text (take j second)) rest in
            let place : m + length first + j ≡ m + k = omega (arith, at) in
            let read : (r (left_at m (lines_text (take k (first ++ second)) ++ rest)) >>= f) ≡ f (x, left_at (m + length first) (lines_text (take j second) ++ rest)) =
            ap (λ (z : List ℕ). r (left_at m z) >>= f) text ∙ ap (λ (z : Read A). z >>= f) (one.whole m (lines_text (take j second) ++ rest)) in
            subst (AtLeast {A = B} (m + k)) (sym read) (subst (λ (n : ℕ). AtLeast n (f (x, left_at (m + length first) (lines_text (take j second) ++ rest)))) place
            (two.front (m + length first) j rest (omega (arith, le, behind, length-append first second)))))
      ]

  pub spans_then : Spans (λ left. r left >>= f) (first ++ second) y
  spans_then = record { whole = then_whole; short = then_short; front = then_front }

-- ---- rows and sections

module _ {A : Type 0} (due : List A → List ℕ → Option A) (words : List A → A → List (List ℕ)) (Fits : List A → A → Type 0) (are : AreRows due words Fits) where
  pub spans_rows : (new said : List A) → AllFit Fits said new → Spans (lines_at due said (length new)) (rows words said new) (said ++ new)
  spans_rows [] said fit = subst (λ (z : List A). Spans (λ left. Ok (said, left)) [] z) (sym (append-nil said)) (spans_none said)
  spans_rows (x ∷ xs) said fit =
      let next = spans_line (due said) (words said x) x (are.lacks said x fit.0) (are.again said x fit.0) in
      let more = subst (λ (z : List A). Spans (lines_at due (said ++ x ∷ []) (length xs)) (rows words (said ++ x ∷ []) xs) z) (pushed said x xs) (spans_rows xs (said ++ x ∷ []) fit.1) in
      spans_then (line_at (due said)) (λ next. lines_at due (said ++ next.0 ∷ []) (length xs) next.1) (words said x ∷ []) (rows words (said ++ x ∷ []) xs) x (said ++ x ∷ xs) next more (λ z. rises_lines due (said ++ z.0 ∷ []) (length xs) z.1)

  module _ (forms : FormsAreExact) where
    pub spans_section : (word : List ℕ) (xs : List A) → Lacks 10 word → Lacks 32 word → IsShort (length xs) → AllFit Fits [] xs
        → Spans (section_at word due) ((word ∷ decimal (length xs) ∷ []) ∷ rows words [] xs) xs
    spans_section word xs ten blank small fit =
        let lacks : Lacks 10 (word ++ 32 ∷ decimal (length xs)) = Lacks-append 10 word (32 ∷ decimal (length xs)) ten (refl, decimal_lacks 10 (length xs) (omega arith) small) in
        let head = spans_line (count_of_line word) (word ∷ decimal (length xs) ∷ []) (length xs) lacks (count_again forms word (length xs) blank small) in
        spans_then (line_at (count_of_line word)) (λ count. lines_at due [] count.0 count.1) ((word ∷ decimal (length xs) ∷ []) ∷ []) (rows words [] xs) (length xs) xs head (spans_rows xs [] fit) (λ z. rises_lines due [] z.0 z.1)
