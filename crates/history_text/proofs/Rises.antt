-- A reader never goes back: it leaves, or blames, no line before the one that it begins at.
use Rattle.std.proofs.Common.{ℕ, zero, suc, ◌≤◌, List, ◌∷◌, [], ◌++◌, Option, Some, None, Ok, Err, arith}
use Rattle.lists.specs.Results.{◌>>=◌}
use Rattle.history_text.specs.LineForms.{count_of_line, cut_at}
use Rattle.history_text.specs.Reading.{Left, Read, first_line, line_at, lines_at, said_before, section_at}

-- the line that is left, or blamed, is this one or a later one
abbrev pub AtLeast : {A : Type 0} → ℕ → Read A → Type 0
AtLeast n (Ok x) = n ≤ x.1.number
AtLeast n (Err line) = n ≤ line

abbrev pub Rises : {A B : Type 0} → (A × Left → Read B) → Type 0
Rises {A} f = (x : A × Left) → AtLeast x.1.number (f x)

at_least_less : {A : Type 0} (n k : ℕ) (z : Read A) → n ≤ k → AtLeast k z → AtLeast n z
at_least_less n k (Ok x) less is = omega (arith, less, is)
at_least_less n k (Err line) less is = omega (arith, less, is)

pub rises_then : {A B : Type 0} (n : ℕ) (z : Read A) (f : A × Left → Read B) → AtLeast n z → Rises f → AtLeast n (z >>= f)
rises_then n (Ok x) f is rises = at_least_less n x.1.number (f x) is (rises x)
rises_then n (Err line) f is rises = is

rises_said : {A : Type 0} (n : ℕ) (rest : List ℕ) (o : Option A) → AtLeast n (said_before n rest o)
rises_said n rest None = omega arith
rises_said n rest (Some x) = omega arith

rises_first : {A : Type 0} (form : List ℕ → Option A) (n : ℕ) (o : Option (List ℕ × List ℕ)) → AtLeast n (first_line form n o)
rises_first form n None = omega arith
rises_first form n (Some cut) = rises_said n cut.1 (form cut.0)

pub rises_line : {A : Type 0} (form : List ℕ → Option A) (left : Left) → AtLeast left.number (line_at form left)
rises_line form left = rises_first form left.number (cut_at 10 left.bytes)

pub rises_lines : {A : Type 0} (due : List A → List ℕ → Option A) (said : List A) (n : ℕ) (left : Left) → AtLeast left.number (lines_at due said n left)
rises_lines due said zero left = omega arith
rises_lines due said (suc n) left =
    rises_then left.number (line_at (due said) left) (λ next. lines_at due (said ++ next.0 ∷ []) n next.1) (rises_line (due said) left) (λ x. rises_lines due (said ++ x.0 ∷ []) n x.1)

pub rises_section : {A : Type 0} (word : List ℕ) (due : List A → List ℕ → Option A) (left : Left) → AtLeast left.number (section_at word due left)
rises_section word due left =
    rises_then left.number (line_at (count_of_line word) left) (λ count. lines_at due [] count.0 count.1) (rises_line (count_of_line word) left) (λ x. rises_lines due [] x.0 x.1)
