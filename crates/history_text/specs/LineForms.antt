-- The forms of the lines of a history, each line without the byte 10 that ends it.
use Rattle.std.specs.Prelude.{ℕ, ◌+◌, ◌==◌, ◌&&◌, nat_eq, nat_le, nat_lt, Bool, true, if◌then◌else◌}
use Rattle.std.specs.Prelude.{List, [], ◌∷◌, length, Option, Some, None}
use Rattle.std.specs.Cmp.Lexicographic.{pointwise}
use Rattle.std.specs.Option.{option_and_then, option_map}
use Rattle.brep_tokens.specs.Forms.{number_of}
use Rattle.history_text.specs.HistoryText.{is_pair_below}

abbrev pub is_same : List ℕ → List ℕ → Bool
is_same a b = pointwise nat_eq a b

-- What stands before the first byte like this one, and what follows it; nothing where there is no such byte.
abbrev pub cut_at : ℕ → List ℕ → Option (List ℕ × List ℕ)
cut_at c [] = None
cut_at c (b ∷ bs) = if b == c then Some ([], bs) else option_map (λ cut. (b ∷ cut.0, cut.1)) (cut_at c bs)

-- what is there, if it passes a test
abbrev pub passing : {A : Type 0} → (A → Bool) → Option A → Option A
passing test None = None
passing test (Some x) = if test x then Some x else None

abbrev pub both : Option ℕ → Option ℕ → Option (ℕ × ℕ)
both None b = None
both (Some a) None = None
both (Some a) (Some b) = Some (a, b)

-- ---- what a line says

-- this text alone
abbrev pub text_of_line : List ℕ → List ℕ → Option (Unit {0})
text_of_line text line = if is_same line text then Some tt else None

-- a word, a space and a count
abbrev pub count_of_line : List ℕ → List ℕ → Option ℕ
count_of_line word line = option_and_then (λ cut. if is_same cut.0 word then number_of cut.1 else None) (cut_at 32 line)

-- two numbers with a space between
abbrev pub pair_of_line : List ℕ → Option (ℕ × ℕ)
pair_of_line line = option_and_then (λ cut. both (number_of cut.0) (number_of cut.1)) (cut_at 32 line)

-- ---- what is due after the lines before that said this

-- the last of them, where there is one
abbrev pub last_of : {A : Type 0} → List A → Option A
last_of [] = None
last_of (x ∷ []) = Some x
last_of (x ∷ y ∷ ys) = last_of (y ∷ ys)

-- above the last one, where there is one
abbrev pub is_above : {A : Type 0} → (A → A → Bool) → Option A → A → Bool
is_above below None x = true
is_above below (Some last) x = below last x

-- the next written number, and its origin
abbrev pub origin_due : List ℕ → List ℕ → Option ℕ
origin_due said line = option_map (λ p. p.1) (passing (λ p. p.0 == length said + 1) (pair_of_line line))

-- a pair that ascends, whose second number is that of a written record
abbrev pub pair_due : ℕ → List (ℕ × ℕ) → List ℕ → Option (ℕ × ℕ)
pair_due written said line =
    passing (λ p. (nat_le 1 p.1 && nat_le p.1 written) && is_above is_pair_below (last_of said) p) (pair_of_line line)

-- a number that ascends
abbrev pub removed_due : List ℕ → List ℕ → Option ℕ
removed_due said line = passing (is_above nat_lt (last_of said)) (number_of line)
