-- A text has at most two tokens for each of its bytes.
use Rattle.std.proofs.Common.{◌≡◌, ◌≤◌, ap, subst, arith}
use Rattle.std.specs.Prelude.{ℕ, ◌+◌, ◌*◌, ◌-◌, Bool, true, false, ◌&&◌, nat_eq, if◌then◌else◌, Some, None}
use Rattle.std.specs.Prelude.{List, [], ◌∷◌, length, take, drop}
use Rattle.std.specs.List.{flat_map, starts_with}
use Rattle.std.proofs.lemmas.List.{length-append, length-drop}
use Rattle.brep_tokens.specs.Bytes.{is_line_end, is_white}
use Rattle.brep_tokens.specs.Tokens.{Head, Word, after_head, head_at, is_joined, is_line, line_says, line_size, missing}
use Rattle.brep_tokens.specs.Tokens.{onto, parts, runs_at, starts_white, tokens_of, unread, version, version_line}
use Rattle.brep_tokens.specs.Tokens.{version_mark, words_at}

-- ---- runs
onto-count : (k b : ℕ) (ws : List Word) → length (onto k b ws) ≤ 1 + length ws
onto-count k b [] = omega arith
onto-count k b (w ∷ ws) = omega arith

fewer-if : (x y : Bool) (u v w : List Word) (n : ℕ) → length u ≤ n → length v ≤ n → length w ≤ n
    → length (if x then u else (if y then v else w)) ≤ n
fewer-if true y u v w n a b c = a
fewer-if false true u v w n a b c = b
fewer-if false false u v w n a b c = c

runs-count : (k : ℕ) (bytes : List ℕ) → length (runs_at k bytes) ≤ length bytes
runs-count k [] = omega arith
runs-count k (b ∷ bs) =
    let rest = runs-count (k + 1) bs in let more = onto-count k b (runs_at (k + 1) bs) in
    fewer-if (is_white b) (starts_white bs) (runs_at (k + 1) bs)
    (record { offset = k; text = b ∷ [] } ∷ runs_at (k + 1) bs) (onto k b (runs_at (k + 1) bs)) (length (b ∷ bs))
    (omega (arith, rest)) (omega (arith, rest)) (omega (arith, rest, more))

-- ---- tokens
two-if : (x : Bool) (u v w : Word) → length (if x then u ∷ v ∷ [] else w ∷ []) ≤ 2
two-if true u v w = omega arith
two-if false u v w = omega arith

parts-count : (w : Word) → length (parts w) ≤ 2
unfolding parts
parts-count w = two-if (is_joined w.text) _ _ w

all-count : (ws : List Word) → length (flat_map parts ws) ≤ 2 * length ws
all-count [] = omega arith
all-count (w ∷ ws) =
    let size = length-append (parts w) (flat_map parts ws) in let one = parts-count w in let rest = all-count ws in
    omega (arith, size, one, rest)

words-count : (k : ℕ) (bytes : List ℕ) → length (words_at k bytes) ≤ 2 * length bytes
words-count k bytes =
    (let all = all-count (runs_at k bytes) in let runs = runs-count k bytes in omega (arith, all, runs))

-- ---- the text after the version line
abbrev LeavesFewer : ℕ → Head → Type 0
LeavesFewer n missing = Unit {0}
LeavesFewer n (unread line k) = Unit {0}
LeavesFewer n (version v k rest) = length rest ≤ n

line-if : (n : ℕ) (first second : Bool) (line k after : ℕ) (rest : List ℕ) → length rest ≤ n
    → LeavesFewer n (if first then version 1 after rest else
    (if second then version 2 after rest else unread line k))
line-if n true second line k after rest e = e
line-if n false true line k after rest e = e
line-if n false false line k after rest e = tt

line-leaves : (n line k : ℕ) (bs : List ℕ) → length bs ≤ n → LeavesFewer n (line_says line k bs)
unfolding line_says
line-leaves n line k bs few =
    let size = length-drop (line_size bs + 1) bs in
    line-if n (is_line (version_line 1) (take (line_size bs) bs))
    (is_line (version_line 2) (take (line_size bs) bs)) line k (k + (line_size bs + 1)) (drop (line_size bs + 1) bs)
    (omega (arith, size, few))

if-leaves : (n : ℕ) (x : Bool) (h g : Head) → LeavesFewer n h → LeavesFewer n g → LeavesFewer n (if x then h else g)
if-leaves n true h g p q = p
if-leaves n false h g p q = q

head-leaves : (n : ℕ) (bs : List ℕ) (start : Bool) (line k : ℕ) → length bs ≤ n
    → LeavesFewer n (head_at start line k bs)
head-leaves n [] start line k few = tt
head-leaves n (b ∷ bs) start line k few =
    let next : ℕ = line + (if is_line_end b then 1 else 0) in
    if-leaves n (start && starts_with nat_eq (b ∷ bs) version_mark) (line_says line k (b ∷ bs))
    (head_at (is_line_end b) next (k + 1) bs)
    (line-leaves n line k (b ∷ bs) few) (head-leaves n bs (is_line_end b) next (k + 1) (omega (arith, few)))

abbrev Pair : Type 0
Pair = ℕ × List Word

pair-is : (p q : Pair) → Some p ≡ Some q → p ≡ q
pair-is p q e = cc

no-pair : (q : Pair) → None ≡ Some q → ⊥
no-pair q e = cc

head-count : (n : ℕ) (h : Head) (v : ℕ) (ws : List Word) → LeavesFewer n h → after_head h ≡ Some (v, ws)
    → length ws ≤ 2 * n
head-count n missing v ws few e = absurd (no-pair (v, ws) e)
head-count n (unread line k) v ws few e = absurd (no-pair (v, ws) e)
head-count n (version u k rest) v ws few e =
    let count = words-count k rest in
    subst (λ (l : List Word). length l ≤ 2 * n) (ap (λ (q : Pair). q.1) (pair-is (u, words_at k rest) (v, ws) e))
    (omega (arith, count, few))

pub tokens-count : (bytes : List ℕ) (v : ℕ) (ws : List Word) → tokens_of bytes ≡ Some (v, ws)
    → length ws ≤ 2 * length bytes
unfolding tokens_of
tokens-count bytes v ws e =
    head-count (length bytes) (head_at true 1 0 bytes) v ws
    (head-leaves (length bytes) bytes true 1 0 (omega arith)) e
