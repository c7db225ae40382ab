-- How many bytes lines take, by the words on them.
use Rattle.std.proofs.Common.{inl, inr, subst, ◌≡◌, ◌≤◌, ap, arith, ◌∙◌}
use Rattle.std.specs.Prelude.{ℕ, ◌+◌, ◌*◌, ◌-◌, Bool, true, false, if◌then◌else◌}
use Rattle.std.specs.Prelude.{List, [], ◌∷◌, ◌++◌, length, map, take, drop, Contains}
use Rattle.std.specs.List.{AllByRecursion, flat_map, join_with_byte}
use Rattle.std.proofs.lemmas.Grind.{flat_map-append}
use Rattle.std.proofs.lemmas.List.{length-append, length-drop, length-take-le}
use Rattle.lists.proofs.Members.{Contains-cases, Contains-here, Contains-none, Contains-there}
use Rattle.brep_tokens.specs.Tokens.{is_joined}
use Rattle.brep_tokens.specs.Written.{line_text, lines_text, split_word}

-- the bytes of words, and one more for each
abbrev pub weight : List (List ℕ) → ℕ
weight [] = 0
weight (w ∷ ws) = 1 + length w + weight ws

pub weight-append : (a b : List (List ℕ)) → weight (a ++ b) ≡ weight a + weight b
weight-append [] b = omega arith
weight-append (w ∷ a) b = (let rest = weight-append a b in omega (arith, rest))

-- of words of at most 128 bytes
pub weight-short : (ws : List (List ℕ)) → AllByRecursion (λ text. length text ≤ 128) ws → weight ws ≤ 129 * length ws
weight-short [] short = omega arith
weight-short (w ∷ ws) short =
    (let one = short.0 in let rest = weight-short ws short.1 in omega (arith, one, rest))

-- ---- lines
words-size : (ws : List (List ℕ)) → length (join_with_byte 32 ws) ≤ weight ws
words-size [] = omega arith
words-size (w ∷ []) = omega arith
words-size (w ∷ v ∷ ws) =
    let size = length-append w (32 ∷ join_with_byte 32 (v ∷ ws)) in let rest = words-size (v ∷ ws) in
    omega (arith, size, rest)

pub line-size : (ws : List (List ℕ)) → length (line_text ws) ≤ 1 + weight ws
line-size ws =
    let size = length-append (join_with_byte 32 ws) (10 ∷ []) in let rest = words-size ws in omega (arith, size, rest)

-- The lines have no more bytes than these words, with one more for each and for each line.
abbrev pub IsNoLonger : List (List (List ℕ)) → List (List ℕ) → Type 0
IsNoLonger lines words = length (lines_text lines) ≤ length lines + weight words

pub longer-one : (ws : List (List ℕ)) → IsNoLonger (ws ∷ []) ws
longer-one ws =
    (let size = length-append (line_text ws) [] in let one = line-size ws in omega (arith, size, one))

pub longer-append : (a b : List (List (List ℕ))) (s t : List (List ℕ)) → IsNoLonger a s → IsNoLonger b t
    → IsNoLonger (a ++ b) (s ++ t)
longer-append a b s t one rest =
    let size = ap length (flat_map-append line_text a b) ∙ length-append (lines_text a) (lines_text b) in
    let count = length-append a b in let both = weight-append s t in
    omega (arith, size, one, rest, count, both)

-- each entry on a line
pub longer-entries : {A : Type 0} (spell : A → List (List ℕ)) (entries : List A)
    → IsNoLonger (map spell entries) (flat_map spell entries)
longer-entries spell [] = omega arith
longer-entries spell (e ∷ entries) =
    longer-append (spell e ∷ []) (map spell entries) (spell e) (flat_map spell entries) (longer-one (spell e))
    (longer-entries spell entries)

-- a word is no longer than the tokens that it is split into
split-size : (joined : Bool) (word : List ℕ)
    → 1 + length word
    ≤ weight (if joined then take (length word - 2) word ∷ drop (length word - 2) word ∷ [] else word ∷ [])
split-size true word =
    let front = length-take-le (length word - 2) word (omega arith) in
    let back = length-drop (length word - 2) word in
    omega (arith, front, back)
split-size false word = omega arith

split-weight : (words : List (List ℕ)) → weight words ≤ weight (flat_map split_word words)
split-weight [] = omega arith
split-weight (w ∷ words) =
    let one = split-size (is_joined w) w in let rest = split-weight words in
    let both = weight-append (split_word w) (flat_map split_word words) in
    omega (arith, one, rest, both)

-- lines with these tokens
pub longer-lines : (lines : List (List (List ℕ))) → IsNoLonger lines (flat_map (flat_map split_word) lines)
longer-lines [] = omega arith
longer-lines (l ∷ lines) =
    let one = line-size l in let split = split-weight l in let size = length-append (line_text l) [] in
    longer-append (l ∷ []) lines (flat_map split_word l) (flat_map (flat_map split_word) lines)
    (omega (arith, one, split, size)) (longer-lines lines)

-- ---- lists one after another
-- no more than so many from each
pub flat_map-few : {X Y : Type 0} (f : X → List Y) (most : ℕ) (xs : List X)
    → ((x : X) → Contains xs x → length (f x) ≤ most) → length (flat_map f xs) ≤ length xs * most
flat_map-few f most [] few = omega arith
flat_map-few f most (x ∷ xs) few =
    let size = length-append (f x) (flat_map f xs) in let one = few x (Contains-here x xs) in
    let rest = flat_map-few f most xs (λ y m. few y (Contains-there x y xs m)) in
    omega (arith, size, one, rest)

-- those from a member are among them
pub flat_map-part : {X Y : Type 0} (f : X → List Y) (xs : List X) (x : X) → Contains xs x
    → length (f x) ≤ length (flat_map f xs)
flat_map-part f [] x m = absurd (Contains-none x m)
flat_map-part f (y ∷ xs) x m =
    let size = length-append (f y) (flat_map f xs) in
    elim (Contains-cases y x xs m) [
      | inl e ↦ subst (λ z. length (f z) ≤ length (flat_map f (y ∷ xs))) e (omega (arith, size))
      | inr k ↦ (let rest = flat_map-part f xs x k in omega (arith, size, rest))
    ]
