-- Lines that are written one after another.
use Rattle.std.proofs.Common.{◌≡◌, ℕ, zero, suc, ◌+◌, ◌≤◌, ◌<◌, List, [], ◌∷◌, ◌++◌, length, get_or, take, drop, map, refl, sym, ap, ◌∙◌, append_assoc, arith}
use Rattle.std.specs.Prelude.{Some, slice_get, codes}
use Rattle.std.specs.List.{enumerate_from}
use Rattle.std.proofs.lemmas.List.{append-nil, length-append, length-map, take_more, take_all}
use Rattle.std.proofs.lemmas.Grind.{flat_map-append}
use Rattle.brep_tokens.specs.Written.{line_text, lines_text}
use Rattle.history_text.specs.HistoryText.{number_words, pair_words, origin_lines, section, text_of}
use Rattle.history_text.specs.declared.file.HistoryFile.{HistoryFile}

line_split : (lines : List (List (List ℕ))) (i : ℕ) → i < length lines → lines ≡ take i lines ++ get_or lines i [] ∷ drop (i + 1) lines
line_split [] i lt = absurd (omega arith)
line_split (l ∷ ls) zero lt = refl
line_split (l ∷ ls) (suc i) lt =
    let e : suc (i + 1) ≡ suc i + 1 = omega arith in
    ap (λ z. l ∷ z) (line_split ls i (omega arith)) ∙ ap (λ k. l ∷ (take i ls ++ get_or ls i [] ∷ drop k (l ∷ ls))) e

-- one line more
pub more : (head : List ℕ) (lines : List (List (List ℕ))) (i : ℕ) (line : List (List ℕ)) → i < length lines → get_or lines i [] ≡ line → (head ++ lines_text (take i lines)) ++ line_text line ≡ head ++ lines_text (take (i + 1) lines)
more head lines i line lt is =
    append_assoc head (lines_text (take i lines)) (line_text line)
    ∙ ap (λ z. head ++ (lines_text (take i lines) ++ z)) (sym (append-nil (line_text line)))
    ∙ ap (λ z. head ++ (lines_text (take i lines) ++ (line_text z ++ []))) (sym is)
    ∙ ap (λ z. head ++ z) (sym (flat_map-append line_text (take i lines) (get_or lines i [] ∷ [])))
    ∙ ap (λ z. head ++ lines_text z) (sym (take_more lines i [] lt))

-- the text is that of the lines before, of this one, and of those after it
pub rest : (head : List ℕ) (lines : List (List (List ℕ))) (i : ℕ) (line : List (List ℕ)) → i < length lines → get_or lines i [] ≡ line → head ++ lines_text lines ≡ (head ++ lines_text (take i lines)) ++ (line_text line ++ lines_text (drop (i + 1) lines))
rest head lines i line lt is =
    ap (λ z. head ++ lines_text z) (line_split lines i lt)
    ∙ ap (λ z. head ++ z) (flat_map-append line_text (take i lines) (get_or lines i [] ∷ drop (i + 1) lines))
    ∙ ap (λ z. head ++ (lines_text (take i lines) ++ (line_text z ++ lines_text (drop (i + 1) lines)))) is
    ∙ sym (append_assoc head (lines_text (take i lines)) (line_text line ++ lines_text (drop (i + 1) lines)))

-- none is missing
pub all : (head : List ℕ) (lines : List (List (List ℕ))) (i : ℕ) → length lines ≤ i → head ++ lines_text (take i lines) ≡ head ++ lines_text lines
all head lines i le = ap (λ z. head ++ lines_text z) (take_all i lines le)

pub pair_at : (ps : List (ℕ × ℕ)) (i : ℕ) (p : ℕ × ℕ) → slice_get ps i ≡ Some p → get_or (map pair_words ps) i [] ≡ pair_words p
pair_at [] i p is = absurd cc
pair_at (x ∷ ps) zero p is = let same : x ≡ p = cc in ap (λ z. pair_words z) same
pair_at (x ∷ ps) (suc i) p is = pair_at ps i p is

pub number_at : (ns : List ℕ) (i n : ℕ) → slice_get ns i ≡ Some n → get_or (map number_words ns) i [] ≡ number_words n
number_at [] i n is = absurd cc
number_at (x ∷ ns) zero n is = let same : x ≡ n = cc in ap (λ z. number_words z) same
number_at (x ∷ ns) (suc i) n is = number_at ns i n is

origin_from : (from : ℕ) (os : List ℕ) (i o : ℕ) → slice_get os i ≡ Some o → get_or (map pair_words (enumerate_from from os)) i [] ≡ pair_words (from + i, o)
origin_from from [] i o is = absurd cc
origin_from from (x ∷ os) zero o is = let same : x ≡ o = cc in let e : from ≡ from + 0 = omega arith in ap {B = List (List ℕ)} (λ z. pair_words (from, z)) same ∙ ap {B = List (List ℕ)} (λ k. pair_words (k, o)) e
origin_from from (x ∷ os) (suc i) o is = let e : from + 1 + i ≡ from + suc i = omega arith in origin_from (from + 1) os i o is ∙ ap {B = List (List ℕ)} (λ k. pair_words (k, o)) e

pub origin_at : (os : List ℕ) (i o : ℕ) → slice_get os i ≡ Some o → get_or (origin_lines os) i [] ≡ pair_words (i + 1, o)
origin_at os i o is = let e : 1 + i ≡ i + 1 = omega arith in origin_from 1 os i o is ∙ ap {B = List (List ℕ)} (λ k. pair_words (k, o)) e

pub length-enumerated : (from : ℕ) (os : List ℕ) → length (enumerate_from from os) ≡ length os
length-enumerated from [] = refl
length-enumerated from (o ∷ os) = ap suc (length-enumerated (from + 1) os)

pub length-origin_lines : (os : List ℕ) → length (origin_lines os) ≡ length os
length-origin_lines os = length-map (enumerate_from 1 os) pair_words ∙ length-enumerated 1 os

pub some_within : {A : Type 0} (xs : List A) (i : ℕ) (x : A) → slice_get xs i ≡ Some x → i < length xs
some_within [] i x is = absurd cc
some_within (y ∷ xs) zero x is = omega arith
some_within (y ∷ xs) (suc i) x is = let less : i < length xs = some_within xs i x is in omega arith

-- ---- the parts of a history's text

abbrev pub first_part : List ℕ
first_part = line_text (codes "BREP-HISTORY" ∷ codes "1" ∷ [])

abbrev pub origins_part : HistoryFile → List ℕ
origins_part h = lines_text (section (codes "records") (origin_lines h.origins))

abbrev pub modified_part : HistoryFile → List ℕ
modified_part h = lines_text (section (codes "modified") (map pair_words h.modified))

abbrev pub generated_part : HistoryFile → List ℕ
generated_part h = lines_text (section (codes "generated") (map pair_words h.generated))

abbrev pub removed_part : HistoryFile → List ℕ
removed_part h = lines_text (section (codes "removed") (map number_words h.removed))

abbrev pub last_part : List ℕ
last_part = line_text (codes "end" ∷ []) ++ []

pub history_parts : (h : HistoryFile) → text_of h ≡ first_part ++ (origins_part h ++ (modified_part h ++ (generated_part h ++ (removed_part h ++ last_part))))
unfolding text_of
history_parts h =
    let origins = section (codes "records") (origin_lines h.origins) in
    let modified = section (codes "modified") (map pair_words h.modified) in
    let generated = section (codes "generated") (map pair_words h.generated) in
    let removed = section (codes "removed") (map number_words h.removed) in
    let end : List (List (List ℕ)) = (codes "end" ∷ []) ∷ [] in
    let one = flat_map-append line_text origins (modified ++ (generated ++ (removed ++ end))) in
    let two = flat_map-append line_text modified (generated ++ (removed ++ end)) in
    let three = flat_map-append line_text generated (removed ++ end) in
    let four = flat_map-append line_text removed end in
    ap (λ z. first_part ++ z) (one ∙ ap (λ z. origins_part h ++ z) (two ∙ ap (λ z. modified_part h ++ z) (three ∙ ap (λ z. generated_part h ++ z) four)))

pub some_text : (h : HistoryFile) → 0 < length (text_of h)
some_text h =
    let others : List ℕ = origins_part h ++ (modified_part h ++ (generated_part h ++ (removed_part h ++ last_part))) in
    let first : 0 < length first_part = omega arith in
    omega (arith, first, ap length (history_parts h), length-append first_part others)

after_two : (a b r : List ℕ) → a ++ (b ++ r) ≡ (a ++ b) ++ r
after_two a b r = sym (append_assoc a b r)

after_three : (a b c r : List ℕ) → a ++ (b ++ (c ++ r)) ≡ ((a ++ b) ++ c) ++ r
after_three a b c r = after_two a b (c ++ r) ∙ after_two (a ++ b) c r

after_four : (a b c d r : List ℕ) → a ++ (b ++ (c ++ (d ++ r))) ≡ (((a ++ b) ++ c) ++ d) ++ r
after_four a b c d r = after_three a b c (d ++ r) ∙ after_two ((a ++ b) ++ c) d r

after_five : (a b c d e r : List ℕ) → a ++ (b ++ (c ++ (d ++ (e ++ r)))) ≡ ((((a ++ b) ++ c) ++ d) ++ e) ++ r
after_five a b c d e r = after_four a b c d (e ++ r) ∙ after_two (((a ++ b) ++ c) ++ d) e r

-- the text, put together after its origins, its modified, its generated and its removed lines
pub with_origins : (h : HistoryFile) → text_of h ≡ (first_part ++ origins_part h) ++ (modified_part h ++ (generated_part h ++ (removed_part h ++ last_part)))
with_origins h = history_parts h ∙ after_two first_part (origins_part h) (modified_part h ++ (generated_part h ++ (removed_part h ++ last_part)))

pub with_modified : (h : HistoryFile) → text_of h ≡ ((first_part ++ origins_part h) ++ modified_part h) ++ (generated_part h ++ (removed_part h ++ last_part))
with_modified h = history_parts h ∙ after_three first_part (origins_part h) (modified_part h) (generated_part h ++ (removed_part h ++ last_part))

pub with_generated : (h : HistoryFile) → text_of h ≡ (((first_part ++ origins_part h) ++ modified_part h) ++ generated_part h) ++ (removed_part h ++ last_part)
with_generated h = history_parts h ∙ after_four first_part (origins_part h) (modified_part h) (generated_part h) (removed_part h ++ last_part)

pub with_all : (h : HistoryFile) → ((((first_part ++ origins_part h) ++ modified_part h) ++ generated_part h) ++ removed_part h) ++ line_text (codes "end" ∷ []) ≡ text_of h
with_all h =
    let before = (((first_part ++ origins_part h) ++ modified_part h) ++ generated_part h) ++ removed_part h in
    ap (λ z. before ++ z) (sym (append-nil (line_text (codes "end" ∷ []))))
    ∙ sym (history_parts h ∙ after_five first_part (origins_part h) (modified_part h) (generated_part h) (removed_part h) last_part)
